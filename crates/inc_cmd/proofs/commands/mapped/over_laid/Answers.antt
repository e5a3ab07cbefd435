use Rattle.std.proofs.Common.{List, ℕ, ◌+◌, ◌≤◌}
use Rattle.inc_header.specs.Header.{place_of}
use Rattle.inc_cmd.proofs.PartLemmas.{whatever}
use Rattle.inc_cmd.proofs.commands.mapped.over_laid.Goals as goal

pub returns-in-Read-clause-answer : goal.returns-in-Read-clause-answer
returns-in-Read-clause-answer g c =
    rw c.in-Read.is (whatever _ (λ (bytes : List ℕ). place_of c.args.header.now.kind + c.args.header.now.size ≤ c.args.layout.header.size) _ (rw c.in-Ok.ensures.value at c.read_laid_out.ensures.answer))

pub returns-in-Check-clause-answer : goal.returns-in-Check-clause-answer
returns-in-Check-clause-answer g c =
    rw c.in-Check.is (whatever _ (λ (bytes : List ℕ). place_of c.args.header.now.kind + c.args.header.now.size ≤ c.args.layout.header.size) _ (rw c.in-Ok.ensures.value at c.check_laid.ensures.answer))
