use Rattle.std.proofs.Common.{◌≡◌, None, Some, ap, ◌∙◌}
use Rattle.inc_disk.specs.Log.{newest_of}
use Rattle.inc_disk.specs.Book.{log_of}
use Rattle.inc_disk.proofs.LogLemmas.{stands}
use Rattle.inc_disk.proofs.memory_shelf.MemShelf.bytes.Goals as goal

pub returns-in-Some-clause-value : goal.returns-in-Some-clause-value
returns-in-Some-clause-value c =
    let found : Some c.in-Some.state.now ≡ newest_of c.args.name.now (log_of c.args.self.now.book.entries.items) = cc (c.in-Some.ensures.value) in
    λ _. ap Some c.reads.ensures.value ∙ stands _ _ _ found

pub returns-in-None-clause-value : goal.returns-in-None-clause-value
returns-in-None-clause-value c =
    let none : None ≡ newest_of c.args.name.now (log_of c.args.self.now.book.entries.items) = cc (c.in-None.ensures.value) in
    λ _. stands _ _ _ none
