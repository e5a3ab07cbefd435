use Rattle.std.proofs.Common.{arith, refl}
use Rattle.std.proofs.lemmas.Result.{err_from_is_err_and}
use Rattle.inc_layout.proofs.fixed_part.FixedSteps.{front_given, front_room, front_told, no_header, too_long}
use Rattle.inc_layout.proofs.fixed.read_front.Goals as goal

pub returns-then-len-gt-MOST_LENGTH-clause-answer : goal.returns-then-len-gt-MOST_LENGTH-clause-answer
returns-then-len-gt-MOST_LENGTH-clause-answer g c = too_long _ c.in_ok-len.len c.in_ok-len.ensures.told (omega arith)

pub returns-in_err-header-clause-answer : goal.returns-in_err-header-clause-answer
returns-in_err-header-clause-answer g c =
    let p = err_from_is_err_and c.from_residual-in_err-header.result c.from_residual-in_err-header.ensures.1 in
    rw p.1 (no_header _ c.in_ok-len.len _ _ _ c.in_ok-len.ensures.told (omega arith) (rw c.len.ensures.kept at (front_room _ _ _ _ c.in_ok-count.ensures.count c.in_ok-count.ensures.bytes)) c.in_err-header.ensures.value p.2)

pub returns-clause-answer : goal.returns-clause-answer
returns-clause-answer g c =
    front_given _ c.in_ok-len.len _ _ _ c.in_ok-len.ensures.told (omega arith) (rw c.len.ensures.kept at (front_room _ _ _ _ c.in_ok-count.ensures.count c.in_ok-count.ensures.bytes)) c.in_ok-header.ensures.value refl refl

pub returns-clause-stands : goal.returns-clause-stands
returns-clause-stands g c = front_told _ _ (returns-clause-answer g c)
