use Rattle.std.proofs.Common.{List, ap, sym, ◌∙◌}
use Rattle.inc_frame.specs.Fronts.{Ended, Faulty}
use Rattle.inc_frame.specs.declared.piece.Piece.{Piece}
use Rattle.inc_frame.proofs.FrontLemmas.{front_with, front_from-ended, front_from-faulty}
use Rattle.inc_frame.proofs.reading.advance.Goals as goal

pub returns-in-Ended-clause-ok : goal.returns-in-Ended-clause-ok
returns-in-Ended-clause-ok c = rw c.in-Ended.is (front_from-ended c.in-Ended.count c.args.bytes.now ∙ ap (λ (pieces : List Piece). front_with pieces (Ended c.in-Ended.count)) (sym c.requires.none))

pub returns-in-Failed-clause-ok : goal.returns-in-Failed-clause-ok
returns-in-Failed-clause-ok c = rw c.in-Failed.is (front_from-faulty c.in-Failed.failure.fault c.args.bytes.now ∙ ap (λ (pieces : List Piece). front_with pieces (Faulty c.in-Failed.failure.fault)) (sym c.requires.none))
