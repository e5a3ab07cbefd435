use Rattle.std.proofs.Common.{◌≡◌, ℕ, ◌<◌}
use Rattle.std.specs.Prelude.{slice_index_or}
use Rattle.inc_frame.specs.declared.piece.Piece.{Piece}
use Rattle.inc_session.proofs.driving.checks.repeats.Given as goal

abbrev pub invariant-loop-at : goal.invariant-loop-at
invariant-loop-at l = (k : ℕ) (d : Piece) → k < l.at → (slice_index_or l.pieces k d).hash ≡ l.piece.hash → (slice_index_or l.pieces k d).number ≡ l.piece.number → ⊥
