-- the refusal of the pieces from the place on
use Rattle.std.proofs.Common.{◌≡◌, ◌-◌, length, drop}
use Rattle.inc_handle.specs.Checks.{refusal_from}
use Rattle.inc_handle.proofs.fill.checks.refusal_of_pieces.Given as goal

abbrev pub invariant-loop-back : goal.invariant-loop-back
invariant-loop-back l = l.refusal ≡ refusal_from l.known.opened.value (length l.pieces - l.back) (drop (length l.pieces - l.back) l.pieces)
