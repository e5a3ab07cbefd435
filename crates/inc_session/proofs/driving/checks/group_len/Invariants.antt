use Rattle.std.proofs.Common.{◌≡◌, ◌-◌, ◌≤◌, length, take}
use Rattle.inc_filling.specs.Rounds.{MayWait}
use Rattle.inc_session.proofs.driving.checks.group_len.Given as goal

abbrev pub invariant-loop-len : goal.invariant-loop-len
invariant-loop-len g l = record {
  same : l.seat ≡ l.initial.seat;
  some : 1 ≤ l.len;
  within : l.len ≤ length l.pieces;
  may : MayWait l.file.begun.value.opened (take l.len l.pieces);
}

abbrev pub decreases-loop-len : goal.decreases-loop-len
decreases-loop-len g l = length l.pieces - l.len
