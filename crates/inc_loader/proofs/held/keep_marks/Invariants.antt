use Rattle.std.proofs.Common.{◌≡◌, ◌+◌, ◌≤◌, ◌++◌, length, map, take, vec_len}
use Rattle.std.specs.Vec.{vec_capacity}
use Rattle.inc_loader.specs.Marks.{mark_of}
use Rattle.inc_loader.proofs.held.keep_marks.Given as goal

abbrev pub invariant-loop-piece : goal.invariant-loop-piece
invariant-loop-piece l = record {
  kept : l.marks.items ≡ l.initial.marks.items ++ map (mark_of l.files) (take l.piece-index l.pieces);
  room : vec_len l.marks + length l.pieces ≤ vec_capacity l.marks + l.piece-index;
}
