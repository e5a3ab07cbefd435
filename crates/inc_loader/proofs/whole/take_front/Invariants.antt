use Rattle.std.proofs.Common.{◌≡◌, ◌+◌, ◌-◌, ◌≤◌, ◌++◌, map, vec_len}
use Rattle.std.specs.Vec.{vec_capacity}
use Rattle.std.specs.VecDeque.{deque_len}
use Rattle.inc_loader.specs.Marks.{mark_of}
use Rattle.inc_loader.proofs.whole.take_front.Given as goal

abbrev pub invariant-moving : goal.invariant-moving
invariant-moving l = record {
  front : l.initial.whole.items ≡ l.pieces.items ++ l.whole.items;
  kept : l.marks.items ≡ l.initial.marks.items ++ map (mark_of l.files) l.pieces.items;
  few : vec_len l.pieces ≤ l.count;
  left : l.count ≤ vec_len l.pieces + deque_len l.whole;
  room : l.count ≤ vec_capacity l.pieces;
  marks_room : vec_len l.marks + l.count ≤ vec_capacity l.marks + vec_len l.pieces;
}

abbrev pub decreases-moving : goal.decreases-moving
decreases-moving l = l.count - vec_len l.pieces
