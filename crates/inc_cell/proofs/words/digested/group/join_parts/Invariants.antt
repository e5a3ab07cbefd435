use Rattle.std.proofs.Common.{◌≡◌, ℕ, List, length, map, take, vec_len}
use Rattle.std.specs.List.{zip}
use Rattle.inc_cell.specs.device.Digested.{digested}
use Rattle.inc_cell.proofs.words.digested.group.join_parts.Given as goal

abbrev pub invariant-loop-block : goal.invariant-loop-block
invariant-loop-block l = record {
  items : l.group.items ≡ map (λ (pair : List ℕ × ℕ). digested pair.0 pair.1) (take (length l.yielded) (zip l.fn.blocks.items l.lens));
  count : vec_len l.group ≡ length l.yielded;
}
