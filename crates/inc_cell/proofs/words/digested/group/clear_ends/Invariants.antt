use Rattle.std.proofs.Common.{◌≡◌, ℕ, ◌<◌, ◌≤◌, get_or, []}
use Rattle.inc_cell.specs.device.Digested.{IsCleared}
use Rattle.inc_cell.proofs.words.digested.group.clear_ends.Given as goal

abbrev pub invariant-loop-index : goal.invariant-loop-index
invariant-loop-index l = record {
  cleared : (i : ℕ) → i < l.index → IsCleared (get_or l.fn.blocks i []) (get_or l.lens i 0) (get_or l.blocks i []);
  rest : (i : ℕ) → l.index ≤ i → get_or l.blocks i [] ≡ get_or l.fn.blocks i [];
}
