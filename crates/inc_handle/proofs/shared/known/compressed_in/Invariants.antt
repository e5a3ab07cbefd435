-- the rest of the classes gives the rest of the list
use Rattle.std.specs.Prelude.{◌≡◌, ◌++◌, drop}
use Rattle.inc_entry.specs.Stored.{is_compressed_class}
use Rattle.inc_layout.specs.state.Reopening.{indices_passing}
use Rattle.inc_handle.proofs.shared.known.compressed_in.Given as goal

abbrev pub invariant-loop-index : goal.invariant-loop-index
invariant-loop-index l = l.indices.items ++ indices_passing is_compressed_class l.index (drop l.index l.classes) ≡ indices_passing is_compressed_class 0 l.classes
