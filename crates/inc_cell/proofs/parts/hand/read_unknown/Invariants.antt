use Rattle.std.proofs.Common.{◌≡◌, length}
use Rattle.std.specs.Prelude.{IfSome, map}
use Rattle.inc_layout.specs.reading.StaticRead.{hash_block}
use Rattle.inc_layout.proofs.LoopSteps.{HasAll}
use Rattle.inc_cell.specs.device.Handed.{unknown_below}
use Rattle.inc_cell.proofs.parts.hand.read_unknown.Given as goal

abbrev pub invariant-loop-level : goal.invariant-loop-level
invariant-loop-level g l = record {
  kept : g.B.Backing.kept l.file ≡ g.B.Backing.kept l.fn.file;
  quiet : g.B.Backing.faults l.file ≡ g.B.Backing.faults l.fn.file;
  count : length l.blocks.items ≡ length (unknown_below l.areas.geometry l.block l.known l.level);
  path : IfSome (g.B.Backing.reads (g.B.Backing.kept l.fn.file)) (λ bytes. HasAll l.areas bytes → l.blocks.items ≡ map (hash_block bytes l.areas) (unknown_below l.areas.geometry l.block l.known l.level));
}
