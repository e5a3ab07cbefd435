use Rattle.std.proofs.Common.{◌≡◌, length}
use Rattle.std.specs.Prelude.{IfSome}
use Rattle.inc_layout.specs.opening.Listed.{listed}
use Rattle.inc_layout.proofs.LoopSteps.{HasAll, on_path}
use Rattle.inc_layout.proofs.reading.static_read.read_path.Given as goal

abbrev pub invariant-loop-level : goal.invariant-loop-level
invariant-loop-level g l = record {
  kept : g.B.Backing.kept l.file ≡ g.B.Backing.kept l.fn.file;
  quiet : g.B.Backing.faults l.file ≡ g.B.Backing.faults l.fn.file;
  count : length l.blocks.items ≡ l.level;
  path : IfSome (g.B.Backing.reads (g.B.Backing.kept l.fn.file)) (λ bytes. HasAll l.areas bytes → l.blocks.items ≡ listed (on_path bytes l.areas l.index) l.level);
}
