use Rattle.std.proofs.Common.{◌≡◌, ◌≤◌, length}
use Rattle.std.specs.Prelude.{IfSome}
use Rattle.inc_layout.specs.reading.Checking.{AreKept, IsKeptBelow}
use Rattle.inc_layout.proofs.reading.checking.keep_path.Given as goal

abbrev pub invariant-loop-level : goal.invariant-loop-level
invariant-loop-level g l = record {
  kept : g.B.Backing.kept l.file ≡ g.B.Backing.kept l.fn.file;
  quiet : g.B.Backing.faults l.file ≡ g.B.Backing.faults l.fn.file;
  count : l.level ≤ length l.path;
  on : IsKeptBelow l.path l.areas.geometry l.index l.level;
  after : IfSome (g.B.Backing.reads (g.B.Backing.kept l.fn.file)) (λ bytes. AreKept bytes l.areas l.path);
}
