use Rattle.std.proofs.Common.{◌≡◌, ◌≤◌}
use Rattle.std.specs.Prelude.{IfSome}
use Rattle.inc_layout.specs.Backing.{layout_in}
use Rattle.inc_layout.specs.reading.Checking.{AreKept}
use Rattle.inc_cmd.proofs.CheckLemmas.{CheckedTo}
use Rattle.inc_cmd.proofs.commands.check.check_blocks.Given as goal

abbrev pub invariant-loop-index : goal.invariant-loop-index
invariant-loop-index g l = record {
  kept : g.B.Backing.kept l.file ≡ g.B.Backing.kept l.fn.file;
  quiet : g.B.Backing.faults l.file ≡ g.B.Backing.faults l.fn.file;
  some : l.good ≤ l.index;
  path : IfSome (g.B.Backing.reads (g.B.Backing.kept l.fn.file)) (λ bytes. AreKept bytes l.opened.areas l.path);
  checked : IfSome (g.B.Backing.reads (g.B.Backing.kept l.fn.file)) (λ bytes. CheckedTo bytes (layout_in l.opened) l.part l.index l.lines.items l.good);
}
