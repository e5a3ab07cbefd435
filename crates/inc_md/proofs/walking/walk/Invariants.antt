use Rattle.std.proofs.Common.{◌≡◌, ◌≤◌, ◌-◌, length, IfSome}
use Rattle.inc_md.specs.Inside.{AreRecordsInside}
use Rattle.inc_md.proofs.Chains.{IsReadTo}
use Rattle.inc_md.proofs.walking.walk.Given as goal

abbrev pub invariant-loop-at : goal.invariant-loop-at
invariant-loop-at g l = record {
  kept : g.B.Backing.kept l.file ≡ g.B.Backing.kept l.fn.file;
  quiet : g.B.Backing.faults l.file ≡ g.B.Backing.faults l.fn.file;
  inside : AreRecordsInside l.fn.len l.records;
  few : length l.records.spans ≤ 1024;
  read : IfSome (g.B.Backing.reads (g.B.Backing.kept l.fn.file)) (λ bytes. IsReadTo bytes l.fn.len l.fn.first l.records l.at);
}

abbrev pub decreases-loop-at : goal.decreases-loop-at
decreases-loop-at g l = 1024 - length l.records.spans
