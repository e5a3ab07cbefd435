use Rattle.std.proofs.Common.{◌≡◌, ◌+◌, ◌-◌, ◌≤◌, ℕ, List, ◌++◌, length}
use Rattle.std.specs.Prelude.{IfSome, replicate}
use Rattle.inc_disk.specs.Disk.{Now}
use Rattle.inc_disk.specs.Laws.{LeavesOnly}
use Rattle.inc_recover.specs.Making.{IsUnmarked, MayBeLeft}
use Rattle.inc_recover.proofs.making.put_zeros.Given as goal

abbrev pub invariant-loop-done : goal.invariant-loop-done
invariant-loop-done g l = record {
  within : l.done ≤ l.count;
  quiet : g.D.Backing.faults l.disk ≡ g.D.Backing.faults l.fn.disk;
  place : IfSome (g.D.Backing.reads (g.D.Backing.kept l.disk)) (λ bytes. length bytes ≡ l.from + l.done);
  made : (rest : List ℕ) → l.from ≡ 8 + length rest → Now (g.D.Disk.states (g.D.Backing.kept l.fn.disk)) (IsUnmarked rest)
      → Now (g.D.Disk.states (g.D.Backing.kept l.disk)) (IsUnmarked (rest ++ replicate l.done 0));
  moments : (rest image : List ℕ) → l.from ≡ 8 + length rest → Now (g.D.Disk.states (g.D.Backing.kept l.fn.disk)) (IsUnmarked rest)
      → LeavesOnly (g.D.Disk.states (g.D.Backing.kept l.fn.disk)) (g.D.Disk.states (g.D.Backing.kept l.disk)) (MayBeLeft image);
}

abbrev pub decreases-loop-done : goal.decreases-loop-done
decreases-loop-done g l = l.count - l.done
