use Rattle.std.proofs.Common.{◌≡◌, ◌++◌, length}
use Rattle.std.specs.Prelude.{IfSome}
use Rattle.inc_io.specs.Outside.{NoneOut}
use Rattle.inc_volume.specs.mounting.Targets.{target_names, targets_of}
use Rattle.inc_volume.proofs.volumes.PlanSteps.{with_front}
use Rattle.inc_volume.proofs.mounting.planning.plan.Given as goal

abbrev pub invariant-loop-rest : goal.invariant-loop-rest
invariant-loop-rest g l = record {
  answer : IfSome (g.S.ReadShelf.contents (g.S.ReadShelf.kept l.shelf)) (λ files. with_front l.list (targets_of files l.rest) ≡ targets_of files l.names);
  named : target_names l.list ++ l.rest ≡ l.names;
  kept : g.S.ReadShelf.kept l.shelf ≡ g.S.ReadShelf.kept l.initial.shelf;
  back : NoneOut (g.S.ReadShelf.out l.shelf);
  quiet : g.S.ReadShelf.faults l.shelf ≡ g.S.ReadShelf.faults l.initial.shelf;
}

abbrev pub decreases-loop-rest : goal.decreases-loop-rest
decreases-loop-rest g l = length l.rest
