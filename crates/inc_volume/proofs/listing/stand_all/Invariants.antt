use Rattle.std.proofs.Common.{◌≡◌, ◌++◌, length}
use Rattle.std.specs.Prelude.{IfSome}
use Rattle.inc_io.specs.Outside.{NoneOut}
use Rattle.inc_volume.specs.Standings.{HaveFileFaults}
use Rattle.inc_volume.specs.Verdicts.{standings_among}
use Rattle.inc_volume.proofs.listing.stand_all.Given as goal

abbrev pub invariant-loop-rest : goal.invariant-loop-rest
invariant-loop-rest g l = record {
  answer : IfSome (g.S.ReadShelf.contents (g.S.ReadShelf.kept l.shelf)) (λ files. l.list ++ standings_among files l.rest ≡ standings_among files l.names);
  own : HaveFileFaults l.list;
  kept : g.S.ReadShelf.kept l.shelf ≡ g.S.ReadShelf.kept l.initial.shelf;
  back : NoneOut (g.S.ReadShelf.out l.shelf);
  quiet : g.S.ReadShelf.faults l.shelf ≡ g.S.ReadShelf.faults l.initial.shelf;
}

abbrev pub decreases-loop-rest : goal.decreases-loop-rest
decreases-loop-rest g l = length l.rest
