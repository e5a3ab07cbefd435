use Rattle.std.proofs.Common.{◌≡◌, ◌≤◌, length}
use Rattle.inc_session.specs.DriveSeats.{AreHomeSeats, homes_of}
use Rattle.inc_session.specs.ReadTakes.{TurnIsTold}
use Rattle.inc_session.proofs.driving.reads.take_turn.Given as goal

abbrev pub invariant-loop-place : goal.invariant-loop-place
invariant-loop-place g l = record {
  told : TurnIsTold l.initial.seats l.place l.initial.afters l.afters (g.L.Loader.told l.initial.loader) (g.L.Loader.told l.loader) l.initial.counts l.counts l.some l.seats;
  seated : AreHomeSeats (homes_of l.files) l.seats;
  afters_count : length l.afters ≡ length l.files;
  prepared : g.L.Loader.prepared l.loader ≡ g.L.Loader.prepared l.initial.loader;
  given : g.L.Loader.given l.loader ≡ g.L.Loader.given l.initial.loader;
  idle : g.L.Loader.idle l.initial.loader ≤ g.L.Loader.idle l.loader;
  faults : g.L.Loader.faults l.loader ≡ g.L.Loader.faults l.initial.loader;
}
