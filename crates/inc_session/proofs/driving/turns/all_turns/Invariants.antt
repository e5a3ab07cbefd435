use Rattle.std.proofs.Common.{◌≡◌, ℕ, length}
use Rattle.inc_session.specs.DriveSeats.{AreHomeSeats, homes_of}
use Rattle.inc_session.specs.Drives.{DriveRuns, drive_view}
use Rattle.inc_session.proofs.driving.turns.all_turns.Given as goal

abbrev pub invariant-loop : goal.invariant-loop
invariant-loop g l = record {
  seated : AreHomeSeats (homes_of l.files) l.seats;
  prepared : g.L.Loader.prepared l.loader ≡ g.L.Loader.prepared l.initial.loader;
  afters : length l.afters ≡ length l.files;
  runs : (turns : ℕ) × DriveRuns (homes_of l.files) l.known l.initial.seats (g.L.Loader.faults l.initial.loader) turns 0
      (drive_view l.seats (g.L.Loader.told l.loader) (g.L.Loader.given l.loader) (g.L.Loader.idle l.loader) (g.L.Loader.faults l.loader) l.afters l.counts);
}
