use Rattle.std.proofs.Common.{◌∙◌, ◌+◌}
use Rattle.inc_session.specs.DriveSeats.{homes_of}
use Rattle.inc_session.specs.Drives.{DriveRuns, drive_view}
use Rattle.inc_session.proofs.fills.SeatSteps.{homes_count, still_seated}
use Rattle.inc_session.proofs.driving.turns.all_turns.Goals as goal

pub returns-in-Err-clause-ends : goal.returns-in-Err-clause-ends
returns-in-Err-clause-ends g c = c.in-Err.ensures.goes c.args.seats.now (g.L.Loader.faults c.args.loader.now) c.loop.invariant.runs.0 c.loop.invariant.runs.1

pub loop-preserved : goal.loop-preserved
loop-preserved g c =
    let next : DriveRuns (homes_of c.args.files.now) c.args.known.now c.args.seats.now (g.L.Loader.faults c.args.loader.now) (c.loop.invariant.runs.0 + 1) 0 (drive_view c.one_turn.new.seats (g.L.Loader.told c.one_turn.new.loader) (g.L.Loader.given c.one_turn.new.loader) (g.L.Loader.idle c.one_turn.new.loader) (g.L.Loader.faults c.one_turn.new.loader) c.one_turn.new.afters c.one_turn.new.counts) = c.in-Ok.ensures.goes c.args.seats.now (g.L.Loader.faults c.args.loader.now) c.loop.invariant.runs.0 c.loop.invariant.runs.1 in
    record {
      seated = still_seated (homes_of c.args.files.now) c.args.seats.now c.one_turn.new.seats next.log c.requires.seated next.seats;
      prepared = c.one_turn.ensures.prepared ∙ c.loop.invariant.prepared;
      afters = next.afters_count ∙ homes_count c.args.files.now;
      runs = (c.loop.invariant.runs.0 + 1, next);
    }
