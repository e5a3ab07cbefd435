use Rattle.std.proofs.Common.{◌∙◌, [], sym, subst}
use Rattle.inc_script.specs.declared.report_text.ends.DriveEnd.{DriveEnd}
use Rattle.inc_session.specs.DriveSeats.{files_of, homes_of}
use Rattle.inc_session.specs.Drives.{DriveEnds, IsCalmEnd, drive_view}
use Rattle.inc_session.proofs.turns.EndLemmas.{calm_before, stopped_ends}
use Rattle.inc_session.proofs.driving.whole.drive_loader.Goals as goal

pub returns : goal.returns
returns g c = record {
  drives = record {
    stopped_is = c.stop-stopped.ensures.stopped;
    prepared_is = λ calm. c.stop-stopped.ensures.prepared ∙ c.run-end.ensures.prepared (calm_before c.run-end.result c.stop-stopped.result (subst IsCalmEnd c.end_after-last.ensures.value calm));
    ends = subst (λ (how : DriveEnd). DriveEnds (homes_of c.args.files.now) (files_of (homes_of c.args.files.now)) c.args.seats.now (g.L.Loader.faults c.args.loader.now) (drive_view c.run-end.new.seats (g.L.Loader.told c.stop-stopped.new.self) (g.L.Loader.given c.stop-stopped.new.self) (g.L.Loader.idle c.stop-stopped.new.self) (g.L.Loader.faults c.stop-stopped.new.self) [] c.run-end.new.counts) (g.L.Loader.ended c.stop-stopped.new.self) (g.L.Loader.refused c.stop-stopped.new.self) how) (sym c.end_after-last.ensures.value)
        (stopped_ends (homes_of c.args.files.now) (files_of (homes_of c.args.files.now)) c.args.seats.now c.run-end.new.seats (g.L.Loader.faults c.args.loader.now) (g.L.Loader.told c.run-end.new.loader) (g.L.Loader.told c.stop-stopped.new.self) (g.L.Loader.given c.run-end.new.loader) (g.L.Loader.given c.stop-stopped.new.self) (g.L.Loader.idle c.run-end.new.loader) (g.L.Loader.idle c.stop-stopped.new.self) (g.L.Loader.faults c.run-end.new.loader) (g.L.Loader.faults c.stop-stopped.new.self) c.run-end.new.counts (g.L.Loader.ended c.run-end.new.loader) (g.L.Loader.ended c.stop-stopped.new.self) (g.L.Loader.refused c.run-end.new.loader) (g.L.Loader.refused c.stop-stopped.new.self) c.run-end.result c.run-end.ensures.ends
        c.stop-stopped.ensures.told c.stop-stopped.ensures.given c.stop-stopped.ensures.idle c.stop-stopped.ensures.later c.stop-stopped.ensures.ended c.stop-stopped.ensures.refused c.stop-stopped.result c.stop-stopped.ensures.cause);
  };
}
