use Rattle.std.proofs.Common.{◌∙◌, ◌+◌, Bool, get_or, set, refl, sym, subst, arith}
use Rattle.std.specs.Prelude.{Result}
use Rattle.std.proofs.lemmas.List.{length-set}
use Rattle.std.proofs.lemmas.Result.{err_from_is_err_and}
use Rattle.inc_script.specs.declared.report_text.ends.DriveEnd.{DriveEnd}
use Rattle.inc_session.specs.DriveSeats.{homes_of}
use Rattle.inc_session.specs.ReadTakes.{TakesTurnOf, TurnIsTold, TurnStops}
use Rattle.inc_session.proofs.turns.FileSteps.{file_stops, next_file, seat_again, seat_there, seated_on}
use Rattle.inc_session.proofs.turns.TurnSteps.{turn_none}
use Rattle.inc_session.proofs.driving.reads.take_turn.Goals as goal

pub loop-place-init : goal.loop-place-init
loop-place-init g c = record {
  told = turn_none c.args.seats.now c.args.afters.now (g.L.Loader.told c.args.loader.now) c.args.counts.now;
  seated = c.requires.seated;
  afters_count = c.requires.afters;
  prepared = refl;
  given = refl;
  idle = omega arith;
  faults = refl;
}

pub take_file-requires : goal.take_file-requires
take_file-requires g c = record { own = seat_there c.args.files.now c.loop-place.place c.index-files-place.result (omega arith) c.index-files-place.is c.loop-place.seats (get_or c.loop-place.seats c.loop-place.place c.index-seats-place.result) c.loop-place.invariant.seated (seat_again c.args.files.now c.loop-place.place c.index-files-place.result (omega arith) c.index-files-place.is c.loop-place.seats c.index-seats-place.result c.loop-place.invariant.seated) }

pub returns-in_err-more-clause-takes : goal.returns-in_err-more-clause-takes
returns-in_err-more-clause-takes g c =
    let p = err_from_is_err_and c.from_residual.result c.from_residual.ensures.1 in
    subst (λ (r : Result Bool DriveEnd). TakesTurnOf (homes_of c.args.files.now) c.args.seats.now c.args.afters.now (set c.loop-place.afters c.loop-place.place c.take_file.new.after) (g.L.Loader.told c.args.loader.now) (g.L.Loader.told c.take_file.new.loader) c.args.counts.now c.take_file.new.counts (g.L.Loader.faults c.args.loader.now) (g.L.Loader.faults c.take_file.new.loader) r (set c.loop-place.seats c.loop-place.place c.take_file.new.seat)) (sym p.1)
    (subst (λ (how : DriveEnd). TurnStops (homes_of c.args.files.now) c.args.seats.now c.args.afters.now (g.L.Loader.told c.args.loader.now) (g.L.Loader.told c.take_file.new.loader) c.args.counts.now c.take_file.new.counts (g.L.Loader.faults c.args.loader.now) (g.L.Loader.faults c.take_file.new.loader) how (set c.loop-place.seats c.loop-place.place c.take_file.new.seat)) (sym p.2)
    (file_stops c.args.files.now c.loop-place.place c.index-files-place.result (omega arith) c.index-files-place.is c.args.seats.now c.loop-place.seats c.args.afters.now c.loop-place.afters (g.L.Loader.told c.args.loader.now) (g.L.Loader.told c.loop-place.loader) c.args.counts.now c.loop-place.counts c.loop-place.some c.loop-place.invariant.told
    c.requires.seated c.loop-place.invariant.afters_count (get_or c.loop-place.seats c.loop-place.place c.index-seats-place.result) c.take_file.new.seat (seat_again c.args.files.now c.loop-place.place c.index-files-place.result (omega arith) c.index-files-place.is c.loop-place.seats c.index-seats-place.result c.loop-place.invariant.seated) c.take_file.ensures.own c.take_file.new.after (g.L.Loader.told c.take_file.new.loader) c.take_file.new.counts
    (g.L.Loader.faults c.args.loader.now) (g.L.Loader.faults c.loop-place.loader) (g.L.Loader.faults c.take_file.new.loader) c.loop-place.invariant.faults c.in_err-more.field-0.0 c.in_err-more.ensures.takes))

pub loop-place-preserved : goal.loop-place-preserved
loop-place-preserved g c =
    let t : TurnIsTold c.args.seats.now (c.loop-place.place + 1) c.args.afters.now (set c.loop-place.afters c.loop-place.place c.take_file.new.after) (g.L.Loader.told c.args.loader.now) (g.L.Loader.told c.take_file.new.loader) c.args.counts.now c.take_file.new.counts c.either-some.result (set c.loop-place.seats c.loop-place.place c.take_file.new.seat) =
    next_file c.args.files.now c.loop-place.place c.index-files-place.result (omega arith) c.index-files-place.is c.args.seats.now c.loop-place.seats c.args.afters.now c.loop-place.afters (g.L.Loader.told c.args.loader.now) (g.L.Loader.told c.loop-place.loader) c.args.counts.now c.loop-place.counts c.loop-place.some c.loop-place.invariant.told
    c.requires.seated c.loop-place.invariant.afters_count (get_or c.loop-place.seats c.loop-place.place c.index-seats-place.result) c.take_file.new.seat (seat_again c.args.files.now c.loop-place.place c.index-files-place.result (omega arith) c.index-files-place.is c.loop-place.seats c.index-seats-place.result c.loop-place.invariant.seated) c.take_file.ensures.own c.take_file.new.after (g.L.Loader.told c.take_file.new.loader) c.take_file.new.counts
    (g.L.Loader.faults c.args.loader.now) (g.L.Loader.faults c.loop-place.loader) (g.L.Loader.faults c.take_file.new.loader) c.in_ok-more.more c.either-some.result c.either-some.ensures.value c.in_ok-more.ensures.takes in
    record {
      told = t;
      seated = seated_on (homes_of c.args.files.now) c.args.seats.now (c.loop-place.place + 1) c.args.afters.now (set c.loop-place.afters c.loop-place.place c.take_file.new.after) (g.L.Loader.told c.args.loader.now) (g.L.Loader.told c.take_file.new.loader) c.args.counts.now c.take_file.new.counts c.either-some.result (set c.loop-place.seats c.loop-place.place c.take_file.new.seat) c.requires.seated t;
      afters_count = length-set c.loop-place.afters c.loop-place.place c.take_file.new.after ∙ c.loop-place.invariant.afters_count;
      prepared = c.take_file.ensures.prepared ∙ c.loop-place.invariant.prepared;
      given = c.take_file.ensures.given ∙ c.loop-place.invariant.given;
      idle = omega (arith, c.take_file.ensures.idle, c.loop-place.invariant.idle);
      faults = c.in_ok-more.ensures.takes.1 ∙ c.loop-place.invariant.faults;
    }
