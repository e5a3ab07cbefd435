use Rattle.std.proofs.Common.{◌≡◌, Bool, true, false, [], length, sym, subst, rules}
use Rattle.std.specs.Prelude.{Result}
use Rattle.std.proofs.lemmas.Result.{err_from_is_err_and}
use Rattle.inc_script.specs.declared.report_text.ends.DriveEnd.{DriveEnd}
use Rattle.inc_session.specs.DriveSeats.{homes_of}
use Rattle.inc_session.specs.Drives.{DriveEnds, DriveGoes, drive_view}
use Rattle.inc_session.specs.ReadTakes.{ReadersLeft}
use Rattle.inc_session.proofs.turns.DriveLemmas.{asked, readers_asked, turn_ends}
use Rattle.inc_session.proofs.turns.TurnGoes.{ends_unread}
use Rattle.inc_session.proofs.driving.turns.one_turn.Goals as goal

pub returns-in_err-some-clause-goes : goal.returns-in_err-some-clause-goes
returns-in_err-some-clause-goes g c = λ start faults turns r.
    let p = err_from_is_err_and c.from_residual.result c.from_residual.ensures.1 in
    subst (λ (x : Result (Unit {0}) DriveEnd). DriveGoes (homes_of c.args.files.now) c.args.known.now start faults turns (drive_view c.take_turn.new.seats (g.L.Loader.told c.take_turn.new.loader) (g.L.Loader.given c.take_turn.new.loader) (g.L.Loader.idle c.take_turn.new.loader) (g.L.Loader.faults c.take_turn.new.loader) c.take_turn.new.afters c.take_turn.new.counts) (g.L.Loader.ended c.take_turn.new.loader) (g.L.Loader.refused c.take_turn.new.loader) x) (sym p.1)
    (subst (λ (how : DriveEnd). DriveEnds (homes_of c.args.files.now) c.args.known.now start faults (drive_view c.take_turn.new.seats (g.L.Loader.told c.take_turn.new.loader) (g.L.Loader.given c.take_turn.new.loader) (g.L.Loader.idle c.take_turn.new.loader) (g.L.Loader.faults c.take_turn.new.loader) [] c.take_turn.new.counts) (g.L.Loader.ended c.take_turn.new.loader) (g.L.Loader.refused c.take_turn.new.loader) how) (sym p.2)
    (turn_ends (homes_of c.args.files.now) c.args.known.now start faults turns (drive_view c.args.seats.now (g.L.Loader.told c.args.loader.now) (g.L.Loader.given c.args.loader.now) (g.L.Loader.idle c.args.loader.now) (g.L.Loader.faults c.args.loader.now) c.args.afters.now c.args.counts.now) (drive_view c.take_turn.new.seats (g.L.Loader.told c.take_turn.new.loader) (g.L.Loader.given c.take_turn.new.loader) (g.L.Loader.idle c.take_turn.new.loader) (g.L.Loader.faults c.take_turn.new.loader) [] c.take_turn.new.counts) r c.requires.seated.count c.take_turn.ensures.given c.take_turn.ensures.idle (g.L.Loader.ended c.take_turn.new.loader) (g.L.Loader.refused c.take_turn.new.loader) c.in_err-some.field-0.0 c.in_err-some.ensures.takes))

pub returns-then-not-some-clause-goes : goal.returns-then-not-some-clause-goes
returns-then-not-some-clause-goes g c = λ start faults turns r.
    let none : c.in_ok-some.some ≡ false = search rules in
    ends_unread (homes_of c.args.files.now) c.args.known.now start faults turns c.take_turn.new.seats (g.L.Loader.told c.take_turn.new.loader) (g.L.Loader.given c.take_turn.new.loader) (g.L.Loader.idle c.take_turn.new.loader) (g.L.Loader.faults c.take_turn.new.loader) c.take_turn.new.afters c.take_turn.new.counts (asked (homes_of c.args.files.now) c.args.known.now start faults turns (drive_view c.args.seats.now (g.L.Loader.told c.args.loader.now) (g.L.Loader.given c.args.loader.now) (g.L.Loader.idle c.args.loader.now) (g.L.Loader.faults c.args.loader.now) c.args.afters.now c.args.counts.now) (drive_view c.take_turn.new.seats (g.L.Loader.told c.take_turn.new.loader) (g.L.Loader.given c.take_turn.new.loader) (g.L.Loader.idle c.take_turn.new.loader) (g.L.Loader.faults c.take_turn.new.loader) c.take_turn.new.afters c.take_turn.new.counts) r c.requires.seated.count c.take_turn.ensures.given c.take_turn.ensures.idle c.in_ok-some.some c.in_ok-some.ensures.takes.0 c.in_ok-some.ensures.takes.1) (subst (λ (b : Bool). ReadersLeft b (length (homes_of c.args.files.now)) (asked (homes_of c.args.files.now) c.args.known.now start faults turns (drive_view c.args.seats.now (g.L.Loader.told c.args.loader.now) (g.L.Loader.given c.args.loader.now) (g.L.Loader.idle c.args.loader.now) (g.L.Loader.faults c.args.loader.now) c.args.afters.now c.args.counts.now) (drive_view c.take_turn.new.seats (g.L.Loader.told c.take_turn.new.loader) (g.L.Loader.given c.take_turn.new.loader) (g.L.Loader.idle c.take_turn.new.loader) (g.L.Loader.faults c.take_turn.new.loader) c.take_turn.new.afters c.take_turn.new.counts) r c.requires.seated.count c.take_turn.ensures.given c.take_turn.ensures.idle c.in_ok-some.some c.in_ok-some.ensures.takes.0 c.in_ok-some.ensures.takes.1).log) none (readers_asked (homes_of c.args.files.now) c.args.known.now start faults turns (drive_view c.args.seats.now (g.L.Loader.told c.args.loader.now) (g.L.Loader.given c.args.loader.now) (g.L.Loader.idle c.args.loader.now) (g.L.Loader.faults c.args.loader.now) c.args.afters.now c.args.counts.now) (drive_view c.take_turn.new.seats (g.L.Loader.told c.take_turn.new.loader) (g.L.Loader.given c.take_turn.new.loader) (g.L.Loader.idle c.take_turn.new.loader) (g.L.Loader.faults c.take_turn.new.loader) c.take_turn.new.afters c.take_turn.new.counts) r c.requires.seated.count c.take_turn.ensures.given c.take_turn.ensures.idle c.in_ok-some.some c.in_ok-some.ensures.takes.0 c.in_ok-some.ensures.takes.1)) (g.L.Loader.ended c.take_turn.new.loader) (g.L.Loader.refused c.take_turn.new.loader)

pub returns-clause-goes : goal.returns-clause-goes
returns-clause-goes g c = λ start faults turns r.
    let some : c.in_ok-some.some ≡ true = search rules in
    c.ask_turn.ensures.goes start faults turns c.take_turn.new.afters (asked (homes_of c.args.files.now) c.args.known.now start faults turns (drive_view c.args.seats.now (g.L.Loader.told c.args.loader.now) (g.L.Loader.given c.args.loader.now) (g.L.Loader.idle c.args.loader.now) (g.L.Loader.faults c.args.loader.now) c.args.afters.now c.args.counts.now) (drive_view c.take_turn.new.seats (g.L.Loader.told c.take_turn.new.loader) (g.L.Loader.given c.take_turn.new.loader) (g.L.Loader.idle c.take_turn.new.loader) (g.L.Loader.faults c.take_turn.new.loader) c.take_turn.new.afters c.take_turn.new.counts) r c.requires.seated.count c.take_turn.ensures.given c.take_turn.ensures.idle c.in_ok-some.some c.in_ok-some.ensures.takes.0 c.in_ok-some.ensures.takes.1) (subst (λ (b : Bool). ReadersLeft b (length (homes_of c.args.files.now)) (asked (homes_of c.args.files.now) c.args.known.now start faults turns (drive_view c.args.seats.now (g.L.Loader.told c.args.loader.now) (g.L.Loader.given c.args.loader.now) (g.L.Loader.idle c.args.loader.now) (g.L.Loader.faults c.args.loader.now) c.args.afters.now c.args.counts.now) (drive_view c.take_turn.new.seats (g.L.Loader.told c.take_turn.new.loader) (g.L.Loader.given c.take_turn.new.loader) (g.L.Loader.idle c.take_turn.new.loader) (g.L.Loader.faults c.take_turn.new.loader) c.take_turn.new.afters c.take_turn.new.counts) r c.requires.seated.count c.take_turn.ensures.given c.take_turn.ensures.idle c.in_ok-some.some c.in_ok-some.ensures.takes.0 c.in_ok-some.ensures.takes.1).log) some (readers_asked (homes_of c.args.files.now) c.args.known.now start faults turns (drive_view c.args.seats.now (g.L.Loader.told c.args.loader.now) (g.L.Loader.given c.args.loader.now) (g.L.Loader.idle c.args.loader.now) (g.L.Loader.faults c.args.loader.now) c.args.afters.now c.args.counts.now) (drive_view c.take_turn.new.seats (g.L.Loader.told c.take_turn.new.loader) (g.L.Loader.given c.take_turn.new.loader) (g.L.Loader.idle c.take_turn.new.loader) (g.L.Loader.faults c.take_turn.new.loader) c.take_turn.new.afters c.take_turn.new.counts) r c.requires.seated.count c.take_turn.ensures.given c.take_turn.ensures.idle c.in_ok-some.some c.in_ok-some.ensures.takes.0 c.in_ok-some.ensures.takes.1))
