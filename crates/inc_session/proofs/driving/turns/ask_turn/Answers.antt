use Rattle.std.proofs.Common.{◌∙◌, ◌≤◌, ◌++◌, List, [], Option, length, sym, ap, subst}
use Rattle.std.specs.Prelude.{map}
use Rattle.std.specs.Option.{unwrap_or}
use Rattle.inc_frame.specs.declared.piece.Piece.{Piece}
use Rattle.inc_loader.specs.Marks.{mark_of}
use Rattle.inc_loader.specs.declared.loader_file.LoaderFile.{LoaderFile}
use Rattle.inc_session.specs.DriveSeats.{homes_of}
use Rattle.inc_session.proofs.turns.TurnGoes.{ends_bad, ends_done, ends_failed, ends_wanting, goes_given, goes_idle}
use Rattle.inc_session.proofs.driving.turns.ask_turn.Goals as goal

pub returns-in-Pieces-clause-goes : goal.returns-in-Pieces-clause-goes
returns-in-Pieces-clause-goes g c = λ start faults turns afters asked readers.
    let gives = rw c.in-Pieces.is at c.give-given.ensures.gives in
    let says = rw c.in-Pieces.is at c.give-given.ensures.answers in
    let cause = rw c.in-Pieces.is at c.give-given.ensures.cause in
    goes_given (homes_of c.args.files.now) c.args.known.now start faults turns c.args.seats.now (g.L.Loader.told c.args.loader.now) (g.L.Loader.given c.args.loader.now) (g.L.Loader.idle c.args.loader.now) (g.L.Loader.faults c.args.loader.now) afters c.args.counts.now asked readers (g.L.Loader.told c.give-given.new.self) (g.L.Loader.given c.give-given.new.self) (g.L.Loader.idle c.give-given.new.self) (g.L.Loader.faults c.give-given.new.self) (g.L.Loader.ended c.give-given.new.self) (g.L.Loader.refused c.give-given.new.self) c.give-given.ensures.told c.give-given.ensures.idle c.as_slice.result.now
    (gives ∙ ap (λ (o : Option (List LoaderFile)). (g.L.Loader.given c.args.loader.now) ++ map (mark_of (unwrap_or o [])) c.in-Pieces.pieces) c.requires.prepared ∙ ap (λ (l : List Piece). (g.L.Loader.given c.args.loader.now) ++ map (mark_of c.args.known.now) l) (sym c.as_slice.ensures.value))
    (subst (λ (l : List Piece). 1 ≤ length l) (sym c.as_slice.ensures.value) says.0) (subst (λ (l : List Piece). length l ≤ 64) (sym c.as_slice.ensures.value) says.1)
    cause c.fill_given.new.counts c.fill_given.new.seats c.fill_given.result c.fill_given.ensures.fills

pub returns-in-Nothing-clause-goes : goal.returns-in-Nothing-clause-goes
returns-in-Nothing-clause-goes g c = λ start faults turns afters asked readers.
    let gives = rw c.in-Nothing.is at c.give-given.ensures.gives in
    let says = rw c.in-Nothing.is at c.give-given.ensures.answers in
    let cause = rw c.in-Nothing.is at c.give-given.ensures.cause in
    goes_idle (homes_of c.args.files.now) c.args.known.now start faults turns c.args.seats.now (g.L.Loader.told c.args.loader.now) (g.L.Loader.given c.args.loader.now) (g.L.Loader.idle c.args.loader.now) (g.L.Loader.faults c.args.loader.now) afters c.args.counts.now asked readers (g.L.Loader.told c.give-given.new.self) (g.L.Loader.given c.give-given.new.self) (g.L.Loader.idle c.give-given.new.self) (g.L.Loader.faults c.give-given.new.self) (g.L.Loader.ended c.give-given.new.self) (g.L.Loader.refused c.give-given.new.self) c.give-given.ensures.told c.give-given.ensures.idle gives cause says

pub returns-in-Done-clause-goes : goal.returns-in-Done-clause-goes
returns-in-Done-clause-goes g c = λ start faults turns afters asked readers.
    let gives = rw c.in-Done.is at c.give-given.ensures.gives in
    let says = rw c.in-Done.is at c.give-given.ensures.answers in
    let cause = rw c.in-Done.is at c.give-given.ensures.cause in
    ends_done (homes_of c.args.files.now) c.args.known.now start faults turns c.args.seats.now (g.L.Loader.told c.args.loader.now) (g.L.Loader.given c.args.loader.now) (g.L.Loader.idle c.args.loader.now) (g.L.Loader.faults c.args.loader.now) afters c.args.counts.now asked readers (g.L.Loader.told c.give-given.new.self) (g.L.Loader.given c.give-given.new.self) (g.L.Loader.idle c.give-given.new.self) (g.L.Loader.faults c.give-given.new.self) (g.L.Loader.ended c.give-given.new.self) (g.L.Loader.refused c.give-given.new.self) c.give-given.ensures.told c.give-given.ensures.idle gives cause says

pub returns-in-Bad-clause-goes : goal.returns-in-Bad-clause-goes
returns-in-Bad-clause-goes g c = λ start faults turns afters asked readers.
    let gives = rw c.in-Bad.is at c.give-given.ensures.gives in
    let says = rw c.in-Bad.is at c.give-given.ensures.answers in
    let cause = rw c.in-Bad.is at c.give-given.ensures.cause in
    ends_bad (homes_of c.args.files.now) c.args.known.now start faults turns c.args.seats.now (g.L.Loader.told c.args.loader.now) (g.L.Loader.given c.args.loader.now) (g.L.Loader.idle c.args.loader.now) (g.L.Loader.faults c.args.loader.now) afters c.args.counts.now asked readers (g.L.Loader.told c.give-given.new.self) (g.L.Loader.given c.give-given.new.self) (g.L.Loader.idle c.give-given.new.self) (g.L.Loader.faults c.give-given.new.self) (g.L.Loader.ended c.give-given.new.self) (g.L.Loader.refused c.give-given.new.self) c.give-given.ensures.told c.give-given.ensures.idle c.in-Bad.fault gives cause says

pub returns-in-Failed-clause-goes : goal.returns-in-Failed-clause-goes
returns-in-Failed-clause-goes g c = λ start faults turns afters asked readers.
    let gives = rw c.in-Failed.is at c.give-given.ensures.gives in
    let says = rw c.in-Failed.is at c.give-given.ensures.answers in
    let cause = rw c.in-Failed.is at c.give-given.ensures.cause in
    ends_failed (homes_of c.args.files.now) c.args.known.now start faults turns c.args.seats.now (g.L.Loader.told c.args.loader.now) (g.L.Loader.given c.args.loader.now) (g.L.Loader.idle c.args.loader.now) (g.L.Loader.faults c.args.loader.now) afters c.args.counts.now asked readers (g.L.Loader.told c.give-given.new.self) (g.L.Loader.given c.give-given.new.self) (g.L.Loader.idle c.give-given.new.self) (g.L.Loader.faults c.give-given.new.self) (g.L.Loader.ended c.give-given.new.self) (g.L.Loader.refused c.give-given.new.self) c.give-given.ensures.told c.give-given.ensures.idle gives c.give-given.ensures.later cause

pub returns-in-OutOfMemory-clause-goes : goal.returns-in-OutOfMemory-clause-goes
returns-in-OutOfMemory-clause-goes g c = λ start faults turns afters asked readers.
    let gives = rw c.in-OutOfMemory.is at c.give-given.ensures.gives in
    let says = rw c.in-OutOfMemory.is at c.give-given.ensures.answers in
    let cause = rw c.in-OutOfMemory.is at c.give-given.ensures.cause in
    ends_wanting (homes_of c.args.files.now) c.args.known.now start faults turns c.args.seats.now (g.L.Loader.told c.args.loader.now) (g.L.Loader.given c.args.loader.now) (g.L.Loader.idle c.args.loader.now) (g.L.Loader.faults c.args.loader.now) afters c.args.counts.now asked readers (g.L.Loader.told c.give-given.new.self) (g.L.Loader.given c.give-given.new.self) (g.L.Loader.idle c.give-given.new.self) (g.L.Loader.faults c.give-given.new.self) (g.L.Loader.ended c.give-given.new.self) (g.L.Loader.refused c.give-given.new.self) c.give-given.ensures.told c.give-given.ensures.idle gives c.give-given.ensures.later
