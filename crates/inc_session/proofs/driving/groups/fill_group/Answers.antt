use Rattle.std.proofs.Common.{refl, sym, subst, ap, arith, length, List}
use Rattle.inc_cell.specs.events.CellEvents.{footing_of}
use Rattle.inc_model.specs.declared.words.outcomes.Outcome.{Outcome}
use Rattle.inc_script.specs.declared.report_text.ends.DriveEnd.{DriveEnd}
use Rattle.inc_turn.specs.Locks.{seat_view}
use Rattle.inc_session.specs.DeedFills.{StopsGroup}
use Rattle.inc_session.proofs.fills.CallLemmas.{outcomes_count}
use Rattle.inc_session.proofs.fills.GroupLemmas.{HasCounted, fill_done, fill_stops}
use Rattle.inc_session.proofs.driving.groups.fill_group.Goals as goal

pub count-requires-clause-few : goal.count-requires-clause-few
count-requires-clause-few g c =
    let few = outcomes_count (footing_of c.args.file.now.begun.value) (seat_view c.args.seat.now) (seat_view c.fill_once.new.seat) _ c.args.pieces.now c.in-Ok.outcomes c.in-Ok.ensures.fills in
    let same = ap (λ (l : List Outcome). length l) c.as_slice.ensures.value in
    omega (arith, few, same, c.requires.most)

pub returns-in-Ok-clause-fills : goal.returns-in-Ok-clause-fills
returns-in-Ok-clause-fills g c =
    fill_done (footing_of c.args.file.now.begun.value) (seat_view c.args.seat.now) (seat_view c.fill_once.new.seat) _ c.args.pieces.now c.in-Ok.outcomes (sym c.args.seat.now.numbered) c.requires.some c.requires.may c.in-Ok.ensures.fills c.args.counts.now c.count.new.self
    (subst (λ (l : List Outcome). HasCounted c.args.counts.now l c.count.new.self) c.as_slice.ensures.value
    (record { told = c.count.ensures.told; written = c.count.ensures.written; present = c.count.ensures.present; busy = c.count.ensures.busy }))

pub returns-in-Err-clause-fills : goal.returns-in-Err-clause-fills
returns-in-Err-clause-fills g c = (
  subst (λ (how : DriveEnd). StopsGroup (footing_of c.args.file.now.begun.value) (seat_view c.args.seat.now) c.args.pieces.now how (seat_view c.fill_once.new.seat)) (sym c.end_of.ensures.value)
      (fill_stops (footing_of c.args.file.now.begun.value) (seat_view c.args.seat.now) (seat_view c.fill_once.new.seat) _ c.args.pieces.now c.in-Err.error (sym c.args.seat.now.numbered) c.requires.some c.requires.may c.in-Err.ensures.fills),
  refl,
)
