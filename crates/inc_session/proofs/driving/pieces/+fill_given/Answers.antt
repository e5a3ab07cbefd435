use Rattle.std.proofs.Common.{◌∙◌, ◌<◌, [], length, sym, arith}
use Rattle.std.specs.Prelude.{slice_index_or}
use Rattle.std.proofs.lemmas.Bool.{eqb-true}
use Rattle.std.proofs.lemmas.Result.{err_from_is_err_and}
use Rattle.inc_frame.specs.declared.piece.Piece.{Piece}
use Rattle.inc_cell.specs.declared.machine.CellFooting.{CellFooting}
use Rattle.inc_turn.specs.declared.seat.Seat.{Seat}
use Rattle.inc_handle.specs.declared.pass.FillPass.{FillPass}
use Rattle.inc_session.specs.DriveSeats.{homes_of}
use Rattle.inc_session.proofs.fills.GivenSteps.{names_none}
use Rattle.inc_session.proofs.fills.PlaceSteps.{ends_with, first_here, given_none, goes_with, pass_here, seat_here, some_left, within_passes, within_seats}
use Rattle.inc_session.proofs.fills.SeatSteps.{any_default}
use Rattle.inc_session.proofs.driving.pieces.+fill_given.Goals as goal

pub returns-then-is_empty : goal.returns-then-is_empty
returns-then-is_empty g t c = record {
  fills = given_none (homes_of c.args.files.now) c.args.known.now c.args.seats.now c.args.pieces.now c.args.counts.now (eqb-true _ _ (sym c.is_empty.ensures ∙ c.if-is_empty.true));
}

pub returns-in_default : goal.returns-in_default
returns-in_default g t c =
    let pieces = c.args.pieces.now in
    let first : Piece = slice_index_or pieces 0 c.index-pieces-0.result in
    let some = some_left (length pieces) c.is_empty.result c.is_empty.ensures c.if-is_empty.false in
    record {
      fills = names_none (homes_of c.args.files.now) c.args.known.now c.args.seats.now pieces first c.args.counts.now some (any_default pieces 0 c.index-pieces-0.result first some) (sym c.place_from.ensures.value ∙ c.in_default.is);
    }

pub fill_first-requires-clause-own : goal.fill_first-requires-clause-own
fill_first-requires-clause-own g t c =
    let files = c.args.files.now in
    let seats = c.args.seats.now in
    let place = c.in-Some.place in
    let below : place < length c.args.known.now = omega (arith, c.in-Some.ensures.within) in
    let within = within_seats files c.args.known.now c.requires.known place below seats c.requires.seated in
    seat_here files c.args.known.now c.requires.known place below c.index-files-place.result c.index-files-place.is seats c.requires.seated (slice_index_or seats place c.index-seats-place.result)
    (any_default seats place c.index-seats-place.result (slice_index_or seats place c.index-seats-place.result) within)

pub fill_first-requires-clause-pass : goal.fill_first-requires-clause-pass
fill_first-requires-clause-pass g t c =
    let files = c.args.files.now in
    let passes = c.args.passes.now in
    let place = c.in-Some.place in
    let below : place < length c.args.known.now = omega (arith, c.in-Some.ensures.within) in
    let none : FillPass = record { id = []; session = 0 } in
    let within = within_passes files c.args.known.now c.requires.known place below passes c.requires.passed in
    pass_here files c.args.known.now c.requires.known place below c.index-files-place.result c.index-files-place.is passes (slice_index_or passes place none) c.requires.passed
    (any_default passes place none (slice_index_or passes place none) within)

pub fill_first-requires-clause-first : goal.fill_first-requires-clause-first
fill_first-requires-clause-first g t c =
    let files = c.args.files.now in
    let seats = c.args.seats.now in
    let pieces = c.args.pieces.now in
    let place = c.in-Some.place in
    let below : place < length c.args.known.now = omega (arith, c.in-Some.ensures.within) in
    let seat : Seat CellFooting = slice_index_or seats place c.index-seats-place.result in
    let within = within_seats files c.args.known.now c.requires.known place below seats c.requires.seated in
    let first : Piece = slice_index_or pieces 0 c.index-pieces-0.result in
    let some = some_left (length pieces) c.is_empty.result c.is_empty.ensures c.if-is_empty.false in
    first_here files c.args.known.now c.requires.known place below c.index-files-place.result c.index-files-place.is seats c.requires.seated seat
    (any_default seats place c.index-seats-place.result seat within) pieces some first (any_default pieces 0 c.index-pieces-0.result first some) (sym c.place_from.ensures.value ∙ c.in-Some.is)

pub returns-in_err-len : goal.returns-in_err-len
returns-in_err-len g t c =
    let files = c.args.files.now in
    let seats = c.args.seats.now in
    let pieces = c.args.pieces.now in
    let place = c.in-Some.place in
    let below : place < length c.args.known.now = omega (arith, c.in-Some.ensures.within) in
    let seat : Seat CellFooting = slice_index_or seats place c.index-seats-place.result in
    let within = within_seats files c.args.known.now c.requires.known place below seats c.requires.seated in
    let first : Piece = slice_index_or pieces 0 c.index-pieces-0.result in
    let some = some_left (length pieces) c.is_empty.result c.is_empty.ensures c.if-is_empty.false in
    let p = err_from_is_err_and c.from_residual.result c.from_residual.ensures.1 in
    rw (p.1, p.2) (record {
      fills = ends_with files c.args.known.now c.requires.known place below c.index-files-place.result c.index-files-place.is seats c.requires.seated seat
          (any_default seats place c.index-seats-place.result seat within) pieces some first (any_default pieces 0 c.index-pieces-0.result first some) (sym c.place_from.ensures.value ∙ c.in-Some.is)
          c.args.counts.now c.fill_first.new.counts c.in_err-len.field-0.0 c.fill_first.new.seat c.in_err-len.ensures.own c.in_err-len.ensures.fills;
    })

pub returns : goal.returns
returns g t c =
    let files = c.args.files.now in
    let seats = c.args.seats.now in
    let pieces = c.args.pieces.now in
    let place = c.in-Some.place in
    let below : place < length c.args.known.now = omega (arith, c.in-Some.ensures.within) in
    let seat : Seat CellFooting = slice_index_or seats place c.index-seats-place.result in
    let within = within_seats files c.args.known.now c.requires.known place below seats c.requires.seated in
    let first : Piece = slice_index_or pieces 0 c.index-pieces-0.result in
    let some = some_left (length pieces) c.is_empty.result c.is_empty.ensures c.if-is_empty.false in
    record {
      fills = goes_with files c.args.known.now c.requires.known place below c.index-files-place.result c.index-files-place.is seats c.requires.seated seat
          (any_default seats place c.index-seats-place.result seat within) pieces some first (any_default pieces 0 c.index-pieces-0.result first some) (sym c.place_from.ensures.value ∙ c.in-Some.is)
          c.in_ok-len.len c.split_at.result.1.now c.args.counts.now c.fill_first.new.counts c.fill_given.new.counts c.fill_given.result c.fill_first.new.seat c.fill_given.new.seats c.split_at.ensures.back c.in_ok-len.ensures.own c.in_ok-len.ensures.fills c.fill_given.ensures.fills;
    }
