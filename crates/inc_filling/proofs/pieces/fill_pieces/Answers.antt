use Rattle.std.proofs.Common.{ℕ, List, sym, subst, arith}
use Rattle.inc_cell.specs.seen.Seen.{state_now}
use Rattle.inc_filling.specs.Pieces.{StorePieces}
use Rattle.inc_filling.specs.Grouped.{AllMayBeFilled, AreDistinct}
use Rattle.inc_filling.specs.declared.filling.Filling.{Filling}
use Rattle.inc_filling.proofs.steps.PieceSteps.{all_may_be_filled, pieces_filled, stored_indices, stored_length}
use Rattle.inc_filling.proofs.pieces.fill_pieces.Goals as goal

pub fill_group-requires : goal.fill_group-requires
fill_group-requires g c =
    let stores : StorePieces c.args.cell.now.opened c.as_slice.result.now c.args.pieces.now = subst (λ (l : List Filling). StorePieces c.args.cell.now.opened l c.args.pieces.now) (sym c.as_slice.ensures.value) c.in_ok-group.ensures.stores in
    let indices = stored_indices c.args.cell.now.opened c.as_slice.result.now c.args.pieces.now stores in
    let same = stored_length c.args.cell.now.opened c.as_slice.result.now c.args.pieces.now stores in
    let some = c.requires.some in
    let most = c.requires.most in
    let room = c.requires.room in
    record {
      idle = c.requires.fillable.idle;
      may = subst (λ (l : List ℕ). AllMayBeFilled (state_now c.args.cell.now) l) (sym indices) (all_may_be_filled c.args.cell.now.opened (state_now c.args.cell.now) c.args.pieces.now c.requires.fillable.of_file c.requires.taken);
      distinct = subst AreDistinct (sym indices) c.requires.distinct;
      some = omega arith;
      most = omega arith;
      room = omega arith;
    }

pub returns : goal.returns
returns g c =
    let stores : StorePieces c.args.cell.now.opened c.as_slice.result.now c.args.pieces.now = subst (λ (l : List Filling). StorePieces c.args.cell.now.opened l c.args.pieces.now) (sym c.as_slice.ensures.value) c.in_ok-group.ensures.stores in
    let distinct = subst AreDistinct (sym (stored_indices c.args.cell.now.opened c.as_slice.result.now c.args.pieces.now stores)) c.requires.distinct in
    record {
      fills = pieces_filled c.args.cell.now c.fill_group.new.cell c.args.window c.args.pieces.now c.as_slice.result.now c.fill_group.new.stored.items stores c.requires.fillable c.requires.taken distinct c.history-entries.ensures.reads
          c.fill_group.result c.fill_group.ensures.fills c.fill_group.ensures.shows;
      room = c.fill_group.ensures.room;
    }
