use Rattle.std.proofs.Common.{inr, length, sym, ap, subst, ◌∙◌, arith}
use Rattle.inc_layout.specs.declared.opened.Opened.{Opened}
use Rattle.inc_cell.specs.events.CellEvents.{footing_of}
use Rattle.inc_filling.specs.Grouped.{AreDistinct, group_indices}
use Rattle.inc_filling.specs.Pieces.{AreTaken, StorePieces}
use Rattle.inc_filling.proofs.steps.PieceSteps.{stored_indices, stored_length}
use Rattle.inc_handle.specs.Outcomes.{told_by}
use Rattle.inc_handle.specs.declared.fill.window.PutEnd.{PutEnd}
use Rattle.std.specs.Prelude.{List}
use Rattle.inc_handle.proofs.told.Meets.{fill_met}
use Rattle.inc_handle.proofs.told.Taken.{group_may}
use Rattle.inc_handle.proofs.fill.filler.fill_taken.Goals as goal

pub fill_blocks-end-requires-clause-most : goal.fill_blocks-end-requires-clause-most
fill_blocks-end-requires-clause-most g c =
    let count = stored_length c.args.file.now.known.opened.value c.in-Ok.group.items c.args.pieces.now c.in-Ok.ensures.stores in
    omega (arith, count, c.requires.most)

pub tell-requires-clause-few : goal.tell-requires-clause-few
tell-requires-clause-few g c =
    let count = stored_length c.args.file.now.known.opened.value c.in-Ok.group.items c.args.pieces.now c.in-Ok.ensures.stores in
    omega (arith, count, c.requires.most, c.fill_blocks-end.ensures.few, ap (λ (l : List PutEnd). length l) c.as_slice.ensures.value)

pub returns-clause-fills : goal.returns-clause-fills
returns-clause-fills g c =
    let opened = c.args.file.now.begun.value.opened in
    let group = c.in-Ok.group.items in
    let pieces = c.args.pieces.now in
    let stores : StorePieces opened group pieces = subst (λ (o : Opened). StorePieces o group pieces) c.args.file.now.known_is c.in-Ok.ensures.stores in
    let taken : AreTaken opened pieces = subst (λ (o : Opened). AreTaken o pieces) c.args.file.now.known_is c.requires.taken in
    let distinct : AreDistinct (group_indices group) = subst AreDistinct (sym (stored_indices c.args.file.now.known.opened.value group pieces c.in-Ok.ensures.stores)) c.requires.distinct in
    let fills = c.fill_blocks-end.ensures.fills (footing_of c.args.file.now.begun.value) c.requires.own.footing_is (group_may opened group pieces stores taken) distinct in
    inr
    (record {
      group = group;
      end = c.fill_blocks-end.result;
      ends = c.fill_blocks-end.new.ends.items;
      stored = c.fill_blocks-end.new.stored.items;
      stores = stores;
      fills = fills;
      met = fill_met (footing_of c.args.file.now.begun.value) _ _ group c.fill_blocks-end.new.ends.items c.fill_blocks-end.new.stored.items _ c.fill_blocks-end.result fills;
      told = c.tell.ensures.value ∙ ap (told_by c.fill_blocks-end.result) c.as_slice.ensures.value;
    })
