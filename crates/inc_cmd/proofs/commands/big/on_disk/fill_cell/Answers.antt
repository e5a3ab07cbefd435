use Rattle.inc_cmd.proofs.filling.NewCells.{content_cause, fills_content}
use Rattle.inc_cmd.proofs.commands.big.on_disk.fill_cell.Goals as goal

pub returns-clause-fills : goal.returns-clause-fills
returns-clause-fills g c =
    fills_content c.args.cell c.fill_generated-filled.new.cell _ _ _ c.fill_generated-filled.result c.stored_by.result c.requires.fresh c.requires.sound c.requires.taken c.fill_generated-filled.ensures.fills
    (record { states_are = c.into_disk-disk.ensures.states; legal = c.into_disk-disk.ensures.legal; reads = c.into_disk-disk.ensures.reads; images = c.into_disk-disk.ensures.images })
    c.stored_by.ensures.tells

pub returns-clause-cause : goal.returns-clause-cause
returns-clause-cause g c =
    content_cause c.args.cell c.fill_generated-filled.new.cell _ _ _ c.fill_generated-filled.result c.stored_by.result c.requires.quiet c.into_disk-disk.ensures.count c.fill_generated-filled.ensures.fills
    c.stored_by.ensures.tells
