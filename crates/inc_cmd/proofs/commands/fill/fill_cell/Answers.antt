use Rattle.inc_cmd.proofs.filling.CellFills.{fill_cause, fills_cell}
use Rattle.inc_cmd.proofs.filling.GivenStreams.{takes_some}
use Rattle.inc_cmd.proofs.commands.fill.fill_cell.Goals as goal

pub returns-clause-fills : goal.returns-clause-fills
returns-clause-fills g c =
    let fills = c.fill_from-filled.ensures.fills in
    fills_cell c.args.name.now c.args.cell c.fill_from-filled.new.cell _ _ _ _ _ c.fill_from-filled.result c.words_of.result c.requires.fresh c.requires.sound fills
    (record { states_are = c.into_disk-disk.ensures.states; legal = c.into_disk-disk.ensures.legal; reads = c.into_disk-disk.ensures.reads; images = c.into_disk-disk.ensures.images })
    c.words_of.ensures.tells

pub returns-clause-took : goal.returns-clause-took
returns-clause-took g c = takes_some _ _ c.fill_from-filled.ensures.fills.read c.fill_from-filled.ensures.fills.input_is

pub returns-clause-cause : goal.returns-clause-cause
returns-clause-cause g c =
    fill_cause c.args.name.now c.args.cell c.fill_from-filled.new.cell _ _ _ _ _ _ _ c.fill_from-filled.result c.words_of.result c.requires.quiet c.into_disk-disk.ensures.count
    c.fill_from-filled.ensures.fills.fills c.fill_from-filled.ensures.source c.words_of.ensures.tells
