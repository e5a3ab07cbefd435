use Rattle.inc_entry.specs.Entry.{area_places}
use Rattle.inc_layout.proofs.opened_file.FoundSteps.{open_read}
use Rattle.inc_layout.proofs.opening.stored.read_open.Goals as goal

pub returns-clause-digest : goal.returns-clause-digest
returns-clause-digest g c =
    open_read _ (area_places c.args.areas.now) c.args.index c.in-OpenAt.place _ c.block_len-len.result c.args.class c.args.room.now c.fill_front.new.room
    c.clear_behind.new.room c.in-OpenAt.is c.block_len-len.ensures.value c.in_ok-fill_front.ensures.filled c.clear_behind.ensures.value
