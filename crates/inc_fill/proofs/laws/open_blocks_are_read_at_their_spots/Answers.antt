use Rattle.inc_fill.proofs.Known.{open_reads}
use Rattle.inc_fill.proofs.laws.open_blocks_are_read_at_their_spots.Goals as goal

pub returns : goal.returns
returns c = record { reads = open_reads }
