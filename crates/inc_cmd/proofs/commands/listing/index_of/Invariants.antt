use Rattle.std.proofs.Common.{◌≡◌, length}
use Rattle.inc_cmd.specs.Commands.Listing.{index_beside, index_of}
use Rattle.inc_cmd.proofs.commands.listing.index_of.Given as goal

abbrev pub invariant-loop-row : goal.invariant-loop-row
invariant-loop-row l = index_beside l.index l.rest ≡ index_of l.rows

abbrev pub decreases-loop-row : goal.decreases-loop-row
decreases-loop-row l = length l.rest
