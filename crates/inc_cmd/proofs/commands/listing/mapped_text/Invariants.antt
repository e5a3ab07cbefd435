use Rattle.std.proofs.Common.{◌≡◌, ◌++◌, length}
use Rattle.std.specs.List.{flat_map}
use Rattle.inc_cmd.specs.Commands.Listing.{mapped_line, mapped_of}
use Rattle.inc_cmd.proofs.commands.listing.mapped_text.Given as goal

abbrev pub invariant-loop-rest : goal.invariant-loop-rest
invariant-loop-rest l = l.text.items ++ flat_map mapped_line (mapped_of l.rest) ≡ flat_map mapped_line (mapped_of l.rows)

abbrev pub decreases-loop-rest : goal.decreases-loop-rest
decreases-loop-rest l = length l.rest
