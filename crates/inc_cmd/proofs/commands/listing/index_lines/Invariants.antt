use Rattle.std.proofs.Common.{◌≡◌, take}
use Rattle.std.specs.List.{flat_map}
use Rattle.inc_cmd.specs.Commands.Listing.{index_line}
use Rattle.inc_cmd.proofs.commands.listing.index_lines.Given as goal

abbrev pub invariant-loop-file : goal.invariant-loop-file
invariant-loop-file l = l.text.items ≡ flat_map index_line (take l.file-index l.files)
