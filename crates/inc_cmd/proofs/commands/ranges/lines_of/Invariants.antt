use Rattle.std.proofs.Common.{◌≡◌, take}
use Rattle.std.specs.List.{flat_map}
use Rattle.inc_cmd.specs.Commands.Ranges.{range_line}
use Rattle.inc_cmd.proofs.commands.ranges.lines_of.Given as goal

abbrev pub invariant-loop-range : goal.invariant-loop-range
invariant-loop-range l = l.text.items ≡ flat_map range_line (take l.range-index l.ranges.list)
