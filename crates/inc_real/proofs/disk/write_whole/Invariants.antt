use Rattle.std.proofs.Common.{◌≤◌, length, take}
use Rattle.inc_real.specs.Calls.{HasWritten}
use Rattle.inc_real.proofs.disk.write_whole.Given as goal

abbrev pub invariant-loop : goal.invariant-loop
invariant-loop g l = (l.done ≤ length l.piece) × HasWritten l.at (take l.done l.piece) (g.F.PlacedFile.calls l.fn.file) (g.F.PlacedFile.calls l.file)
