use Rattle.std.proofs.Common.{◌≡◌, ◌≤◌, length}
use Rattle.inc_real.proofs.disk.read_whole.Given as goal

abbrev pub invariant-loop : goal.invariant-loop
invariant-loop g l = (l.count ≤ length l.room) × (g.F.PlacedFile.calls l.file ≡ g.F.PlacedFile.calls l.fn.file)
