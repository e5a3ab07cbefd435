use Rattle.std.proofs.Common.{◌≡◌, ℕ, ◌<◌, ◌≤◌, not}
use Rattle.inc_ranges.specs.Runs.{is_filled}
use Rattle.inc_ranges.proofs.runs.next_index.Given as goal

abbrev pub invariant-loop-i : goal.invariant-loop-i
invariant-loop-i g l = (i : ℕ) → l.at ≤ i → i < l.i → is_filled (g.P.Presence.present l.indices) i ≡ not l.wanted
