-- the runs listed so far, and those from the place on, are all of them
use Rattle.std.proofs.Common.{◌≡◌, ◌≤◌, ◌-◌, ◌++◌, vec_len}
use Rattle.inc_ranges.specs.Runs.{runs_of}
use Rattle.inc_ranges.proofs.runs.first_runs.Given as goal

abbrev pub invariant-loop-list : goal.invariant-loop-list
invariant-loop-list g l = record {
  split : l.list.items ++ runs_of (g.P.Presence.present l.indices) l.at l.end ≡ runs_of (g.P.Presence.present l.indices) l.start l.end;
  room : vec_len l.list ≤ l.room;
  place : l.at ≤ l.end;
}

abbrev pub decreases-loop-list : goal.decreases-loop-list
decreases-loop-list g l = l.end - l.at
