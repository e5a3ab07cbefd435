use Rattle.std.proofs.Common.{◌≡◌, ◌≤◌, length, map, take, vec_len}
use Rattle.std.specs.Prelude.{vec_capacity}
use Rattle.inc_handle.specs.Outcomes.{outcome_at}
use Rattle.inc_handle.proofs.fill.outcomes.outcomes_of.Given as goal

abbrev pub invariant-loop-place : goal.invariant-loop-place
invariant-loop-place l = record {
  items : l.outcomes.items ≡ map (outcome_at l.at) (take l.place l.ends);
  room : length l.ends ≤ vec_capacity l.outcomes;
  count : vec_len l.outcomes ≡ l.place;
}
