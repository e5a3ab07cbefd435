use Rattle.std.proofs.Common.{◌≡◌, ◌+◌, take}
use Rattle.inc_session.specs.Outcomes.{is_busy_outcome, is_present_outcome, is_written_outcome, outcome_count}
use Rattle.inc_session.proofs.driving.counts.DriveCounts.count.Given as goal

abbrev pub invariant-loop-outcome : goal.invariant-loop-outcome
invariant-loop-outcome l = record {
  told : l.self.told ≡ l.initial.self.told;
  written : l.self.written ≡ l.initial.self.written + outcome_count is_written_outcome (take l.outcome-index l.outcomes);
  present : l.self.present ≡ l.initial.self.present + outcome_count is_present_outcome (take l.outcome-index l.outcomes);
  busy : l.self.busy ≡ l.initial.self.busy + outcome_count is_busy_outcome (take l.outcome-index l.outcomes);
}
