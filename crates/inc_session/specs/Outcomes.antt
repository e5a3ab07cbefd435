-- Outcomes of pieces, counted by their kinds.
use Rattle.std.specs.Prelude.{ℕ, Bool, true, false, List}
use Rattle.std.specs.List.{count_by}
use Rattle.inc_model.specs.declared.words.outcomes.Outcome.{Outcome}
use Rattle.inc_model.specs.declared.words.outcomes.Outcome.TheVariants.{Busy, Present, Written}

abbrev pub is_written_outcome : Outcome → Bool
is_written_outcome (Written at) = true
is_written_outcome outcome = false

abbrev pub is_present_outcome : Outcome → Bool
is_present_outcome (Present at) = true
is_present_outcome outcome = false

abbrev pub is_busy_outcome : Outcome → Bool
is_busy_outcome (Busy window at) = true
is_busy_outcome outcome = false

abbrev pub outcome_count : (Outcome → Bool) → List Outcome → ℕ
outcome_count test outcomes = count_by test outcomes
