-- Which fault ends the fills of a file, and how faults are counted.
use Rattle.std.specs.Prelude.{◌≡◌, ◌⊎◌, ℕ, ◌+◌, ◌-◌, ◌^◌, ◌≤◌, Bool, true, false, not, ◌&&◌, List, ◌∷◌, ◌++◌, length, count_by, Some, None}
use Rattle.std.specs.List.{list_all}
use Rattle.inc_model.specs.declared.words.event.Event.{Event}
use Rattle.inc_model.specs.declared.words.event.Event.TheVariants.{Ask, Poll, Cancel, Claim, PutData, PutPlace, Settle, Gate, Release, TakePending, SetTimes, Ranges, Count, Leave}
use Rattle.inc_model.specs.declared.words.file_state.FileState.{FileState}
use Rattle.inc_model.specs.declared.words.reply.Entry.{Entry}
use Rattle.inc_model.specs.declared.words.reply.Reply.{Reply}
use Rattle.inc_model.specs.declared.words.reply.Reply.TheVariants.{Fault}
use Rattle.inc_model.specs.relation.Step.{IsLegal, Step, state_after}

-- the events for which the device writes or syncs
abbrev pub is_written_by : Event → Bool
is_written_by (PutData window index digest) = true
is_written_by (PutPlace window index) = true
is_written_by (Settle window) = true
is_written_by (Gate window index) = true
is_written_by (Ask block uid at) = false
is_written_by (Poll serial at) = false
is_written_by (Cancel serial) = false
is_written_by (Claim window places) = false
is_written_by (Release window) = false
is_written_by (TakePending after most) = false
is_written_by (SetTimes uid times) = false
is_written_by (Ranges start end room) = false
is_written_by Count = false
is_written_by Leave = false

abbrev pub is_fault : Reply → Bool
is_fault (Fault count) = true
is_fault reply = false

-- an entry whose write or sync failed
abbrev pub is_break : Entry → Bool
is_break entry = is_written_by entry.event && is_fault entry.reply

-- the first entry whose write or sync failed stands at this position
pub record IsFirstBreak (entries : List Entry) (position : ℕ) : Type 0 where
  pub before : List Entry
  pub entry : Entry
  pub after : List Entry
  pub cut : entries ≡ before ++ entry ∷ after
  pub place : position ≡ length before
  pub failed : is_break entry ≡ true
  pub first : list_all (λ earlier. not (is_break earlier)) before ≡ true

-- `failed` names that entry, and no other, and none where there is none
abbrev pub FailedIsFirst : Type 0
FailedIsFirst = (start : FileState) (told : Bool) (entries : List Entry) (position : ℕ) → start.failed ≡ None → IsLegal 0 told start entries → (state_after 0 start entries).failed ≡ Some position → IsFirstBreak entries position

abbrev pub FirstIsFailed : Type 0
FirstIsFailed = (start : FileState) (told : Bool) (entries : List Entry) (position : ℕ) → start.failed ≡ None → IsLegal 0 told start entries → IsFirstBreak entries position → (state_after 0 start entries).failed ≡ Some position

abbrev pub NoneHasFailed : Type 0
NoneHasFailed = (start : FileState) (told : Bool) (entries : List Entry) → start.failed ≡ None → IsLegal 0 told start entries → (state_after 0 start entries).failed ≡ None → list_all (λ entry. not (is_break entry)) entries ≡ true

-- a read that fails ends no fills
abbrev pub PollLeavesFailed : Type 0
PollLeavesFailed = (old new : FileState) (told : Bool) (at who serial now : ℕ) (reply : Reply) → Step at told old who (Poll serial now) reply new → new.failed ≡ old.failed

-- the entries that are faults are at most as many as the rise of the count, or the count stands at its end
abbrev pub FaultsAreCounted : Type 0
FaultsAreCounted = (s : FileState) (told : Bool) (at : ℕ) (entries : List Entry) → IsLegal at told s entries
    → (s.faults + count_by (λ entry. is_fault entry.reply) entries ≤ (state_after at s entries).faults) ⊎ (2 ^ 64 - 1 ≤ (state_after at s entries).faults)
