-- Laws of every legal history. A moment of a history is a cut: what stands before it, and what comes after.
use Rattle.std.specs.Prelude.{◌≡◌, ℕ, ◌+◌, ◌-◌, ◌<◌, ◌≤◌, Some, Bool, true, not, List, [], ◌∷◌, ◌++◌, length, filter, ◌==◌}
use Rattle.std.specs.List.{list_all}
use Rattle.inc_model.specs.declared.words.limits.TheConstants.{MOST_ENTRIES}
use Rattle.inc_model.specs.declared.words.event.Event.{Event}
use Rattle.inc_model.specs.declared.words.event.Event.TheVariants.{Claim, Release}
use Rattle.inc_model.specs.declared.words.event.Window.{Window}
use Rattle.inc_model.specs.declared.words.file_state.FileState.{FileState}
use Rattle.inc_model.specs.declared.words.reply.Entry.{Entry}
use Rattle.inc_model.specs.declared.words.reply.Reply.{Reply}
use Rattle.inc_model.specs.declared.words.reply.Reply.TheVariants.{Claimed}
use Rattle.inc_model.specs.relation.State.{WindowsRise, all_places, places_left, IsOpening}
use Rattle.inc_model.specs.relation.Changes.{window_of}
use Rattle.inc_model.specs.relation.Step.{IsOwn, HasRoom, IsEntry, IsLegal, Step, after_entry, state_after}
use Rattle.inc_model.specs.relation.Facts.{FileFacts, MoreFacts}

-- ---- facts

abbrev pub OpeningHasFacts : Type 0
OpeningHasFacts = (s : FileState) → IsOpening s → FileFacts s s × MoreFacts s s

abbrev pub StepKeepsFacts : Type 0
StepKeepsFacts = (first old new : FileState) (told : Bool) (at who : ℕ) (event : Event) (reply : Reply) → Step at told old who event reply new → FileFacts first old → FileFacts first new

abbrev pub StepKeepsMore : Type 0
StepKeepsMore = (first old new : FileState) (told : Bool) (at who : ℕ) (event : Event) (reply : Reply) → Step at told old who event reply new → FileFacts first old → MoreFacts first old → MoreFacts first new

abbrev pub LegalHasFacts : Type 0
LegalHasFacts = (start : FileState) (told : Bool) (entries : List Entry) → IsOpening start → IsLegal 0 told start entries → FileFacts start (state_after 0 start entries) × MoreFacts start (state_after 0 start entries)

-- ---- cuts

abbrev pub FrontIsLegal : Type 0
FrontIsLegal = (s : FileState) (told : Bool) (at : ℕ) (before after : List Entry) → IsLegal at told s (before ++ after) → IsLegal at told s before

abbrev pub RestIsLegal : Type 0
RestIsLegal = (s : FileState) (told : Bool) (at : ℕ) (before after : List Entry) → IsLegal at told s (before ++ after) → IsLegal (at + length before) told (state_after at s before) after

abbrev pub BothAreLegal : Type 0
BothAreLegal = (s : FileState) (told : Bool) (at : ℕ) (before after : List Entry) → IsLegal at told s before → IsLegal (at + length before) told (state_after at s before) after → IsLegal at told s (before ++ after)

abbrev pub StateAfterBoth : Type 0
StateAfterBoth = (s : FileState) (at : ℕ) (before after : List Entry) → state_after at s (before ++ after) ≡ state_after (at + length before) (state_after at s before) after

abbrev pub StateAfterOneMore : Type 0
StateAfterOneMore = (s : FileState) (at : ℕ) (before : List Entry) (entry : Entry) → state_after at s (before ++ entry ∷ []) ≡ after_entry (at + length before) (state_after at s before) entry

-- the entry at a position is a step from the state that the entries before it leave
abbrev pub EntryAtPosition : Type 0
EntryAtPosition = (s : FileState) (told : Bool) (at : ℕ) (before : List Entry) (entry : Entry) (after : List Entry) → IsLegal at told s (before ++ entry ∷ after) → IsEntry (at + length before) told (state_after at s before) entry

-- ---- the limit, and claimed places

abbrev pub IsClaim : Event → Type 0
IsClaim (Claim window places) = Unit {0}
IsClaim event = ⊥

abbrev pub StaysWithinLimit : Type 0
StaysWithinLimit = (s : FileState) (told : Bool) (at : ℕ) (entries : List Entry) → at + all_places s.claimed ≤ MOST_ENTRIES → IsLegal at told s entries → at + length entries + all_places (state_after at s entries).claimed ≤ MOST_ENTRIES

-- an event of a window that has claimed places left finds room, whatever else was claimed and done
abbrev pub ClaimedHasRoom : Type 0
ClaimedHasRoom = (at : ℕ) (s : FileState) (event : Event) (window : Window) → at + all_places s.claimed ≤ MOST_ENTRIES → window_of event ≡ Some window → (IsClaim event → ⊥) → 0 < places_left window s.claimed → HasRoom at s event

-- a claim adds its places to those that are left, another event uses one, a release gives them up
abbrev pub places_then : ℕ → Event → Reply → ℕ
places_then left (Claim window places) Claimed = left + places
places_then left (Claim window places) reply = left
places_then left (Release window) reply = 0
places_then left event reply = left - 1

abbrev pub ClaimsAreCounted : Type 0
ClaimsAreCounted = (old new : FileState) (told : Bool) (at who : ℕ) (event : Event) (reply : Reply) (window : Window) → WindowsRise old.claimed → Step at told old who event reply new → window_of event ≡ Some window
    → places_left window new.claimed ≡ places_then (places_left window old.claimed) event reply

abbrev pub ClaimsOfOthersStay : Type 0
ClaimsOfOthersStay = (old new : FileState) (told : Bool) (at who : ℕ) (event : Event) (reply : Reply) (window : Window) → Step at told old who event reply new → (window_of event ≡ Some window → ⊥)
    → places_left window new.claimed ≡ places_left window old.claimed

-- ---- whose entries they are

-- an event with a window is one of the window's own seat
abbrev pub WindowsAreOwn : Type 0
WindowsAreOwn = (s : FileState) (told : Bool) (at : ℕ) (before : List Entry) (entry : Entry) (after : List Entry) → IsLegal at told s (before ++ entry ∷ after) → IsOwn entry.who (window_of entry.event)

abbrev pub own_entries : ℕ → List Entry → List Entry
own_entries who entries = filter (λ entry. entry.who == who) entries

abbrev pub are_others : ℕ → List Entry → Bool
are_others who entries = list_all (λ entry. not (entry.who == who)) entries

abbrev pub OwnEntriesJoin : Type 0
OwnEntriesJoin = (who : ℕ) (before after : List Entry) → own_entries who (before ++ after) ≡ own_entries who before ++ own_entries who after

-- entries of others leave a seat's own entries, in their order
abbrev pub OthersKeepOwn : Type 0
OthersKeepOwn = (who : ℕ) (before after : List Entry) → are_others who after ≡ true → own_entries who (before ++ after) ≡ own_entries who before
