-- Which event with which reply is a step, and which list of entries is a legal history.
--
-- `at` is the number of entries before this one in its history, and `told` says whether the file's device tells what it holds.
use Rattle.std.specs.Prelude.{◌≡◌, ◌⊎◌, ℕ, ◌+◌, ◌-◌, ◌^◌, ◌<◌, ◌≤◌, Bool, true, false, List, [], ◌∷◌, Option, Some, None, ◌==◌, if◌then◌else◌}
use Rattle.inc_model.specs.declared.words.event.Event.{Event}
use Rattle.inc_model.specs.declared.words.event.Event.TheVariants.{Claim}
use Rattle.inc_model.specs.declared.words.event.Window.{Window}
use Rattle.inc_model.specs.declared.words.file_state.FileState.{FileState}
use Rattle.inc_model.specs.declared.words.limits.TheConstants.{MOST_ENTRIES}
use Rattle.inc_model.specs.declared.words.reply.Entry.{Entry}
use Rattle.inc_model.specs.declared.words.reply.Reply.{Reply}
use Rattle.inc_model.specs.declared.words.reply.Reply.TheVariants.{Handed, NotYet, Fault, Put, Placed, Settled, Gated}
use Rattle.inc_model.specs.relation.State.{Claims, places_left, all_places}
use Rattle.inc_model.specs.relation.Table.{reply_of}
use Rattle.inc_model.specs.relation.Changes.{window_of, change}

-- ---- whose event it is

abbrev pub IsOwn : ℕ → Option Window → Type 0
IsOwn who None = Unit {0}
IsOwn who (Some window) = window.who ≡ who

-- ---- room in the history

-- an event of a window that has places left needs no other
abbrev pub needs_beside : Claims → Option Window → ℕ
needs_beside claimed None = 1
needs_beside claimed (Some window) = if places_left window claimed == 0 then 1 else 0

abbrev pub needs : Claims → Event → ℕ
needs claimed (Claim window places) = 1 + places
needs claimed event = needs_beside claimed (window_of event)

abbrev pub HasRoom : ℕ → FileState → Event → Type 0
HasRoom at s event = at + all_places s.claimed + needs s.claimed event ≤ MOST_ENTRIES

-- ---- which replies are right

abbrev pub IsPut : List ℕ → Reply → Type 0
IsPut digest (Put place wanted) = digest ≡ wanted
IsPut digest reply = ⊥

-- over a device that tells nothing the bytes that it hands out may be any
abbrev pub IsHanded : Bool → List ℕ → Reply → Type 0
IsHanded told digest (Handed wanted) = told ≡ true → digest ≡ wanted
IsHanded told digest reply = ⊥

-- the reply that was given is the table's, but for the place of a block that was put
abbrev pub Agrees : Bool → Reply → Reply → Type 0
Agrees told wanted (Put place digest) = IsPut digest wanted
Agrees told wanted (Handed digest) = IsHanded told digest wanted
Agrees told wanted reply = wanted ≡ reply

-- the replies for which the device has to write, sync or read
abbrev pub may_fail : Reply → Bool
may_fail (Put place digest) = true
may_fail Placed = true
may_fail Settled = true
may_fail (Gated waiting) = true
may_fail (Handed digest) = true
may_fail reply = false

-- a device call that failed raised the count of faults, which stops at the greatest number
abbrev pub Fits : Bool → ℕ → Reply → Reply → Type 0
Fits told faults wanted (Fault count) = (may_fail wanted ≡ true) × ((faults < count) ⊎ (count ≡ 2 ^ 64 - 1))
Fits told faults wanted reply = Agrees told wanted reply

-- ---- steps

pub record IsAllowed (at : ℕ) (told : Bool) (s : FileState) (who : ℕ) (event : Event) (reply : Reply) : Type 0 where
  pub own : IsOwn who (window_of event)
  pub room : HasRoom at s event
  pub fits : Fits told s.faults (reply_of s who event) reply

pub record Step (at : ℕ) (told : Bool) (old : FileState) (who : ℕ) (event : Event) (reply : Reply) (new : FileState) : Type 0 where
  pub allowed : IsAllowed at told old who event reply
  pub after : new ≡ change at old who event reply

-- ---- histories

-- a reply that leaves an entry
abbrev pub IsKept : Reply → Type 0
IsKept NotYet = ⊥
IsKept reply = Unit {0}

pub record IsEntry (at : ℕ) (told : Bool) (s : FileState) (entry : Entry) : Type 0 where
  pub allowed : IsAllowed at told s entry.who entry.event entry.reply
  pub kept : IsKept entry.reply

abbrev pub after_entry : ℕ → FileState → Entry → FileState
after_entry at s entry = change at s entry.who entry.event entry.reply

abbrev pub state_after : ℕ → FileState → List Entry → FileState
state_after at s [] = s
state_after at s (entry ∷ entries) = state_after (at + 1) (after_entry at s entry) entries

-- each entry is a step from the state that the entries before it leave
abbrev pub IsLegal : ℕ → Bool → FileState → List Entry → Type 0
IsLegal at told s [] = Unit {0}
IsLegal at told s (entry ∷ entries) = IsEntry at told s entry × IsLegal (at + 1) told (after_entry at s entry) entries
