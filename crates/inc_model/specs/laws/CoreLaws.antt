-- What whoever keeps an executed core beside a history relies on: the core's conditions hold along every legal one.
use Rattle.std.specs.Prelude.{ℕ, ◌+◌, ◌^◌, ◌<◌, ◌≤◌, Bool, List, length}
use Rattle.inc_pending.specs.Keyed.{lookup}
use Rattle.inc_model.specs.declared.words.event.Event.{Event}
use Rattle.inc_model.specs.declared.words.file_state.FileState.{FileState}
use Rattle.inc_model.specs.declared.words.reply.Entry.{Entry}
use Rattle.inc_model.specs.declared.words.reply.Reply.{Reply}
use Rattle.inc_model.specs.relation.State.{Digests, all_places, IsOpening}
use Rattle.inc_model.specs.relation.Changes.{change}
use Rattle.inc_model.specs.relation.Step.{IsAllowed, IsLegal, needs, state_after}
use Rattle.inc_model.specs.relation.Facts.{FileFacts, IsShape, IsStart}
use Rattle.inc_model.specs.executed.CoreFacts.{IsHeld, IsWorkable}
use Rattle.inc_model.specs.executed.CoreState.{MayBegin}
use Rattle.inc_model.specs.executed.IndexLists.{HasNoOther}

-- a file as it is opened is one to begin from
abbrev pub OpeningIsStart : Type 0
OpeningIsStart = (s : FileState) → IsOpening s → IsShape s.n s.m → IsStart s

abbrev pub StartIsHeld : Type 0
StartIsHeld = (s : FileState) → IsStart s → IsHeld 0 s

abbrev pub StepStaysHeld : Type 0
StepStaysHeld = (told : Bool) (at : ℕ) (s : FileState) (who : ℕ) (event : Event) (reply : Reply) → IsAllowed at told s who event reply → IsHeld at s → IsHeld (at + 1) (change at s who event reply)

abbrev pub LegalStaysHeld : Type 0
LegalStaysHeld = (told : Bool) (s : FileState) (entries : List Entry) → IsStart s → IsLegal 0 told s entries → IsHeld (length entries) (state_after 0 s entries)

-- then every question has its answer, and the next serial fits
abbrev pub HeldIsWorkable : Type 0
HeldIsWorkable = (at : ℕ) (s : FileState) → IsHeld at s → IsWorkable s

abbrev pub HeldSerialsFit : Type 0
HeldSerialsFit = (at : ℕ) (s : FileState) → IsHeld at s → s.next + 1 < 2 ^ 32

-- an entry uses up one of the places that were claimed or that it needs beside them
abbrev pub EntriesTakePlaces : Type 0
EntriesTakePlaces = (at : ℕ) (s : FileState) (who : ℕ) (event : Event) (reply : Reply) → 1 + all_places (change at s who event reply).claimed ≤ all_places s.claimed + needs s.claimed event

-- beside a map, an index has no digest but this one
abbrev pub OneDigest : Digests → ℕ → List ℕ → Type 0
OneDigest digests index digest = HasNoOther digest (lookup index digests)

-- a gate's write begins only of an index that isn't in the map, so that slots with one digest each can take it
abbrev pub GatesBeginAlone : Type 0
GatesBeginAlone = (first s : FileState) (told : Bool) (at who : ℕ) (event : Event) (reply : Reply) → FileFacts first s → IsAllowed at told s who event reply → MayBegin OneDigest s event reply
