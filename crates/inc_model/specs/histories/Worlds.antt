-- Runs with crashes. A run is a list of moves, each an entry of the history or a crash after which the file is opened again. So a run of
-- rounds, of which each is a legal history that ends with a crash or not, is the list of their moves.
use Rattle.std.specs.Prelude.{◌≡◌, ◌⊎◌, ℕ, ◌+◌, Bool, true, List, [], ◌∷◌, length, map, Some}
use Rattle.inc_pending.specs.Keyed.{lookup}
use Rattle.inc_model.specs.declared.words.file_state.FileState.{FileState}
use Rattle.inc_model.specs.declared.words.reply.Entry.{Entry}
use Rattle.inc_model.specs.relation.State.{has, IsSameFile, IsOpening}
use Rattle.inc_model.specs.relation.Step.{IsEntry, IsLegal, after_entry, state_after}

-- What a crash in this state may leave to be opened: each acknowledged index with its digest, perhaps some indices whose gate write began,
-- with theirs, and no other. There are no reads, no flight and no claims then, since nothing of them is on the device.
pub record IsReopening (s t : FileState) : Type 0 where
  pub opening : IsOpening t
  pub same : IsSameFile s t
  pub kept : (index : ℕ) (digest : List ℕ) → has index s.acknowledged ≡ true → lookup index s.map ≡ Some digest → lookup index t.map ≡ Some digest
  pub only : (index : ℕ) (digest : List ℕ) → lookup index t.map ≡ Some digest → ((has index s.acknowledged ≡ true) × (lookup index s.map ≡ Some digest)) ⊎ (lookup index s.begun ≡ Some digest)

-- a state, and how many entries stand before it since the last crash
pub record Moment : Type 0 where
  pub at : ℕ
  pub state : FileState

pub data Move : Type 0 where
  Does : Entry → Move
  Crashes : FileState → Move

abbrev pub beginning : FileState → Moment
beginning s = record { at = 0; state = s }

abbrev pub after_move : Moment → Move → Moment
after_move now (Does entry) = record { at = now.at + 1; state = after_entry now.at now.state entry }
after_move now (Crashes reopened) = beginning reopened

abbrev pub MayMove : Bool → Moment → Move → Type 0
MayMove told now (Does entry) = IsEntry now.at told now.state entry
MayMove told now (Crashes reopened) = IsReopening now.state reopened

abbrev pub world_after : Moment → List Move → Moment
world_after now [] = now
world_after now (move ∷ moves) = world_after (after_move now move) moves

abbrev pub IsWorld : Bool → Moment → List Move → Type 0
IsWorld told now [] = Unit {0}
IsWorld told now (move ∷ moves) = MayMove told now move × IsWorld told (after_move now move) moves

-- ---- a history is a run without a crash

abbrev pub moves_of : List Entry → List Move
moves_of entries = map (λ entry. Does entry) entries

abbrev pub HistoryIsWorld : Type 0
HistoryIsWorld = (told : Bool) (now : Moment) (entries : List Entry) → IsLegal now.at told now.state entries → IsWorld told now (moves_of entries)

abbrev pub WorldIsHistory : Type 0
WorldIsHistory = (told : Bool) (now : Moment) (entries : List Entry) → IsWorld told now (moves_of entries) → IsLegal now.at told now.state entries

-- and the run ends where the history does
abbrev pub WorldEndsAsHistory : Type 0
WorldEndsAsHistory = (now : Moment) (entries : List Entry) → world_after now (moves_of entries) ≡ record { at = now.at + length entries; state = state_after now.at now.state entries }
