-- What a fill leaves of its file, and what a crash at any moment of it leaves.
--
-- At the start a fill syncs the file's disk. While that hasn't succeeded, nothing was written. Since then a crash leaves a file that keeps a
-- state which the fill's history has reached: each block that it acknowledged, perhaps some whose gates had begun, and no other new block.
use Rattle.std.specs.Prelude.{◌≡◌, ◌⊎◌, ℕ, suc, ◌<◌, ◌++◌, true, false, List, [], ◌∷◌, length, take, Option, Some, None, is_some, IfSome, option_map, Ok}
use Rattle.inc_disk.specs.Disk.{DiskState, settled}
use Rattle.inc_disk.specs.Laws.{EachImage}
use Rattle.inc_disk.specs.Log.{IsImageOf, Log, MayHaveLeftOf, contents_of, entries_of, newest_of}
use Rattle.inc_entry.specs.Entry.{area_places, entries}
use Rattle.inc_entry.specs.Stored.{stored_digest}
use Rattle.inc_frame.specs.Fronts.{stream_front}
use Rattle.inc_frame.specs.declared.piece.Piece.{Piece}
use Rattle.inc_layout.specs.state.Preserves.{Preserves}
use Rattle.inc_layout.specs.declared.opened.Opened.{Opened}
use Rattle.inc_model.specs.relation.State.{has}
use Rattle.inc_model.specs.relation.Step.{IsLegal, state_after}
use Rattle.inc_model.specs.declared.words.file_state.FileState.{FileState}
use Rattle.inc_model.specs.declared.words.reply.Entry.{Entry}
use Rattle.inc_cell.specs.laws.Runs.{KeepsFront}
use Rattle.inc_cell.specs.seen.Parts.{opening_of, parts_of}
use Rattle.inc_filling.specs.Grouped.{puts_among}
use Rattle.inc_filling.specs.Pieces.{piece_puts}
use Rattle.inc_filling.specs.Refusals.{taken_pieces}
use Rattle.inc_filling.specs.Stands.{events_of}
use Rattle.inc_recover.specs.Mounting.{counted}
use Rattle.inc_volume.specs.Verdicts.{verdict_of}
use Rattle.inc_cmd.specs.Commands.Fill.{fillable_of, keeps_own_id}

-- ---- the shelf

-- a name that isn't there stays so, and no other name changes
pub record ExtendsOnly (name : List ℕ) (before after : Log) : Type 0 where
  pub absent : is_some (newest_of name before) ≡ false → after ≡ before
  pub own : (states : List DiskState) × (after ≡ entries_of name states ++ before)

-- ---- the pieces

-- those of a stream, where the input tells it
abbrev pub stream_pieces : Option (List ℕ) → Option (List Piece)
stream_pieces given = option_map (λ bytes. (stream_front bytes).pieces) given

-- ---- the history

-- the file as it was opened, with no reader
abbrev pub fill_opening : Opened → FileState
fill_opening opened = opening_of opened 0 0

-- its puts are, in order, those of the first so many of the pieces that the file takes, each with its index and the digest of its padded block
pub record PutsPieces (opened : Opened) (history : List Entry) (pieces : List Piece) : Type 0 where
  pub count : ℕ
  pub puts_are : puts_among (events_of history) ≡ piece_puts opened (take count (taken_pieces opened pieces))

-- It is legal from the opening of the file, and puts pieces of these, where they are told.
pub record IsFillHistory (opened : Opened) (pieces : Option (List Piece)) (history : List Entry) : Type 0 where
  pub legal : IsLegal 0 true (fill_opening opened) history
  pub puts : IfSome pieces (PutsPieces (counted opened) history)

-- ---- what a crash leaves

-- whatever is left of the file since the start of the call might have been left of it then
abbrev pub LeavesOld : List ℕ → Log → Log → Type 0
LeavesOld name before after = (image : Option (List ℕ)) → MayHaveLeftOf name (length before) after image → IsImageOf (newest_of name before) image

abbrev pub KeepsReached : Opened → List Entry → Option (List ℕ) → Type 0
KeepsReached opened history None = ⊥
KeepsReached opened history (Some image) = KeepsFront (fill_opening opened) 0 history image

-- The first sync has succeeded, and nothing was written before it. Whatever is left since then keeps a state that the history has reached.
pub record LeavesReached (name : List ℕ) (pieces : Option (List Piece)) (before after : Log) : Type 0 where
  pub first : DiskState
  pub stood : newest_of name before ≡ Some first
  pub opened : Opened
  pub judged : fillable_of first.reads ≡ Ok opened
  pub later : List DiskState
  pub synced : after ≡ entries_of name (later ++ (settled first.reads ∷ first ∷ [])) ++ before
  pub history : List Entry
  pub is_history : IsFillHistory opened pieces history
  pub each : (image : Option (List ℕ)) → MayHaveLeftOf name (suc (suc (length before))) after image → KeepsReached opened history image

abbrev pub LeavesFilled : List ℕ → Option (List Piece) → Log → Log → Type 0
LeavesFilled name pieces before after = LeavesOld name before after ⊎ LeavesReached name pieces before after

-- ---- what a fill leaves that has come to its end

-- Whatever a crash now leaves keeps the state after this history, and in it each block that is open is acknowledged.
pub record KeepsAllOpen (opened : Opened) (opening : FileState) (history : List Entry) (now : DiskState) : Type 0 where
  pub keeps : EachImage now (λ image. Preserves image (parts_of (state_after 0 opening history)))
  pub acknowledged : (i : ℕ) → i < entries (area_places opened.areas) → is_some (stored_digest (area_places opened.areas) now.reads i) ≡ true → has i (state_after 0 opening history).acknowledged ≡ true

pub record EndsAcknowledged (opened : Opened) (pieces : Option (List Piece)) (now : DiskState) : Type 0 where
  pub history : List Entry
  pub is_history : IsFillHistory opened pieces history
  pub holds : KeepsAllOpen opened (fill_opening opened) history now

-- of a file that was mounted: the name keeps its id, and the file may be filled
abbrev pub EndsSettled : List ℕ → Option (List Piece) → Log → Log → Type 0
EndsSettled name pieces before after =
    keeps_own_id (verdict_of (contents_of before) name) ≡ true → (first : DiskState) (opened : Opened) → newest_of name before ≡ Some first → fillable_of first.reads ≡ Ok opened → (now : DiskState) × (newest_of name after ≡ Some now) × EndsAcknowledged opened pieces now
