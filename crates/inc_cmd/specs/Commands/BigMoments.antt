-- What `big` leaves of its file, and what a crash at any moment of it leaves.
--
-- First the file is made: a crash leaves none, or bytes that are refused by their first ones, or the whole new file. From the moment at which
-- it stands whole a crash leaves a file that keeps a state which the history of its fill has reached.
use Rattle.std.specs.Prelude.{◌≡◌, ◌⊎◌, ℕ, suc, ◌+◌, ◌<◌, ◌≤◌, ◌++◌, false, List, ◌∷◌, length, Option, Some, is_some, Ok}
use Rattle.inc_disk.specs.Disk.{DiskState, settled}
use Rattle.inc_disk.specs.Log.{Log, MayHaveLeftOf, entries_of, newest_of}
use Rattle.inc_frame.specs.declared.piece.Piece.{Piece}
use Rattle.inc_layout.specs.declared.opened.Opened.{Opened}
use Rattle.inc_model.specs.declared.words.reply.Entry.{Entry}
use Rattle.inc_tree.specs.shape.Limits.{most_size}
use Rattle.inc_cmd.specs.Commands.Big.{big_filled, big_fresh, big_pieces}
use Rattle.inc_cmd.specs.Commands.Fill.{fillable_of}
use Rattle.inc_cmd.specs.Commands.FillMoments.{EndsAcknowledged, IsFillHistory, KeepsReached}
use Rattle.inc_cmd.specs.Commands.Make.{AddsOnly, LeavesNew}

-- a file that is there stays, for too large a size nothing changes, and no other name changes in any case
pub record AddsBig (name : List ℕ) (size : ℕ) (before after : Log) : Type 0 where
  pub adds : AddsOnly name before after
  pub too_large : most_size < size → after ≡ before

-- The new file stood whole, and until then a crash left what it may leave of a make. Since then whatever is left keeps a state that the
-- history has reached.
pub record LeavesGrown (name fresh : List ℕ) (pieces : List Piece) (before after : Log) : Type 0 where
  pub making : List DiskState
  pub later : List DiskState
  pub parts : after ≡ entries_of name (later ++ (settled fresh ∷ making)) ++ before
  pub made : LeavesNew name fresh before (entries_of name (settled fresh ∷ making) ++ before)
  pub opened : Opened
  pub judged : fillable_of fresh ≡ Ok opened
  pub history : List Entry
  pub is_history : IsFillHistory opened (Some pieces) history
  pub each : (image : Option (List ℕ)) → MayHaveLeftOf name (suc (length making) + length before) after image → KeepsReached opened history image

abbrev pub LeavesBig : List ℕ → List ℕ → List Piece → Log → Log → Type 0
LeavesBig name fresh pieces before after = LeavesNew name fresh before after ⊎ LeavesGrown name fresh pieces before after

-- ---- once it isn't stopped from outside

-- of a file that was made, which stands with each block that is open acknowledged
abbrev pub SettlesNew : List ℕ → List ℕ → List Piece → Log → Log → Type 0
SettlesNew name fresh pieces before after =
    is_some (newest_of name before) ≡ false → (opened : Opened) → fillable_of fresh ≡ Ok opened → (now : DiskState) × (newest_of name after ≡ Some now) × EndsAcknowledged opened (Some pieces) now

abbrev pub SettlesBig : List ℕ → ℕ → ℕ → Log → Log → Type 0
SettlesBig name number size before after = size ≤ most_size → SettlesNew name (big_fresh number size) (big_pieces number size) before after

-- the file with all of its content stands under the name
pub record Stores (name bytes : List ℕ) (after : Log) : Type 0 where
  pub now : DiskState
  pub newest : newest_of name after ≡ Some now
  pub reads_is : now.reads ≡ bytes

abbrev pub IsBigMade : List ℕ → ℕ → ℕ → Log → Type 0
IsBigMade name number size after = Stores name (big_filled number size).bytes after
