-- What a read answers: by its seat's own entries, by what its file lacked at its ask, and by the class of its block.
use Rattle.std.specs.Prelude.{◌≡◌, ◌⊎◌, ℕ, ◌+◌, ◌<◌, ◌≤◌, false, List, [], ◌∷◌, ◌++◌, length, nat_le, slice_index_or, if◌then◌else◌, Option, Some, None, Result, Err}
use Rattle.inc_tree.specs.shape.Geometry.{data_blocks}
use Rattle.inc_entry.specs.Stored.{is_compressed_class, is_damaged_class}
use Rattle.inc_entry.specs.declared.classes.Class.TheVariants.{Closed}
use Rattle.inc_layout.specs.declared.opened.Opened.{Opened}
use Rattle.inc_model.specs.relation.Polling.{hash_on_path, is_hash_there, levels_over}
use Rattle.inc_model.specs.relation.State.{Digests, is_in}
use Rattle.inc_model.specs.relation.Step.{IsLegal, state_after}
use Rattle.inc_model.specs.declared.words.file_state.FileState.{FileState}
use Rattle.inc_model.specs.declared.words.outcomes.Found.{Found}
use Rattle.inc_model.specs.declared.words.outcomes.ReadError.{ReadError}
use Rattle.inc_model.specs.declared.words.outcomes.ReadError.TheVariants as refused
use Rattle.inc_model.specs.declared.words.reply.Entry.{Entry}
use Rattle.inc_model.specs.declared.words.reply.Reply.{Reply}
use Rattle.inc_model.specs.declared.words.reply.Reply.TheVariants.{Asked, Compressed, Damaged}
use Rattle.inc_cell.specs.laws.Laws.{BeginsAs}
use Rattle.inc_cell.specs.declared.machine.CellFooting.{CellFooting}
use Rattle.inc_turn.specs.Views.{heard}
use Rattle.inc_turn.specs.declared.view.View.{View}
use Rattle.inc_handle.specs.Reads.{ReadTold, ask_entry}

-- ---- the history

-- the history that a seat of this file has seen is legal, from what the mount of the file found
pub record HasSeenLegal (footing : CellFooting) (w : View CellFooting) : Type 0 where
  pub floor : w.footing ≡ Some footing
  pub begins : BeginsAs footing.opened footing.opening
  pub legal : IsLegal 0 footing.told footing.opening (heard w)

-- ---- what was lacking at the ask

-- The ask of this read with this reply, past all that the seat had seen before. Before it stand the entries `front`.
pub record AskedAt (v w : View CellFooting) (index uid : ℕ) (reply : Reply) : Type 0 where
  pub moment : ℕ
  pub front : List Entry
  pub rest : List Entry
  pub heard_is : heard w ≡ front ++ ask_entry v.number index uid moment reply ∷ rest
  pub since : length (heard v) ≤ length front

-- in the file's state at the ask this was lacking
pub record LacksAtAsk (footing : CellFooting) (v w : View CellFooting) (index uid : ℕ) (reply : Reply) (Lacks : FileState → Type 0) : Type 0 where
  pub asked : AskedAt v w index uid reply
  pub lacks : Lacks (state_after 0 footing.opening asked.front)

abbrev pub LacksBlock : ℕ → FileState → Type 0
LacksBlock index s = is_in index s.map ≡ false

-- the hash block with this number stands on the block's path, and wasn't in the map
pub record LacksOnPath (n m : ℕ) (digests : Digests) (index hash : ℕ) : Type 0 where
  pub level : ℕ
  pub within : level < levels_over n m
  pub is : hash ≡ hash_on_path n m index level
  pub absent : is_hash_there n m digests index level ≡ false

abbrev pub LacksHash : ℕ → ℕ → FileState → Type 0
LacksHash index hash s = LacksOnPath s.n s.m s.map index hash

-- A read of a block that is in the map at its ask, with all hash blocks of its path, is answered by the block, or by where its path breaks,
-- but for a disk that fails, a full history and want of memory.
abbrev pub ReadLacks : CellFooting → View CellFooting → View CellFooting → ℕ → ℕ → Result Found ReadError → Type 0
ReadLacks footing v w index uid (Err (refused.TimedOut serial deadline moment at)) = LacksAtAsk footing v w index uid (Asked serial) (LacksBlock index)
ReadLacks footing v w index uid (Err (refused.PathAbsent hash at)) = (serial : ℕ) × LacksAtAsk footing v w index uid (Asked serial) (LacksHash index hash)
ReadLacks footing v w index uid (Err refused.Damaged) = LacksAtAsk footing v w index uid Damaged (LacksBlock index)
ReadLacks footing v w index uid (Err refused.Compressed) = LacksAtAsk footing v w index uid Compressed (LacksBlock index)
ReadLacks footing v w index uid result = Unit {0}

-- ---- blocks that no read is asked for

-- the first cause by which a file has no such data block to read, by what its mount found
abbrev pub block_refusal : Opened → ℕ → Option ReadError
block_refusal opened index =
    if nat_le (data_blocks opened.areas.geometry) index then Some refused.OutOfRange
    else if is_damaged_class (slice_index_or opened.classes index Closed) then Some refused.Damaged
    else if is_compressed_class (slice_index_or opened.classes index Closed) then Some refused.Compressed else None

-- Exactly these reads are refused so, where the history has a place for the ask and memory is there.
abbrev pub IsRefusedFor : Opened → ℕ → Result Found ReadError → Type 0
IsRefusedFor opened index (Err refused.OutOfRange) = block_refusal opened index ≡ Some refused.OutOfRange
IsRefusedFor opened index (Err refused.Damaged) = block_refusal opened index ≡ Some refused.Damaged
IsRefusedFor opened index (Err refused.Compressed) = block_refusal opened index ≡ Some refused.Compressed
IsRefusedFor opened index (Err (refused.HistoryFull entries claimed)) = Unit {0}
IsRefusedFor opened index (Err refused.OutOfMemory) = Unit {0}
IsRefusedFor opened index result = block_refusal opened index ≡ None

-- ---- the whole answer

pub record ReadAnswers (may : ℕ → Type 0) (footing : CellFooting) (v w : View CellFooting) (index uid : ℕ) (result : Result Found ReadError) : Type 0 where
  -- the seat's own entries
  pub told : ReadTold may footing v w index uid result
  -- the history of which they are entries; a read that finds no memory before its ask has seen nothing
  pub legal : (w ≡ v) ⊎ HasSeenLegal footing w
  pub lacks : ReadLacks footing v w index uid result
  pub refused_for : IsRefusedFor footing.opened index result

-- ---- several reads, one after the other

-- one answer for each index, in order
abbrev pub ReadsEach : (ℕ → Type 0) → CellFooting → View CellFooting → View CellFooting → ℕ → ℕ → List (Result Found ReadError) → Type 0
ReadsEach may footing v w index uid [] = w ≡ v
ReadsEach may footing v w index uid (answer ∷ answers) = (u : View CellFooting) × ReadAnswers may footing v u index uid answer × ReadsEach may footing u w (index + 1) uid answers
