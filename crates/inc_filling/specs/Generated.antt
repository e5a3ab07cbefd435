-- What a fill with the pieces of a content does to a cell: all of them are in, in their order, or it has stopped.
use Rattle.std.specs.Prelude.{◌≡◌, ℕ, ◌+◌, ◌<◌, List, ◌++◌, slice_index_or, Result, Ok, Err}
use Rattle.inc_tree.specs.shape.Geometry.{data_blocks, hash_blocks, tree_of}
use Rattle.inc_entry.specs.declared.classes.Class.TheVariants.{Closed, Damaged}
use Rattle.inc_frame.specs.declared.piece.Piece.{Piece}
use Rattle.inc_layout.specs.declared.opened.Opened.{Opened}
use Rattle.inc_loader.specs.PiecesLeft.{left_of}
use Rattle.inc_loader.specs.declared.gen_loader.file_in_work.FileInWork.{FileInWork}
use Rattle.inc_model.specs.declared.words.event.Window.{Window}
use Rattle.inc_cell.specs.seen.Seen.{Seen}
use Rattle.inc_filling.specs.Filled.{AreIn, StopsBy}
use Rattle.inc_filling.specs.Pieces.{AreTaken}
use Rattle.inc_filling.specs.declared.from_stream.rounds.FillTotals.{FillTotals}
use Rattle.inc_filling.specs.declared.stop.FillStop.{FillStop}
use Rattle.inc_filling.specs.declared.stop.FillStop.TheVariants.{DiskFault, Failed, HistoryFull, OutOfMemory}

abbrev pub FillsAll : Seen → Window → List Piece → Result FillTotals FillStop → Seen → Type 0
FillsAll old window pieces (Ok totals) new = AreIn old window pieces totals.written totals.present new
FillsAll old window pieces (Err stop) new = StopsBy old window pieces stop new

-- it isn't for want of room in the history that it has stopped
abbrev pub IsNeverFull : {T : Type 0} → Result T FillStop → Type 0
IsNeverFull (Ok done) = Unit {0}
IsNeverFull (Err DiskFault) = Unit {0}
IsNeverFull (Err (Failed at)) = Unit {0}
IsNeverFull (Err (HistoryFull entries claimed)) = ⊥
IsNeverFull (Err OutOfMemory) = Unit {0}

-- ---- on its way

-- since the start those before what is left are in, with these totals
pub record IsFilledUpTo (start : Seen) (window : Window) (all left : List Piece) (written present : ℕ) (seen : Seen) : Type 0 where
  pub gave : List Piece
  pub all_are : all ≡ gave ++ left
  pub are_in : AreIn start window gave written present seen

-- a group more is in, or filling it has stopped
abbrev pub FillsFurther : {T : Type 0} → Seen → Window → List Piece → List Piece → ℕ → ℕ → Result T FillStop → Seen → Type 0
FillsFurther start window all left written present (Ok done) new = IsFilledUpTo start window all left written present new
FillsFurther start window all left written present (Err stop) new = StopsBy start window all stop new

-- ---- which files take a content

-- a file of this id and size with a tree, none of whose blocks is there
pub record IsNewFileOf (opened : Opened) (id : List ℕ) (size : ℕ) : Type 0 where
  pub id_is : opened.header.id ≡ id
  pub shape_is : opened.areas.geometry ≡ tree_of size
  pub all_closed : (i : ℕ) → i < data_blocks (tree_of size) + hash_blocks (tree_of size) → slice_index_or opened.classes i Damaged ≡ Closed

-- such a file takes all pieces of its content
abbrev pub NewFilesTakeContents : Type 0
NewFilesTakeContents = (opened : Opened) (content : FileInWork) → IsNewFileOf opened content.file.id content.file.size → AreTaken opened (left_of content)
