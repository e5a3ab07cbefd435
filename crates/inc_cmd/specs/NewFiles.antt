-- What `big` does to the disk of its new file, from where it is lent empty to where it is given back.
use Rattle.std.specs.Prelude.{◌≡◌, ◌⊎◌, ℕ, suc, ◌&&◌, ◌==◌, nat_eq, Bool, true, false, ◌++◌, List, [], ◌∷◌, length, Option, Some, None, is_some, IfSome, Result, Ok, Err, IfOk}
use Rattle.std.specs.List.{list_all}
use Rattle.std.specs.Cmp.Lexicographic.{pointwise}
use Rattle.inc_disk.specs.Disk.{DiskState, Now, reads_of, settled}
use Rattle.inc_disk.specs.Laws.{HoldsSince, LeavesOnly}
use Rattle.inc_entry.specs.declared.classes.Class.{Class}
use Rattle.inc_entry.specs.declared.classes.Class.TheVariants as class
use Rattle.inc_frame.specs.declared.piece.Piece.{Piece}
use Rattle.inc_layout.specs.declared.opened.Opened.{Opened}
use Rattle.inc_loader.specs.declared.loader_file.LoaderFile.{LoaderFile}
use Rattle.inc_model.specs.relation.Step.{IsLegal}
use Rattle.inc_model.specs.declared.words.reply.Entry.{Entry}
use Rattle.inc_cell.specs.laws.Runs.{KeepsFront}
use Rattle.inc_cell.specs.seen.Seen.{Seen, tells}
use Rattle.inc_recover.specs.Making.{MayBeLeft}
use Rattle.inc_filling.specs.Contents.{FilledFile, filled_file}
use Rattle.inc_filling.specs.declared.from_stream.rounds.FillTotals.{FillTotals}
use Rattle.inc_filling.specs.declared.stop.FillStop.{FillStop}
use Rattle.inc_filling.specs.declared.stop.FillStop.TheVariants as halt
use Rattle.inc_words.specs.Endings.{EndsAs, refused}
use Rattle.inc_words.specs.Refusals.{exists}
use Rattle.inc_words.specs.declared.outcome.CommandOutcome.{CommandOutcome}
use Rattle.inc_words.specs.declared.stop.Stop.{Stop}
use Rattle.inc_words.specs.declared.stop.Stop.TheVariants.{Fault, OutOfMemory}
use Rattle.inc_cmd.specs.Commands.Big.{big_ending, filled_fresh}
use Rattle.inc_cmd.specs.Commands.Check.{check_ending}
use Rattle.inc_cmd.specs.Commands.Fill.{fillable_of}
use Rattle.inc_cmd.specs.Commands.FillMoments.{EndsAcknowledged, IsFillHistory, KeepsAllOpen, PutsPieces, fill_opening}

-- ---- the file that is mounted

abbrev pub is_closed_class : Class → Bool
is_closed_class class.Closed = true
is_closed_class (class.OpenAt place len) = false
is_closed_class class.Compressed = false
is_closed_class class.Damaged = false

-- it is a signed file of this id and size, none of whose blocks is there
abbrev pub is_file_for : LoaderFile → Opened → Bool
is_file_for file opened = pointwise nat_eq opened.header.id file.id && (opened.header.size == file.size && (is_some opened.sig && list_all is_closed_class opened.classes))

-- ---- a cell

-- the disk reads as this file, of which so many pieces were stored
pub record ReadsFilled (filled : FilledFile) (written : ℕ) (reads : Option (List ℕ)) : Type 0 where
  pub reads_is : reads ≡ Some filled.bytes
  pub written_is : written ≡ filled.written

-- A disk that tells what it holds never reads as another file than the one that was made.
abbrev pub HoldsAllOf : FilledFile → Option (List ℕ) → Option ℕ → Type 0
HoldsAllOf filled reads None = ⊥
HoldsAllOf filled reads (Some written) = ReadsFilled filled written reads

-- a content goes into a new cell, whose disk comes back in these states
pub record FillsContent (old : Seen) (new : List DiskState) (pieces : List Piece) (result : Result (Option ℕ) Stop) : Type 0 where
  pub history : List Entry
  pub legal : IsLegal 0 (tells new) old.opening history
  pub puts : PutsPieces old.opened history pieces
  pub runs : (new ≡ old.states) ⊎ LeavesOnly old.states new (KeepsFront old.opening 0 history)
  pub contents : (bytes : List ℕ) → reads_of old.states ≡ Some bytes → IfOk result (HoldsAllOf (filled_file old.opened bytes pieces) (reads_of new))
  pub settled : IfOk result (λ written. Now new (KeepsAllOpen old.opened old.opening history))

-- a file that had failed before is no case of a fill of a new cell
abbrev pub HadNoFault : Result FillTotals FillStop → Type 0
HadNoFault (Ok totals) = Unit {0}
HadNoFault (Err halt.DiskFault) = Unit {0}
HadNoFault (Err (halt.Failed at)) = ⊥
HadNoFault (Err (halt.HistoryFull entries claimed)) = Unit {0}
HadNoFault (Err halt.OutOfMemory) = Unit {0}

-- how many pieces were stored, or what has stopped the fill
abbrev pub TellsTotals : Result FillTotals FillStop → Result (Option ℕ) Stop → Type 0
TellsTotals (Ok totals) result = result ≡ Ok (Some totals.written)
TellsTotals (Err halt.DiskFault) result = result ≡ Err Fault
TellsTotals (Err (halt.Failed at)) result = ⊥
TellsTotals (Err (halt.HistoryFull entries claimed)) result = ⊥
TellsTotals (Err halt.OutOfMemory) result = result ≡ Err OutOfMemory

-- ---- a file that was made

-- since these states, of which the newest is that of the whole new file
pub record FillsMade (fresh : List ℕ) (pieces : List Piece) (making new : List DiskState) (result : Result (Option ℕ) Stop) : Type 0 where
  pub later : List DiskState
  pub grew : new ≡ later ++ (settled fresh ∷ making)
  pub filled : IfOk result (HoldsAllOf (filled_fresh pieces fresh) (reads_of new))
  pub opened : Opened
  pub judged : fillable_of fresh ≡ Ok opened
  pub history : List Entry
  pub is_history : IsFillHistory opened (Some pieces) history
  pub each : HoldsSince (suc (length making)) new (KeepsFront (fill_opening opened) 0 history)
  pub at_rest : IfOk result (λ written. Now new (EndsAcknowledged opened (Some pieces)))

-- ---- an empty disk

-- it was made whole, and then filled
pub record GrewSince (fresh : List ℕ) (pieces : List Piece) (new : List DiskState) : Type 0 where
  pub making : List DiskState
  pub later : List DiskState
  pub parts : new ≡ later ++ (settled fresh ∷ making)
  pub made : LeavesOnly (settled [] ∷ []) (settled fresh ∷ making) (MayBeLeft fresh)
  pub opened : Opened
  pub judged : fillable_of fresh ≡ Ok opened
  pub history : List Entry
  pub is_history : IsFillHistory opened (Some pieces) history
  pub each : HoldsSince (suc (length making)) new (KeepsFront (fill_opening opened) 0 history)

pub record FillsNew (fresh : List ℕ) (pieces : List Piece) (new : List DiskState) (result : Result (Option ℕ) Stop) : Type 0 where
  pub grew : (more : List DiskState) × (new ≡ more ++ (settled [] ∷ []))
  pub filled : IfOk result (HoldsAllOf (filled_fresh pieces fresh) (reads_of new))
  pub moments : LeavesOnly (settled [] ∷ []) new (MayBeLeft fresh) ⊎ GrewSince fresh pieces new
  pub at_rest : IfOk result (λ written. (opened : Opened) → fillable_of fresh ≡ Ok opened → Now new (EndsAcknowledged opened (Some pieces)))

-- ---- what is told

-- a check of the disk's file is told with how many blocks were stored; where another file stands there its name is refused
abbrev pub TellsBig : List ℕ → LoaderFile → Option (List ℕ) → Result (Option ℕ) Stop → Result CommandOutcome Stop → Type 0
TellsBig name file reads (Ok None) result = IfOk result (EndsAs (refused name exists))
TellsBig name file reads (Ok (Some written)) result = IfSome reads (λ bytes. IfOk result (EndsAs (big_ending name file written (check_ending name (Some file.root) bytes))))
TellsBig name file reads (Err stop) result = result ≡ Err stop
