-- What a loader's drive leaves in the histories of its files: its own entries, in the order in which they were made, each with its file.
use Rattle.std.specs.Prelude.{◌≡◌, ℕ, ◌+◌, ◌-◌, ◌^◌, ◌==◌, Bool, true, false, if◌then◌else◌, List, [], ◌∷◌, ◌++◌, map, Option, Some, None, bytes_eq}
use Rattle.inc_tree.specs.shape.Geometry.{tree_of}
use Rattle.inc_pending.specs.declared.pending_record.PendingRecord.{PendingRecord}
use Rattle.inc_loader.specs.declared.loader_file.LoaderFile.{LoaderFile}
use Rattle.inc_loader.specs.declared.mark.PieceMark.{PieceMark}
use Rattle.inc_model.specs.declared.words.event.Event.{Event}
use Rattle.inc_model.specs.declared.words.event.Event.TheVariants.{Claim, Gate, PutData, PutPlace, Release, Settle, TakePending}
use Rattle.inc_model.specs.declared.words.reply.Entry.{Entry}
use Rattle.inc_model.specs.declared.words.reply.Reply.{Reply}
use Rattle.inc_model.specs.declared.words.reply.Reply.TheVariants as reply
use Rattle.inc_cell.specs.events.Pieces.{piece_index}

-- each of the list is so
abbrev pub EachOf : {X : Type 0} → (X → Type 0) → List X → Type 0
EachOf P [] = Unit {0}
EachOf P (x ∷ xs) = P x × EachOf P xs

-- an entry in the history of the file with this number
pub record Deed : Type 0 where
  pub file : ℕ
  pub entry : Entry

abbrev pub deeds_of : ℕ → List Entry → List Deed
deeds_of file [] = []
deeds_of file (entry ∷ entries) = record { file = file; entry = entry } ∷ deeds_of file entries

-- those in the history of one file
abbrev pub entries_at : ℕ → List Deed → List Entry
entries_at file [] = []
entries_at file (deed ∷ deeds) = if deed.file == file then deed.entry ∷ entries_at file deeds else entries_at file deeds

-- ---- reads

abbrev pub records_in : Reply → List PendingRecord
records_in (reply.Taken records readers) = records
records_in given = []

-- the reads that were taken, of all files, in their order
abbrev pub reads_taken : List Deed → List PendingRecord
reads_taken [] = []
reads_taken (deed ∷ deeds) = records_in deed.entry.reply ++ reads_taken deeds

-- the serial of the last of them, or the one before where there is none
abbrev pub serial_after : ℕ → List PendingRecord → ℕ
serial_after serial [] = serial
serial_after serial (read ∷ reads) = serial_after read.serial reads

-- the reads are taken after this serial, and all of them
abbrev pub AsksAfter : ℕ → Event → Type 0
AsksAfter serial (TakePending after most) = (after ≡ serial) × (most ≡ 2 ^ 32 - 1)
AsksAfter serial event = Unit {0}

-- no read is taken twice: each time those after the last one that was taken before
abbrev pub AsksOnward : ℕ → List Entry → Type 0
AsksOnward serial [] = Unit {0}
AsksOnward serial (entry ∷ entries) = AsksAfter serial entry.event × AsksOnward (serial_after serial (records_in entry.reply)) entries

-- the last serial after these entries
abbrev pub serial_of : ℕ → List Entry → ℕ
serial_of serial [] = serial
serial_of serial (entry ∷ entries) = serial_of (serial_after serial (records_in entry.reply)) entries

abbrev pub is_take : Event → Bool
is_take (TakePending after most) = true
is_take event = false

-- how often the reads of a file were taken
abbrev pub takes_in : List Entry → ℕ
takes_in [] = 0
takes_in (entry ∷ entries) = if is_take entry.event then takes_in entries + 1 else takes_in entries

-- the readers that were left when the reads were taken the last time
abbrev pub readers_in : Option ℕ → Reply → Option ℕ
readers_in before (reply.Taken records readers) = Some readers
readers_in before given = before

abbrev pub readers_left : Option ℕ → List Entry → Option ℕ
readers_left before [] = before
readers_left before (entry ∷ entries) = readers_left (readers_in before entry.reply) entries

-- ---- puts

-- a block of the file with this number
pub record PutTarget : Type 0 where
  pub file : ℕ
  pub index : ℕ
  pub digest : List ℕ

abbrev pub put_target_in : ℕ → Event → List PutTarget
put_target_in file (PutData window index digest) = record { file = file; index = index; digest = digest } ∷ []
put_target_in file event = []

-- the blocks that were put, in their order
abbrev pub puts_in : List Deed → List PutTarget
puts_in [] = []
puts_in (deed ∷ deeds) = put_target_in deed.file deed.entry.event ++ puts_in deeds

-- the number of the first file with this id
abbrev pub place_from : ℕ → List LoaderFile → List ℕ → Option ℕ
place_from file [] id = None
place_from file (known ∷ files) id = if bytes_eq known.id id then Some file else place_from (file + 1) files id

-- the block that a given piece is: of the first file with its id
abbrev pub put_target_from : ℕ → List LoaderFile → PieceMark → Option PutTarget
put_target_from file [] mark = None
put_target_from file (known ∷ files) mark = if bytes_eq known.id mark.id
    then Some (record { file = file; index = piece_index (tree_of known.size) mark.hash mark.number; digest = mark.digest })
    else put_target_from (file + 1) files mark

abbrev pub put_target_of : List LoaderFile → PieceMark → Option PutTarget
put_target_of files mark = put_target_from 0 files mark

-- just these pieces were put, each in its file, in the order in which they were given
abbrev pub PutsAre : List LoaderFile → List PieceMark → List Deed → Type 0
PutsAre files marks deeds = map Some (puts_in deeds) ≡ map (put_target_of files) marks

-- ---- what became of them

abbrev pub was_written : Reply → Bool
was_written (reply.Put place digest) = true
was_written given = false

abbrev pub was_present : Reply → Bool
was_present reply.Present = true
was_present given = false

abbrev pub was_busy : Reply → Bool
was_busy (reply.Busy window) = true
was_busy given = false

abbrev pub count_replies : (Reply → Bool) → List Deed → ℕ
count_replies test [] = 0
count_replies test (deed ∷ deeds) = if test deed.entry.reply then count_replies test deeds + 1 else count_replies test deeds

-- a put that has its outcome; of every other event nothing is said
abbrev pub HasOutcome : Event → Reply → Type 0
HasOutcome (PutData window index digest) (reply.Put place put) = Unit {0}
HasOutcome (PutData window index digest) reply.Present = Unit {0}
HasOutcome (PutData window index digest) (reply.Busy other) = Unit {0}
HasOutcome (PutData window index digest) given = ⊥
HasOutcome event given = Unit {0}

-- ---- which events they are

abbrev pub IsFillEvent : Event → Type 0
IsFillEvent (Claim window places) = Unit {0}
IsFillEvent (PutData window index digest) = Unit {0}
IsFillEvent (PutPlace window index) = Unit {0}
IsFillEvent (Settle window) = Unit {0}
IsFillEvent (Gate window index) = Unit {0}
IsFillEvent (Release window) = Unit {0}
IsFillEvent event = ⊥

abbrev pub IsDriveEvent : Event → Type 0
IsDriveEvent (TakePending after most) = Unit {0}
IsDriveEvent event = IsFillEvent event

-- the places of the history that were claimed
abbrev pub places_of_claim : Event → ℕ
places_of_claim (Claim window places) = places
places_of_claim event = 0

abbrev pub claimed_in : List Deed → ℕ
claimed_in [] = 0
claimed_in (deed ∷ deeds) = places_of_claim deed.entry.event + claimed_in deeds
