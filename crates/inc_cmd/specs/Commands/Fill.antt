-- `fill NAME`: the name is judged first, and only a file that keeps its id is filled. Its layout is judged, then the counts of its status
-- record are set to the blocks that are there, and then the pieces of the stream in the input are taken in their order, up to the first one
-- that the file refuses, and to the stream's end or its fault.
use Rattle.std.specs.Prelude.{◌≡◌, ℕ, ◌^◌, ◌≤◌, nat_le, Bool, true, false, if◌then◌else◌, List, length, take, Option, Some, None, Result, Ok, Err}
use Rattle.std.specs.FinMap.{get, insert}
use Rattle.inc_io.specs.Contents.{Contents}
use Rattle.inc_frame.specs.Fronts.{StreamFront, stream_front}
use Rattle.inc_frame.specs.Reader.{verdict_at_end}
use Rattle.inc_frame.specs.declared.fault.FrameFault.{FrameFault}
use Rattle.inc_frame.specs.declared.fault.FrameFault.TheVariants as frame
use Rattle.inc_layout.specs.Backing.{opened_of}
use Rattle.inc_layout.specs.declared.fault.LayoutFault.{LayoutFault}
use Rattle.inc_layout.specs.declared.fault.LayoutFault.TheVariants.{TooLong}
use Rattle.inc_layout.specs.declared.opened.Opened.{Opened}
use Rattle.inc_recover.specs.Mounting.{counted, counted_bytes}
use Rattle.inc_filling.specs.Contents.{FilledFile, filled_file}
use Rattle.inc_filling.specs.Refusals.{first_refusal}
use Rattle.inc_filling.specs.declared.refusal.PieceRefusal.{PieceRefusal}
use Rattle.inc_filling.specs.declared.refusal.PieceRefusal.TheVariants.{Refused, UnknownFile}
use Rattle.inc_script.specs.Words.{fill_word, frame_word}
use Rattle.inc_mapped.specs.Mapping.{Mapping}
use Rattle.inc_volume.specs.Verdicts.{verdict_of}
use Rattle.inc_volume.specs.declared.verdict.Verdict.{Verdict}
use Rattle.inc_volume.specs.declared.verdict.Verdict.TheVariants as verdict
use Rattle.inc_cmd.specs.Commands.Names.{by_verdict, refused_as_mapped}
use Rattle.inc_words.specs.Endings.{Answer, Ending, done, leaving, refused, refused_by, stream_refused}
use Rattle.inc_words.specs.Refusals.{layout_word, missing, unknown_file}
use Rattle.inc_words.specs.Texts.{fill_line}

-- ---- the file

-- no longer one is filled
abbrev pub most_filled : ℕ
most_filled = 2 ^ 46

abbrev pub unless_long : List ℕ → Result Opened LayoutFault → Result Opened LayoutFault
unless_long bytes (Ok opened) = if nat_le (length bytes) most_filled then Ok opened else Err TooLong
unless_long bytes (Err fault) = Err fault

-- the file that a fill goes into, by what stands under its name: its layout is judged first, and then its length
abbrev pub fillable_of : List ℕ → Result Opened LayoutFault
fillable_of bytes = unless_long bytes (opened_of bytes)

-- ---- the stream

-- of a stream that is refused: the place of its first wrong byte, or where it ends. Want of memory has none
abbrev pub fault_place : FrameFault → ℕ
fault_place (frame.BadHello at) = at
fault_place (frame.BadKind at) = at
fault_place (frame.BadLength at) = at
fault_place (frame.Cut at) = at
fault_place (frame.TooLong at) = at
fault_place frame.OutOfMemory = 0

abbrev pub piece_word : PieceRefusal → List ℕ
piece_word UnknownFile = unknown_file
piece_word (Refused error) = fill_word error

-- ---- what is answered

-- by the first refused piece, else by the stream's own fault, or the place where it is cut, and else by what was filled
abbrev pub stream_ending : List ℕ → FilledFile → Result (Unit {0}) FrameFault → Ending
stream_ending name file (Ok ended) = done (fill_line name file.written file.present)
stream_ending name file (Err fault) = stream_refused (frame_word fault) (fault_place fault)

abbrev pub pieces_ending : List ℕ → FilledFile → Option PieceRefusal → Result (Unit {0}) FrameFault → Ending
pieces_ending name file (Some refusal) verdict = refused name (piece_word refusal)
pieces_ending name file None verdict = stream_ending name file verdict

-- over a file that was opened so, with these bytes
abbrev pub fill_ending : List ℕ → Opened → List ℕ → StreamFront → Ending
fill_ending name opened bytes front = pieces_ending name (filled_file opened bytes front.pieces) (first_refusal opened front.pieces) (verdict_at_end front.state)

-- what is answered, and the bytes that then stand under the name
pub record FileAnswer : Type 0 where
  pub ending : Ending
  pub bytes : List ℕ

abbrev pub fill_opened : List ℕ → Opened → List ℕ → StreamFront → FileAnswer
fill_opened name opened bytes front = record { ending = fill_ending name opened bytes front; bytes = (filled_file opened bytes front.pieces).bytes }

-- the pieces go in once the file has the counts of its blocks
abbrev pub fill_judged : List ℕ → List ℕ → List ℕ → Result Opened LayoutFault → FileAnswer
fill_judged name given bytes (Ok opened) = fill_opened name (counted opened) (counted_bytes opened bytes) (stream_front given)
fill_judged name given bytes (Err fault) = record { ending = refused_by name (layout_word fault); bytes = bytes }

abbrev pub fill_over : List ℕ → List ℕ → List ℕ → FileAnswer
fill_over name given bytes = fill_judged name given bytes (fillable_of bytes)

abbrev pub answer_over : List ℕ → Contents → FileAnswer → Answer
answer_over name files answer = record { status = answer.ending.status; text = answer.ending.text; after = insert files name answer.bytes }

-- over what stands under the name
abbrev pub fill_stored : List ℕ → Contents → List ℕ → Option (List ℕ) → Answer
fill_stored name files given None = leaving files (refused name missing)
fill_stored name files given (Some bytes) = answer_over name files (fill_over name given bytes)

-- ---- by the verdict of the name

-- only of such a name the file is mounted
abbrev pub keeps_own_id : Option Verdict → Bool
keeps_own_id None = false
keeps_own_id (Some (verdict.Plain id complete)) = true
keeps_own_id (Some (verdict.Mapped original offset size)) = false
keeps_own_id (Some (verdict.SameId id)) = false
keeps_own_id (Some (verdict.NoOriginal original)) = false
keeps_own_id (Some (verdict.PastOriginal original)) = false
keeps_own_id (Some (verdict.Refused fault)) = false

abbrev pub fill_by : List ℕ → Contents → List ℕ → Option Verdict → Answer
fill_by name files given found =
    by_verdict name (leaving files) (fill_stored name files given (get files name)) (λ (original : List ℕ) (mapping : Mapping). leaving files (refused_as_mapped name)) found

abbrev pub fill_answer : List ℕ → Contents → List ℕ → Answer
fill_answer name files given = fill_by name files given (verdict_of files name)

-- ---- where its history is full

-- a history has room for at least so many pieces
abbrev pub least_before_full : ℕ
least_before_full = 9586935

-- of the pieces of the stream at least so many are in, and nothing else
pub record IsFullAt (opened : Opened) (bytes : List ℕ) (front : StreamFront) (after : List ℕ) : Type 0 where
  pub count : ℕ
  pub many : least_before_full ≤ count
  pub within : count ≤ length front.pieces
  pub after_is : after ≡ (filled_file opened bytes (take count front.pieces)).bytes

-- over what stood under the name
pub record EndsFull (name : List ℕ) (files : Contents) (given : List ℕ) (after : Option Contents) : Type 0 where
  pub bytes : List ℕ
  pub stood : get files name ≡ Some bytes
  pub opened : Opened
  pub judged : fillable_of bytes ≡ Ok opened
  pub left : List ℕ
  pub full : IsFullAt (counted opened) (counted_bytes opened bytes) (stream_front given) left
  pub after_is : after ≡ Some (insert files name left)
