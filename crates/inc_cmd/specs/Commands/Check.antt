-- `check NAME`: the file's layout is judged, then its signature, and then each data block. Of a mapped name these are the original's, and of
-- its blocks those that the name shows; a line has the name's own index.
use Rattle.std.specs.Prelude.{◌≡◌, ℕ, ◌<◌, ◌++◌, Bool, false, ◌==◌, if◌then◌else◌, List, [], flat_map, count_by, Option, Some, None, Result, Ok, Err, IfSome}
use Rattle.std.specs.Result.{is_ok}
use Rattle.inc_signature.specs.declared.signature.SigInfo.{SigInfo}
use Rattle.inc_mapped.specs.Mapping.{Mapping}
use Rattle.inc_layout.specs.Backing.{IsLaidOut, laid_of}
use Rattle.inc_layout.specs.opening.Listed.{listed}
use Rattle.inc_layout.specs.declared.fault.LayoutFault.{LayoutFault}
use Rattle.inc_layout.specs.declared.opened.Layout.{Layout}
use Rattle.inc_layout.specs.declared.reading.static_error.StaticError.{StaticError}
use Rattle.inc_cmd.specs.Commands.Parts.{IsNameContent, name_blocks, name_reading}
use Rattle.inc_cmd.specs.Commands.Read.{sig_refusal}
use Rattle.inc_words.specs.Endings.{Ending, not_shown_by, refused_by, unless_refused}
use Rattle.inc_words.specs.Refusals.{layout_word, reason_of}
use Rattle.inc_words.specs.Texts.{checked_line}
use Rattle.inc_cmd.specs.declared.commands.check.Checked.{Checked}

-- ---- a block

-- the line of a block that isn't good
abbrev pub bad_line : ℕ → Result (List ℕ) StaticError → List ℕ
bad_line index (Ok content) = []
bad_line index (Err error) = (not_shown_by index (reason_of error)).text

abbrev pub line_in : List ℕ → Layout → Option Mapping → ℕ → List ℕ
line_in bytes layout part index = bad_line index (name_reading bytes layout part index)

abbrev pub is_good : List ℕ → Layout → Option Mapping → ℕ → Bool
is_good bytes layout part index = is_ok (name_reading bytes layout part index)

-- ---- the file

-- the numbers below this one
abbrev pub below : ℕ → List ℕ
below count = listed (λ i. i) count

abbrev pub checked_status : ℕ → ℕ → ℕ
checked_status good count = if good == count then 0 else 4

-- a line for each block that isn't good, in rising order, and then how many are
abbrev pub checked : ℕ → List ℕ → ℕ → Ending
checked count lines good = record { status = checked_status good count; text = lines ++ checked_line good count }

abbrev pub checked_in : List ℕ → Layout → Option Mapping → Ending
checked_in bytes layout part =
    checked (name_blocks layout part) (flat_map (line_in bytes layout part) (below (name_blocks layout part))) (count_by (is_good bytes layout part) (below (name_blocks layout part)))

abbrev pub check_laid : List ℕ → Option (List ℕ) → List ℕ → Layout → Option Mapping → Ending
check_laid name root bytes layout part = unless_refused name (sig_refusal false root layout.sig) (checked_in bytes layout part)

abbrev pub check_laid_as : List ℕ → Option (List ℕ) → List ℕ → Result Layout LayoutFault → Ending
check_laid_as name root bytes (Ok layout) = check_laid name root bytes layout None
check_laid_as name root bytes (Err fault) = refused_by name (layout_word fault)

abbrev pub check_ending : List ℕ → Option (List ℕ) → List ℕ → Ending
check_ending name root bytes = check_laid_as name root bytes (laid_of bytes)

-- this was found of the first so many data blocks
pub record IsCheckOf (bytes : List ℕ) (layout : Layout) (part : Option Mapping) (count : ℕ) (checked : Checked) : Type 0 where
  pub lines_are : checked.lines.items ≡ flat_map (line_in bytes layout part) (below count)
  pub good_is : checked.good ≡ count_by (is_good bytes layout part) (below count)
  pub count_is : checked.count ≡ count

-- ---- in words

-- what the name shows at this index is stored, and the path in the file proves it against the root that the signature names
pub record IsGoodBlock (bytes : List ℕ) (layout : Layout) (part : Option Mapping) (index : ℕ) : Type 0 where
  pub content : List ℕ
  pub proved : IsNameContent bytes layout part index content

-- the file is signed, the root is the one given, and each block that the name shows of it is good
pub record AreAllProved (bytes : List ℕ) (root : Option (List ℕ)) (part : Option Mapping) : Type 0 where
  pub layout : Layout
  pub stands : IsLaidOut bytes layout
  pub sig : SigInfo
  pub signed : layout.sig ≡ Some sig
  pub given : IfSome root (λ given. sig.root ≡ given)
  pub each : (i : ℕ) → i < name_blocks layout part → IsGoodBlock bytes layout part i
