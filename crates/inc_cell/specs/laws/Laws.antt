-- Laws of a file's cell.
use Rattle.std.specs.Prelude.{◌≡◌, ℕ, List, Some}
use Rattle.inc_pending.specs.Keyed.{lookup}
use Rattle.inc_layout.specs.Backing.{IsBackingFile}
use Rattle.inc_layout.specs.opening.Opening.{IsSoundOpened}
use Rattle.inc_layout.specs.state.Preserves.{MayReopen}
use Rattle.inc_layout.specs.state.Reopening.{AreApartIn, AreOpened, opened_parts}
use Rattle.inc_layout.specs.declared.opened.Opened.{Opened}
use Rattle.inc_model.specs.relation.Facts.{FileFacts, MoreFacts}
use Rattle.inc_model.specs.relation.State.{IsOpening}
use Rattle.inc_model.specs.histories.Worlds.{IsReopening}
use Rattle.inc_model.specs.declared.words.file_state.FileState.{FileState}
use Rattle.inc_cell.specs.seen.Parts.{opening_of, parts_of}
use Rattle.inc_cell.specs.seen.Standing.{ReadsAs}

-- ---- the opening

-- a state in which nothing was asked yet, with the parts of the opened file
pub record BeginsAs (opened : Opened) (s : FileState) : Type 0 where
  pub opening : IsOpening s
  pub parts : parts_of s ≡ opened_parts opened
  pub told : AreOpened opened (parts_of s)

abbrev pub OpeningsAreStates : Type 0
OpeningsAreStates = (opened : Opened) (faults readers : ℕ) → IsSoundOpened opened → BeginsAs opened (opening_of opened faults readers)

-- ---- after a crash

-- The file that a mount finds in bytes that keep the parts of a state begins in a reopening of that state.
abbrev pub PartsReopen : Type 0
PartsReopen =
    (first s : FileState) (opened : Opened) (faults readers : ℕ) → FileFacts first s → MoreFacts first s → IsSoundOpened opened → MayReopen (parts_of s) (opened_parts opened)
    → IsReopening s (opening_of opened faults readers)

-- what a mount asks for of the parts that were kept
abbrev pub PartsAreApart : Type 0
PartsAreApart = (first s : FileState) → FileFacts first s → MoreFacts first s → AreApartIn (parts_of s)

-- ---- after a clean end

-- a reopening that has all of the map
pub record ReopensWhole (s t : FileState) : Type 0 where
  pub reopening : IsReopening s t
  pub whole : (index : ℕ) (digest : List ℕ) → lookup index s.map ≡ Some digest → lookup index t.map ≡ Some digest

-- The file that a mount finds in the bytes that a cell left begins with all of the cell's map.
abbrev pub EndsReopen : Type 0
EndsReopen =
    (first s : FileState) (opened next : Opened) (bytes : List ℕ) (faults readers : ℕ) → FileFacts first s → MoreFacts first s → ReadsAs opened s bytes → IsSoundOpened next → IsBackingFile bytes next
    → MayReopen (parts_of s) (opened_parts next) → ReopensWhole s (opening_of next faults readers)
