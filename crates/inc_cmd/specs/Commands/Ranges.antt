-- `ranges NAME START END ROOM`: which of a file's blocks are there, data blocks first: the first so many ranges of them between two indices,
-- a line each, and then where the next one begins, or that there is none.
use Rattle.std.specs.Prelude.{◌≡◌, ℕ, ◌≤◌, ◌++◌, Bool, ◌||◌, nat_lt, if◌then◌else◌, MatchBool, List, [], ◌∷◌, length, take, drop, map, Result, Ok, Err, codes}
use Rattle.std.specs.List.{flat_map}
use Rattle.std.specs.Fmt.{decimal}
use Rattle.inc_ranges.specs.Runs.{AreRuns, IsFirstLeft, IsLeft, runs_of, start_or}
use Rattle.inc_entry.specs.Stored.{is_open_class}
use Rattle.inc_entry.specs.declared.classes.Class.{Class}
use Rattle.inc_layout.specs.Backing.{IsLaidOut, laid_of}
use Rattle.inc_layout.specs.declared.fault.LayoutFault.{LayoutFault}
use Rattle.inc_layout.specs.declared.opened.Layout.{Layout}
use Rattle.inc_words.specs.Endings.{Ending, done, refused, refused_by}
use Rattle.inc_words.specs.Refusals.{bad_range, layout_word}

-- ---- the lines

-- `A B`, half-open
unfoldable pub range_line : ℕ × ℕ → List ℕ
range_line range = decimal range.0 ++ 32 ∷ decimal range.1 ++ 10 ∷ []

unfoldable pub more_word : List ℕ
more_word = codes "more"

unfoldable pub no_more_word : List ℕ
no_more_word = codes "end"

abbrev pub left_word : Bool → List ℕ
left_word more = if more then more_word else no_more_word

-- `next X more`, or `next X end`
unfoldable pub next_line : ℕ → Bool → List ℕ
next_line next more = codes "next " ++ decimal next ++ 32 ∷ left_word more ++ 10 ∷ []

abbrev pub range_lines : List (ℕ × ℕ) → ℕ → Bool → List ℕ
range_lines ranges next more = flat_map range_line ranges ++ next_line next more

-- ---- what is answered

-- whether the block of each entry is there
abbrev pub present_in : List Class → List Bool
present_in classes = map is_open_class classes

-- the start is behind the end, or the end behind the file's last block
abbrev pub is_bad_range : ℕ → ℕ → ℕ → Bool
is_bad_range start end count = nat_lt end start || nat_lt count end

abbrev pub ranges_text : List Bool → ℕ → ℕ → ℕ → List ℕ
ranges_text present start end room =
    range_lines (take room (runs_of present start end)) (start_or end (drop room (runs_of present start end))) (nat_lt room (length (runs_of present start end)))

abbrev pub ranges_of : List ℕ → ℕ → ℕ → ℕ → List Class → Ending
ranges_of name start end room classes =
    if is_bad_range start end (length classes) then refused name bad_range else done (ranges_text (present_in classes) start end room)

abbrev pub ranges_laid_as : List ℕ → ℕ → ℕ → ℕ → Result Layout LayoutFault → Ending
ranges_laid_as name start end room (Ok layout) = ranges_of name start end room layout.classes
ranges_laid_as name start end room (Err fault) = refused_by name (layout_word fault)

abbrev pub ranges_ending : List ℕ → ℕ → ℕ → ℕ → List ℕ → Ending
ranges_ending name start end room bytes = ranges_laid_as name start end room (laid_of bytes)

-- ---- in words

-- the text has the first of the longest ranges of blocks that are there, as many as there is room for
pub record TellsRanges (present : List Bool) (start end room : ℕ) (text : List ℕ) : Type 0 where
  pub order : start ≤ end
  pub inside : end ≤ length present
  pub runs : List (ℕ × ℕ)
  pub are : AreRuns present start end runs
  pub next : ℕ
  pub more : Bool
  pub text_is : text ≡ range_lines (take room runs) next more
  -- more says whether such a block is in none of them, and next is the first one; else it is the question's end
  pub left : MatchBool more (IsFirstLeft present start end (take room runs) next) ((next ≡ end) × ((i : ℕ) → IsLeft present start end (take room runs) i → ⊥))

-- of the file that the bytes are
pub record ShowsRanges (bytes : List ℕ) (start end room : ℕ) (text : List ℕ) : Type 0 where
  pub layout : Layout
  pub stands : IsLaidOut bytes layout
  pub tells : TellsRanges (present_in layout.classes) start end room text
