-- `list`: what each name of the shelf is. First all files that keep their ids, then those of them that aren't complete, both by id; then the
-- mapped files, and then the names that are refused, both by name.
use Rattle.std.specs.Prelude.{◌≡◌, ◌⊎◌, ℕ, ◌+◌, ◌++◌, List, [], ◌∷◌, length, map, Option, Some, None, option_map, codes}
use Rattle.std.specs.List.{AllByRecursion, filter_map, flat_map}
use Rattle.std.specs.Ordering.{nat_cmp}
use Rattle.std.specs.Cmp.Lexicographic.{slice_cmp}
use Rattle.std.specs.declared.cmp.Ordering.TheVariants.{Less}
use Rattle.std.specs.FinMap.{keys}
use Rattle.std.specs.Result.{result_ok}
use Rattle.hex.specs.Hex.{encode_lower}
use Rattle.inc_io.specs.Contents.{Contents}
use Rattle.inc_index.specs.Index.{AreInIdOrder, all_listed, incomplete_listed}
use Rattle.inc_index.specs.Place.{with_file}
use Rattle.inc_index.specs.declared.indexed.Indexed.{Indexed}
use Rattle.inc_volume.specs.Verdicts.{IsVerdict, KeepsId, MapsInto, verdicts_of}
use Rattle.inc_volume.specs.declared.verdict.Verdict.{Verdict}
use Rattle.inc_volume.specs.declared.verdict.Verdict.TheVariants as verdict
use Rattle.inc_words.specs.Endings.{Ending, done}
use Rattle.inc_words.specs.Refusals.{layout_word, no_original, past_original, same_id}
use Rattle.inc_words.specs.Texts.{refused_line}

-- ---- the lines

-- `index ID NAME`
unfoldable pub index_line : List ℕ × List ℕ → List ℕ
index_line file = codes "index " ++ encode_lower file.0 ++ 32 ∷ file.1 ++ 10 ∷ []

-- `incomplete ID NAME`
unfoldable pub incomplete_line : List ℕ × List ℕ → List ℕ
incomplete_line file = codes "incomplete " ++ encode_lower file.0 ++ 32 ∷ file.1 ++ 10 ∷ []

-- `mapped NAME original ID`
unfoldable pub mapped_line : List ℕ × List ℕ → List ℕ
mapped_line file = codes "mapped " ++ file.0 ++ codes " original " ++ encode_lower file.1 ++ 10 ∷ []

-- `refused NAME WORD`
abbrev pub refusal_line : List ℕ × List ℕ → List ℕ
refusal_line file = refused_line file.0 file.1

-- ---- what a name's verdict says

-- a file that keeps its id
abbrev pub file_in : List ℕ → Verdict → Option Indexed
file_in name (verdict.Plain id complete) = Some (record { id = id; name = name; complete = complete })
file_in name (verdict.Mapped original offset size) = None
file_in name (verdict.SameId id) = None
file_in name (verdict.NoOriginal original) = None
file_in name (verdict.PastOriginal original) = None
file_in name (verdict.Refused fault) = None

-- the original of a mapped file
abbrev pub original_in : Verdict → Option (List ℕ)
original_in (verdict.Plain id complete) = None
original_in (verdict.Mapped original offset size) = Some original
original_in (verdict.SameId id) = None
original_in (verdict.NoOriginal original) = None
original_in (verdict.PastOriginal original) = None
original_in (verdict.Refused fault) = None

-- the word by which a name is refused
abbrev pub refusal_in : Verdict → Option (List ℕ)
refusal_in (verdict.Plain id complete) = None
refusal_in (verdict.Mapped original offset size) = None
refusal_in (verdict.SameId id) = Some same_id
refusal_in (verdict.NoOriginal original) = Some no_original
refusal_in (verdict.PastOriginal original) = Some past_original
refusal_in (verdict.Refused fault) = result_ok (layout_word fault)

-- ---- the lists

abbrev pub indexed_row : List ℕ × Verdict → Option Indexed
indexed_row row = file_in row.0 row.1

-- a name with what its verdict says, where it says that
abbrev pub told_row : (Verdict → Option (List ℕ)) → List ℕ × Verdict → Option (List ℕ × List ℕ)
told_row says row = option_map (λ (said : List ℕ). (row.0, said)) (says row.1)

abbrev pub with_row : Option Indexed → List Indexed → List Indexed
with_row None files = files
with_row (Some file) files = with_file file files

-- the files that keep their ids beside these, in the order of ids
abbrev pub index_beside : List Indexed → List (List ℕ × Verdict) → List Indexed
index_beside files [] = files
index_beside files (row ∷ rows) = with_row (indexed_row row) (index_beside files rows)

abbrev pub index_of : List (List ℕ × Verdict) → List Indexed
index_of rows = index_beside [] rows

abbrev pub mapped_of : List (List ℕ × Verdict) → List (List ℕ × List ℕ)
mapped_of rows = filter_map (told_row original_in) rows

abbrev pub refused_of : List (List ℕ × Verdict) → List (List ℕ × List ℕ)
refused_of rows = filter_map (told_row refusal_in) rows

-- ---- what is answered

abbrev pub index_text : List Indexed → List ℕ
index_text files = flat_map index_line (all_listed files) ++ flat_map incomplete_line (incomplete_listed files)

abbrev pub lists_text : List Indexed → List (List ℕ × List ℕ) → List (List ℕ × List ℕ) → List ℕ
lists_text index mapped refused = index_text index ++ flat_map mapped_line mapped ++ flat_map refusal_line refused

abbrev pub list_text : List (List ℕ × Verdict) → List ℕ
list_text rows = lists_text (index_of rows) (mapped_of rows) (refused_of rows)

-- also where names are refused
abbrev pub list_ending : Contents → Ending
list_ending files = done (list_text (verdicts_of files))

-- ---- in words

-- the mapped file is a part of the file that keeps this id, and ends within it
pub record IsMappedInto (files : Contents) (name original : List ℕ) : Type 0 where
  pub offset : ℕ
  pub size : ℕ
  pub maps : MapsInto files name original offset size

-- what stands under the name is refused by this word
pub record IsRefusedBy (files : Contents) (name word : List ℕ) : Type 0 where
  pub found : Verdict
  pub is : IsVerdict files name found
  pub by : refusal_in found ≡ Some word

abbrev pub IsIndexed : List ℕ → List Indexed → Type 0
IsIndexed name [] = ⊥
IsIndexed name (file ∷ files) = (file.name ≡ name) ⊎ IsIndexed name files

abbrev pub NamesRow : List ℕ → List (List ℕ × List ℕ) → Type 0
NamesRow name [] = ⊥
NamesRow name (row ∷ rows) = (row.0 ≡ name) ⊎ NamesRow name rows

-- each of these names is lower than those behind it, byte by byte
abbrev pub NamesRise : List (List ℕ) → Type 0
NamesRise [] = Unit {0}
NamesRise (name ∷ names) = AllByRecursion (λ (other : List ℕ). slice_cmp nat_cmp name other ≡ Less) names × NamesRise names

abbrev pub AreInNameOrder : List (List ℕ × List ℕ) → Type 0
AreInNameOrder rows = NamesRise (map (λ (row : List ℕ × List ℕ). row.0) rows)

-- The text says of each name of the shelf what stands there. Each name is in one of three lists; and since these have as many rows as the
-- shelf has names, in no second one.
pub record ListsNames (files : Contents) (text : List ℕ) : Type 0 where
  pub index : List Indexed
  pub mapped : List (List ℕ × List ℕ)
  pub refused : List (List ℕ × List ℕ)
  pub text_is : text ≡ lists_text index mapped refused
  pub keeps : AllByRecursion (λ (file : Indexed). KeepsId files file.name file.id file.complete) index
  pub maps : AllByRecursion (λ (row : List ℕ × List ℕ). IsMappedInto files row.0 row.1) mapped
  pub refuses : AllByRecursion (λ (row : List ℕ × List ℕ). IsRefusedBy files row.0 row.1) refused
  pub each : AllByRecursion (λ (name : List ℕ). IsIndexed name index ⊎ NamesRow name mapped ⊎ NamesRow name refused) (keys files)
  pub count : length index + (length mapped + length refused) ≡ length (keys files)
  pub index_order : AreInIdOrder index
  pub mapped_order : AreInNameOrder mapped
  pub refused_order : AreInNameOrder refused
