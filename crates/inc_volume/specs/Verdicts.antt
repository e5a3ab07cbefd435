-- One verdict for each name of a shelf, by what stands under all of its names.
--
-- A plain file that stands by itself keeps its id, unless a file with a lower name does: of the files with one id the first in the byte
-- order of names keeps it. A mapped file is good where a plain file keeps its original's id and is long enough.
use Rattle.std.specs.Prelude.{◌≡◌, ℕ, ◌+◌, ◌%◌, ◌^◌, ◌<◌, ◌≤◌, Bool, if◌then◌else◌, nat_le, List, [], ◌∷◌, map, Option, Some, None, option_map}
use Rattle.std.specs.List.{filter_map}
use Rattle.std.specs.Str.{bytes_eq}
use Rattle.std.specs.Ordering.{nat_cmp}
use Rattle.std.specs.Cmp.Lexicographic.{slice_cmp}
use Rattle.std.specs.declared.cmp.Ordering.TheVariants.{Less}
use Rattle.std.specs.FinMap.{get, keys}
use Rattle.inc_io.specs.Contents.{Contents}
use Rattle.inc_volume.specs.Standings.{IsFileFault, standing_of}
use Rattle.inc_volume.specs.declared.holder.Holder.{Holder}
use Rattle.inc_volume.specs.declared.standing.Standing.{Standing}
use Rattle.inc_volume.specs.declared.standing.Standing.TheVariants as standing
use Rattle.inc_volume.specs.declared.verdict.Verdict.{Verdict}
use Rattle.inc_volume.specs.declared.verdict.Verdict.TheVariants.{Plain, Mapped, SameId, NoOriginal, PastOriginal, Refused}

-- ---- who keeps an id

-- what stands under a name, where a file does
abbrev pub standing_at : Contents → List ℕ → Option Standing
standing_at files name = option_map standing_of (get files name)

-- the size of a plain file with this id
abbrev pub size_with : List ℕ → Standing → Option ℕ
size_with id (standing.Plain own size complete) = if bytes_eq own id then Some size else None
size_with id (standing.Part original offset size) = None
size_with id (standing.Refused fault) = None

abbrev pub size_of_any : List ℕ → Option Standing → Option ℕ
size_of_any id None = None
size_of_any id (Some found) = size_with id found

-- the size of the plain file under a name, where one with this id stands there
abbrev pub size_held : Contents → List ℕ → List ℕ → Option ℕ
size_held files id name = size_of_any id (standing_at files name)

-- ---- in words

-- the file under this name keeps the id: it stands with it, and none with a lower name does
pub record IsHolder (files : Contents) (id : List ℕ) (holder : Holder) : Type 0 where
  pub stands : size_held files id holder.name ≡ Some holder.size
  pub first : (other : List ℕ) → slice_cmp nat_cmp other holder.name ≡ Less → size_held files id other ≡ None

abbrev pub NoneHolds : Contents → List ℕ → Type 0
NoneHolds files id = (name : List ℕ) → size_held files id name ≡ None

-- a plain file keeps its id, or another one does
pub record KeepsId (files : Contents) (name id : List ℕ) (complete : Bool) : Type 0 where
  pub size : ℕ
  pub own : standing_at files name ≡ Some (standing.Plain id size complete)
  pub holds : IsHolder files id (record { name = name; size = size })

pub record HasTakenId (files : Contents) (name id : List ℕ) : Type 0 where
  pub size : ℕ
  pub complete : Bool
  pub own : standing_at files name ≡ Some (standing.Plain id size complete)
  pub holder : Holder
  pub holds : IsHolder files id holder
  pub lower : slice_cmp nat_cmp holder.name name ≡ Less

-- a mapped file's part ends in its original, or past it
pub record MapsInto (files : Contents) (name original : List ℕ) (offset size : ℕ) : Type 0 where
  pub own : standing_at files name ≡ Some (standing.Part original offset size)
  pub holder : Holder
  pub holds : IsHolder files original holder
  pub fits : offset + size ≤ holder.size

pub record MapsPast (files : Contents) (name original : List ℕ) : Type 0 where
  pub offset : ℕ
  pub size : ℕ
  pub own : standing_at files name ≡ Some (standing.Part original offset size)
  pub holder : Holder
  pub holds : IsHolder files original holder
  pub past : holder.size < offset + size

pub record MapsNothing (files : Contents) (name original : List ℕ) : Type 0 where
  pub offset : ℕ
  pub size : ℕ
  pub own : standing_at files name ≡ Some (standing.Part original offset size)
  pub none : NoneHolds files original

abbrev pub IsVerdict : Contents → List ℕ → Verdict → Type 0
IsVerdict files name (Plain id complete) = KeepsId files name id complete
IsVerdict files name (Mapped original offset size) = MapsInto files name original offset size
IsVerdict files name (SameId id) = HasTakenId files name id
IsVerdict files name (NoOriginal original) = MapsNothing files name original
IsVerdict files name (PastOriginal original) = MapsPast files name original
IsVerdict files name (Refused fault) = standing_at files name ≡ Some (standing.Refused fault)

-- ---- the same as a function

abbrev pub holder_or : List ℕ → Option ℕ → Option Holder → Option Holder
holder_or name (Some size) later = Some (record { name = name; size = size })
holder_or name None later = later

-- the first of these names under which a plain file with the id stands
abbrev pub first_holder : Contents → List ℕ → List (List ℕ) → Option Holder
first_holder files id [] = None
first_holder files id (name ∷ names) = holder_or name (size_held files id name) (first_holder files id names)

abbrev pub holder_of : Contents → List ℕ → Option Holder
holder_of files id = first_holder files id (keys files)

-- by who keeps the id
abbrev pub plain_verdict : List ℕ → List ℕ → Bool → Option Holder → Verdict
plain_verdict name id complete None = Plain id complete
plain_verdict name id complete (Some holder) = if bytes_eq holder.name name then Plain id complete else SameId id

abbrev pub part_verdict : List ℕ → ℕ → ℕ → Option Holder → Verdict
part_verdict original offset size None = NoOriginal original
part_verdict original offset size (Some holder) = if nat_le (offset + size) holder.size then Mapped original offset size else PastOriginal original

-- by what a file says of itself, and by who keeps each id
abbrev pub verdict_with : (List ℕ → Option Holder) → List ℕ → Standing → Verdict
verdict_with holder name (standing.Plain id size complete) = plain_verdict name id complete (holder id)
verdict_with holder name (standing.Part original offset size) = part_verdict original offset size (holder original)
verdict_with holder name (standing.Refused fault) = Refused fault

-- the verdict of a name that is there
abbrev pub verdict_of : Contents → List ℕ → Option Verdict
verdict_of files name = option_map (verdict_with (holder_of files) name) (standing_at files name)

abbrev pub named_verdict : Contents → List ℕ → Option (List ℕ × Verdict)
named_verdict files name = option_map (λ (verdict : Verdict). (name, verdict)) (verdict_of files name)

-- the verdicts of all names, in byte order
abbrev pub verdicts_of : Contents → List (List ℕ × Verdict)
verdicts_of files = filter_map (named_verdict files) (keys files)

-- each of these names has this verdict
abbrev pub AreVerdicts : Contents → List (List ℕ × Verdict) → Type 0
AreVerdicts files [] = Unit {0}
AreVerdicts files (row ∷ rows) = IsVerdict files row.0 row.1 × AreVerdicts files rows

-- a file that is refused by its layout is so by a fault that it has by itself
abbrev pub IsByFile : Verdict → Type 0
IsByFile (Plain id complete) = Unit {0}
IsByFile (Mapped original offset size) = Unit {0}
IsByFile (SameId id) = Unit {0}
IsByFile (NoOriginal original) = Unit {0}
IsByFile (PastOriginal original) = Unit {0}
IsByFile (Refused fault) = IsFileFault fault

abbrev pub AreByFile : List (List ℕ × Verdict) → Type 0
AreByFile [] = Unit {0}
AreByFile (row ∷ rows) = IsByFile row.1 × AreByFile rows

-- ---- what all files say of themselves, from which the verdicts are made

abbrev pub named_standing : Contents → List ℕ → Option (List ℕ × Standing)
named_standing files name = option_map (λ (found : Standing). (name, found)) (standing_at files name)

abbrev pub standings_among : Contents → List (List ℕ) → List (List ℕ × Standing)
standings_among files names = filter_map (named_standing files) names

-- the first of them that is a plain file with the id
abbrev pub holder_in : List (List ℕ × Standing) → List ℕ → Option Holder
holder_in [] id = None
holder_in (row ∷ rows) id = holder_or row.0 (size_with id row.1) (holder_in rows id)

abbrev pub judged_row : (List ℕ → Option Holder) → List ℕ × Standing → List ℕ × Verdict
judged_row holder row = (row.0, verdict_with holder row.0 row.1)

abbrev pub judged_rows : (List ℕ → Option Holder) → List (List ℕ × Standing) → List (List ℕ × Verdict)
judged_rows holder rows = map (judged_row holder) rows

-- ---- what is promised of a mapped name, whether the shelf tells its files or not

-- its part begins at a block's start, and ends below 2 ^ 64
abbrev pub HasMapping : Verdict → Type 0
HasMapping (Plain id complete) = Unit {0}
HasMapping (Mapped original offset size) = (offset % 4096 ≡ 0) × (offset + size < 2 ^ 64)
HasMapping (SameId id) = Unit {0}
HasMapping (NoOriginal original) = Unit {0}
HasMapping (PastOriginal original) = Unit {0}
HasMapping (Refused fault) = Unit {0}
