-- An index of files by their ids: a list in the order of ids, in which no id stands twice.
use Rattle.std.specs.Prelude.{◌≡◌, ℕ, Bool, not, List, [], ◌∷◌, map, filter, Option, option_map}
use Rattle.std.specs.List.{find, insert, list_any}
use Rattle.std.specs.Ordering.{nat_cmp}
use Rattle.std.specs.Cmp.Lexicographic.{slice_cmp}
use Rattle.std.specs.declared.cmp.Ordering.TheVariants.{Less}
use Rattle.std.specs.Str.{bytes_eq}
use Rattle.inc_index.specs.declared.indexed.Indexed.{Indexed}

-- ---- the order

-- each of the files has a greater id, byte by byte
abbrev pub HaveHigherIds : List ℕ → List Indexed → Type 0
HaveHigherIds id [] = Unit {0}
HaveHigherIds id (file ∷ files) = (slice_cmp nat_cmp id file.id ≡ Less) × HaveHigherIds id files

abbrev pub AreInIdOrder : List Indexed → Type 0
AreInIdOrder [] = Unit {0}
AreInIdOrder (file ∷ files) = HaveHigherIds file.id files × AreInIdOrder files

-- ---- what stands in it

abbrev pub is_of : List ℕ → Indexed → Bool
is_of id file = bytes_eq file.id id

abbrev pub has_id : List ℕ → List Indexed → Bool
has_id id files = list_any (is_of id) files

abbrev pub name_of_id : List ℕ → List Indexed → Option (List ℕ)
name_of_id id files = option_map (λ (file : Indexed). file.name) (find (is_of id) files)

-- The files with one more at some place, and the others as they were. Where both lists rise there is one such place.
abbrev pub HasOneMore : Indexed → List Indexed → List Indexed → Type 0
HasOneMore file old new = (at : ℕ) × (new ≡ insert old at file)

-- ---- its lists

abbrev pub listed_name : Indexed → List ℕ × List ℕ
listed_name file = (file.id, file.name)

abbrev pub is_incomplete : Indexed → Bool
is_incomplete file = not file.complete

abbrev pub all_listed : List Indexed → List (List ℕ × List ℕ)
all_listed files = map listed_name files

abbrev pub incomplete_listed : List Indexed → List (List ℕ × List ℕ)
incomplete_listed files = map listed_name (filter is_incomplete files)
