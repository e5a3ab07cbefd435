-- Where a file goes into an index: how many of the files that stand first have a lower id.
use Rattle.std.specs.Prelude.{ℕ, suc, if◌then◌else◌, List, [], ◌∷◌}
use Rattle.std.specs.List.{insert}
use Rattle.std.specs.Ordering.{nat_cmp, is_gt}
use Rattle.std.specs.Cmp.Lexicographic.{slice_cmp}
use Rattle.inc_index.specs.Index.{has_id}
use Rattle.inc_index.specs.declared.indexed.Indexed.{Indexed}

abbrev pub place_by_id : List ℕ → List Indexed → ℕ
place_by_id id [] = 0
place_by_id id (file ∷ files) = if is_gt (slice_cmp nat_cmp id file.id) then suc (place_by_id id files) else 0

-- the files with this one at its place, where none of them has its id
abbrev pub with_file : Indexed → List Indexed → List Indexed
with_file file files = if has_id file.id files then files else insert files (place_by_id file.id files) file
