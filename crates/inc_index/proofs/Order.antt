-- The order of an index's ids, as a file is put into it.
use Rattle.std.proofs.Common.{◌≡◌, ℕ, zero, suc, List, [], ◌∷◌, Bool, true, false, ◌||◌, if◌then◌else◌, refl, sym, ap, ◌∙◌}
use Rattle.std.specs.List.{insert}
use Rattle.std.specs.declared.cmp.Ordering.TheVariants.{Less, Equal, Greater}
use Rattle.std.specs.Ordering.{nat_cmp, is_gt, is_eq, ordering_reverse}
use Rattle.std.specs.Cmp.Lexicographic.{slice_cmp, nat_list_cmp_total}
use Rattle.std.proofs.lemmas.Map.Text.{is_eq-slice_cmp}
use Rattle.std.specs.Str.{bytes_eq}
use Rattle.inc_index.specs.Index.{HaveHigherIds, AreInIdOrder, has_id, is_of}
use Rattle.inc_index.specs.Place.{place_by_id}
use Rattle.inc_index.specs.declared.indexed.Indexed.{Indexed}

behind_lower : (id other : List ℕ) (files : List Indexed) → slice_cmp nat_cmp id other ≡ Less → HaveHigherIds other files → HaveHigherIds id files
behind_lower id other [] lt behind = tt
behind_lower id other (file ∷ files) lt behind = (nat_list_cmp_total.trans id other file.id lt behind.0, behind_lower id other files lt behind.1)

-- a file that is put in stands behind each id that it is above
behind_with : (id : List ℕ) (file : Indexed) (files : List Indexed) (at : ℕ) → slice_cmp nat_cmp id file.id ≡ Less → HaveHigherIds id files → HaveHigherIds id (insert files at file)
behind_with id file files zero lt behind = (lt, behind)
behind_with id file [] (suc at) lt behind = (lt, tt)
behind_with id file (other ∷ files) (suc at) lt behind = (behind.0, behind_with id file files at lt behind.1)

flipped : (id other : List ℕ) → slice_cmp nat_cmp id other ≡ Greater → slice_cmp nat_cmp other id ≡ Less
flipped id other gt = nat_list_cmp_total.antisymm other id ∙ ap ordering_reverse gt

equal_is : (id other : List ℕ) → slice_cmp nat_cmp id other ≡ Equal → bytes_eq other id ≡ true
equal_is id other e = sym (is_eq-slice_cmp other id) ∙ ap is_eq (nat_list_cmp_total.antisymm other id ∙ ap ordering_reverse e)

either_false : (a b : Bool) → (a || b) ≡ false → (a ≡ false) × (b ≡ false)
either_false false b e = (refl, e)
either_false true b e = absurd (cc)

pub rising_with : (file : Indexed) (files : List Indexed) → has_id file.id files ≡ false → AreInIdOrder files → AreInIdOrder (insert files (place_by_id file.id files) file)
rising_with file [] new rising = (tt, tt)
rising_with file (other ∷ files) new rising =
    elim (slice_cmp nat_cmp file.id other.id) as (λ o. slice_cmp nat_cmp file.id other.id ≡ o
    → AreInIdOrder (insert (other ∷ files) (if is_gt o then suc (place_by_id file.id files) else 0) file)) [
      | Less ↦ λ e. ((e, behind_lower file.id other.id files e rising.0), rising)
      | Equal ↦ λ e. absurd (let no = (either_false (is_of file.id other) (has_id file.id files) new).0 in cc (no, equal_is file.id other.id e))
      | Greater ↦ λ e. (
        behind_with other.id file files (place_by_id file.id files) (flipped file.id other.id e) rising.0,
        rising_with file files (either_false (is_of file.id other) (has_id file.id files) new).1 rising.1,
      )
    ] refl
