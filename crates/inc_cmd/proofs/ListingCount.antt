-- No name stands in two lists of a listing: they have as many rows as the shelf has names.
use Rattle.std.proofs.Common.{◌≡◌, ◌⊎◌, ℕ, zero, suc, ◌+◌, List, [], ◌∷◌, length, map, true, false, if◌then◌else◌, Option, refl, sym, ap, ◌∙◌, subst, inl, inr, arith}
use Rattle.std.specs.Prelude.{option_map}
use Rattle.std.specs.List.{cons_option, insert}
use Rattle.std.specs.Result.{result_ok}
use Rattle.std.specs.Ordering.{nat_cmp, ordering_reverse}
use Rattle.std.specs.declared.cmp.Ordering.TheVariants.{Less, Greater}
use Rattle.std.specs.Cmp.Lexicographic.{slice_cmp, nat_list_cmp_total}
use Rattle.inc_io.specs.Contents.{Contents}
use Rattle.inc_index.specs.Index.{has_id}
use Rattle.inc_index.specs.Place.{place_by_id, with_file}
use Rattle.inc_index.specs.declared.indexed.Indexed.{Indexed}
use Rattle.inc_volume.specs.Verdicts.{AreByFile, AreVerdicts, IsByFile, IsVerdict, KeepsId}
use Rattle.inc_volume.specs.declared.verdict.Verdict.{Verdict}
use Rattle.inc_volume.specs.declared.verdict.Verdict.TheVariants as verdict
use Rattle.inc_cmd.specs.Commands.Listing.{IsIndexed, NamesRise, file_in, index_of, mapped_of, original_in, refusal_in, refused_of, with_row}
use Rattle.inc_cmd.proofs.ListingLemmas.{AreKept, Behind, fault_has_word, index_kept, keeper_indexed}

-- ---- a name of the index is one of the rows

abbrev IsNamed : List ℕ → List (List ℕ) → Type 0
IsNamed name [] = ⊥
IsNamed name (other ∷ names) = (other ≡ name) ⊎ IsNamed name names

from_insert : (name : List ℕ) (file : Indexed) (index : List Indexed) (at : ℕ) → IsIndexed name (insert index at file) → (file.name ≡ name) ⊎ IsIndexed name index
from_insert name file index zero here = here
from_insert name file [] (suc at) (inl e) = inl e
from_insert name file [] (suc at) (inr none) = absurd none
from_insert name file (other ∷ index) (suc at) (inl e) = inr (inl e)
from_insert name file (other ∷ index) (suc at) (inr later) =
    elim (from_insert name file index at later) [
      | inl e ↦ inl e
      | inr here ↦ inr (inr here)
    ]

from_file : (name : List ℕ) (file : Indexed) (index : List Indexed) → IsIndexed name (with_file file index) → (file.name ≡ name) ⊎ IsIndexed name index
from_file name file index here =
    elim (has_id file.id index) as (λ b. IsIndexed name (if b then index else insert index (place_by_id file.id index) file) → (file.name ≡ name) ⊎ IsIndexed name index) [
      | true ↦ λ old. inr old
      | false ↦ λ new. from_insert name file index (place_by_id file.id index) new
    ] here

from_row : (name own : List ℕ) (found : Verdict) (index : List Indexed) → IsIndexed name (with_row (file_in own found) index) → (own ≡ name) ⊎ IsIndexed name index
from_row name own (verdict.Plain id complete) index here = from_file name (record { name = own; id = id; complete = complete }) index here
from_row name own (verdict.Mapped original offset size) index here = inr here
from_row name own (verdict.SameId id) index here = inr here
from_row name own (verdict.NoOriginal original) index here = inr here
from_row name own (verdict.PastOriginal original) index here = inr here
from_row name own (verdict.Refused fault) index here = inr here

indexed_named : (name : List ℕ) (rows : List (List ℕ × Verdict)) → IsIndexed name (index_of rows) → IsNamed name (map (λ (row : List ℕ × Verdict). row.0) rows)
indexed_named name [] here = absurd here
indexed_named name (row ∷ rows) here =
    elim (from_row name row.0 row.1 (index_of rows) here) [
      | inl e ↦ inl e
      | inr later ↦ inr (indexed_named name rows later)
    ]

never_lower : (name : List ℕ) → slice_cmp nat_cmp name name ≡ Less → ⊥
never_lower name lt =
    let flipped : slice_cmp nat_cmp name name ≡ Greater = nat_list_cmp_total.antisymm name name ∙ ap ordering_reverse lt in
    let clash : Less ≡ Greater = sym lt ∙ flipped in cc

not_behind : (name : List ℕ) (names : List (List ℕ)) → Behind name names → IsNamed name names → ⊥
not_behind name [] behind named = named
not_behind name (other ∷ names) behind (inl e) = never_lower name (subst (λ (o : List ℕ). slice_cmp nat_cmp name o ≡ Less) e behind.0)
not_behind name (other ∷ names) behind (inr later) = not_behind name names behind.1 later

-- ---- counts

insert_length : (file : Indexed) (index : List Indexed) (at : ℕ) → length (insert index at file) ≡ suc (length index)
insert_length file index zero = refl
insert_length file [] (suc at) = refl
insert_length file (other ∷ index) (suc at) = ap suc (insert_length file index at)

new_length : (files : Contents) (file : Indexed) (index : List Indexed) → KeepsId files file.name file.id file.complete → AreKept files index → (IsIndexed file.name index → ⊥) → length (with_file file index) ≡ suc (length index)
new_length files file index keeps all new =
    elim (has_id file.id index) as (λ b. has_id file.id index ≡ b → length (if b then index else insert index (place_by_id file.id index) file) ≡ suc (length index)) [
      | true ↦ λ there. absurd (new (keeper_indexed files file.name file.id file.complete index keeps all there))
      | false ↦ λ e. insert_length file index (place_by_id file.id index)
    ] refl

one_indexed : (index others : ℕ) → suc index + others ≡ suc (index + others)
one_indexed index others = omega arith

one_mapped : (index mapped refused : ℕ) → index + (suc mapped + refused) ≡ suc (index + (mapped + refused))
one_mapped index mapped refused = omega arith

one_refused : (index mapped refused : ℕ) → index + (mapped + suc refused) ≡ suc (index + (mapped + refused))
one_refused index mapped refused = omega arith

abbrev said : List ℕ → Option (List ℕ) → List (List ℕ × List ℕ) → List (List ℕ × List ℕ)
said name word rows = cons_option (option_map (λ (said : List ℕ). (name, said)) word) rows

count_row : (files : Contents) (name : List ℕ) (found : Verdict) (index : List Indexed) (mapped refused : List (List ℕ × List ℕ)) → IsVerdict files name found → IsByFile found → AreKept files index → (IsIndexed name index → ⊥)
    → length (with_row (file_in name found) index) + (length (said name (original_in found) mapped) + length (said name (refusal_in found) refused)) ≡ suc (length index + (length mapped + length refused))
count_row files name (verdict.Plain id complete) index mapped refused is own all new =
    ap (λ (n : ℕ). n + (length mapped + length refused)) (new_length files (record { name = name; id = id; complete = complete }) index is all new)
    ∙ one_indexed (length index) (length mapped + length refused)
count_row files name (verdict.Mapped original offset size) index mapped refused is own all new = one_mapped (length index) (length mapped) (length refused)
count_row files name (verdict.SameId id) index mapped refused is own all new = one_refused (length index) (length mapped) (length refused)
count_row files name (verdict.NoOriginal original) index mapped refused is own all new = one_refused (length index) (length mapped) (length refused)
count_row files name (verdict.PastOriginal original) index mapped refused is own all new = one_refused (length index) (length mapped) (length refused)
count_row files name (verdict.Refused fault) index mapped refused is own all new =
    let word = fault_has_word fault own in
    ap (λ (w : Option (List ℕ)). length index + (length mapped + length (said name w refused))) (ap result_ok word.1) ∙ one_refused (length index) (length mapped) (length refused)

pub rows_counted : (files : Contents) (rows : List (List ℕ × Verdict)) → NamesRise (map (λ (row : List ℕ × Verdict). row.0) rows) → AreVerdicts files rows → AreByFile rows
    → length (index_of rows) + (length (mapped_of rows) + length (refused_of rows)) ≡ length (map (λ (row : List ℕ × Verdict). row.0) rows)
rows_counted files [] rising are own = refl
rows_counted files (row ∷ rows) rising are own =
    count_row files row.0 row.1 (index_of rows) (mapped_of rows) (refused_of rows) are.0 own.0 (index_kept files rows are.1)
    (λ here. not_behind row.0 (map (λ (row : List ℕ × Verdict). row.0) rows) rising.0 (indexed_named row.0 rows here))
    ∙ ap suc (rows_counted files rows rising.1 are.1 own.1)
