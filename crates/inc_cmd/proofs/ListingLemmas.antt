-- The listing of a shelf, row by row.
use Rattle.std.proofs.Common.{◌≡◌, ◌⊎◌, ℕ, zero, suc, List, [], ◌∷◌, ◌++◌, Bool, true, false, ◌||◌, if◌then◌else◌, Result, Ok, refl, ap, ◌∙◌, subst, inl, inr}
use Rattle.std.specs.List.{AllByRecursion, insert}
use Rattle.std.specs.Ordering.{nat_cmp, ordering_reverse}
use Rattle.std.specs.declared.cmp.Ordering.TheVariants.{Less, Equal, Greater}
use Rattle.std.specs.Cmp.Lexicographic.{slice_cmp, nat_list_cmp_total}
use Rattle.std.specs.FinMap.{slice_cmp-IsAntisymmetric, nat_cmp-IsAntisymmetric}
use Rattle.std.proofs.lemmas.Slice.Eq.{bytes_eq-Decides}
use Rattle.inc_io.specs.Contents.{Contents}
use Rattle.inc_md.specs.declared.fault.ChainFault.{ChainFault}
use Rattle.inc_md.specs.declared.fault.ChainFault.TheVariants as chain
use Rattle.inc_signature.specs.declared.signature.SigFault.{SigFault}
use Rattle.inc_signature.specs.declared.signature.SigFault.TheVariants as signature
use Rattle.inc_layout.specs.declared.fault.LayoutFault.{LayoutFault}
use Rattle.inc_layout.specs.declared.fault.LayoutFault.TheVariants as layout
use Rattle.inc_layout.specs.opening.Faults.{IsOwnFault}
use Rattle.inc_index.specs.Index.{has_id, is_of}
use Rattle.inc_index.specs.Place.{place_by_id, with_file}
use Rattle.inc_index.specs.declared.indexed.Indexed.{Indexed}
use Rattle.inc_volume.specs.Standings.{IsFileFault}
use Rattle.inc_volume.specs.Verdicts.{AreVerdicts, IsHolder, IsVerdict, KeepsId}
use Rattle.inc_volume.specs.declared.holder.Holder.{Holder}
use Rattle.inc_volume.specs.declared.verdict.Verdict.{Verdict}
use Rattle.inc_volume.specs.declared.verdict.Verdict.TheVariants as verdict
use Rattle.inc_words.specs.Refusals.{chain_word, header_word, layout_word, signature_word}
use Rattle.inc_words.specs.declared.stop.Stop.{Stop}
use Rattle.inc_cmd.specs.Commands.Listing.{IsIndexed, file_in, index_beside, index_of, indexed_row, with_row}

pub beside_last : (files : List Indexed) (rows : List (List ℕ × Verdict)) (row : List ℕ × Verdict) → index_beside files (rows ++ row ∷ []) ≡ index_beside (with_row (indexed_row row) files) rows
beside_last files [] row = refl
beside_last files (other ∷ rows) row = ap (with_row (indexed_row other)) (beside_last files rows row)

-- ---- each fault of a file has a word

abbrev HasWord : Result (List ℕ) Stop → Type 0
HasWord found = (word : List ℕ) × (found ≡ Ok word)

chain_has_word : (fault : ChainFault) → IsOwnFault (layout.Chain fault) → HasWord (chain_word fault)
unfolding chain_word
chain_has_word (chain.Outside at) own = (_, refl)
chain_has_word (chain.NotRising at next) own = (_, refl)
chain_has_word (chain.BadSize at) own = (_, refl)
chain_has_word (chain.TwoMaps at) own = (_, refl)
chain_has_word chain.NoMap own = (_, refl)
chain_has_word (chain.TwoSignatures at) own = (_, refl)
chain_has_word chain.TooMany own = (_, refl)
chain_has_word chain.ReadFault own = absurd own
chain_has_word chain.OutOfMemory own = absurd own

signature_has_word : (fault : SigFault) → IsOwnFault (layout.Signature fault) → HasWord (signature_word fault)
unfolding signature_word
signature_has_word signature.Short own = (_, refl)
signature_has_word signature.BadVersion own = (_, refl)
signature_has_word signature.BadAlgorithm own = (_, refl)
signature_has_word signature.BadBlockSize own = (_, refl)
signature_has_word signature.Salted own = (_, refl)
signature_has_word signature.BadRootSize own = (_, refl)
signature_has_word signature.Trailing own = (_, refl)
signature_has_word signature.TooLong own = (_, refl)
signature_has_word signature.OutOfMemory own = absurd own

pub fault_has_word : (fault : LayoutFault) → IsFileFault fault → HasWord (layout_word fault)
unfolding layout_word
fault_has_word (layout.Header fault) is = (header_word fault, refl)
fault_has_word (layout.Chain fault) is = chain_has_word fault is.own
fault_has_word (layout.Signature fault) is = signature_has_word fault is.own
fault_has_word layout.TooLong is = (_, refl)
fault_has_word layout.Mapped is = (_, refl)
fault_has_word layout.TooLarge is = (_, refl)
fault_has_word layout.SignatureOutside is = (_, refl)
fault_has_word (layout.MapCount wanted got) is = (_, refl)
fault_has_word layout.MapOutside is = (_, refl)
fault_has_word (layout.TreeSize wanted got) is = (_, refl)
fault_has_word layout.TreeOutside is = (_, refl)
fault_has_word layout.Overlap is = (_, refl)
fault_has_word (layout.PlacePastEnd index) is = (_, refl)
fault_has_word layout.ReadFault is = absurd (is.device refl)
fault_has_word layout.OutOfMemory is = absurd (is.memory refl)

-- ---- the files that keep their ids

abbrev pub AreKept : Contents → List Indexed → Type 0
AreKept files index = AllByRecursion (λ (file : Indexed). KeepsId files file.name file.id file.complete) index

kept_in : (files : Contents) (file : Indexed) (index : List Indexed) (at : ℕ) → KeepsId files file.name file.id file.complete → AreKept files index → AreKept files (insert index at file)
kept_in files file index zero keeps all = (keeps, all)
kept_in files file [] (suc at) keeps all = (keeps, tt)
kept_in files file (other ∷ index) (suc at) keeps all = (all.0, kept_in files file index at keeps all.1)

kept_with : (files : Contents) (file : Indexed) (index : List Indexed) → KeepsId files file.name file.id file.complete → AreKept files index → AreKept files (with_file file index)
kept_with files file index keeps all =
    elim (has_id file.id index) as (λ b. AreKept files (if b then index else insert index (place_by_id file.id index) file)) [
      | true ↦ all
      | false ↦ kept_in files file index (place_by_id file.id index) keeps all
    ]

-- of two files that keep one id each is the other
one_keeper : (files : Contents) (id : List ℕ) (one other : Holder) → IsHolder files id one → IsHolder files id other → one.name ≡ other.name
one_keeper files id one other first second =
    elim (slice_cmp nat_cmp one.name other.name) as (λ o. slice_cmp nat_cmp one.name other.name ≡ o → one.name ≡ other.name) [
      | Less ↦ λ e. absurd (let none = second.first one.name e in let some = first.stands in cc)
      | Equal ↦ λ e. slice_cmp-IsAntisymmetric nat_cmp-IsAntisymmetric one.name other.name e
      | Greater ↦ λ e. absurd (
          let lower : slice_cmp nat_cmp other.name one.name ≡ Less = nat_list_cmp_total.antisymm other.name one.name ∙ ap ordering_reverse e in
          let none = first.first other.name lower in let some = second.stands in cc)
    ] refl

either : (a b : Bool) → (a || b) ≡ true → (a ≡ true) ⊎ (b ≡ true)
either true b e = inl refl
either false b e = inr e

-- whose id is there is there itself
pub keeper_indexed : (files : Contents) (name id : List ℕ) (complete : Bool) (index : List Indexed) → KeepsId files name id complete → AreKept files index → has_id id index ≡ true → IsIndexed name index
keeper_indexed files name id complete [] keeps all there = absurd (cc)
keeper_indexed files name id complete (other ∷ index) keeps all there =
    elim (either (is_of id other) (has_id id index) there) [
      | inl same ↦ inl (
          let is : other.id ≡ id = (bytes_eq-Decides other.id id).0 same in
          one_keeper files id (record { name = other.name; size = all.0.size }) (record { name = name; size = keeps.size })
          (subst (λ (i : List ℕ). IsHolder files i (record { name = other.name; size = all.0.size })) is all.0.holds) keeps.holds)
      | inr later ↦ inr (keeper_indexed files name id complete index keeps all.1 later)
    ]

kept_row : (files : Contents) (name : List ℕ) (found : Verdict) (index : List Indexed) → IsVerdict files name found → AreKept files index → AreKept files (with_row (file_in name found) index)
kept_row files name (verdict.Plain id complete) index is all = kept_with files (record { name = name; id = id; complete = complete }) index is all
kept_row files name (verdict.Mapped original offset size) index is all = all
kept_row files name (verdict.SameId id) index is all = all
kept_row files name (verdict.NoOriginal original) index is all = all
kept_row files name (verdict.PastOriginal original) index is all = all
kept_row files name (verdict.Refused fault) index is all = all

pub index_kept : (files : Contents) (rows : List (List ℕ × Verdict)) → AreVerdicts files rows → AreKept files (index_of rows)
index_kept files [] are = tt
index_kept files (row ∷ rows) are = kept_row files row.0 row.1 (index_of rows) are.0 (index_kept files rows are.1)

-- each of these names is higher
abbrev pub Behind : List ℕ → List (List ℕ) → Type 0
Behind name names = AllByRecursion (λ (other : List ℕ). slice_cmp nat_cmp name other ≡ Less) names
