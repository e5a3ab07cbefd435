-- What a listing says of a shelf: each name once, by its verdict.
use Rattle.std.proofs.Common.{◌≡◌, ◌⊎◌, ℕ, zero, suc, List, [], ◌∷◌, length, map, Bool, true, false, if◌then◌else◌, Option, Some, None, refl, sym, ap, ◌∙◌, subst, inl, inr}
use Rattle.std.specs.Prelude.{IfSome, T, IsTrue, option_map, ◌&&◌}
use Rattle.std.specs.List.{AllByRecursion, cons_option, filter_map, insert}
use Rattle.std.specs.Result.{result_ok}
use Rattle.std.specs.Ordering.{nat_cmp, is_lt}
use Rattle.std.specs.declared.cmp.Ordering.{Ordering}
use Rattle.std.specs.declared.cmp.Ordering.TheVariants.{Less, Equal, Greater}
use Rattle.std.specs.Cmp.Lexicographic.{slice_cmp}
use Rattle.std.specs.FinMap.{entries, entries_sorted, keys}
use Rattle.std.specs.FinMap.Entries.{is_sorted, below_all}
use Rattle.inc_io.specs.Contents.{Contents}
use Rattle.inc_index.specs.Index.{AreInIdOrder, has_id}
use Rattle.inc_index.specs.Place.{place_by_id, with_file}
use Rattle.inc_index.specs.declared.indexed.Indexed.{Indexed}
use Rattle.inc_index.proofs.Order.{rising_with}
use Rattle.inc_volume.specs.Verdicts.{AreByFile, AreVerdicts, IsByFile, IsVerdict, KeepsId}
use Rattle.inc_volume.specs.declared.verdict.Verdict.{Verdict}
use Rattle.inc_volume.specs.declared.verdict.Verdict.TheVariants as verdict
use Rattle.inc_cmd.specs.Commands.Listing.{AreInNameOrder, NamesRow, IsIndexed, IsMappedInto, IsRefusedBy, ListsNames, NamesRise, file_in, index_of, list_text, mapped_of, original_in, refusal_in, refused_of, told_row, with_row}
use Rattle.inc_cmd.proofs.ListingCount.{rows_counted}
use Rattle.inc_cmd.proofs.ListingLemmas.{AreKept, Behind, fault_has_word, index_kept, keeper_indexed}

abbrev AreMapped : Contents → List (List ℕ × List ℕ) → Type 0
AreMapped files rows = AllByRecursion (λ (row : List ℕ × List ℕ). IsMappedInto files row.0 row.1) rows

abbrev AreRefused : Contents → List (List ℕ × List ℕ) → Type 0
AreRefused files rows = AllByRecursion (λ (row : List ℕ × List ℕ). IsRefusedBy files row.0 row.1) rows

abbrev IsListed : List Indexed → List (List ℕ × List ℕ) → List (List ℕ × List ℕ) → List ℕ → Type 0
IsListed index mapped refused name = IsIndexed name index ⊎ NamesRow name mapped ⊎ NamesRow name refused

-- ---- one more file

ordered_with : (file : Indexed) (index : List Indexed) → AreInIdOrder index → AreInIdOrder (with_file file index)
ordered_with file index rising =
    elim (has_id file.id index) as (λ b. has_id file.id index ≡ b → AreInIdOrder (if b then index else insert index (place_by_id file.id index) file)) [
      | true ↦ λ e. rising
      | false ↦ λ e. rising_with file index e rising
    ] refl

indexed_in : (file : Indexed) (index : List Indexed) (at : ℕ) → IsIndexed file.name (insert index at file)
indexed_in file index zero = inl refl
indexed_in file [] (suc at) = inl refl
indexed_in file (other ∷ index) (suc at) = inr (indexed_in file index at)

still_in : (name : List ℕ) (file : Indexed) (index : List Indexed) (at : ℕ) → IsIndexed name index → IsIndexed name (insert index at file)
still_in name file index zero here = inr here
still_in name file [] (suc at) here = absurd here
still_in name file (other ∷ index) (suc at) (inl e) = inl e
still_in name file (other ∷ index) (suc at) (inr later) = inr (still_in name file index at later)

still_with : (name : List ℕ) (file : Indexed) (index : List Indexed) → IsIndexed name index → IsIndexed name (with_file file index)
still_with name file index here =
    elim (has_id file.id index) as (λ b. IsIndexed name (if b then index else insert index (place_by_id file.id index) file)) [
      | true ↦ here
      | false ↦ still_in name file index (place_by_id file.id index) here
    ]

indexed_with : (files : Contents) (file : Indexed) (index : List Indexed) → KeepsId files file.name file.id file.complete → AreKept files index → IsIndexed file.name (with_file file index)
indexed_with files file index keeps all =
    elim (has_id file.id index) as (λ b. has_id file.id index ≡ b → IsIndexed file.name (if b then index else insert index (place_by_id file.id index) file)) [
      | true ↦ λ there. keeper_indexed files file.name file.id file.complete index keeps all there
      | false ↦ λ new. indexed_in file index (place_by_id file.id index)
    ] refl

-- ---- one more row

ordered_row : (name : List ℕ) (found : Verdict) (index : List Indexed) → AreInIdOrder index → AreInIdOrder (with_row (file_in name found) index)
ordered_row name (verdict.Plain id complete) index rising = ordered_with (record { name = name; id = id; complete = complete }) index rising
ordered_row name (verdict.Mapped original offset size) index rising = rising
ordered_row name (verdict.SameId id) index rising = rising
ordered_row name (verdict.NoOriginal original) index rising = rising
ordered_row name (verdict.PastOriginal original) index rising = rising
ordered_row name (verdict.Refused fault) index rising = rising

still_row : (other name : List ℕ) (found : Verdict) (index : List Indexed) → IsIndexed other index → IsIndexed other (with_row (file_in name found) index)
still_row other name (verdict.Plain id complete) index here = still_with other (record { name = name; id = id; complete = complete }) index here
still_row other name (verdict.Mapped original offset size) index here = here
still_row other name (verdict.SameId id) index here = here
still_row other name (verdict.NoOriginal original) index here = here
still_row other name (verdict.PastOriginal original) index here = here
still_row other name (verdict.Refused fault) index here = here

original_is : (files : Contents) (name : List ℕ) (found : Verdict) (original : List ℕ) → IsVerdict files name found → original_in found ≡ Some original → IsMappedInto files name original
original_is files name (verdict.Plain id complete) original is e = absurd (cc)
original_is files name (verdict.Mapped own offset size) original is e =
    let same : own ≡ original = cc in subst (IsMappedInto files name) same (record { offset = offset; size = size; maps = is })
original_is files name (verdict.SameId id) original is e = absurd (cc)
original_is files name (verdict.NoOriginal own) original is e = absurd (cc)
original_is files name (verdict.PastOriginal own) original is e = absurd (cc)
original_is files name (verdict.Refused fault) original is e = absurd (cc)

still_said : (other name : List ℕ) (said : Option (List ℕ)) (rows : List (List ℕ × List ℕ)) → NamesRow other rows → NamesRow other (cons_option (option_map (λ (said : List ℕ). (name, said)) said) rows)
still_said other name None rows here = here
still_said other name (Some said) rows here = inr here

-- a row stands in the list of its verdict
here_row : (files : Contents) (name : List ℕ) (found : Verdict) (index : List Indexed) (mapped refused : List (List ℕ × List ℕ)) → IsVerdict files name found → IsByFile found → AreKept files index
    → IsListed (with_row (file_in name found) index) (cons_option (told_row original_in (name, found)) mapped) (cons_option (told_row refusal_in (name, found)) refused) name
here_row files name (verdict.Plain id complete) index mapped refused is own all = inl (indexed_with files (record { name = name; id = id; complete = complete }) index is all)
here_row files name (verdict.Mapped original offset size) index mapped refused is own all = inr (inl (inl refl))
here_row files name (verdict.SameId id) index mapped refused is own all = inr (inr (inl refl))
here_row files name (verdict.NoOriginal original) index mapped refused is own all = inr (inr (inl refl))
here_row files name (verdict.PastOriginal original) index mapped refused is own all = inr (inr (inl refl))
here_row files name (verdict.Refused fault) index mapped refused is own all =
    let word = fault_has_word fault own in
    inr (inr (subst (λ (w : Option (List ℕ)). NamesRow name (cons_option (option_map (λ (said : List ℕ). (name, said)) w) refused)) (ap result_ok (sym word.1)) (inl refl)))

still_listed : (other name : List ℕ) (found : Verdict) (index : List Indexed) (mapped refused : List (List ℕ × List ℕ)) → IsListed index mapped refused other
    → IsListed (with_row (file_in name found) index) (cons_option (told_row original_in (name, found)) mapped) (cons_option (told_row refusal_in (name, found)) refused) other
still_listed other name found index mapped refused (inl here) = inl (still_row other name found index here)
still_listed other name found index mapped refused (inr (inl here)) = inr (inl (still_said other name (original_in found) mapped here))
still_listed other name found index mapped refused (inr (inr here)) = inr (inr (still_said other name (refusal_in found) refused here))

-- ---- all rows

index_rises : (rows : List (List ℕ × Verdict)) → AreInIdOrder (index_of rows)
index_rises [] = tt
index_rises (row ∷ rows) = ordered_row row.0 row.1 (index_of rows) (index_rises rows)

mapped_all : (files : Contents) (rows : List (List ℕ × Verdict)) → AreVerdicts files rows → AreMapped files (mapped_of rows)
mapped_all files [] are = tt
mapped_all files (row ∷ rows) are =
    elim (original_in row.1) as (λ said. original_in row.1 ≡ said → AreMapped files (cons_option (option_map (λ (said : List ℕ). (row.0, said)) said) (mapped_of rows))) [
      | None ↦ λ e. mapped_all files rows are.1
      | Some original ↦ λ e. (original_is files row.0 row.1 original are.0 e, mapped_all files rows are.1)
    ] refl

refused_all : (files : Contents) (rows : List (List ℕ × Verdict)) → AreVerdicts files rows → AreRefused files (refused_of rows)
refused_all files [] are = tt
refused_all files (row ∷ rows) are =
    elim (refusal_in row.1) as (λ said. refusal_in row.1 ≡ said → AreRefused files (cons_option (option_map (λ (said : List ℕ). (row.0, said)) said) (refused_of rows))) [
      | None ↦ λ e. refused_all files rows are.1
      | Some word ↦ λ e. (record { found = row.1; is = are.0; by = e }, refused_all files rows are.1)
    ] refl

abbrev AreListed : List Indexed → List (List ℕ × List ℕ) → List (List ℕ × List ℕ) → List (List ℕ × Verdict) → Type 0
AreListed index mapped refused rows = AllByRecursion (IsListed index mapped refused) (map (λ (row : List ℕ × Verdict). row.0) rows)

all_still : (name : List ℕ) (found : Verdict) (index : List Indexed) (mapped refused : List (List ℕ × List ℕ)) (rows : List (List ℕ × Verdict)) → AreListed index mapped refused rows
    → AreListed (with_row (file_in name found) index) (cons_option (told_row original_in (name, found)) mapped) (cons_option (told_row refusal_in (name, found)) refused) rows
all_still name found index mapped refused [] all = tt
all_still name found index mapped refused (row ∷ rows) all = (still_listed row.0 name found index mapped refused all.0, all_still name found index mapped refused rows all.1)

all_listed_once : (files : Contents) (rows : List (List ℕ × Verdict)) → AreVerdicts files rows → AreByFile rows → AreListed (index_of rows) (mapped_of rows) (refused_of rows) rows
all_listed_once files [] are own = tt
all_listed_once files (row ∷ rows) are own = (
  here_row files row.0 row.1 (index_of rows) (mapped_of rows) (refused_of rows) are.0 own.0 (index_kept files rows are.1),
  all_still row.0 row.1 (index_of rows) (mapped_of rows) (refused_of rows) rows (all_listed_once files rows are.1 own.1),
)

-- ---- the order of names

said_behind : (says : Verdict → Option (List ℕ)) (name : List ℕ) (rows : List (List ℕ × Verdict)) → Behind name (map (λ (row : List ℕ × Verdict). row.0) rows)
    → Behind name (map (λ (row : List ℕ × List ℕ). row.0) (filter_map (told_row says) rows))
said_behind says name [] behind = tt
said_behind says name (row ∷ rows) behind =
    elim (says row.1) as (λ said. Behind name (map (λ (row : List ℕ × List ℕ). row.0) (cons_option (option_map (λ (said : List ℕ). (row.0, said)) said) (filter_map (told_row says) rows)))) [
      | None ↦ said_behind says name rows behind.1
      | Some said ↦ (behind.0, said_behind says name rows behind.1)
    ]

said_rises : (says : Verdict → Option (List ℕ)) (rows : List (List ℕ × Verdict)) → NamesRise (map (λ (row : List ℕ × Verdict). row.0) rows) → AreInNameOrder (filter_map (told_row says) rows)
said_rises says [] rising = tt
said_rises says (row ∷ rows) rising =
    elim (says row.1) as (λ said. AreInNameOrder (cons_option (option_map (λ (said : List ℕ). (row.0, said)) said) (filter_map (told_row says) rows))) [
      | None ↦ said_rises says rows rising.1
      | Some said ↦ (said_behind says row.0 rows rising.0, said_rises says rows rising.1)
    ]

is_less : (o : Ordering) → is_lt o ≡ true → o ≡ Less
is_less Less e = refl
is_less Equal e = absurd (cc)
is_less Greater e = absurd (cc)

true_both : (a b : Bool) → IsTrue (a && b) → (a ≡ true) × (IsTrue b)
true_both true b h = (refl, h)
true_both false b h = absurd (cc)

in_order : (b : Bool) → T b → IsTrue b
in_order true h = refl
in_order false h = absurd h

entries_behind : (name : List ℕ) (es : List (List ℕ × List ℕ)) → IsTrue (below_all (slice_cmp nat_cmp) name es) → Behind name (map (λ (e : List ℕ × List ℕ). e.0) es)
entries_behind name [] below = tt
entries_behind name (e ∷ es) below =
    let parts = true_both (is_lt (slice_cmp nat_cmp name e.0)) (below_all (slice_cmp nat_cmp) name es) below in
    (is_less _ parts.0, entries_behind name es parts.1)

entries_rise : (es : List (List ℕ × List ℕ)) → IsTrue (is_sorted (slice_cmp nat_cmp) es) → AreInNameOrder es
entries_rise [] sorted = tt
entries_rise (e ∷ es) sorted =
    let parts = true_both (below_all (slice_cmp nat_cmp) e.0 es) (is_sorted (slice_cmp nat_cmp) es) sorted in
    (entries_behind e.0 es (subst IsTrue (sym parts.0) refl), entries_rise es parts.1)

keys_rise : (files : Contents) → NamesRise (keys files)
keys_rise files = entries_rise (entries files) (in_order _ (entries_sorted files))

-- ---- the text

pub rows_list : (files : Contents) (rows : List (List ℕ × Verdict)) → map (λ (row : List ℕ × Verdict). row.0) rows ≡ keys files → AreVerdicts files rows → AreByFile rows → ListsNames files (list_text rows)
rows_list files rows names are own =
    let rising = subst NamesRise (sym names) (keys_rise files) in
    record {
      index = index_of rows;
      mapped = mapped_of rows;
      refused = refused_of rows;
      text_is = refl;
      keeps = index_kept files rows are;
      maps = mapped_all files rows are;
      refuses = refused_all files rows are;
      count = rows_counted files rows rising are own ∙ ap length names;
      each = subst (AllByRecursion (IsListed (index_of rows) (mapped_of rows) (refused_of rows))) names (all_listed_once files rows are own);
      index_order = index_rises rows;
      mapped_order = said_rises original_in rows rising;
      refused_order = said_rises refusal_in rows rising;
    }

-- over files that may not be told
pub names_listed : (told : Option Contents) (rows : List (List ℕ × Verdict)) (status : ℕ) (text : List ℕ) → IfSome told (λ files. map (λ row. row.0) rows ≡ keys files) → IfSome told (λ files. AreVerdicts files rows)
    → AreByFile rows → text ≡ list_text rows → IfSome told (λ files. status ≡ 0 → ListsNames files text)
names_listed None rows status text names are own is = tt
names_listed (Some files) rows status text names are own is = λ done. subst (ListsNames files) (sym is) (rows_list files rows names are own)
