-- The verdicts that are made of what all files say of themselves are those of the shelf, one a name.
use Rattle.std.proofs.Common.{◌≡◌, ℕ, List, [], ◌∷◌, map, Bool, true, ◌||◌, Option, Some, None, refl, ap, ◌∙◌}
use Rattle.std.specs.Prelude.{IfSome, is_some, option_map}
use Rattle.std.specs.List.{cons_option, filter_map, list_any}
use Rattle.std.specs.Ordering.{nat_cmp, eq_by_cmp}
use Rattle.std.specs.Cmp.Lexicographic.{slice_cmp}
use Rattle.std.specs.FinMap.{get, keys, contains_key-keys}
use Rattle.inc_io.specs.Contents.{Contents}
use Rattle.inc_volume.specs.Standings.{standing_of}
use Rattle.inc_volume.specs.Verdicts.{AreVerdicts, first_holder, holder_in, holder_of, holder_or, judged_rows, named_verdict, size_of_any, size_with, standing_at, standings_among, verdict_with, verdicts_of}
use Rattle.inc_volume.specs.declared.holder.Holder.{Holder}
use Rattle.inc_volume.specs.declared.standing.Standing.{Standing}
use Rattle.inc_volume.specs.declared.standing.Standing.TheVariants as standing
use Rattle.inc_volume.specs.declared.verdict.Verdict.{Verdict}
use Rattle.inc_volume.proofs.Keeping.{itself, true_after}
use Rattle.inc_volume.proofs.VerdictMeaning.{verdict_means}

-- who keeps an id is seen from what the files say
same_holder_in : (files : Contents) (id : List ℕ) (names : List (List ℕ)) → holder_in (standings_among files names) id ≡ first_holder files id names
same_holder_in files id [] = refl
same_holder_in files id (name ∷ names) =
    elim (standing_at files name) as (λ (found : Option Standing). holder_in (cons_option (option_map (λ (s : Standing). (name, s)) found) (standings_among files names)) id
    ≡ holder_or name (size_of_any id found) (first_holder files id names)) [
      | None ↦ same_holder_in files id names
      | Some found ↦ ap (holder_or name (size_with id found)) (same_holder_in files id names)
    ]

same_verdict : (one other : List ℕ → Option Holder) → ((id : List ℕ) → one id ≡ other id) → (name : List ℕ) (found : Standing) → verdict_with one name found ≡ verdict_with other name found
same_verdict one other same name (standing.Plain id size complete) = rw (same id) refl
same_verdict one other same name (standing.Part original offset size) = rw (same original) refl
same_verdict one other same name (standing.Refused fault) = refl

rows_judged : (files : Contents) (holder : List ℕ → Option Holder) → ((id : List ℕ) → holder id ≡ holder_of files id) → (names : List (List ℕ))
    → judged_rows holder (standings_among files names) ≡ filter_map (named_verdict files) names
rows_judged files holder same [] = refl
rows_judged files holder same (name ∷ names) =
    elim (standing_at files name) as (λ (found : Option Standing). judged_rows holder (cons_option (option_map (λ (s : Standing). (name, s)) found) (standings_among files names))
    ≡ cons_option (option_map (λ (v : Verdict). (name, v)) (option_map (verdict_with (holder_of files) name) found)) (filter_map (named_verdict files) names)) [
      | None ↦ rows_judged files holder same names
      | Some found ↦ rw (same_verdict holder (holder_of files) same name found, rows_judged files holder same names) refl
    ]

all_judged : (files : Contents) (all : List (List ℕ × Standing)) → all ≡ standings_among files (keys files) → judged_rows (holder_in all) all ≡ verdicts_of files
all_judged files all is = rw is (rows_judged files (holder_in (standings_among files (keys files))) (λ id. same_holder_in files id (keys files)) (keys files))

-- ---- each name has a verdict

abbrev AllThere : Contents → List (List ℕ) → Type 0
AllThere files [] = Unit {0}
AllThere files (name ∷ names) = (is_some (get files name) ≡ true) × AllThere files names

there : (files : Contents) (names : List (List ℕ)) → ((name : List ℕ) → list_any (eq_by_cmp (slice_cmp nat_cmp) name) names ≡ true → list_any (eq_by_cmp (slice_cmp nat_cmp) name) (keys files) ≡ true)
    → AllThere files names
there files [] within = tt
there files (name ∷ names) within = (
  contains_key-keys files name ∙ within name (ap (λ (b : Bool). b || list_any (eq_by_cmp (slice_cmp nat_cmp) name) names) (itself name)),
  there files names (λ other here. within other (true_after (eq_by_cmp (slice_cmp nat_cmp) other name) _ here)),
)

names_stay : (files : Contents) (names : List (List ℕ)) → AllThere files names → map (λ (row : List ℕ × Verdict). row.0) (filter_map (named_verdict files) names) ≡ names
names_stay files [] all = refl
names_stay files (name ∷ names) all =
    elim (get files name) as (λ (bytes : Option (List ℕ)). is_some bytes ≡ true
    → map (λ (row : List ℕ × Verdict). row.0) (cons_option (option_map (λ (v : Verdict). (name, v)) (option_map (verdict_with (holder_of files) name) (option_map standing_of bytes))) (filter_map (named_verdict files) names)) ≡ name ∷ names) [
      | None ↦ λ e. absurd (cc)
      | Some bytes ↦ λ e. ap (λ (rest : List (List ℕ)). name ∷ rest) (names_stay files names all.1)
    ] all.0

rows_mean : (files : Contents) (names : List (List ℕ)) → AreVerdicts files (filter_map (named_verdict files) names)
rows_mean files [] = tt
rows_mean files (name ∷ names) =
    elim (standing_at files name) as (λ (found : Option Standing). standing_at files name ≡ found
    → AreVerdicts files (cons_option (option_map (λ (v : Verdict). (name, v)) (option_map (verdict_with (holder_of files) name) found)) (filter_map (named_verdict files) names))) [
      | None ↦ λ e. rows_mean files names
      | Some found ↦ λ e. (verdict_means files name found e, rows_mean files names)
    ] refl

-- ---- over files that may not be told

pub survey_answers : (told : Option Contents) (names : List (List ℕ)) (all : List (List ℕ × Standing)) (list : List (List ℕ × Verdict)) → IfSome told (λ files. names ≡ keys files)
    → IfSome told (λ files. all ≡ standings_among files names) → list ≡ judged_rows (holder_in all) all → IfSome told (λ files. list ≡ verdicts_of files)
survey_answers None names all list listed stood judged = tt
survey_answers (Some files) names all list listed stood judged = judged ∙ all_judged files all (stood ∙ ap (standings_among files) listed)

pub survey_names : (told : Option Contents) (list : List (List ℕ × Verdict)) → IfSome told (λ files. list ≡ verdicts_of files) → IfSome told (λ files. map (λ row. row.0) list ≡ keys files)
survey_names None list is = tt
survey_names (Some files) list is = rw is (names_stay files (keys files) (there files (keys files) (λ name here. here)))

pub survey_means : (told : Option Contents) (list : List (List ℕ × Verdict)) → IfSome told (λ files. list ≡ verdicts_of files) → IfSome told (λ files. AreVerdicts files list)
survey_means None list is = tt
survey_means (Some files) list is = rw is (rows_mean files (keys files))
