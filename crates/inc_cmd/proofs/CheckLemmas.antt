-- A check of the blocks of a file, one after another, over a content that may not be told.
use Rattle.std.proofs.Common.{◌≡◌, ℕ, suc, ◌+◌, Bool, cond, List, [], ◌∷◌, ◌++◌, Option, Some, None, Result, Ok, Err, refl, sym, ap, ◌∙◌, arith, append-nil, subst}
use Rattle.std.specs.Prelude.{IfSome, IfOk, flat_map, count_by}
use Rattle.std.specs.Result.{is_ok}
use Rattle.std.proofs.lemmas.Grind.{flat_map-append}
use Rattle.std.proofs.lemmas.List.Sums.{sum_by-append}
use Rattle.inc_layout.specs.reading.Checking.{AreKept, GivesCheck}
use Rattle.inc_layout.specs.opening.Listed.{listed}
use Rattle.inc_layout.specs.declared.opened.Layout.{Layout}
use Rattle.inc_mapped.specs.Mapping.{Mapping}
use Rattle.inc_layout.specs.declared.reading.static_error.StaticError.{StaticError}
use Rattle.inc_layout.specs.declared.reading.static_error.StaticError.TheVariants as block
use Rattle.inc_layout.proofs.ListedLemmas.{listed_more}
use Rattle.inc_cmd.specs.Commands.Parts.{name_blocks, name_reading}
use Rattle.inc_cmd.specs.Commands.Check.{IsCheckOf, bad_line, below, checked, checked_in, is_good, line_in}
use Rattle.inc_words.specs.Endings.{EndsAs, not_shown_by}
use Rattle.inc_words.specs.Refusals.{reason_of}
use Rattle.inc_cmd.specs.declared.commands.check.Checked.{Checked}
use Rattle.inc_words.specs.declared.outcome.CommandOutcome.{CommandOutcome}
use Rattle.inc_words.specs.declared.stop.Stop.{Stop}

-- the lines and the number of good ones of the first so many blocks
pub record CheckedTo (bytes : List ℕ) (layout : Layout) (part : Option Mapping) (count : ℕ) (lines : List ℕ) (good : ℕ) : Type 0 where
  pub lines_are : lines ≡ flat_map (line_in bytes layout part) (below count)
  pub good_is : good ≡ count_by (is_good bytes layout part) (below count)

checked_none : (bytes : List ℕ) (layout : Layout) (part : Option Mapping) → CheckedTo bytes layout part 0 [] 0
unfolding listed
checked_none bytes layout part = record { lines_are = refl; good_is = refl }

pub told_none : (told : Option (List ℕ)) (layout : Layout) (part : Option Mapping) → IfSome told (λ bytes. CheckedTo bytes layout part 0 [] 0)
told_none None layout part = tt
told_none (Some bytes) layout part = checked_none bytes layout part

-- no hash block was kept yet
pub told_kept : (told : Option (List ℕ)) (layout : Layout) → IfSome told (λ bytes. AreKept bytes layout.areas [])
told_kept None layout = tt
told_kept (Some bytes) layout = λ k d lt. absurd (omega arith)

pub one_more : (p : ℕ → Bool) (count : ℕ) → count_by p (below count ++ count ∷ []) ≡ count_by p (below count) + cond (p count) 1 0
one_more p count = sum_by-append (λ (i : ℕ). cond (p i) 1 0) (below count) (count ∷ []) ∙ ap (λ (n : ℕ). count_by p (below count) + n) (zero_plus (cond (p count) 1 0))
  where
    zero_plus : (n : ℕ) → 0 + n ≡ n
    zero_plus n = omega arith

checked_more : (bytes : List ℕ) (layout : Layout) (part : Option Mapping) (count : ℕ) (lines more : List ℕ) (good one : ℕ) → CheckedTo bytes layout part count lines good
    → one ≡ cond (is_good bytes layout part count) 1 0 → more ≡ lines ++ line_in bytes layout part count → CheckedTo bytes layout part (suc count) more (good + one)
checked_more bytes layout part count lines more good one is one_is more_is = record {
  lines_are = more_is ∙ ap (λ (xs : List ℕ). xs ++ line_in bytes layout part count) is.lines_are
      ∙ ap (λ (ys : List ℕ). flat_map (line_in bytes layout part) (below count) ++ ys) (sym (append-nil (line_in bytes layout part count)))
      ∙ sym (flat_map-append (line_in bytes layout part) (below count) (count ∷ []))
      ∙ ap (flat_map (line_in bytes layout part)) (listed_more (λ i. i) count);
  good_is = ap (λ (n : ℕ). n + one) is.good_is ∙ ap (λ (n : ℕ). count_by (is_good bytes layout part) (below count) + n) one_is
      ∙ sym (one_more (is_good bytes layout part) count) ∙ ap (count_by (is_good bytes layout part)) (listed_more (λ i. i) count);
}

pub told_more : (told : Option (List ℕ)) (layout : Layout) (part : Option Mapping) (count : ℕ) (lines more : List ℕ) (good one : ℕ) → IfSome told (λ bytes. CheckedTo bytes layout part count lines good)
    → IfSome told (λ bytes. one ≡ cond (is_good bytes layout part count) 1 0) → IfSome told (λ bytes. more ≡ lines ++ line_in bytes layout part count)
    → IfSome told (λ bytes. CheckedTo bytes layout part (suc count) more (good + one))
told_more None layout part count lines more good one is one_is more_is = tt
told_more (Some bytes) layout part count lines more good one is one_is more_is = checked_more bytes layout part count lines more good one is one_is more_is

-- ---- one block

-- what the device did is no reason, and has no line
bad_wanted : (index : ℕ) (error : StaticError) (wanted : Result (List ℕ) StaticError) (outcome : CommandOutcome) → GivesCheck (Err error) wanted → EndsAs (not_shown_by index (reason_of error)) outcome
    → outcome.status.0 ≡ 4 → wanted ≡ Err error
unfolding reason_of
bad_wanted index block.ReadFault wanted outcome given ends four = let five : outcome.status.0 ≡ 5 = ends.status_is in absurd (omega arith)
bad_wanted index block.OutOfMemory wanted outcome given ends four = let six : outcome.status.0 ≡ 6 = ends.status_is in absurd (omega arith)
bad_wanted index error wanted outcome given ends four = given

pub bad_one : (told : Option (List ℕ)) (layout : Layout) (part : Option Mapping) (index : ℕ) (error : StaticError) (outcome : CommandOutcome) → IfSome told (λ bytes. GivesCheck (Err error) (name_reading bytes layout part index))
    → EndsAs (not_shown_by index (reason_of error)) outcome → outcome.status.0 ≡ 4 → IfSome told (λ bytes. ◌≡◌ {A = ℕ} 0 (cond (is_good bytes layout part index) 1 0))
bad_one None layout part index error outcome given ends four = tt
bad_one (Some bytes) layout part index error outcome given ends four =
    sym (ap (λ (r : Result (List ℕ) StaticError). cond (is_ok r) 1 0) (bad_wanted index error (name_reading bytes layout part index) outcome given ends four))

pub bad_more : (told : Option (List ℕ)) (layout : Layout) (part : Option Mapping) (index : ℕ) (error : StaticError) (outcome : CommandOutcome) (lines more : List ℕ)
    → IfSome told (λ bytes. GivesCheck (Err error) (name_reading bytes layout part index)) → EndsAs (not_shown_by index (reason_of error)) outcome → outcome.status.0 ≡ 4
    → more ≡ lines ++ outcome.text.items → IfSome told (λ bytes. more ≡ lines ++ line_in bytes layout part index)
bad_more None layout part index error outcome lines more given ends four more_is = tt
bad_more (Some bytes) layout part index error outcome lines more given ends four more_is =
    more_is ∙ ap (λ (ys : List ℕ). lines ++ ys) (ends.text_is ∙ sym (ap (bad_line index) (bad_wanted index error (name_reading bytes layout part index) outcome given ends four)))

-- ---- the whole file

-- the outcome of what was found
found_outcome : (bytes : List ℕ) (layout : Layout) (part : Option Mapping) (found : Checked) (outcome : CommandOutcome) → IsCheckOf bytes layout part (name_blocks layout part) found
    → EndsAs (checked found.count found.lines.items found.good) outcome → EndsAs (checked_in bytes layout part) outcome
found_outcome bytes layout part found outcome is ends =
    subst (λ (n : ℕ). EndsAs (checked n (flat_map (line_in bytes layout part) (below (name_blocks layout part))) (count_by (is_good bytes layout part) (below (name_blocks layout part)))) outcome) is.count_is
    (subst (λ (lines : List ℕ). EndsAs (checked found.count lines (count_by (is_good bytes layout part) (below (name_blocks layout part)))) outcome) is.lines_are
    (subst (λ (n : ℕ). EndsAs (checked found.count found.lines.items n) outcome) is.good_is ends))

pub checked_outcome : (told : Option (List ℕ)) (layout : Layout) (part : Option Mapping) (found : Checked) (result : Result CommandOutcome Stop) → IfSome told (λ bytes. IsCheckOf bytes layout part (name_blocks layout part) found)
    → IfOk result (EndsAs (checked found.count found.lines.items found.good)) → IfSome told (λ bytes. IfOk result (EndsAs (checked_in bytes layout part)))
checked_outcome None layout part found result is ends = tt
checked_outcome (Some bytes) layout part found (Ok outcome) is ends = found_outcome bytes layout part found outcome is ends
checked_outcome (Some bytes) layout part found (Err stop) is ends = tt

-- the layout of what was opened is the one that was judged
pub laid_outcome : (told : Option (List ℕ)) (opened layout : Layout) (part : Option Mapping) (result : Result CommandOutcome Stop) → opened ≡ layout
    → IfSome told (λ bytes. IfOk result (EndsAs (checked_in bytes opened part))) → IfSome told (λ bytes. IfOk result (EndsAs (checked_in bytes layout part)))
laid_outcome told opened layout part result same ends = subst (λ (l : Layout). IfSome told (λ bytes. IfOk result (EndsAs (checked_in bytes l part)))) same ends
