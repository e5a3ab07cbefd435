-- A check that finds every block good: each of them has a path that proves it.
use Rattle.std.proofs.Common.{◌≡◌, ℕ, zero, suc, ◌+◌, ◌<◌, ◌≤◌, Bool, true, false, cond, eqb, List, [], ◌∷◌, ◌++◌, Option, Some, None, Result, Ok, Err, refl, sym, ◌∙◌, subst, arith, inl, inr}
use Rattle.std.specs.Prelude.{IfSome, IfOk, bytes_eq, count_by}
use Rattle.std.specs.Result.{is_ok}
use Rattle.std.proofs.lemmas.Bool.{cases_lt, eqb-true}
use Rattle.std.proofs.lemmas.Slice.Eq.{bytes_eq-Decides}
use Rattle.inc_signature.specs.declared.signature.SigInfo.{SigInfo}
use Rattle.inc_layout.specs.Backing.{IsLaidOut}
use Rattle.inc_layout.specs.opening.Listed.{listed}
use Rattle.inc_mapped.specs.Mapping.{Mapping}
use Rattle.inc_layout.specs.declared.opened.Layout.{Layout}
use Rattle.inc_layout.specs.declared.reading.static_error.StaticError.{StaticError}
use Rattle.inc_cmd.specs.Commands.Parts.{BeginsBlock, IsNameContent, name_blocks, name_reading}
use Rattle.inc_cmd.specs.Commands.Check.{AreAllProved, IsGoodBlock, below, checked_in, checked_status, is_good}
use Rattle.inc_cmd.specs.Commands.Read.{sig_refusal}
use Rattle.inc_words.specs.Endings.{Ending, EndsAs, unless_refused}
use Rattle.inc_words.specs.Refusals.{root_differs}
use Rattle.inc_words.specs.declared.outcome.CommandOutcome.{CommandOutcome}
use Rattle.inc_words.specs.declared.stop.Stop.{Stop}
use Rattle.inc_cmd.proofs.CheckLemmas.{one_more}
use Rattle.inc_cmd.proofs.PartLemmas.{name_means}

good_block : (bytes : List ℕ) (layout : Layout) (part : Option Mapping) (index : ℕ) (read : Result (List ℕ) StaticError)
    → ((text : List ℕ) → read ≡ Ok text → IsNameContent bytes layout part index text) → is_ok read ≡ true → IsGoodBlock bytes layout part index
good_block bytes layout part index (Ok content) means ok = record { content = content; proved = means content refl }
good_block bytes layout part index (Err error) means ok = absurd (cc)

few_good : (p : ℕ → Bool) (count : ℕ) → count_by p (below count) ≤ count
unfolding listed
few_good p zero = omega arith
few_good p (suc count) = let rest = few_good p count in let step = one_more p count in at_most_one (p count) (count_by p (below count)) count (count_by p (below count ++ count ∷ [])) rest step
  where
    at_most_one : (b : Bool) (before count after : ℕ) → before ≤ count → after ≡ before + cond b 1 0 → after ≤ suc count
    at_most_one true before count after le e = omega arith
    at_most_one false before count after le e = omega arith

last_good : (b : Bool) (before count after : ℕ) → before ≤ count → after ≡ before + cond b 1 0 → after ≡ suc count → (b ≡ true) × (before ≡ count)
last_good true before count after le e all = (refl, omega arith)
last_good false before count after le e all = absurd (omega arith)

each_good : (p : ℕ → Bool) (count : ℕ) → count_by p (below count) ≡ count → (i : ℕ) → i < count → p i ≡ true
unfolding listed
each_good p zero all i lt = absurd (omega arith)
each_good p (suc count) all i lt =
    let parts = last_good (p count) (count_by p (below count)) count (count_by p (below count ++ count ∷ [])) (few_good p count) (one_more p count) all in
    elim (cases_lt i count) [
      | inl lower ↦ each_good p count parts.1 i lower
      | inr upper ↦ let is : i ≡ count = omega arith in subst (λ (n : ℕ). p n ≡ true) (sym is) parts.0
    ]

good_status : (b : Bool) (status : ℕ) → status ≡ cond b 0 4 → status ≡ 0 → b ≡ true
good_status true status is e = refl
good_status false status is e = absurd (omega arith)

status_good : (good count : ℕ) → checked_status good count ≡ 0 → good ≡ count
status_good good count e = eqb-true good count (good_status (eqb good count) (checked_status good count) refl e)

all_good : (bytes : List ℕ) (layout : Layout) (part : Option Mapping) → BeginsBlock part → IsLaidOut bytes layout → (checked_in bytes layout part).status ≡ 0 → (i : ℕ) → i < name_blocks layout part → IsGoodBlock bytes layout part i
all_good bytes layout part begins stands e i lt =
    good_block bytes layout part i (name_reading bytes layout part i) (name_means bytes layout part i begins stands)
    (each_good (is_good bytes layout part) (name_blocks layout part) (status_good (count_by (is_good bytes layout part) (below (name_blocks layout part))) (name_blocks layout part) e) i lt)

-- ---- the command

-- a file whose signature isn't refused
record IsPassed (root : Option (List ℕ)) (sig : Option SigInfo) (ending : Ending) : Type 0 where
  info : SigInfo
  signed : sig ≡ Some info
  given : IfSome root (λ given. info.root ≡ given)
  ends : ending.status ≡ 0

by_root : (name given : List ℕ) (info : SigInfo) (ending : Ending) (same : Bool) → bytes_eq info.root given ≡ same
    → (unless_refused name (cond same None (Some root_differs)) ending).status ≡ 0 → IsPassed (Some given) (Some info) ending
by_root name given info ending true is e = record { info = info; signed = refl; given = (bytes_eq-Decides info.root given).0 is; ends = e }
by_root name given info ending false is e = absurd (omega arith)

passed : (name : List ℕ) (root : Option (List ℕ)) (sig : Option SigInfo) (ending : Ending) → (unless_refused name (sig_refusal false root sig) ending).status ≡ 0 → IsPassed root sig ending
passed name root None ending e = absurd (omega arith)
passed name None (Some info) ending e = record { info = info; signed = refl; given = tt; ends = e }
passed name (Some given) (Some info) ending e = by_root name given info ending (bytes_eq info.root given) refl e

file_proved : (name bytes : List ℕ) (root : Option (List ℕ)) (layout : Layout) (part : Option Mapping) → BeginsBlock part → IsLaidOut bytes layout
    → (unless_refused name (sig_refusal false root layout.sig) (checked_in bytes layout part)).status ≡ 0 → AreAllProved bytes root part
file_proved name bytes root layout part begins stands e =
    let p = passed name root layout.sig (checked_in bytes layout part) e in
    record { layout = layout; stands = stands; sig = p.info; signed = p.signed; given = p.given; each = all_good bytes layout part begins stands p.ends }

pub shows_checked : (told : Option (List ℕ)) (name : List ℕ) (root : Option (List ℕ)) (layout : Layout) (part : Option Mapping) (result : Result CommandOutcome Stop) → BeginsBlock part → IfSome told (λ bytes. IsLaidOut bytes layout)
    → IfSome told (λ bytes. IfOk result (EndsAs (unless_refused name (sig_refusal false root layout.sig) (checked_in bytes layout part))))
    → IfSome told (λ bytes. IfOk result (λ outcome. outcome.status.0 ≡ 0 → AreAllProved bytes root part))
shows_checked None name root layout part result begins stands is = tt
shows_checked (Some bytes) name root layout part (Err stop) begins stands is = tt
shows_checked (Some bytes) name root layout part (Ok outcome) begins stands is = λ e. file_proved name bytes root layout part begins stands (sym is.status_is ∙ e)
