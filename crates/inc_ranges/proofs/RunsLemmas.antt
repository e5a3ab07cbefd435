-- The list of runs, one run after another from the left.
use Rattle.std.proofs.Common.{◌≡◌, ℕ, zero, suc, ◌+◌, ◌-◌, ◌<◌, ◌≤◌, Bool, true, false, not, cond, eqb, List, [], ◌∷◌, length, refl, sym, ap, subst, ◌∙◌, arith, inl, inr}
use Rattle.std.proofs.lemmas.Bool.{cases_lt, eq-eqb, ne_eqb}
use Rattle.inc_ranges.specs.Runs.{is_filled, joined, runs_from, runs_of, start_or}

-- ---- from the left

pub none_from : (present : List Bool) (at : ℕ) → runs_from present 0 at ≡ []
unfolding runs_from
none_from present at = refl

pub runs_none : (present : List Bool) (end : ℕ) → runs_of present end end ≡ []
unfolding runs_from
runs_none present end = let e : end - end ≡ 0 = omega arith in rw e refl

pub step_empty : (present : List Bool) (count at : ℕ) → is_filled present at ≡ false → runs_from present (suc count) at ≡ runs_from present count (at + 1)
unfolding runs_from
step_empty present count at e = rw e refl

pub step_filled : (present : List Bool) (count at : ℕ) → is_filled present at ≡ true → runs_from present (suc count) at ≡ joined at (runs_from present count (at + 1))
unfolding runs_from
step_filled present count at e = rw e refl

skip_by : (present : List Bool) (gap count at : ℕ) → ((i : ℕ) → at ≤ i → i < at + gap → is_filled present i ≡ false) → runs_from present (gap + count) at ≡ runs_from present count (at + gap)
skip_by present zero count at empty = ap (λ n. runs_from present n at) (omega arith) ∙ ap (λ n. runs_from present count n) (omega arith)
skip_by present (suc gap) count at empty =
    ap (λ n. runs_from present n at) (omega arith)
    ∙ step_empty present (gap + count) at (empty at (omega arith) (omega arith))
    ∙ skip_by present gap count (at + 1) (λ i low high. empty i (omega arith) (omega arith))
    ∙ ap (λ n. runs_from present count n) (omega arith)

pub runs_skip : (present : List Bool) (at begin end : ℕ) → at ≤ begin → begin ≤ end → ((i : ℕ) → at ≤ i → i < begin → is_filled present i ≡ not true) → runs_of present at end ≡ runs_of present begin end
runs_skip present at begin end low high empty =
    ap (λ n. runs_from present n at) (omega arith)
    ∙ skip_by present (begin - at) (end - begin) at (λ i low' high'. empty i low' (omega arith))
    ∙ ap (λ n. runs_from present (end - begin) n) (omega arith)

-- the first of the runs begins no earlier
abbrev BeginsAt : ℕ → List (ℕ × ℕ) → Type 0
BeginsAt low [] = Unit {0}
BeginsAt low (run ∷ runs) = low ≤ run.0

BeginsAt-lower : (low high : ℕ) (runs : List (ℕ × ℕ)) → low ≤ high → BeginsAt high runs → BeginsAt low runs
BeginsAt-lower low high [] le h = tt
BeginsAt-lower low high (run ∷ runs) le h = omega arith

BeginsAt-cond : (at : ℕ) (b : Bool) (run : ℕ × ℕ) (runs : List (ℕ × ℕ)) → BeginsAt at (cond b ((at, run.1) ∷ runs) ((at, at + 1) ∷ run ∷ runs))
BeginsAt-cond at true run runs = omega arith
BeginsAt-cond at false run runs = omega arith

BeginsAt-joined : (at : ℕ) (runs : List (ℕ × ℕ)) → BeginsAt at (joined at runs)
BeginsAt-joined at [] = omega arith
BeginsAt-joined at (run ∷ runs) = BeginsAt-cond at (eqb run.0 (at + 1)) run runs

BeginsAt-step : (at : ℕ) (b : Bool) (runs : List (ℕ × ℕ)) → BeginsAt (at + 1) runs → BeginsAt at (cond b (joined at runs) runs)
BeginsAt-step at true runs h = BeginsAt-joined at runs
BeginsAt-step at false runs h = BeginsAt-lower at (at + 1) runs (omega arith) h

begins : (present : List Bool) (count at : ℕ) → BeginsAt at (runs_from present count at)
unfolding runs_from
begins present zero at = tt
begins present (suc count) at = BeginsAt-step at (is_filled present at) (runs_from present count (at + 1)) (begins present count (at + 1))

-- past an index that isn't filled, or at the end
begins_apart : (present : List Bool) (count at : ℕ) → (0 < count → is_filled present at ≡ false) → BeginsAt (at + 1) (runs_from present count at)
begins_apart present zero at empty = let P : List (ℕ × ℕ) → Type 0 = λ runs. BeginsAt (at + 1) runs in subst P (sym (none_from present at)) tt
begins_apart present (suc count) at empty =
    let P : List (ℕ × ℕ) → Type 0 = λ runs. BeginsAt (at + 1) runs in
    subst P (sym (step_empty present count at (empty (omega arith)))) (begins present count (at + 1))

joined_apart : (at : ℕ) (runs : List (ℕ × ℕ)) → BeginsAt (at + 2) runs → joined at runs ≡ (at, at + 1) ∷ runs
joined_apart at [] h = refl
joined_apart at (run ∷ runs) h = rw (ne_eqb run.0 (at + 1) (λ e. absurd (omega arith))) refl

joined_touching : (at next stop : ℕ) (runs : List (ℕ × ℕ)) → next ≡ at + 1 → joined at ((next, stop) ∷ runs) ≡ (at, stop) ∷ runs
joined_touching at next stop runs e = rw (eq-eqb next (at + 1) e) refl

grow : (present : List Bool) (gap count at : ℕ) → ((i : ℕ) → at ≤ i → i < at + (gap + 1) → is_filled present i ≡ true) → BeginsAt (at + (gap + 1) + 1) (runs_from present count (at + (gap + 1))) → runs_from present (gap + 1 + count) at ≡ (at, at + (gap + 1)) ∷ runs_from present count (at + (gap + 1))
grow present zero count at filled apart =
    let e : at + (0 + 1) ≡ at + 1 = omega arith in
    let P : ℕ → Type 0 = λ n. BeginsAt (n + 1) (runs_from present count n) in
    let P' : ℕ → Type 0 = λ n. BeginsAt n (runs_from present count (at + 1)) in
    let two : at + 1 + 1 ≡ at + 2 = omega arith in
    let apart'' = subst P' two (subst P e apart) in
    ap (λ n. runs_from present n at) (omega arith)
    ∙ step_filled present count at (filled at (omega arith) (omega arith))
    ∙ joined_apart at (runs_from present count (at + 1)) apart''
    ∙ ap (λ n. (at, n) ∷ runs_from present count n) (sym e)
grow present (suc gap) count at filled apart =
    let e : at + 1 + (gap + 1) ≡ at + (suc gap + 1) = omega arith in
    let P : ℕ → Type 0 = λ n. BeginsAt (n + 1) (runs_from present count n) in
    let apart' = subst P (sym e) apart in
    let longer = grow present gap count (at + 1) (λ i low high. filled i (omega arith) (omega arith)) apart' in
    ap (λ n. runs_from present n at) (omega arith)
    ∙ step_filled present (gap + 1 + count) at (filled at (omega arith) (omega arith))
    ∙ ap (λ runs. joined at runs) longer
    ∙ joined_touching at (at + 1) (at + 1 + (gap + 1)) (runs_from present count (at + 1 + (gap + 1))) refl
    ∙ ap (λ n. (at, n) ∷ runs_from present count n) e

-- a run stands first where it begins, and the rest is what comes after its end
grow_to : (present : List Bool) (begin stop end : ℕ) → begin < stop → stop ≤ end → ((i : ℕ) → begin ≤ i → i < stop → is_filled present i ≡ true) → (stop < end → is_filled present stop ≡ false) → runs_of present begin end ≡ (begin, stop) ∷ runs_of present stop end
grow_to present begin stop end lt le filled ends =
    let gap = stop - begin - 1 in
    let e : begin + (gap + 1) ≡ stop = omega arith in
    let P : ℕ → Type 0 = λ n. BeginsAt (n + 1) (runs_from present (end - stop) n) in
    let apart : P stop = begins_apart present (end - stop) stop (λ some. ends (omega arith)) in
    ap (λ n. runs_from present n begin) (omega arith)
    ∙ grow present gap (end - stop) begin (λ i low high. filled i low (omega arith)) (subst P (sym e) apart)
    ∙ ap (λ n. (begin, n) ∷ runs_from present (end - stop) n) e

pub both : (b : Bool) → b ≡ true → b ≡ false → ⊥
both b t f = cc

pub runs_next : (present : List Bool) (begin stop end : ℕ) → begin < end → begin ≤ stop → stop ≤ end → is_filled present begin ≡ true → ((i : ℕ) → begin ≤ i → i < stop → is_filled present i ≡ not false) → (stop < end → is_filled present stop ≡ false) → runs_of present begin end ≡ (begin, stop) ∷ runs_of present stop end
runs_next present begin stop end some low high here filled ends =
    elim (cases_lt begin stop) [
      | inl lt ↦ grow_to present begin stop end lt high filled ends
      | inr le ↦
          let e : stop ≡ begin = omega arith in
          absurd (both (is_filled present begin) here (ap (λ n. is_filled present n) (sym e) ∙ ends (omega arith)))
    ]

start-cond : (end at : ℕ) (b : Bool) (run : ℕ × ℕ) (runs : List (ℕ × ℕ)) → (start_or end (cond b ((at, run.1) ∷ runs) ((at, at + 1) ∷ run ∷ runs)) ≡ at) × (0 < length (cond b ((at, run.1) ∷ runs) ((at, at + 1) ∷ run ∷ runs)))
start-cond end at true run runs = (refl, omega arith)
start-cond end at false run runs = (refl, omega arith)

start-joined : (end at : ℕ) (runs : List (ℕ × ℕ)) → (start_or end (joined at runs) ≡ at) × (0 < length (joined at runs))
start-joined end at [] = (refl, omega arith)
start-joined end at (run ∷ runs) = start-cond end at (eqb run.0 (at + 1)) run runs

-- at a filled index a run begins
pub runs_begin : (present : List Bool) (begin end : ℕ) → begin < end → is_filled present begin ≡ true → (start_or end (runs_of present begin end) ≡ begin) × (0 < length (runs_of present begin end))
runs_begin present begin end lt here =
    let count = end - begin - 1 in
    let e : suc count ≡ end - begin = omega arith in
    let is : joined begin (runs_from present count (begin + 1)) ≡ runs_of present begin end = sym (step_filled present count begin here) ∙ ap (λ n. runs_from present n begin) e in
    let P : List (ℕ × ℕ) → Type 0 = λ runs. (start_or end runs ≡ begin) × (0 < length runs) in
    subst P is (start-joined end begin (runs_from present count (begin + 1)))
