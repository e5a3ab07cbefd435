-- The list of runs is what the words say.
use Rattle.std.proofs.Common.{◌≡◌, ℕ, zero, suc, ◌+◌, ◌-◌, ◌<◌, ◌≤◌, Bool, true, false, List, [], ◌∷◌, sym, ap, subst, ◌∙◌, arith, inl, inr}
use Rattle.std.specs.Prelude.{All}
use Rattle.std.proofs.lemmas.Bool.{cases_eq, cases_lt, cases_Bool, eq-eqb, ne_eqb, false_from_ne_true}
use Rattle.std.proofs.lemmas.List.Elements.{All-nil, All-cons, All-head, All-tail, All-weaker}
use Rattle.inc_ranges.specs.Runs.{is_filled, IsRun, Covers, AreRuns, joined, runs_from, runs_of}
use Rattle.inc_ranges.proofs.RunsLemmas.{none_from, step_empty, step_filled, both}

widen : (present : List Bool) (at end : ℕ) (run : ℕ × ℕ) → (at + 1 ≡ run.0 → is_filled present at ≡ false) → IsRun present (at + 1) end run → IsRun present at end run
widen present at end run gap h = record {
  from = omega (arith, h.from);
  some = h.some;
  to = h.to;
  filled = h.filled;
  before = λ i low e. elim (cases_eq i at) [
    | inl here ↦ ap (λ n. is_filled present n) here ∙ gap (omega arith)
    | inr other ↦ h.before i (omega arith) e
  ];
  after = h.after;
}

Covers-wider : (at : ℕ) (run : ℕ × ℕ) (runs : List (ℕ × ℕ)) (i : ℕ) → at + 1 ≡ run.0 → Covers (run ∷ runs) i → Covers ((at, run.1) ∷ runs) i
Covers-wider at run runs i e (inl h) = inl (omega arith, h.1)
Covers-wider at run runs i e (inr h) = inr h

-- an index that isn't filled adds nothing
are_empty : (present : List Bool) (at end : ℕ) (runs : List (ℕ × ℕ)) → is_filled present at ≡ false → AreRuns present (at + 1) end runs → AreRuns present at end runs
are_empty present at end runs empty h = record {
  each = All-weaker _ _ (λ run. widen present at end run (λ _. empty)) runs h.each;
  order = h.order;
  all = λ i low high filled. elim (cases_eq i at) [
    | inl here ↦ absurd (both (is_filled present i) filled (ap (λ n. is_filled present n) here ∙ empty))
    | inr other ↦ h.all i (omega arith) high filled
  ];
}

-- one that is, where the next run doesn't begin right after it
are_new : (present : List Bool) (at end : ℕ) (runs : List (ℕ × ℕ)) → is_filled present at ≡ true → at < end → All (λ run. at + 1 < run.0) runs → (at + 1 < end → is_filled present (at + 1) ≡ false) → AreRuns present (at + 1) end runs → AreRuns present at end ((at, at + 1) ∷ runs)
are_new present at end runs here lt later after h = record {
  each = All-cons (IsRun present at end) (at, at + 1) runs (record {
    from = omega arith;
    some = omega arith;
    to = omega arith;
    filled = λ i low high. let e : i ≡ at = omega arith in ap (λ n. is_filled present n) e ∙ here;
    before = λ i low e. absurd (omega arith);
    after = after;
  }) (λ k d inside. widen present at end _ (λ e. absurd (let past = later k d inside in omega arith)) (h.each k d inside));
  order = (later, h.order);
  all = λ i low high filled. elim (cases_eq i at) [
    | inl same ↦ inl (omega arith, omega arith)
    | inr other ↦ inr (h.all i (omega arith) high filled)
  ];
}

-- one that makes the next run longer
are_longer : (present : List Bool) (at end : ℕ) (run : ℕ × ℕ) (runs : List (ℕ × ℕ)) → is_filled present at ≡ true → run.0 ≡ at + 1 → AreRuns present (at + 1) end (run ∷ runs) → AreRuns present at end ((at, run.1) ∷ runs)
are_longer present at end run runs here e h =
    let first = All-head (IsRun present (at + 1) end) run runs h.each in
    let rest = All-tail (IsRun present (at + 1) end) run runs h.each in
    record {
      each = All-cons (IsRun present at end) (at, run.1) runs (record {
        from = omega arith;
        some = omega (arith, first.some);
        to = first.to;
        filled = λ i low high. elim (cases_eq i at) [
          | inl same ↦ ap (λ n. is_filled present n) same ∙ here
          | inr other ↦ first.filled i (omega arith) high
        ];
        before = λ i low before. absurd (omega arith);
        after = first.after;
      }) (λ k d inside. widen present at end _ (λ touches. absurd (let past = h.order.0 k d inside in omega (arith, past, first.some))) (rest k d inside));
      order = (h.order.0, h.order.1);
      all = λ i low high filled. elim (cases_eq i at) [
        | inl same ↦ inl (omega arith, omega (arith, first.some))
        | inr other ↦ Covers-wider at run runs i (sym e) (h.all i (omega arith) high filled)
      ];
    }

-- an index that all intervals begin after is in none of them
pub not_covered : (low i : ℕ) (runs : List (ℕ × ℕ)) → All (λ run. low < run.0) runs → i ≤ low → Covers runs i → ⊥
not_covered low i [] later le covered = covered
not_covered low i (run ∷ runs) later le (inl here) = let past = All-head (λ r. low < r.0) run runs later in absurd (omega arith)
not_covered low i (run ∷ runs) later le (inr there) = not_covered low i runs (All-tail (λ r. low < r.0) run runs later) le there

are_joined : (present : List Bool) (at end : ℕ) (runs : List (ℕ × ℕ)) → is_filled present at ≡ true → at < end → AreRuns present (at + 1) end runs → AreRuns present at end (joined at runs)
are_joined present at end [] here lt h =
    are_new present at end [] here lt (All-nil (λ run. at + 1 < run.0)) (λ inside. false_from_ne_true _ (λ filled. h.all (at + 1) (omega arith) inside filled)) h
are_joined present at end (run ∷ runs) here lt h =
    let first = All-head (IsRun present (at + 1) end) run runs h.each in
    elim (cases_eq run.0 (at + 1)) [
      | inl touches ↦ rw (eq-eqb run.0 (at + 1) touches) (are_longer present at end run runs here touches h)
      | inr other ↦
          let past : at + 1 < run.0 = omega (arith, first.from) in
          let later : All (λ r. at + 1 < r.0) (run ∷ runs) = All-cons (λ r. at + 1 < r.0) run runs past (λ k d inside. let after = h.order.0 k d inside in omega (arith, after, first.some)) in
          rw (ne_eqb run.0 (at + 1) other)
          (are_new present at end (run ∷ runs) here lt later (λ inside. false_from_ne_true _ (λ filled. not_covered (at + 1) (at + 1) (run ∷ runs) later (omega arith) (h.all (at + 1) (omega arith) inside filled))) h)
    ]

are_runs_from : (present : List Bool) (count at end : ℕ) → at + count ≡ end → AreRuns present at end (runs_from present count at)
are_runs_from present zero at end e =
    let P : List (ℕ × ℕ) → Type 0 = λ runs. AreRuns present at end runs in
    subst P (sym (none_from present at)) (record { each = All-nil (IsRun present at end); order = tt; all = λ i low high filled. absurd (omega arith) })
are_runs_from present (suc count) at end e =
    let P : List (ℕ × ℕ) → Type 0 = λ runs. AreRuns present at end runs in
    let h = are_runs_from present count (at + 1) end (omega arith) in
    elim (cases_Bool (is_filled present at)) [
      | inl filled ↦ subst P (sym (step_filled present count at filled)) (are_joined present at end _ filled (omega arith) h)
      | inr empty ↦ subst P (sym (step_empty present count at empty)) (are_empty present at end _ empty h)
    ]

-- no index lies between bounds in the wrong order
pub are_runs : (present : List Bool) (start end : ℕ) → AreRuns present start end (runs_of present start end)
are_runs present start end = elim (cases_lt end start) [
  | inl wrong ↦
      let P : List (ℕ × ℕ) → Type 0 = λ runs. AreRuns present start end runs in
      let nothing : end - start ≡ 0 = omega arith in
      subst P (sym (ap (λ n. runs_from present n start) nothing ∙ none_from present start)) (record { each = All-nil (IsRun present start end); order = tt; all = λ i low high filled. absurd (omega arith) })
  | inr le ↦ are_runs_from present (end - start) start end (omega arith)
]
