-- The first of the runs, and what is left after them.
use Rattle.std.proofs.Common.{◌≡◌, ℕ, ◌-◌, ◌<◌, ◌≤◌, ◌⊎◌, Bool, true, false, not, ltb, List, [], ◌∷◌, ◌++◌, length, take, drop, refl, sym, ap, subst, ◌∙◌, arith, inl, inr}
use Rattle.std.specs.Prelude.{All, ◌↔◌, IsTrue, MatchBool}
use Rattle.std.proofs.lemmas.Bool.{cases_lt, lt-ltb, le-ltb, ltb-true, ltb-false}
use Rattle.std.proofs.lemmas.List.{append-nil, append_assoc, take_all, drop_all, take_at, drop_at, take-append-drop, length-append, length-drop}
use Rattle.std.proofs.lemmas.List.Elements.{All-head, All-tail}
use Rattle.inc_ranges.specs.Runs.{is_filled, IsRun, AreInOrder, Covers, AreRuns, runs_of, IsLeft, IsFirstLeft, start_or}
use Rattle.inc_ranges.proofs.RunsLemmas.{runs_none, runs_skip, runs_next, runs_begin}
use Rattle.inc_ranges.proofs.Meaning.{not_covered, are_runs}

pub record Splits (present : List Bool) (start end room : ℕ) (first : List (ℕ × ℕ)) (at : ℕ) (some : Bool) : Type 0 where
  pub list : first ≡ take room (runs_of present start end)
  pub more : some ≡ ltb room (length (runs_of present start end))
  pub next : at ≡ start_or end (drop room (runs_of present start end))

-- no run is left
pub splits_all : (present : List Bool) (start at begin end room : ℕ) (list : List (ℕ × ℕ)) → list ++ runs_of present at end ≡ runs_of present start end → length list ≤ room → at ≤ begin → begin ≡ end → ((i : ℕ) → at ≤ i → i < begin → is_filled present i ≡ not true) → Splits present start end room list end false
splits_all present start at begin end room list split fits low e empty =
    let rest : runs_of present at end ≡ [] = runs_skip present at begin end low (omega arith) empty ∙ ap (λ n. runs_of present n end) e ∙ runs_none present end in
    let all : list ≡ runs_of present start end = sym (append-nil list) ∙ ap (λ runs. list ++ runs) (sym rest) ∙ split in
    let P : List (ℕ × ℕ) → Type 0 = λ runs. (list ≡ take room runs) × ((false ≡ ltb room (length runs)) × (end ≡ start_or end (drop room runs))) in
    let here : P list = (sym (take_all room list fits), (sym (le-ltb room (length list) fits), rw (drop_all room list fits) refl)) in
    let facts = subst P all here in
    record { list = facts.0; more = facts.1.0; next = facts.1.1 }

-- there is room for no further run
pub splits_at : (present : List Bool) (start at begin end room : ℕ) (list : List (ℕ × ℕ)) → list ++ runs_of present at end ≡ runs_of present start end → length list ≡ room → at ≤ begin → begin < end → ((i : ℕ) → at ≤ i → i < begin → is_filled present i ≡ not true) → is_filled present begin ≡ true → Splits present start end room list begin true
splits_at present start at begin end room list split full low lt empty here =
    let rest = runs_of present begin end in
    let begins = runs_begin present begin end lt here in
    let all : list ++ rest ≡ runs_of present start end = ap (λ runs. list ++ runs) (sym (runs_skip present at begin end low (omega arith) empty)) ∙ split in
    let P : List (ℕ × ℕ) → Type 0 = λ runs. (list ≡ take room runs) × ((true ≡ ltb room (length runs)) × (begin ≡ start_or end (drop room runs))) in
    let longer : room < length (list ++ rest) = omega (arith, length-append list rest, begins.1) in
    let here' : P (list ++ rest) = (sym (take_at list rest room full), (sym (lt-ltb room (length (list ++ rest)) longer), rw (drop_at list rest room full) (sym begins.0))) in
    let facts = subst P all here' in
    record { list = facts.0; more = facts.1.0; next = facts.1.1 }

-- the next run is listed too
pub splits_more : (present : List Bool) (start at begin stop end : ℕ) (list : List (ℕ × ℕ)) → list ++ runs_of present at end ≡ runs_of present start end → at ≤ begin → begin < end → ((i : ℕ) → at ≤ i → i < begin → is_filled present i ≡ not true) → is_filled present begin ≡ true → begin ≤ stop → stop ≤ end → ((i : ℕ) → begin ≤ i → i < stop → is_filled present i ≡ not false) → (stop < end → is_filled present stop ≡ false) → (list ++ (begin, stop) ∷ []) ++ runs_of present stop end ≡ runs_of present start end
splits_more present start at begin stop end list split low lt empty here low' high filled ends =
    append_assoc list ((begin, stop) ∷ []) (runs_of present stop end)
    ∙ ap (λ runs. list ++ runs) (sym (runs_skip present at begin end low (omega arith) empty ∙ runs_next present begin stop end lt low' high here filled ends))
    ∙ split

-- ---- what is left, in words

at_split : (P : ℕ × ℕ → Type 0) (taken : List (ℕ × ℕ)) (run : ℕ × ℕ) (rest : List (ℕ × ℕ)) → All P (taken ++ run ∷ rest) → P run
at_split P [] run rest h = All-head P run rest h
at_split P (t ∷ taken) run rest h = at_split P taken run rest (All-tail P t (taken ++ run ∷ rest) h)

order_split : (taken rest : List (ℕ × ℕ)) → AreInOrder (taken ++ rest) → AreInOrder rest
order_split [] rest h = h
order_split (t ∷ taken) rest h = order_split taken rest h.1

apart_split : (taken : List (ℕ × ℕ)) (run : ℕ × ℕ) (rest : List (ℕ × ℕ)) → AreInOrder (taken ++ run ∷ rest) → Covers taken run.0 → ⊥
apart_split [] run rest h covered = covered
apart_split (t ∷ taken) run rest h (inl here) = let past = at_split (λ later. t.1 < later.0) taken run rest h.0 in absurd (omega arith)
apart_split (t ∷ taken) run rest h (inr there) = apart_split taken run rest h.1 there

covers_split : (taken rest : List (ℕ × ℕ)) (i : ℕ) → Covers (taken ++ rest) i → Covers taken i ⊎ Covers rest i
covers_split [] rest i h = inr h
covers_split (t ∷ taken) rest i (inl here) = inl (inl here)
covers_split (t ∷ taken) rest i (inr there) = elim (covers_split taken rest i there) [ inl a ↦ inl (inr a) | inr b ↦ inr b ]

none_left : (present : List Bool) (start end : ℕ) (taken : List (ℕ × ℕ)) → AreRuns present start end (taken ++ []) → (i : ℕ) → IsLeft present start end taken i → ⊥
none_left present start end taken h i left = elim (covers_split taken [] i (h.all i left.from left.to left.filled)) [ inl a ↦ left.out a | inr b ↦ b ]

covers_after : (j : ℕ) (run : ℕ × ℕ) (rest : List (ℕ × ℕ)) → All (λ later. run.1 < later.0) rest → j < run.0 → run.0 < run.1 → Covers (run ∷ rest) j → ⊥
covers_after j run rest later before some (inl here) = absurd (omega arith)
covers_after j run rest later before some (inr there) = not_covered run.1 j rest later (omega arith) there

first_left : (present : List Bool) (start end : ℕ) (taken : List (ℕ × ℕ)) (run : ℕ × ℕ) (rest : List (ℕ × ℕ)) → AreRuns present start end (taken ++ run ∷ rest) → IsFirstLeft present start end taken run.0
first_left present start end taken run rest h =
    let is = at_split (IsRun present start end) taken run rest h.each in
    let order = order_split taken (run ∷ rest) h.order in
    record {
      left = record { from = is.from; to = omega (arith, is.some, is.to); filled = is.filled run.0 (omega arith) is.some; out = apart_split taken run rest h.order };
      first = λ j left. elim (covers_split taken (run ∷ rest) j (h.all j left.from left.to left.filled)) [
        | inl a ↦ absurd (left.out a)
        | inr b ↦ elim (cases_lt j run.0) [
          | inl before ↦ absurd (covers_after j run rest order.0 before is.some b)
          | inr le ↦ le
        ]
      ];
    }

pub record Tells (present : List Bool) (start end : ℕ) (first : List (ℕ × ℕ)) (at : ℕ) (some : Bool) : Type 0 where
  pub left : IsTrue some ↔ ((i : ℕ) × IsLeft present start end first i)
  pub first_left : MatchBool some (IsFirstLeft present start end first at) (at ≡ end)

tells_by : (present : List Bool) (start end : ℕ) (taken rest : List (ℕ × ℕ)) (at : ℕ) (some : Bool) → AreRuns present start end (taken ++ rest) → some ≡ ltb 0 (length rest) → at ≡ start_or end rest → Tells present start end taken at some
tells_by present start end taken [] at true h some next = absurd (omega (arith, ltb-true 0 0 (sym some)))
tells_by present start end taken [] at false h some next = record { left = (λ yes. absurd (cc), λ w. absurd (none_left present start end taken h w.0 w.1)); first_left = next }
tells_by present start end taken (run ∷ rest) at false h some next = absurd (omega (arith, ltb-false 0 (length (run ∷ rest)) (sym some)))
tells_by present start end taken (run ∷ rest) at true h some next =
    let first = first_left present start end taken run rest h in
    let P : ℕ → Type 0 = λ n. IsFirstLeft present start end taken n in
    record { left = (λ yes. (run.0, first.left), λ w. refl); first_left = subst P (sym next) first }

same_test : (room n : ℕ) → ltb room n ≡ ltb 0 (n - room)
same_test room n = elim (cases_lt room n) [
  | inl lt ↦ lt-ltb room n lt ∙ sym (lt-ltb 0 (n - room) (omega arith))
  | inr le ↦ le-ltb room n le ∙ sym (le-ltb 0 (n - room) (omega arith))
]

pub tells : (present : List Bool) (start end room : ℕ) (list : List (ℕ × ℕ)) (next : ℕ) (more : Bool) → list ≡ take room (runs_of present start end) → more ≡ ltb room (length (runs_of present start end)) → next ≡ start_or end (drop room (runs_of present start end)) → Tells present start end list next more
tells present start end room list next more list-is more-is next-is =
    let runs = runs_of present start end in
    let P : List (ℕ × ℕ) → Type 0 = λ all. AreRuns present start end all in
    let Q : List (ℕ × ℕ) → Type 0 = λ first. Tells present start end first next more in
    subst Q (sym list-is) (tells_by present start end (take room runs) (drop room runs) next more
    (subst P (sym (take-append-drop room runs)) (are_runs present start end))
    (more-is ∙ same_test room (length runs) ∙ ap (λ n. ltb 0 n) (sym (length-drop room runs)))
    next-is)
