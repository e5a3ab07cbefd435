-- The facts of a disk after each write of a fill, whole or torn.
use Rattle.std.proofs.Common.{◌≡◌, ◌⊎◌, inl, inr, ℕ, ◌+◌, ◌-◌, ◌^◌, ◌<◌, ◌≤◌, Bool, true, false, List, length, Option, Some, refl, sym, ◌∙◌, subst, arith}
use Rattle.std.proofs.lemmas.Bool.{cases_lt}
use Rattle.inc_tree.specs.shape.Geometry.{data_blocks}
use Rattle.inc_entry.specs.Entry.{Places, entries, entry_at}
use Rattle.inc_disk.specs.Disk.{DiskState, IsTorn, touched}
use Rattle.inc_entry.specs.Keeps.{IsLayout, Kind, Begun, Shut}
use Rattle.inc_entry.specs.Spans.{in_spans}
use Rattle.inc_fill.specs.Facts.{IsKeptBegun, IsStored, IsBehindGate, Own, Row, Stage, Written, Settled, row_at, HasBlock, AtStage, InFlight, Facts, SameBut}
use Rattle.inc_fill.specs.Steps.{IsFreePlace}
use Rattle.inc_fill.proofs.Areas.{entry_inside, spans_inside}
use Rattle.inc_fill.proofs.Spares.{Spares, entry_spares, entry_spares_blocks, end_spares, end_spares_entry, hash_spares, hash_spares_entry, status_spares}
use Rattle.inc_fill.proofs.Writes.{Outside, Misses, torn_same, clean_kept, stored_kept, behind_kept, shut_kept, own_kept, block_kept, flight_kept}

pub same_or_other : (i j : ℕ) → (i ≡ j) ⊎ ¬ (i ≡ j)
same_or_other i j =
    elim (cases_lt i j) [
      | inl less ↦ inr (λ e. omega arith)
      | inr more ↦ elim (cases_lt j i) [ inl greater ↦ inr (λ e. omega arith) | inr equal ↦ inl (omega arith) ]
    ]

-- the facts after a write that spares all but the index `j`, from those of `j`
step_kept : (places : Places) (is_fixed : ℕ → Bool) (base : List ℕ) (kind : ℕ → Kind) (row row' : ℕ → Option Row) (spot spot' : ℕ → ℕ) (disk : DiskState) (at n : ℕ) (bytes : List ℕ) (j : ℕ)
    → Facts places is_fixed base kind row spot disk → IsTorn at n disk.reads bytes → at + n ≤ 2 ^ 47 → Spares places is_fixed (length disk.reads) at n j → SameBut j row row' → SameBut j spot spot'
    → (j < entries places → Own (touched at n bytes disk) places j (spot' j) (kind j) × InFlight (touched at n bytes disk) places j (spot' j) (kind j) (row' j))
    → Facts places is_fixed base kind row' spot' (touched at n bytes disk)
step_kept places is_fixed base kind row row' spot spot' disk at n bytes j facts torn end spares same unmoved here = record {
  longer = omega (arith, facts.longer, torn.no_shorter);
  within = omega (arith, facts.within, torn.no_longer);
  short = omega (arith, facts.short);
  long = facts.long;
  fixed = λ x fixed. (clean_kept disk at n bytes x torn (spares.fixed_out x fixed) (facts.fixed x fixed).0, torn_same at n disk.reads bytes x torn (spares.fixed_out x fixed) ∙ (facts.fixed x fixed).1);
  own = λ i lt. elim (same_or_other i j) [
    | inl e ↦ subst (λ (x : ℕ). Own (touched at n bytes disk) places x (spot' x) (kind x)) (sym e) (here (omega arith)).0
    | inr other ↦ subst (λ (p : ℕ). Own (touched at n bytes disk) places i p (kind i)) (sym (unmoved i other))
        (own_kept disk places at n bytes i (spot i) (kind i) torn facts.longer (spares.entries_out i lt other) (spares.blocks_out i lt other) (facts.own i lt))
  ];
  flight = λ i lt. elim (same_or_other i j) [
    | inl e ↦ subst (λ (x : ℕ). InFlight (touched at n bytes disk) places x (spot' x) (kind x) (row' x)) (sym e) (here (omega arith)).1
    | inr other ↦ subst (λ (p : ℕ). InFlight (touched at n bytes disk) places i p (kind i) (row' i)) (sym (unmoved i other))
        (subst (λ (r : Option Row). InFlight (touched at n bytes disk) places i (spot i) (kind i) r) (sym (same i other))
        (flight_kept disk places at n bytes i (spot i) (kind i) (row i) torn facts.longer (spares.entries_out i lt other) (spares.blocks_out i lt other) (facts.flight i lt)))
  ];
}

entry_end : (places : Places) (is_fixed : ℕ → Bool) (base j a n at : ℕ) → IsLayout places is_fixed base → j < entries places → at ≡ entry_at places j + a → a + n ≤ 10 → 0 < n → at + n ≤ base
entry_end places is_fixed base j a n at layout here is small some = let inside = entry_inside places is_fixed base j (a + n - 1) layout here (omega arith) in omega arith

-- ---- the place of a written block

pub place_step : (places : Places) (is_fixed : ℕ → Bool) (base : List ℕ) (kind : ℕ → Kind) (row row' : ℕ → Option Row) (spot : ℕ → ℕ) (disk : DiskState) (at n : ℕ) (bytes : List ℕ) (j : ℕ) (digest : List ℕ) (stage : Stage)
    → IsLayout places is_fixed (length base) → j < entries places → at ≡ entry_at places j → n ≡ 6 → row j ≡ Some (row_at digest Written) → SameBut j row row'
    → row' j ≡ Some (row_at digest stage) → Facts places is_fixed base kind row spot disk → IsTorn at n disk.reads bytes → AtStage (touched at n bytes disk) places j (spot j) Shut digest stage
    → Facts places is_fixed base kind row' spot (touched at n bytes disk)
place_step places is_fixed base kind row row' spot disk at n bytes j digest stage layout here is six was same now facts torn at_stage =
    let begins : at ≡ entry_at places j + 0 = omega arith in
    let spares = entry_spares places is_fixed (length base) (length disk.reads) j 0 n at layout here begins (omega arith) in
    let blocks = entry_spares_blocks places is_fixed (length base) (length disk.reads) j 0 n at j layout here begins (omega arith) here in
    let flight = subst (λ (r : Option Row). InFlight disk places j (spot j) (kind j) r) was (facts.flight j here) in
    let shut : kind j ≡ Shut = flight.1 in
    let own = subst (λ (k : Kind). Own disk places j (spot j) k) shut (facts.own j here) in
    let gate_out : Misses at n (entry_at places j + 6) 4 = λ k lt ge until. omega arith in
    let end = entry_end places is_fixed (length base) j 0 n at layout here begins (omega arith) (omega arith) in
    step_kept places is_fixed base kind row row' spot spot disk at n bytes j facts torn (omega (arith, facts.short, facts.within, facts.long, facts.longer)) spares same (λ i other. refl) (λ lt. (
      subst (λ (k : Kind). Own (touched at n bytes disk) places j (spot j) k) (sym shut) (shut_kept disk places at n bytes j torn gate_out own),
      subst (λ (k : Kind). InFlight (touched at n bytes disk) places j (spot j) k (row' j)) (sym shut)
          (subst (λ (r : Option Row). InFlight (touched at n bytes disk) places j (spot j) Shut r) (sym now) (block_kept disk places at n bytes j (spot j) digest torn blocks flight.0, at_stage)),
    ))

-- ---- the gate

-- from the start of its write on, on the same disk
pub gate_begins : (places : Places) (is_fixed : ℕ → Bool) (base : List ℕ) (kind kind' : ℕ → Kind) (row : ℕ → Option Row) (spot : ℕ → ℕ) (disk : DiskState) (j : ℕ) (digest : List ℕ)
    → row j ≡ Some (row_at digest Settled) → SameBut j kind kind' → kind' j ≡ Begun digest
    → Facts places is_fixed base kind row spot disk → Facts places is_fixed base kind' row spot disk
gate_begins places is_fixed base kind kind' row spot disk j digest was same now facts = record {
  longer = facts.longer;
  within = facts.within;
  short = facts.short;
  long = facts.long;
  fixed = facts.fixed;
  own = λ i lt. elim (same_or_other i j) [
    | inl e ↦ subst (λ (x : ℕ). Own disk places x (spot x) (kind' x)) (sym e) (subst (λ (k : Kind). Own disk places j (spot j) k) (sym now) (begun (omega arith)))
    | inr other ↦ subst (λ (k : Kind). Own disk places i (spot i) k) (sym (same i other)) (facts.own i lt)
  ];
  flight = λ i lt. elim (same_or_other i j) [
    | inl e ↦ subst (λ (x : ℕ). InFlight disk places x (spot x) (kind' x) (row x)) (sym e) (subst (λ (k : Kind). InFlight disk places j (spot j) k (row j)) (sym now)
        (subst (λ (r : Option Row). InFlight disk places j (spot j) (Begun digest) r) (sym was) (has (omega arith))))
    | inr other ↦ subst (λ (k : Kind). InFlight disk places i (spot i) k (row i)) (sym (same i other)) (facts.flight i lt)
  ];
}
  where
    flight : j < entries places → HasBlock disk places j (spot j) digest × (((kind j ≡ Shut) ⊎ (kind j ≡ Begun digest)) × IsStored disk places j (spot j) digest)
    flight lt = subst (λ (r : Option Row). InFlight disk places j (spot j) (kind j) r) was (facts.flight j lt)

    behind_of : j < entries places → (kind j ≡ Shut) ⊎ (kind j ≡ Begun digest) → IsBehindGate disk places j
    behind_of lt (inl shut) = (subst (λ (k : Kind). Own disk places j (spot j) k) shut (facts.own j lt)).behind
    behind_of lt (inr again) = (subst (λ (k : Kind). Own disk places j (spot j) k) again (facts.own j lt)).behind

    begun : j < entries places → IsKeptBegun disk places j (spot j) digest
    begun lt = record { ready = (flight lt).1.1; behind = behind_of lt (flight lt).1.0 }

    has : j < entries places → InFlight disk places j (spot j) (Begun digest) (Some (row_at digest Settled))
    has lt = ((flight lt).0, (inr refl, (flight lt).1.1))

pub gate_step : (places : Places) (is_fixed : ℕ → Bool) (base : List ℕ) (kind : ℕ → Kind) (row row' : ℕ → Option Row) (spot : ℕ → ℕ) (disk : DiskState) (at n : ℕ) (bytes : List ℕ) (j : ℕ) (digest : List ℕ) (stage : Stage)
    → IsLayout places is_fixed (length base) → j < entries places → at ≡ entry_at places j + 7 → n ≡ 1 → row j ≡ Some (row_at digest Settled) → kind j ≡ Begun digest → SameBut j row row'
    → row' j ≡ Some (row_at digest stage) → Facts places is_fixed base kind row spot disk → IsTorn at n disk.reads bytes
    → (IsStored (touched at n bytes disk) places j (spot j) digest → AtStage (touched at n bytes disk) places j (spot j) (Begun digest) digest stage)
    → Facts places is_fixed base kind row' spot (touched at n bytes disk)
gate_step places is_fixed base kind row row' spot disk at n bytes j digest stage layout here is one was begun same now facts torn at_stage =
    let spares = entry_spares places is_fixed (length base) (length disk.reads) j 7 n at layout here is (omega arith) in
    let blocks = entry_spares_blocks places is_fixed (length base) (length disk.reads) j 7 n at j layout here is (omega arith) here in
    let flight = subst (λ (r : Option Row). InFlight disk places j (spot j) (kind j) r) was (facts.flight j here) in
    let own = subst (λ (k : Kind). Own disk places j (spot j) k) begun (facts.own j here) in
    let front_out : Misses at n (entry_at places j) 6 = λ k lt ge until. omega arith in
    let low_out : Outside at n (entry_at places j + 6) = λ ge until. omega arith in
    let flags_out : Misses at n (entry_at places j + 8) 2 = λ k lt ge until. omega arith in
    let end = entry_end places is_fixed (length base) j 7 n at layout here is (omega arith) (omega arith) in
    let stored = stored_kept disk places at n bytes j (spot j) digest torn facts.longer front_out blocks flight.1.1 in
    let kept : IsKeptBegun (touched at n bytes disk) places j (spot j) digest = record { ready = stored; behind = behind_kept disk places at n bytes j torn low_out flags_out own.behind } in
    step_kept places is_fixed base kind row row' spot spot disk at n bytes j facts torn (omega (arith, facts.short, facts.within, facts.long, facts.longer)) spares same (λ i other. refl) (λ lt. (
      subst (λ (k : Kind). Own (touched at n bytes disk) places j (spot j) k) (sym begun) kept,
      subst (λ (k : Kind). InFlight (touched at n bytes disk) places j (spot j) k (row' j)) (sym begun)
          (subst (λ (r : Option Row). InFlight (touched at n bytes disk) places j (spot j) (Begun digest) r) (sym now) (block_kept disk places at n bytes j (spot j) digest torn blocks flight.0, at_stage stored)),
    ))

-- ---- a block

pub block_step : (places : Places) (is_fixed : ℕ → Bool) (base : List ℕ) (kind : ℕ → Kind) (row row' : ℕ → Option Row) (spot spot' : ℕ → ℕ) (disk : DiskState) (at n : ℕ) (bytes : List ℕ) (j : ℕ)
    → IsLayout places is_fixed (length base) → j < entries places → IsFreePlace places (length disk.reads) j at → n ≡ 4096 → at + n ≤ 2 ^ 47 → kind j ≡ Shut → SameBut j row row' → SameBut j spot spot'
    → Facts places is_fixed base kind row spot disk → IsTorn at n disk.reads bytes → InFlight (touched at n bytes disk) places j (spot' j) Shut (row' j)
    → Facts places is_fixed base kind row' spot' (touched at n bytes disk)
block_step places is_fixed base kind row row' spot spot' disk at n bytes j layout here free whole end shut same unmoved facts torn has =
    let parts = spared (cases_lt j (data_blocks places.shape)) in
    let own = subst (λ (k : Kind). Own disk places j (spot j) k) shut (facts.own j here) in
    let gate_out : Misses at n (entry_at places j + 6) 4 = λ k lt ge until. parts.1 (6 + k) (omega arith) (omega arith) (omega arith) in
    step_kept places is_fixed base kind row row' spot spot' disk at n bytes j facts torn end parts.0 same unmoved (λ lt. (
      subst (λ (k : Kind). Own (touched at n bytes disk) places j (spot' j) k) (sym shut) (shut_kept disk places at n bytes j torn gate_out own),
      subst (λ (k : Kind). InFlight (touched at n bytes disk) places j (spot' j) k (row' j)) (sym shut) has,
    ))
  where
    spared : (j < data_blocks places.shape) ⊎ (data_blocks places.shape ≤ j) → Spares places is_fixed (length disk.reads) at n j × Misses at n (entry_at places j) 10
    spared (inl content) =
        let past : length base ≤ at = omega (arith, free.of_content content, facts.long, facts.longer) in
        (end_spares places is_fixed (length base) (length disk.reads) j n at layout past (omega (arith, free.of_content content)), end_spares_entry places is_fixed (length base) n at j layout past here)
    spared (inr hash) = (
      hash_spares places is_fixed (length base) (length disk.reads) j n at layout hash here (free.of_tree hash) (omega arith),
      hash_spares_entry places is_fixed (length base) j n at j layout hash here (free.of_tree hash) (omega arith) here,
    )

-- ---- the counts of the status record

pub status_step : (places : Places) (is_fixed : ℕ → Bool) (base : List ℕ) (kind : ℕ → Kind) (row : ℕ → Option Row) (spot : ℕ → ℕ) (disk : DiskState) (at n : ℕ) (bytes : List ℕ)
    → IsLayout places is_fixed (length base) → n ≡ 8 → ((k : ℕ) → k < n → in_spans places.spans (at + k) ≡ true) → ((k : ℕ) → k < n → is_fixed (at + k) ≡ false)
    → Facts places is_fixed base kind row spot disk → IsTorn at n disk.reads bytes → Facts places is_fixed base kind row spot (touched at n bytes disk)
status_step places is_fixed base kind row spot disk at n bytes layout eight inside loose facts torn =
    let last = spans_inside places is_fixed (length base) (at + 7) layout (inside 7 (omega arith)) in
    step_kept places is_fixed base kind row row spot spot disk at n bytes (entries places) facts torn (omega (arith, facts.short, facts.within, facts.long, facts.longer))
    (status_spares places is_fixed (length base) (length disk.reads) (entries places) n at layout inside loose) (λ i other. refl) (λ i other. refl) (λ lt. absurd (omega arith))
