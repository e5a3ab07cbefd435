-- What every table keeps: serials rise, and stay below the next one.
use Rattle.std.proofs.Common.{◌≡◌, ℕ, suc, ◌+◌, ◌<◌, Bool, true, false, not, cond, List, [], ◌∷◌, ◌++◌, length, get_or, take, map, refl, arith}
use Rattle.std.specs.Prelude.{All, AllPairs, filter}
use Rattle.std.proofs.lemmas.List.{length-append, length-map, length-take, get_or-take}
use Rattle.std.proofs.lemmas.List.Elements.{All-nil, All-push, All-filter, All-map}
use Rattle.std.proofs.lemmas.List.Quantifiers.{all_pairs_push}
use Rattle.std.proofs.lemmas.List.Kept.{AllPairs-cons, AllPairs-filter}
use Rattle.std.proofs.lemmas.List.Sums.{length-filter, count_by-le-length}
use Rattle.inc_pending.specs.declared.reads.ReadRow.{ReadRow}
use Rattle.inc_pending.specs.declared.pending_record.PendingRecord.{PendingRecord}
use Rattle.inc_pending.specs.Polling.{AreRising, HoldsReads, is_asked, reads_but, waits_on, marked, record_of, is_pending_after}

-- ---- numbers that rise along a list

module _ {X Y : Type 0} (key : X → ℕ) (key' : Y → ℕ) (f : X → Y) (kept : (x : X) → key' (f x) ≡ key x) where
  -- they do after a change that keeps them
  pub rising-map : (xs : List X) → AllPairs (λ a b. key a < key b) xs → AllPairs (λ a b. key' a < key' b) (map f xs)
  rising-map [] h = λ i j d lt inside. absurd (omega arith)
  rising-map (x ∷ xs) h =
      let first : All (λ y. key' (f x) < key' (f y)) xs = λ k d lt. let later = h 0 (suc k) d (omega arith) (omega arith) in let e = kept x in let e' = kept (get_or xs k d) in omega arith in
      AllPairs-cons (λ a b. key' a < key' b) (f x) (map f xs) (All-map (λ y. key' (f x) < key' y) f xs first)
      (rising-map xs (λ i j d lt inside. h (suc i) (suc j) d (omega arith) (omega arith)))

-- ---- what every table keeps

pub holds_none : HoldsReads [] 1
holds_none = record { rising = λ i j d lt inside. absurd (omega arith); below = All-nil (λ (row : ReadRow). row.serial < 1); few = omega arith }

pub holds_asked : (reads : List ReadRow) (next : ℕ) (row : ReadRow) → row.serial ≡ next → HoldsReads reads next → HoldsReads (reads ++ row ∷ []) (next + 1)
holds_asked reads next row e h = record {
  rising = all_pairs_push (λ (a : ReadRow) (b : ReadRow). a.serial < b.serial) reads row h.rising (λ k d lt. let below = h.below k d lt in omega arith);
  below = All-push (λ (r : ReadRow). r.serial < next + 1) reads row (λ k d lt. let below = h.below k d lt in omega arith) (omega arith);
  few = let few = h.few in omega (arith, length-append reads (row ∷ []));
}

pub holds_but : (who serial : ℕ) (reads : List ReadRow) (next : ℕ) → HoldsReads reads next → HoldsReads (reads_but who serial reads) next
holds_but who serial reads next h =
    let p : ReadRow → Bool = λ row. not (is_asked who serial row) in
    record {
      rising = AllPairs-filter (λ (a : ReadRow) (b : ReadRow). a.serial < b.serial) p reads h.rising;
      below = All-filter p (λ (r : ReadRow). r.serial < next) reads h.below;
      few = let few = h.few in omega (arith, length-filter p reads, count_by-le-length p reads);
    }

serial-marked_by : (b : Bool) (row : ReadRow) → (cond b (record row { done = true }) row).serial ≡ row.serial
serial-marked_by true row = refl
serial-marked_by false row = refl

serial-marked : (block : ℕ) (row : ReadRow) → (marked block row).serial ≡ row.serial
serial-marked block row = serial-marked_by (waits_on block row) row

pub holds_marked : (block : ℕ) (reads : List ReadRow) (next : ℕ) → HoldsReads reads next → HoldsReads (map (marked block) reads) next
holds_marked block reads next h = record {
  rising = rising-map (λ (row : ReadRow). row.serial) (λ (row : ReadRow). row.serial) (marked block) (serial-marked block) reads h.rising;
  below = All-map (λ (row : ReadRow). row.serial < next) (marked block) reads (λ k d lt. let below = h.below k d lt in let same = serial-marked block (get_or reads k d) in omega arith);
  few = let few = h.few in omega (arith, length-map reads (marked block));
}

-- ---- what a loader is told rises too

rising-take : (n : ℕ) (reads : List ReadRow) → AreRising reads → AreRising (take n reads)
rising-take n reads h i j d lt inside =
    let below : j < n = omega (arith, length-take n reads) in
    let within : j < length reads = omega (arith, length-take n reads) in
    let below' : i < n = omega arith in
    rw (get_or-take n reads i d below', get_or-take n reads j d below) (h i j d lt within)

pub records_rise : (id : List ℕ) (serial count : ℕ) (reads : List ReadRow) → AreRising reads → AllPairs (λ (a : PendingRecord) (b : PendingRecord). a.serial < b.serial) (map (record_of id) (take count (filter (is_pending_after serial) reads)))
records_rise id serial count reads h =
    rising-map (λ (row : ReadRow). row.serial) (λ (r : PendingRecord). r.serial) (record_of id) (λ row. refl) (take count (filter (is_pending_after serial) reads))
    (rising-take count (filter (is_pending_after serial) reads) (AllPairs-filter (λ (a : ReadRow) (b : ReadRow). a.serial < b.serial) (is_pending_after serial) reads h))
