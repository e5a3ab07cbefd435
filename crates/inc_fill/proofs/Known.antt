-- What is found in a settled file, what a disk reads of a block that is there, and what a kind says besides.
use Rattle.std.proofs.Common.{◌≡◌, ◌⊎◌, inl, inr, ℕ, ◌+◌, ◌^◌, ◌<◌, ◌≤◌, Bool, false, List, length, Option, Some, None, refl, sym, ◌∙◌, subst, arith}
use Rattle.std.specs.Prelude.{◌==◌}
use Rattle.std.proofs.lemmas.Bool.{ne_eqb, or_from}
use Rattle.inc_tree.specs.shape.Geometry.{block_len}
use Rattle.inc_entry.specs.Entry.{Places, entries, entry_at, entry_from, entry_size, has_size}
use Rattle.inc_entry.specs.Keeps.{IsLayout, Keeps, KeepsEntry, Kind, Acknowledged, Begun, KeptDamaged, KeptCompressed, Shut}
use Rattle.inc_entry.specs.Stored.{class_at, digest_at, is_past}
use Rattle.inc_entry.specs.Table.{IsClass, IsClosedEntry}
use Rattle.inc_entry.specs.declared.classes.Class.{Class}
use Rattle.inc_entry.specs.declared.classes.Class.TheVariants.{Closed, OpenAt, Compressed, Damaged}
use Rattle.inc_entry.specs.declared.entry.Entry.{Entry}
use Rattle.inc_entry.proofs.BlockLemmas.{most_len}
use Rattle.inc_entry.proofs.Rows.{row_of}
use Rattle.inc_disk.specs.Disk.{DiskState, settled}
use Rattle.inc_fill.specs.Facts.{Facts, InFlight, IsKeptOpen, IsKeptShut, Own, Row, row_at, Gated, entry_read}
use Rattle.inc_fill.specs.Laws.{IsFound, ReadsOpen, SaysAsMuch}
use Rattle.inc_fill.proofs.Areas.{entry_inside, fixed_inside}
use Rattle.inc_fill.proofs.Classes.{class_longer, open_not_past, open_parts}
use Rattle.inc_fill.proofs.Settling.{gated_class, settled_clean}

-- ---- a settled file

no_size : (places : Places) (i size : ℕ) → (size ≡ 4096 → ⊥) → (size ≡ block_len places.shape i → ⊥) → has_size places i size ≡ false
unfolding has_size
no_size places i size whole own = or_from (size == 4096) (size == block_len places.shape i) (ne_eqb size 4096 whole) (ne_eqb size (block_len places.shape i) own)

closed_own : (places : Places) (bytes : List ℕ) (i : ℕ) → ((k : ℕ) → k < 10 → entry_at places i + k < length bytes) → IsClosedEntry places i (entry_from bytes (entry_at places i)) → IsKeptShut (settled bytes) places i
closed_own places bytes i inside row = record {
  behind = record {
    low_clean = settled_clean bytes (entry_at places i + 6) (inside 6 (omega arith));
    flags_clean = λ k lt. settled_clean bytes (entry_at places i + 8 + k) (let end = inside (8 + k) (omega arith) in omega arith);
    low = row.low;
    flags = row.flags;
  };
  gate_clean = settled_clean bytes (entry_at places i + 7) (inside 7 (omega arith));
  gate = no_size places i (entry_size (entry_from bytes (entry_at places i))) row.whole row.own;
}

open_own : (places : Places) (bytes : List ℕ) (i place size : ℕ) → ((k : ℕ) → k < 10 → entry_at places i + k < length bytes) → class_at places bytes i ≡ OpenAt place size
    → IsKeptOpen (settled bytes) places i place (digest_at places bytes i place)
open_own places bytes i place size inside is =
    let parts = open_parts places (length bytes) i (entry_from bytes (entry_at places i)) place size is in
    record {
      size = size;
      entry = λ k lt. settled_clean bytes (entry_at places i + k) (inside k lt);
      open_at = is;
      stored = λ k lt. settled_clean bytes (place + k) (omega (arith, parts.inside, parts.offset, parts.sized, parts.least));
      block = refl;
    }

entry_own : (places : Places) (bytes : List ℕ) (i spot : ℕ) (kind : Kind) (class : Class) → ((k : ℕ) → k < 10 → entry_at places i + k < length bytes) → is_past places bytes i ≡ false
    → class_at places bytes i ≡ class → IsFound places bytes i class kind spot → Own (settled bytes) places i spot kind
entry_own places bytes i spot kind (OpenAt place size) inside past is found =
    subst (λ (k : Kind). Own (settled bytes) places i spot k) (sym found.0)
    (subst (λ (p : ℕ). IsKeptOpen (settled bytes) places i p (digest_at places bytes i place)) (sym found.1) (open_own places bytes i place size inside is))
entry_own places bytes i spot kind Compressed inside past is found =
    subst (λ (k : Kind). Own (settled bytes) places i spot k) (sym found)
    (record { entry = λ k lt. settled_clean bytes (entry_at places i + k) (inside k lt); class_is = is; not_past = past })
entry_own places bytes i spot kind Damaged inside past is found =
    subst (λ (k : Kind). Own (settled bytes) places i spot k) (sym found)
    (record { entry = λ k lt. settled_clean bytes (entry_at places i + k) (inside k lt); class_is = is; not_past = past })
entry_own places bytes i spot kind Closed inside past is found =
    let e : Entry = entry_from bytes (entry_at places i) in
    subst (λ (k : Kind). Own (settled bytes) places i spot k) (sym found)
    (closed_own places bytes i inside (subst (λ (c : Class). IsClass places (length bytes) i e c) is (row_of places (length bytes) i e)))

pub found_facts : (places : Places) (is_fixed : ℕ → Bool) (bytes : List ℕ) (kind : ℕ → Kind) (spot : ℕ → ℕ) → IsLayout places is_fixed (length bytes) → length bytes ≤ 2 ^ 47
    → ((i : ℕ) → i < entries places → is_past places bytes i ≡ false) → ((i : ℕ) → i < entries places → IsFound places bytes i (class_at places bytes i) (kind i) (spot i))
    → Facts places is_fixed bytes kind (λ i. None) spot (settled bytes)
found_facts places is_fixed bytes kind spot layout short past found = record {
  longer = omega arith;
  within = omega arith;
  short = short;
  long = omega arith;
  fixed = λ j here. (settled_clean bytes j (fixed_inside places is_fixed (length bytes) j layout here), refl);
  own = λ i lt. entry_own places bytes i (spot i) (kind i) (class_at places bytes i) (λ k small. entry_inside places is_fixed (length bytes) i k layout lt small) (past i lt) refl (found i lt);
  flight = λ i lt. tt;
}

-- ---- what a read finds

kept_reads : (disk : DiskState) (places : Places) (i place : ℕ) (digest : List ℕ) → length disk.synced ≤ length disk.reads → IsKeptOpen disk places i place digest → ReadsOpen disk places i place digest
kept_reads disk places i place digest longer own =
    let parts = open_parts places (length disk.synced) i (entry_read disk places i) place own.size own.open_at in
    let not_past = open_not_past places (length disk.synced) i (entry_read disk places i) place own.size own.open_at in
    record {
      size = own.size;
      class = (class_longer places (length disk.synced) (length disk.reads) i (entry_read disk places i) longer not_past).0 ∙ own.open_at;
      there = omega (arith, parts.inside, parts.offset, parts.sized, parts.least);
      block = own.block;
    }

pub open_reads : (places : Places) (is_fixed : ℕ → Bool) (base : List ℕ) (kind : ℕ → Kind) (row : ℕ → Option Row) (spot : ℕ → ℕ) (disk : DiskState) (i : ℕ) (digest : List ℕ)
    → Facts places is_fixed base kind row spot disk → i < entries places → (kind i ≡ Acknowledged digest) ⊎ (row i ≡ Some (row_at digest Gated)) → ReadsOpen disk places i (spot i) digest
open_reads places is_fixed base kind row spot disk i digest facts here (inl is) =
    kept_reads disk places i (spot i) digest facts.longer (subst (λ (k : Kind). Own disk places i (spot i) k) is (facts.own i here))
open_reads places is_fixed base kind row spot disk i digest facts here (inr is) =
    let flight = subst (λ (r : Option Row). InFlight disk places i (spot i) (kind i) r) is (facts.flight i here) in
    let own = subst (λ (k : Kind). Own disk places i (spot i) k) flight.1.0 (facts.own i here) in
    let most = most_len places.shape i in
    record {
      size = entry_size (entry_read disk places i);
      class = gated_class disk places i (spot i) digest facts.longer own flight.1.1;
      there = omega (arith, flight.0.there);
      block = flight.0.block;
    }

-- ---- what a kind says besides

entry_weaker : (places : Places) (bytes : List ℕ) (i : ℕ) (kind weaker : Kind) → SaysAsMuch kind weaker → KeepsEntry places bytes i kind → KeepsEntry places bytes i weaker
entry_weaker places bytes i kind (Begun digest) (inl same) keeps = subst (λ (k : Kind). KeepsEntry places bytes i k) same keeps
entry_weaker places bytes i kind (Begun digest) (inr (inl known)) keeps = inl (subst (λ (k : Kind). KeepsEntry places bytes i k) known keeps)
entry_weaker places bytes i kind (Begun digest) (inr (inr shut)) keeps = inr (subst (λ (k : Kind). KeepsEntry places bytes i k) shut keeps)
entry_weaker places bytes i kind (Acknowledged digest) same keeps = subst (λ (k : Kind). KeepsEntry places bytes i k) same keeps
entry_weaker places bytes i kind KeptDamaged same keeps = subst (λ (k : Kind). KeepsEntry places bytes i k) same keeps
entry_weaker places bytes i kind KeptCompressed same keeps = subst (λ (k : Kind). KeepsEntry places bytes i k) same keeps
entry_weaker places bytes i kind Shut same keeps = subst (λ (k : Kind). KeepsEntry places bytes i k) same keeps

pub weaker_keeps : (places : Places) (is_fixed : ℕ → Bool) (base bytes : List ℕ) (kind weaker : ℕ → Kind) → ((i : ℕ) → i < entries places → SaysAsMuch (kind i) (weaker i))
    → Keeps places is_fixed base kind bytes → Keeps places is_fixed base weaker bytes
weaker_keeps places is_fixed base bytes kind weaker says keeps = record {
  long = keeps.long;
  short = keeps.short;
  fixed = keeps.fixed;
  each = λ i lt. entry_weaker places bytes i (kind i) (weaker i) (says i lt) (keeps.each i lt);
  none_past = keeps.none_past;
}
