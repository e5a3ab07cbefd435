-- The facts of a disk after a sync: every byte is clean, so what was written counts, and what is behind a written gate is there for good.
use Rattle.std.proofs.Common.{◌≡◌, ◌⊎◌, inl, inr, ℕ, ◌+◌, ◌<◌, ◌≤◌, Bool, true, List, length, Option, Some, None, refl, sym, ◌∙◌, ap, subst, arith}
use Rattle.inc_tree.specs.shape.Geometry.{block_len}
use Rattle.inc_entry.specs.Entry.{Places, entries, entry_at, entry_size, fits}
use Rattle.inc_entry.specs.declared.classes.Class.{Class}
use Rattle.inc_entry.specs.declared.classes.Class.TheVariants.{OpenAt, Compressed, Damaged}
use Rattle.inc_disk.specs.Disk.{DiskState, settled}
use Rattle.inc_entry.specs.Stored.{class_at}
use Rattle.inc_entry.specs.Keeps.{IsLayout, Kind, Acknowledged, Begun, KeptDamaged, KeptCompressed, Shut}
use Rattle.inc_entry.proofs.BlockLemmas.{most_len}
use Rattle.inc_fill.specs.Facts.{IsClean, CleanAt, entry_read, IsKeptOpen, IsStored, IsBehindGate, IsKeptBegun, IsKeptClass, Own, Row, Stage, Written, Placed, Settled, Gated, row_at, HasBlock, AtStage, InFlight, Facts, kind_at, row_after, settled_kind, settled_row}
use Rattle.inc_fill.proofs.Areas.{entry_inside}
use Rattle.inc_fill.proofs.Classes.{class_longer, gate_class, open_not_past}

pub settled_clean : (bytes : List ℕ) (j : ℕ) → j < length bytes → IsClean (settled bytes) j
settled_clean bytes j lt = record { still = refl; there = lt; same = refl }

range_settled : (disk : DiskState) (at n : ℕ) → length disk.synced ≤ length disk.reads → CleanAt disk at n → CleanAt (settled disk.reads) at n
range_settled disk at n longer clean k lt = settled_clean disk.reads (at + k) (omega (arith, longer, (clean k lt).there))

stored_settled : (disk : DiskState) (places : Places) (i place : ℕ) (digest : List ℕ) → length disk.synced ≤ length disk.reads → IsStored disk places i place digest → IsStored (settled disk.reads) places i place digest
stored_settled disk places i place digest longer own = record {
  stored = range_settled disk place 4096 longer own.stored;
  offset = range_settled disk (entry_at places i) 6 longer own.offset;
  offset_is = own.offset_is;
  some = own.some;
  here = own.here;
  block = own.block;
}

behind_settled : (disk : DiskState) (places : Places) (i : ℕ) → length disk.synced ≤ length disk.reads → IsBehindGate disk places i → IsBehindGate (settled disk.reads) places i
behind_settled disk places i longer own = record {
  low_clean = settled_clean disk.reads (entry_at places i + 6) (omega (arith, longer, own.low_clean.there));
  flags_clean = range_settled disk (entry_at places i + 8) 2 longer own.flags_clean;
  low = own.low;
  flags = own.flags;
}

class_settled : (disk : DiskState) (places : Places) (i : ℕ) (class : Class) → length disk.synced ≤ length disk.reads → IsKeptClass disk places i class → IsKeptClass (settled disk.reads) places i class
class_settled disk places i class longer own =
    let both = class_longer places (length disk.synced) (length disk.reads) i (entry_read disk places i) longer own.not_past in
    record { entry = range_settled disk (entry_at places i) 10 longer own.entry; class_is = both.0 ∙ own.class_is; not_past = both.1 }

own_settled : (disk : DiskState) (places : Places) (i place : ℕ) (kind : Kind) → length disk.synced ≤ length disk.reads → Own disk places i place kind → Own (settled disk.reads) places i place kind
own_settled disk places i place (Acknowledged digest) longer own =
    let not_past = open_not_past places (length disk.synced) i (entry_read disk places i) place own.size own.open_at in
    record {
      size = own.size;
      entry = range_settled disk (entry_at places i) 10 longer own.entry;
      open_at = (class_longer places (length disk.synced) (length disk.reads) i (entry_read disk places i) longer not_past).0 ∙ own.open_at;
      stored = range_settled disk place (block_len places.shape i) longer own.stored;
      block = own.block;
    }
own_settled disk places i place (Begun digest) longer own = record { ready = stored_settled disk places i place digest longer own.ready; behind = behind_settled disk places i longer own.behind }
own_settled disk places i place KeptDamaged longer own = class_settled disk places i Damaged longer own
own_settled disk places i place KeptCompressed longer own = class_settled disk places i Compressed longer own
own_settled disk places i place Shut longer own = record {
  behind = behind_settled disk places i longer own.behind;
  gate_clean = settled_clean disk.reads (entry_at places i + 7) (omega (arith, longer, own.gate_clean.there));
  gate = own.gate;
}

block_settled : (disk : DiskState) (places : Places) (i place : ℕ) (digest : List ℕ) → HasBlock disk places i place digest → HasBlock (settled disk.reads) places i place digest
block_settled disk places i place digest has = record { some = has.some; here = has.here; there = has.there; block = has.block }

-- an offset that reads as the block's place is settled with the block
placed_stored : (disk : DiskState) (places : Places) (i place : ℕ) (digest : List ℕ) → ((k : ℕ) → k < 10 → entry_at places i + k < length disk.reads) → HasBlock disk places i place digest
    → (entry_read disk places i).offset ≡ place → IsStored (settled disk.reads) places i place digest
placed_stored disk places i place digest inside has offset = record {
  stored = λ k lt. settled_clean disk.reads (place + k) (omega (arith, has.there));
  offset = λ k lt. settled_clean disk.reads (entry_at places i + k) (inside k (omega arith));
  offset_is = offset;
  some = has.some;
  here = has.here;
  block = has.block;
}

-- behind a written gate the entry reads as open
pub gated_class : (disk : DiskState) (places : Places) (i place : ℕ) (digest : List ℕ) → length disk.synced ≤ length disk.reads → IsKeptBegun disk places i place digest
    → (entry_read disk places i).high ≡ 16 → class_at places disk.reads i ≡ OpenAt place (entry_size (entry_read disk places i))
gated_class disk places i place digest longer own high =
    let offset : (entry_read disk places i).offset ≡ place = own.ready.offset_is in
    let last : place + 4096 ≤ length disk.reads = omega (arith, longer, (own.ready.stored 4095 (omega arith)).there) in
    gate_class places (length disk.reads) i (entry_read disk places i) own.behind.low own.behind.flags high (omega (arith, own.ready.some))
    (subst (λ (p : ℕ). fits places i p 4096 ≡ true) (sym offset) own.ready.here) (omega arith)
    ∙ ap (λ (p : ℕ). OpenAt p (entry_size (entry_read disk places i))) offset

-- a written gate is settled: the block is there for good
gated_open : (disk : DiskState) (places : Places) (i place : ℕ) (digest : List ℕ) → length disk.synced ≤ length disk.reads → ((k : ℕ) → k < 10 → entry_at places i + k < length disk.reads)
    → IsKeptBegun disk places i place digest → (entry_read disk places i).high ≡ 16 → IsKeptOpen (settled disk.reads) places i place digest
gated_open disk places i place digest longer inside own high =
    let offset : (entry_read disk places i).offset ≡ place = own.ready.offset_is in
    let last : place + 4096 ≤ length disk.reads = omega (arith, longer, (own.ready.stored 4095 (omega arith)).there) in
    let most = most_len places.shape i in
    record {
      size = entry_size (entry_read disk places i);
      entry = λ k lt. settled_clean disk.reads (entry_at places i + k) (inside k lt);
      open_at = gated_class disk places i place digest longer own high;
      stored = λ k lt. settled_clean disk.reads (place + k) (omega arith);
      block = own.ready.block;
    }

-- an index and its row, by the row's stage
stage_settled : (disk : DiskState) (places : Places) (i place : ℕ) (kind : Kind) (digest : List ℕ) (stage : Stage) → length disk.synced ≤ length disk.reads
    → ((k : ℕ) → k < 10 → entry_at places i + k < length disk.reads) → Own disk places i place kind → HasBlock disk places i place digest → AtStage disk places i place kind digest stage
    → Own (settled disk.reads) places i place (kind_at kind (row_at digest stage) stage)
    × InFlight (settled disk.reads) places i place (kind_at kind (row_at digest stage) stage) (row_after (row_at digest stage) stage)
stage_settled disk places i place kind digest Written longer inside own has at_stage = (own_settled disk places i place kind longer own, (block_settled disk places i place digest has, at_stage))
stage_settled disk places i place kind digest Placed longer inside own has at_stage =
    (own_settled disk places i place kind longer own, (block_settled disk places i place digest has, (inl at_stage.0, placed_stored disk places i place digest inside has at_stage.1)))
stage_settled disk places i place kind digest Settled longer inside own has at_stage =
    (own_settled disk places i place kind longer own, (block_settled disk places i place digest has, (at_stage.0, stored_settled disk places i place digest longer at_stage.1)))
stage_settled disk places i place kind digest Gated longer inside own has at_stage =
    (gated_open disk places i place digest longer inside (subst (λ (k : Kind). Own disk places i place k) at_stage.0 own) at_stage.1, tt)

both_settled : (disk : DiskState) (places : Places) (i place : ℕ) (kind : Kind) (row : Option Row) → length disk.synced ≤ length disk.reads → ((k : ℕ) → k < 10 → entry_at places i + k < length disk.reads)
    → Own disk places i place kind → InFlight disk places i place kind row
    → Own (settled disk.reads) places i place (settled_kind kind row) × InFlight (settled disk.reads) places i place (settled_kind kind row) (settled_row row)
both_settled disk places i place kind None longer inside own has = (own_settled disk places i place kind longer own, tt)
both_settled disk places i place kind (Some row) longer inside own has = stage_settled disk places i place kind row.digest row.stage longer inside own has.0 has.1

pub settle_step : (places : Places) (is_fixed : ℕ → Bool) (base : List ℕ) (kind kind' : ℕ → Kind) (row row' : ℕ → Option Row) (spot : ℕ → ℕ) (disk : DiskState)
    → IsLayout places is_fixed (length base) → ((i : ℕ) → i < entries places → kind' i ≡ settled_kind (kind i) (row i)) → ((i : ℕ) → i < entries places → row' i ≡ settled_row (row i))
    → Facts places is_fixed base kind row spot disk → Facts places is_fixed base kind' row' spot (settled disk.reads)
settle_step places is_fixed base kind kind' row row' spot disk layout kinds rows facts = record {
  longer = omega arith;
  within = omega arith;
  short = omega (arith, facts.within, facts.short);
  long = omega (arith, facts.long, facts.longer);
  fixed = λ x fixed. (settled_clean disk.reads x (omega (arith, facts.longer, (facts.fixed x fixed).0.there)), (facts.fixed x fixed).1);
  own = λ i lt. subst (λ (k : Kind). Own (settled disk.reads) places i (spot i) k) (sym (kinds i lt)) (both i lt).0;
  flight = λ i lt. subst (λ (k : Kind). InFlight (settled disk.reads) places i (spot i) k (row' i)) (sym (kinds i lt))
      (subst (λ (r : Option Row). InFlight (settled disk.reads) places i (spot i) (settled_kind (kind i) (row i)) r) (sym (rows i lt)) (both i lt).1);
}
  where
    both : (i : ℕ) → i < entries places → Own (settled disk.reads) places i (spot i) (settled_kind (kind i) (row i)) × InFlight (settled disk.reads) places i (spot i) (settled_kind (kind i) (row i)) (settled_row (row i))
    both i lt = both_settled disk places i (spot i) (kind i) (row i) facts.longer
        (λ k small. let inside = entry_inside places is_fixed (length base) i k layout lt small in omega (arith, facts.long, facts.longer)) (facts.own i lt) (facts.flight i lt)

-- fills that are given up
pub release_keeps : (places : Places) (is_fixed : ℕ → Bool) (base : List ℕ) (kind : ℕ → Kind) (row row' : ℕ → Option Row) (spot : ℕ → ℕ) (disk : DiskState)
    → ((i : ℕ) → i < entries places → (row' i ≡ row i) ⊎ (row' i ≡ None))
    → Facts places is_fixed base kind row spot disk → Facts places is_fixed base kind row' spot disk
release_keeps places is_fixed base kind row row' spot disk stays facts = record {
  longer = facts.longer;
  within = facts.within;
  short = facts.short;
  long = facts.long;
  fixed = facts.fixed;
  own = facts.own;
  flight = λ i lt. elim (stays i lt) [
    | inl same ↦ subst (λ (r : Option Row). InFlight disk places i (spot i) (kind i) r) (sym same) (facts.flight i lt)
    | inr none ↦ subst (λ (r : Option Row). InFlight disk places i (spot i) (kind i) r) (sym none) tt
  ];
}
