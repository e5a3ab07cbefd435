-- A write keeps what is known of the bytes outside its range, whether it is done or torn.
use Rattle.std.proofs.Common.{◌≡◌, inl, inr, ℕ, ◌+◌, ◌*◌, ◌<◌, ◌≤◌, true, false, List, length, get_or, Option, Some, None, sym, ◌∙◌, ap, arith}
use Rattle.std.proofs.lemmas.Bool.{cases_lt, or_from}
use Rattle.std.proofs.lemmas.Bool.Decides.{nat_tests}
use Rattle.inc_tree.specs.shape.Geometry.{block_len}
use Rattle.inc_entry.specs.Entry.{Places, class_of, entry_at, entry_from, entry_size, fits, has_size, past_end}
use Rattle.inc_entry.specs.declared.classes.Class.{Class}
use Rattle.inc_entry.specs.declared.classes.Class.TheVariants.{Compressed, Damaged}
use Rattle.inc_disk.specs.Disk.{DiskState, IsTorn, in_range, is_dirty, touched}
use Rattle.inc_entry.specs.Stored.{digest_at}
use Rattle.inc_entry.specs.Keeps.{Kind, Acknowledged, Begun, KeptDamaged, KeptCompressed, Shut}
use Rattle.inc_entry.proofs.BlockLemmas.{most_len}
use Rattle.inc_fill.specs.Facts.{IsClean, CleanAt, entry_read, IsKeptOpen, IsStored, IsBehindGate, IsKeptShut, IsKeptClass, Own, Row, Stage, Written, Placed, Settled, Gated, HasBlock, AtStage, InFlight}
use Rattle.inc_fill.proofs.Classes.{open_parts}
use Rattle.inc_fill.proofs.Entries.{same_entry, same_offset, same_low, same_high, same_flags, same_digest}

-- the byte isn't among the `n` from a place on
abbrev pub Outside : ℕ → ℕ → ℕ → Type 0
Outside at n j = at ≤ j → j < at + n → ⊥

abbrev pub Misses : ℕ → ℕ → ℕ → ℕ → Type 0
Misses at n place count = (k : ℕ) → k < count → Outside at n (place + k)

-- wherever a block of this index may lie in a file of so many bytes
abbrev pub MissesBlocks : Places → ℕ → ℕ → ℕ → ℕ → Type 0
MissesBlocks places len at n i = (place size : ℕ) → size ≤ 4096 → fits places i place size ≡ true → place + size ≤ len → Misses at n place size

pub torn_same : (at n : ℕ) (old new : List ℕ) (j : ℕ) → IsTorn at n old new → Outside at n j → get_or new j 0 ≡ get_or old j 0
torn_same at n old new j torn out =
    elim (cases_lt j at) [
      | inl lt ↦ torn.before j lt
      | inr ge ↦ elim (cases_lt j (at + n)) [
        | inl lt ↦ absurd (out ge lt)
        | inr le ↦ torn.after j le
      ]
    ]

range_false : (at n j : ℕ) → Outside at n j → in_range j (at, at + n) ≡ false
range_false at n j out =
    elim (cases_lt j at) [
      | inl lt ↦ grind (arith, nat_tests)
      | inr ge ↦ elim (cases_lt j (at + n)) [
        | inl lt ↦ absurd (out ge lt)
        | inr le ↦ grind (arith, nat_tests)
      ]
    ]

pub clean_kept : (disk : DiskState) (at n : ℕ) (bytes : List ℕ) (j : ℕ) → IsTorn at n disk.reads bytes → Outside at n j → IsClean disk j → IsClean (touched at n bytes disk) j
clean_kept disk at n bytes j torn out clean = record {
  still = or_from (in_range j (at, at + n)) (is_dirty disk.dirty j) (range_false at n j out) clean.still;
  there = clean.there;
  same = clean.same ∙ sym (torn_same at n disk.reads bytes j torn out);
}

range_kept : (disk : DiskState) (at n : ℕ) (bytes : List ℕ) (place count : ℕ) → IsTorn at n disk.reads bytes → Misses at n place count → CleanAt disk place count → CleanAt (touched at n bytes disk) place count
range_kept disk at n bytes place count torn out clean k lt = clean_kept disk at n bytes (place + k) torn (out k lt) (clean k lt)

-- ---- blocks

digest_kept : (disk : DiskState) (places : Places) (at n : ℕ) (bytes : List ℕ) (i place : ℕ) (digest : List ℕ) → IsTorn at n disk.reads bytes
    → place + block_len places.shape i ≤ length disk.reads → Misses at n place (block_len places.shape i) → digest_at places disk.reads i place ≡ digest → digest_at places bytes i place ≡ digest
digest_kept disk places at n bytes i place digest torn there out block =
    same_digest places bytes disk.reads i place (omega (arith, torn.no_shorter)) there (λ k lt. torn_same at n disk.reads bytes (place + k) torn (out k lt)) ∙ block

pub stored_kept : (disk : DiskState) (places : Places) (at n : ℕ) (bytes : List ℕ) (i place : ℕ) (digest : List ℕ) → IsTorn at n disk.reads bytes → length disk.synced ≤ length disk.reads
    → Misses at n (entry_at places i) 6 → MissesBlocks places (length disk.reads) at n i → IsStored disk places i place digest → IsStored (touched at n bytes disk) places i place digest
stored_kept disk places at n bytes i place digest torn longer out blocks own =
    let there : place + 4096 ≤ length disk.reads = omega (arith, (own.stored 4095 (omega arith)).there) in
    let miss = blocks place 4096 (omega arith) own.here there in
    let most = most_len places.shape i in
    record {
      stored = range_kept disk at n bytes place 4096 torn miss own.stored;
      offset = range_kept disk at n bytes (entry_at places i) 6 torn out own.offset;
      offset_is = same_offset bytes disk.reads (entry_at places i) (λ k lt. torn_same at n disk.reads bytes (entry_at places i + k) torn (out k lt)) ∙ own.offset_is;
      some = own.some;
      here = own.here;
      block = digest_kept disk places at n bytes i place digest torn (omega arith) (λ k lt. miss k (omega arith)) own.block;
    }

pub behind_kept : (disk : DiskState) (places : Places) (at n : ℕ) (bytes : List ℕ) (i : ℕ) → IsTorn at n disk.reads bytes
    → Outside at n (entry_at places i + 6) → Misses at n (entry_at places i + 8) 2 → IsBehindGate disk places i → IsBehindGate (touched at n bytes disk) places i
behind_kept disk places at n bytes i torn low flags own = record {
  low_clean = clean_kept disk at n bytes (entry_at places i + 6) torn low own.low_clean;
  flags_clean = range_kept disk at n bytes (entry_at places i + 8) 2 torn flags own.flags_clean;
  low = same_low bytes disk.reads (entry_at places i) (torn_same at n disk.reads bytes (entry_at places i + 6) torn low) ∙ own.low;
  flags = same_flags bytes disk.reads (entry_at places i) (λ k lt. torn_same at n disk.reads bytes (entry_at places i + 8 + k) torn (flags k lt)) ∙ own.flags;
}

same_size : (low low' high high' : ℕ) → low ≡ low' → high ≡ high' → low + 256 * high ≡ low' + 256 * high'
same_size low low' high high' e f = cc

-- a closed gate needs the four bytes behind the offset alone
pub shut_kept : (disk : DiskState) (places : Places) (at n : ℕ) (bytes : List ℕ) (i : ℕ) → IsTorn at n disk.reads bytes
    → Misses at n (entry_at places i + 6) 4 → IsKeptShut disk places i → IsKeptShut (touched at n bytes disk) places i
shut_kept disk places at n bytes i torn out own =
    let gate_out : Outside at n (entry_at places i + 7) = λ ge lt. out 1 (omega arith) (omega arith) (omega arith) in
    let low_out : Outside at n (entry_at places i + 6) = λ ge lt. out 0 (omega arith) (omega arith) (omega arith) in
    let flags_out : Misses at n (entry_at places i + 8) 2 = λ k small ge lt. out (2 + k) (omega arith) (omega arith) (omega arith) in
    let low = same_low bytes disk.reads (entry_at places i) (torn_same at n disk.reads bytes (entry_at places i + 6) torn low_out) in
    let high = same_high bytes disk.reads (entry_at places i) (torn_same at n disk.reads bytes (entry_at places i + 7) torn gate_out) in
    let size : entry_size (entry_from bytes (entry_at places i)) ≡ entry_size (entry_read disk places i) = same_size _ _ _ _ low high in
    record {
      behind = behind_kept disk places at n bytes i torn low_out flags_out own.behind;
      gate_clean = clean_kept disk at n bytes (entry_at places i + 7) torn gate_out own.gate_clean;
      gate = ap (has_size places i) size ∙ own.gate;
    }

-- ---- an index whose own bytes the write misses

read_kept : (disk : DiskState) (places : Places) (at n : ℕ) (bytes : List ℕ) (i : ℕ) → IsTorn at n disk.reads bytes → Misses at n (entry_at places i) 10
    → entry_from bytes (entry_at places i) ≡ entry_read disk places i
read_kept disk places at n bytes i torn out = same_entry bytes disk.reads (entry_at places i) (λ k lt. torn_same at n disk.reads bytes (entry_at places i + k) torn (out k lt))

open_kept : (disk : DiskState) (places : Places) (at n : ℕ) (bytes : List ℕ) (i place : ℕ) (digest : List ℕ) → IsTorn at n disk.reads bytes → length disk.synced ≤ length disk.reads
    → Misses at n (entry_at places i) 10 → MissesBlocks places (length disk.reads) at n i → IsKeptOpen disk places i place digest → IsKeptOpen (touched at n bytes disk) places i place digest
open_kept disk places at n bytes i place digest torn longer out blocks own =
    let parts = open_parts places (length disk.synced) i (entry_read disk places i) place own.size own.open_at in
    let there : place + own.size ≤ length disk.reads = omega (arith, parts.inside, parts.offset, parts.sized) in
    let miss = blocks place own.size parts.most parts.here there in
    let least : block_len places.shape i ≤ own.size = parts.least in
    let miss_own : Misses at n place (block_len places.shape i) = λ k lt. miss k (omega arith) in
    record {
      size = own.size;
      entry = range_kept disk at n bytes (entry_at places i) 10 torn out own.entry;
      open_at = ap (class_of places (length disk.synced) i) (read_kept disk places at n bytes i torn out) ∙ own.open_at;
      stored = range_kept disk at n bytes place (block_len places.shape i) torn miss_own own.stored;
      block = digest_kept disk places at n bytes i place digest torn (omega arith) miss_own own.block;
    }

class_kept : (disk : DiskState) (places : Places) (at n : ℕ) (bytes : List ℕ) (i : ℕ) (class : Class) → IsTorn at n disk.reads bytes
    → Misses at n (entry_at places i) 10 → IsKeptClass disk places i class → IsKeptClass (touched at n bytes disk) places i class
class_kept disk places at n bytes i class torn out own =
    let same = read_kept disk places at n bytes i torn out in
    record {
      entry = range_kept disk at n bytes (entry_at places i) 10 torn out own.entry;
      class_is = ap (class_of places (length disk.synced) i) same ∙ own.class_is;
      not_past = ap (past_end places (length disk.synced) i) same ∙ own.not_past;
    }

pub front_missed : (at n place : ℕ) → Misses at n place 10 → Misses at n place 6
front_missed at n place out k small ge lt = out k (omega arith) ge lt

back_missed : (at n place : ℕ) → Misses at n place 10 → Misses at n (place + 6) 4
back_missed at n place out k small ge lt = out (6 + k) (omega arith) (omega arith) (omega arith)

low_missed : (at n place : ℕ) → Misses at n place 10 → Outside at n (place + 6)
low_missed at n place out ge lt = out 6 (omega arith) ge lt

flags_missed : (at n place : ℕ) → Misses at n place 10 → Misses at n (place + 8) 2
flags_missed at n place out k small ge lt = out (8 + k) (omega arith) (omega arith) (omega arith)

pub own_kept : (disk : DiskState) (places : Places) (at n : ℕ) (bytes : List ℕ) (i place : ℕ) (kind : Kind) → IsTorn at n disk.reads bytes → length disk.synced ≤ length disk.reads
    → Misses at n (entry_at places i) 10 → MissesBlocks places (length disk.reads) at n i → Own disk places i place kind → Own (touched at n bytes disk) places i place kind
own_kept disk places at n bytes i place (Acknowledged digest) torn longer out blocks own = open_kept disk places at n bytes i place digest torn longer out blocks own
own_kept disk places at n bytes i place (Begun digest) torn longer out blocks own = record {
  ready = stored_kept disk places at n bytes i place digest torn longer (front_missed at n (entry_at places i) out) blocks own.ready;
  behind = behind_kept disk places at n bytes i torn (low_missed at n (entry_at places i) out) (flags_missed at n (entry_at places i) out) own.behind;
}
own_kept disk places at n bytes i place KeptDamaged torn longer out blocks own = class_kept disk places at n bytes i Damaged torn out own
own_kept disk places at n bytes i place KeptCompressed torn longer out blocks own = class_kept disk places at n bytes i Compressed torn out own
own_kept disk places at n bytes i place Shut torn longer out blocks own = shut_kept disk places at n bytes i torn (back_missed at n (entry_at places i) out) own

pub block_kept : (disk : DiskState) (places : Places) (at n : ℕ) (bytes : List ℕ) (i place : ℕ) (digest : List ℕ) → IsTorn at n disk.reads bytes
    → MissesBlocks places (length disk.reads) at n i → HasBlock disk places i place digest → HasBlock (touched at n bytes disk) places i place digest
block_kept disk places at n bytes i place digest torn blocks has =
    let most = most_len places.shape i in
    let miss = blocks place 4096 (omega arith) has.here has.there in
    record {
      some = has.some;
      here = has.here;
      there = omega (arith, has.there, torn.no_shorter);
      block = digest_kept disk places at n bytes i place digest torn (omega (arith, has.there)) (λ k lt. miss k (omega arith)) has.block;
    }

stage_kept : (disk : DiskState) (places : Places) (at n : ℕ) (bytes : List ℕ) (i place : ℕ) (kind : Kind) (digest : List ℕ) (stage : Stage) → IsTorn at n disk.reads bytes
    → length disk.synced ≤ length disk.reads → Misses at n (entry_at places i) 10 → MissesBlocks places (length disk.reads) at n i
    → AtStage disk places i place kind digest stage → AtStage (touched at n bytes disk) places i place kind digest stage
stage_kept disk places at n bytes i place kind digest Written torn longer out blocks at_stage = at_stage
stage_kept disk places at n bytes i place kind digest Placed torn longer out blocks at_stage =
    (at_stage.0, same_offset bytes disk.reads (entry_at places i) (λ k lt. torn_same at n disk.reads bytes (entry_at places i + k) torn (front_missed at n (entry_at places i) out k lt)) ∙ at_stage.1)
stage_kept disk places at n bytes i place kind digest Settled torn longer out blocks at_stage =
    (at_stage.0, stored_kept disk places at n bytes i place digest torn longer (front_missed at n (entry_at places i) out) blocks at_stage.1)
stage_kept disk places at n bytes i place kind digest Gated torn longer out blocks at_stage =
    (at_stage.0, same_high bytes disk.reads (entry_at places i) (torn_same at n disk.reads bytes (entry_at places i + 7) torn (out 7 (omega arith))) ∙ at_stage.1)

pub flight_kept : (disk : DiskState) (places : Places) (at n : ℕ) (bytes : List ℕ) (i place : ℕ) (kind : Kind) (row : Option Row) → IsTorn at n disk.reads bytes
    → length disk.synced ≤ length disk.reads → Misses at n (entry_at places i) 10 → MissesBlocks places (length disk.reads) at n i
    → InFlight disk places i place kind row → InFlight (touched at n bytes disk) places i place kind row
flight_kept disk places at n bytes i place kind None torn longer out blocks has = tt
flight_kept disk places at n bytes i place kind (Some row) torn longer out blocks has =
    (block_kept disk places at n bytes i place row.digest torn blocks has.0, stage_kept disk places at n bytes i place kind row.digest row.stage torn longer out blocks has.1)
