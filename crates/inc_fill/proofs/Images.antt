-- From the facts of a disk to what each of its images keeps.
use Rattle.std.proofs.Common.{◌≡◌, ◌⊎◌, inl, inr, ⊎_elim, ℕ, zero, suc, ◌+◌, ◌*◌, ◌<◌, ◌≤◌, Bool, true, false, List, length, get_or, Option, Some, sym, ◌∙◌, ap, subst, arith}
use Rattle.inc_tree.specs.shape.Geometry.{block_len}
use Rattle.inc_entry.specs.Entry.{Places, class_of, entry_at, entry_from, entry_size, fits, has_size, past_end}
use Rattle.inc_entry.specs.declared.classes.Class.{Class}
use Rattle.inc_entry.specs.declared.classes.Class.TheVariants.{Closed, OpenAt, Compressed, Damaged}
use Rattle.inc_disk.specs.Disk.{DiskState, IsImage}
use Rattle.inc_disk.specs.Laws.{EachImage}
use Rattle.inc_entry.specs.Stored.{class_at, digest_at, digest_of, is_past, stored_digest}
use Rattle.inc_entry.specs.Keeps.{Keeps, KeepsEntry, Kind, Acknowledged, Begun, KeptDamaged, KeptCompressed, Shut}
use Rattle.inc_entry.proofs.BlockLemmas.{most_len}
use Rattle.inc_fill.specs.Facts.{IsClean, CleanAt, entry_read, IsKeptOpen, IsBehindGate, IsKeptBegun, IsKeptShut, IsKeptClass, Own, Row, Facts}
use Rattle.inc_fill.proofs.Classes.{class_longer, open_not_past, open_parts, shut_class, torn_gate}
use Rattle.inc_fill.proofs.Entries.{same_entry, same_offset, same_low, same_high, same_flags, same_digest}

-- a clean byte is in each image as it reads
pub image_byte : (disk : DiskState) (image : List ℕ) (j : ℕ) → IsImage disk image → IsClean disk j → get_or image j 0 ≡ get_or disk.reads j 0
image_byte disk image j is clean = (is.outside j (omega (arith, is.no_shorter, clean.there)) clean.still).1 ∙ clean.same

-- the last byte of a clean range is there in each image
pub image_end : (disk : DiskState) (image : List ℕ) (at n : ℕ) → IsImage disk image → CleanAt disk at n → 0 < n → at + n ≤ length image
image_end disk image at zero is clean some = absurd (omega arith)
image_end disk image at (suc n) is clean some = omega (arith, is.no_shorter, (clean n (omega arith)).there)

-- what an entry of an open class with this digest tells
pub open_stored : (places : Places) (bytes : List ℕ) (i place size : ℕ) (digest : List ℕ) → class_at places bytes i ≡ OpenAt place size → digest_at places bytes i place ≡ digest
    → stored_digest places bytes i ≡ Some digest
open_stored places bytes i place size digest class block = ap (digest_of places bytes i) class ∙ ap (λ (d : List ℕ). Some d) block

keeps_open : (disk : DiskState) (places : Places) (image : List ℕ) (i place : ℕ) (digest : List ℕ) → length disk.synced ≤ length disk.reads → IsImage disk image → IsKeptOpen disk places i place digest
    → (stored_digest places image i ≡ Some digest) × (is_past places image i ≡ false)
keeps_open disk places image i place digest longer is own =
    let e = same_entry image disk.reads (entry_at places i) (λ k lt. image_byte disk image (entry_at places i + k) is (own.entry k lt)) in
    let not_past = open_not_past places (length disk.synced) i (entry_read disk places i) place own.size own.open_at in
    let parts = open_parts places (length disk.synced) i (entry_read disk places i) place own.size own.open_at in
    let within : place + block_len places.shape i ≤ length disk.synced = omega (arith, parts.inside, parts.offset, parts.sized, parts.least) in
    let both = class_longer places (length disk.synced) (length image) i (entry_read disk places i) is.no_shorter not_past in
    let class : class_at places image i ≡ OpenAt place own.size = ap (class_of places (length image) i) e ∙ both.0 ∙ own.open_at in
    let block : digest_at places image i place ≡ digest =
    same_digest places image disk.reads i place (omega (arith, is.no_shorter)) (omega arith) (λ k lt. image_byte disk image (place + k) is (own.stored k lt)) ∙ own.block in
    (open_stored places image i place own.size digest class block, ap (past_end places (length image) i) e ∙ both.1)

keeps_class : (disk : DiskState) (places : Places) (image : List ℕ) (i : ℕ) (class : Class) → IsImage disk image → IsKeptClass disk places i class
    → (class_at places image i ≡ class) × (is_past places image i ≡ false)
keeps_class disk places image i class is own =
    let e = same_entry image disk.reads (entry_at places i) (λ k lt. image_byte disk image (entry_at places i + k) is (own.entry k lt)) in
    let both = class_longer places (length disk.synced) (length image) i (entry_read disk places i) is.no_shorter own.not_past in
    (ap (class_of places (length image) i) e ∙ both.0 ∙ own.class_is, ap (past_end places (length image) i) e ∙ both.1)

image_low : (disk : DiskState) (places : Places) (image : List ℕ) (i : ℕ) → IsImage disk image → IsBehindGate disk places i → (entry_from image (entry_at places i)).low ≡ 0
image_low disk places image i is behind = same_low image disk.reads (entry_at places i) (image_byte disk image (entry_at places i + 6) is behind.low_clean) ∙ behind.low

image_flags : (disk : DiskState) (places : Places) (image : List ℕ) (i : ℕ) → IsImage disk image → IsBehindGate disk places i → (entry_from image (entry_at places i)).flags ≡ 0
image_flags disk places image i is behind =
    same_flags image disk.reads (entry_at places i) (λ k lt. image_byte disk image (entry_at places i + 8 + k) is (behind.flags_clean k lt)) ∙ behind.flags

image_size : (low low' high high' : ℕ) → low ≡ low' → high ≡ high' → low + 256 * high ≡ low' + 256 * high'
image_size low low' high high' e f = cc

keeps_shut : (disk : DiskState) (places : Places) (image : List ℕ) (i : ℕ) → IsImage disk image → IsKeptShut disk places i
    → (class_at places image i ≡ Closed) × (is_past places image i ≡ false)
keeps_shut disk places image i is own =
    let low = same_low image disk.reads (entry_at places i) (image_byte disk image (entry_at places i + 6) is own.behind.low_clean) in
    let high = same_high image disk.reads (entry_at places i) (image_byte disk image (entry_at places i + 7) is own.gate_clean) in
    let size : entry_size (entry_from image (entry_at places i)) ≡ entry_size (entry_read disk places i) = image_size _ _ _ _ low high in
    shut_class places (length image) i (entry_from image (entry_at places i)) (image_low disk places image i is own.behind) (image_flags disk places image i is own.behind)
    (ap (has_size places i) size ∙ own.gate)

keeps_begun : (disk : DiskState) (places : Places) (image : List ℕ) (i place : ℕ) (digest : List ℕ) → length disk.synced ≤ length disk.reads → IsImage disk image → IsKeptBegun disk places i place digest
    → ((stored_digest places image i ≡ Some digest) ⊎ (class_at places image i ≡ Closed)) × (is_past places image i ≡ false)
keeps_begun disk places image i place digest longer is own =
    let offset : (entry_from image (entry_at places i)).offset ≡ place =
    same_offset image disk.reads (entry_at places i) (λ k lt. image_byte disk image (entry_at places i + k) is (own.ready.offset k lt)) ∙ own.ready.offset_is in
    let end : place + 4096 ≤ length image = image_end disk image place 4096 is own.ready.stored (omega arith) in
    let synced_end : place + 4096 ≤ length disk.reads = omega (arith, (own.ready.stored 4095 (omega arith)).there) in
    let most = most_len places.shape i in
    let fit = subst (λ (p : ℕ). fits places i p 4096 ≡ true) (sym offset) own.ready.here in
    let all = torn_gate places (length image) i (entry_from image (entry_at places i)) (image_low disk places image i is own.behind) (image_flags disk places image i is own.behind)
    (omega (arith, own.ready.some)) fit (omega arith) in
    let block : digest_at places image i place ≡ digest =
    same_digest places image disk.reads i place (omega arith) (omega arith) (λ k lt. image_byte disk image (place + k) is (own.ready.stored k (omega arith))) ∙ own.ready.block in
    let moved : digest_at places image i (entry_from image (entry_at places i)).offset ≡ digest = ap (digest_at places image i) offset ∙ block in
    (⊎_elim (λ opened. inl (open_stored places image i _ _ digest opened moved)) (λ shut. inr shut) all.0, all.1)

keeps_entry : (disk : DiskState) (places : Places) (image : List ℕ) (i place : ℕ) (kind : Kind) → length disk.synced ≤ length disk.reads → IsImage disk image → Own disk places i place kind
    → KeepsEntry places image i kind × (is_past places image i ≡ false)
keeps_entry disk places image i place (Acknowledged digest) longer is own = keeps_open disk places image i place digest longer is own
keeps_entry disk places image i place (Begun digest) longer is own = keeps_begun disk places image i place digest longer is own
keeps_entry disk places image i place KeptDamaged longer is own = keeps_class disk places image i Damaged is own
keeps_entry disk places image i place KeptCompressed longer is own = keeps_class disk places image i Compressed is own
keeps_entry disk places image i place Shut longer is own = keeps_shut disk places image i is own

-- each image of a disk with the facts is kept
pub facts_keep : (places : Places) (is_fixed : ℕ → Bool) (base : List ℕ) (kind : ℕ → Kind) (row : ℕ → Option Row) (spot : ℕ → ℕ) (disk : DiskState) → Facts places is_fixed base kind row spot disk
    → EachImage disk (Keeps places is_fixed base kind)
facts_keep places is_fixed base kind row spot disk facts image is = record {
  long = omega (arith, facts.long, is.no_shorter);
  short = omega (arith, is.no_longer, facts.short);
  fixed = λ j here. image_byte disk image j is (facts.fixed j here).0 ∙ (facts.fixed j here).1;
  each = λ i lt. (keeps_entry disk places image i (spot i) (kind i) facts.longer is (facts.own i lt)).0;
  none_past = λ i lt. (keeps_entry disk places image i (spot i) (kind i) facts.longer is (facts.own i lt)).1;
}
