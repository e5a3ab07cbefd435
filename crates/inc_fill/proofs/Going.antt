-- The steps of a fill as calls of a disk: from its facts before to those after, with each image kept.
use Rattle.std.proofs.Common.{◌≡◌, inl, inr, ℕ, ◌+◌, ◌^◌, ◌<◌, ◌≤◌, Bool, true, List, [], ◌∷◌, length, get_or, take, Option, Result, Ok, Err, refl, sym, ◌∙◌, subst, arith, length-append}
use Rattle.std.proofs.lemmas.Bool.{cases_lt}
use Rattle.inc_bytes.specs.Fields.{le_bytes}
use Rattle.inc_bytes.proofs.Numbers.{length-le_bytes}
use Rattle.inc_tree.specs.shape.Geometry.{block_len, data_blocks}
use Rattle.inc_tree.specs.read_block.Path.{block_digest}
use Rattle.inc_entry.specs.Entry.{Places, entries, entry_at, entry_from, fits}
use Rattle.inc_disk.specs.Disk.{DiskState, IsImage, IsTorn, Now, SoundNow, overwritten, touched, Writes, Syncs}
use Rattle.inc_disk.specs.Laws.{EachImage, Goes}
use Rattle.inc_disk.proofs.Moments.{started, stays, goes_on, sync_goes}
use Rattle.inc_disk.proofs.States.{torn_overwritten, written_byte, length-overwritten}
use Rattle.inc_entry.specs.Keeps.{IsLayout, Keeps, Shut}
use Rattle.inc_entry.proofs.BlockLemmas.{most_len}
use Rattle.inc_fill.specs.Facts.{Facts, HasBlock, InFlight, Row, Written, Placed, Settled, Gated}
use Rattle.inc_fill.specs.Steps.{BlockGoes, PlaceGoes, SettleGoes, GateGoes, StatusGoes, HasLen, IsFreePlace, count_bytes}
use Rattle.inc_fill.proofs.Areas.{end_fits, hash_fits, some_place, entry_inside, spans_inside, tree_inside, hash_in_tree}
use Rattle.inc_fill.proofs.Entries.{digest_is, high_is, offset_is}
use Rattle.inc_fill.proofs.Images.{facts_keep}
use Rattle.inc_fill.proofs.Settling.{settle_step}
use Rattle.inc_fill.proofs.Stepping.{block_step, gate_begins, gate_step, place_step, status_step}

-- ---- one write: done, not begun, or torn. A write keeps its place in the state where it starts

torn_self : (at n : ℕ) (bytes : List ℕ) → IsTorn at n bytes bytes
torn_self at n bytes = record { no_shorter = omega arith; no_longer = omega arith; before = λ place lt. refl; after = λ place le. refl }

-- what a crash leaves of a written range doesn't depend on what was written
same_images : (disk : DiskState) (at n : ℕ) (bytes other image : List ℕ) → IsImage (touched at n bytes disk) image → IsImage (touched at n other disk) image
same_images disk at n bytes other image is = record { no_shorter = is.no_shorter; no_longer = is.no_longer; outside = is.outside }

now_each : (states : List DiskState) (start : DiskState → Type 0) (P : List ℕ → Type 0) → ((disk : DiskState) → start disk → EachImage disk P) → Now states start → Now states (λ disk. EachImage disk P)
now_each [] start P so has = tt
now_each (disk ∷ past) start P so has = so disk has

-- `failed` is what each image is kept by
pub write_from : {T E : Type 0} (at : ℕ) (piece : List ℕ) (old new : List DiskState) (result : Result T E) (start done failed : DiskState → Type 0) (P : List ℕ → Type 0)
    → Writes at piece old new result → Now old start
    → ((disk : DiskState) → failed disk → EachImage disk P)
    → ((disk : DiskState) → start disk → failed disk)
    → ((disk : DiskState) (bytes : List ℕ) → start disk → IsTorn at (length piece) disk.reads bytes → failed (touched at (length piece) bytes disk))
    → ((disk : DiskState) → start disk → done (touched at (length piece) (overwritten at piece disk.reads) disk))
    → Goes old new result done failed P
write_from at piece [] new (Ok x) start done failed P writes has keep begin torn whole =
    record { ok = subst (λ states. Now states done) (sym writes) tt; err = tt; moments = stays [] [] new P (started [] P tt) writes }
write_from at piece [] new (Err fault) start done failed P writes has keep begin torn whole =
    record { ok = tt; err = subst (λ states. Now states failed) (sym writes) tt; moments = stays [] [] new P (started [] P tt) writes }
write_from at piece (disk ∷ past) new (Ok x) start done failed P writes has keep begin torn whole = record {
  ok = subst (λ states. Now states done) (sym writes) (whole disk has);
  err = tt;
  moments = goes_on (disk ∷ past) (disk ∷ past) new _ P (started (disk ∷ past) P (keep disk (begin disk has))) writes
      (λ image is. keep (touched at (length piece) disk.reads disk) (torn disk disk.reads has (torn_self at (length piece) disk.reads)) image (same_images disk at (length piece) _ disk.reads image is));
}
write_from at piece (disk ∷ past) new (Err fault) start done failed P (inl same) has keep begin torn whole = record {
  ok = tt;
  err = subst (λ states. Now states failed) (sym same) (begin disk has);
  moments = stays (disk ∷ past) (disk ∷ past) new P (started (disk ∷ past) P (keep disk (begin disk has))) same;
}
write_from at piece (disk ∷ past) new (Err fault) start done failed P (inr part) has keep begin torn whole = record {
  ok = tt;
  err = subst (λ states. Now states failed) (sym part.2) (torn disk part.0 has part.1);
  moments = goes_on (disk ∷ past) (disk ∷ past) new _ P (started (disk ∷ past) P (keep disk (begin disk has))) part.2
      (keep (touched at (length piece) part.0 disk) (torn disk part.0 has part.1));
}

-- the whole piece is there after a write, and all else is as after a torn one
whole_torn : (at : ℕ) (piece bytes : List ℕ) → at ≤ length bytes → IsTorn at (length piece) bytes (overwritten at piece bytes)
whole_torn at piece bytes le = torn_overwritten at (length piece) piece bytes le (omega arith)

-- ---- a block

free_end : (places : Places) (is_fixed : ℕ → Bool) (base len j place : ℕ) → IsLayout places is_fixed base → j < entries places → base ≤ len → IsFreePlace places len j place
    → (place ≤ len) × (fits places j place 4096 ≡ true)
free_end places is_fixed base len j place layout here le free =
    elim (cases_lt j (data_blocks places.shape)) [
      | inl content ↦ (omega (arith, free.of_content content), end_fits places is_fixed base j place layout content (omega (arith, free.of_content content)))
      | inr hash ↦
          let inside = tree_inside places is_fixed base _ layout (hash_in_tree places j 0 hash here (omega arith)) in
          (omega (arith, free.of_tree hash), hash_fits places j place hash (free.of_tree hash))
    ]

written_block : (places : Places) (is_fixed : ℕ → Bool) (base : ℕ) (disk : DiskState) (j place : ℕ) (block digest : List ℕ) → IsLayout places is_fixed base → j < entries places
    → base ≤ length disk.reads → IsFreePlace places (length disk.reads) j place → length block ≡ 4096 → digest ≡ block_digest (take (block_len places.shape j) block)
    → HasBlock (touched place (length block) (overwritten place block disk.reads) disk) places j place digest
written_block places is_fixed base disk j place block digest layout here le free whole is =
    let parts = free_end places is_fixed base (length disk.reads) j place layout here le free in
    let most = most_len places.shape j in
    let longer = length-overwritten place block disk.reads parts.0 in
    record {
      some = some_place places is_fixed base j place layout here parts.1;
      here = parts.1;
      there = omega arith;
      block = digest_is places (overwritten place block disk.reads) block j place (omega arith) (omega arith) (λ k lt. written_byte place block disk.reads k parts.0 (omega arith)) ∙ sym is;
    }

pub block_goes : {T E : Type 0} (place : ℕ) (block : List ℕ) (old new : List DiskState) (result : Result T E) → length block ≡ 4096 → Writes place block old new result → BlockGoes place block old new result
block_goes place block old new result whole writes places is_fixed base kind row row' spot spot' j len digest layout here has_len free end is shut none same now unmoved moved has =
    write_from place block old new result (λ disk. Facts places is_fixed base kind row spot disk × (length disk.reads ≡ len)) (Facts places is_fixed base kind row' spot') (Facts places is_fixed base kind row spot)
    (Keeps places is_fixed base kind) writes (both old has has_len) (facts_keep places is_fixed base kind row spot) (λ disk start. start.0)
    (λ disk bytes start torn. block_step places is_fixed base kind row row spot spot disk place (length block) bytes j layout here (free_now disk start.1) whole (omega arith) shut (λ i other. refl) (λ i other. refl) start.0 torn
    (subst (λ (r : Option Row). InFlight (touched place (length block) bytes disk) places j (spot j) Shut r) (sym none) tt))
    (λ disk start.
    let le : length base ≤ length disk.reads = omega (arith, start.0.long, start.0.longer) in
    let low = (free_end places is_fixed (length base) (length disk.reads) j place layout here le (free_now disk start.1)).0 in
    let block_there = written_block places is_fixed (length base) disk j place block digest layout here le (free_now disk start.1) whole is in
    block_step places is_fixed base kind row row' spot spot' disk place (length block) (overwritten place block disk.reads) j layout here (free_now disk start.1) whole (omega arith) shut same unmoved start.0
    (whole_torn place block disk.reads low)
    (subst (λ (p : ℕ). InFlight (touched place (length block) (overwritten place block disk.reads) disk) places j p Shut (row' j)) (sym moved)
    (subst (λ (r : Option Row). InFlight (touched place (length block) (overwritten place block disk.reads) disk) places j place Shut r) (sym now) (block_there, refl))))
  where
    free_now : (disk : DiskState) → length disk.reads ≡ len → IsFreePlace places (length disk.reads) j place
    free_now disk e = subst (λ (n : ℕ). IsFreePlace places n j place) (sym e) free

    both : (states : List DiskState) → Now states (Facts places is_fixed base kind row spot) → HasLen states len → Now states (λ disk. Facts places is_fixed base kind row spot disk × (length disk.reads ≡ len))
    both [] facts lens = tt
    both (disk ∷ past) facts lens = (facts, lens)

-- ---- its place

pub place_goes : {T E : Type 0} (at place : ℕ) (old new : List DiskState) (result : Result T E) → place < 2 ^ 48 → Writes at (le_bytes 6 place) old new result → PlaceGoes at place old new result
place_goes at place old new result low writes places is_fixed base kind row row' spot j digest layout here is known was same now has =
    let six : length (le_bytes 6 place) ≡ 6 = length-le_bytes 6 place in
    write_from at (le_bytes 6 place) old new result (Facts places is_fixed base kind row spot) (Facts places is_fixed base kind row' spot) (Facts places is_fixed base kind row spot)
    (Keeps places is_fixed base kind) writes has (facts_keep places is_fixed base kind row spot) (λ disk start. start)
    (λ disk bytes start torn. place_step places is_fixed base kind row row spot disk at (length (le_bytes 6 place)) bytes j digest Written layout here is six was (λ i other. refl) was start torn refl)
    (λ disk start.
    let inside = entry_inside places is_fixed (length base) j 0 layout here (omega arith) in
    let le : at ≤ length disk.reads = omega (arith, start.long, start.longer) in
    let offset : (entry_from (overwritten at (le_bytes 6 place) disk.reads) (entry_at places j)).offset ≡ place =
    subst (λ (n : ℕ). (entry_from (overwritten at (le_bytes 6 place) disk.reads) n).offset ≡ place) is
    (offset_is (overwritten at (le_bytes 6 place) disk.reads) at place low (λ k lt. written_byte at (le_bytes 6 place) disk.reads k le (omega arith))) in
    place_step places is_fixed base kind row row' spot disk at (length (le_bytes 6 place)) (overwritten at (le_bytes 6 place) disk.reads) j digest Placed layout here is six was same now start
    (whole_torn at (le_bytes 6 place) disk.reads le) (refl, offset ∙ sym known))

-- ---- a sync

pub settle_goes : {T E : Type 0} (old new : List DiskState) (result : Result T E) → SoundNow old → Syncs old new result → SettleGoes old new result
settle_goes old new result sound syncs places is_fixed base kind kind' row row' spot layout kinds rows has =
    sync_goes old new result (Facts places is_fixed base kind' row' spot) (Facts places is_fixed base kind row spot) (Keeps places is_fixed base kind) syncs sound has
    (now_each old (Facts places is_fixed base kind row spot) (Keeps places is_fixed base kind) (facts_keep places is_fixed base kind row spot) has)
    (λ disk image start. settle_step places is_fixed base kind kind' row row' spot disk layout kinds rows start)

-- ---- the gate

pub gate_goes : {T E : Type 0} (at : ℕ) (old new : List DiskState) (result : Result T E) → Writes (at + 7) (16 ∷ []) old new result → GateGoes at old new result
gate_goes at old new result writes places is_fixed base kind kind' row row' spot j digest layout here is was same now same_kind begun has =
    write_from (at + 7) (16 ∷ []) old new result (Facts places is_fixed base kind' row spot) (Facts places is_fixed base kind' row' spot) (Facts places is_fixed base kind' row spot)
    (Keeps places is_fixed base kind') writes (begins old has) (facts_keep places is_fixed base kind' row spot) (λ disk start. start)
    (λ disk bytes start torn. gate_step places is_fixed base kind' row row spot disk (at + 7) 1 bytes j digest Settled layout here (omega arith) refl was begun (λ i other. refl) was start torn
    (λ stored. (inr refl, stored)))
    (λ disk start.
    let inside = entry_inside places is_fixed (length base) j 7 layout here (omega arith) in
    let le : at + 7 ≤ length disk.reads = omega (arith, start.long, start.longer) in
    let byte = written_byte (at + 7) (16 ∷ []) disk.reads 0 le (omega arith) in
    let e : (at + 7) + 0 ≡ entry_at places j + 7 = omega arith in
    let high : (entry_from (overwritten (at + 7) (16 ∷ []) disk.reads) (entry_at places j)).high ≡ 16 =
    high_is (overwritten (at + 7) (16 ∷ []) disk.reads) (entry_at places j) 16 (subst (λ (n : ℕ). get_or (overwritten (at + 7) (16 ∷ []) disk.reads) n 0 ≡ 16) e byte) in
    gate_step places is_fixed base kind' row row' spot disk (at + 7) 1 (overwritten (at + 7) (16 ∷ []) disk.reads) j digest Gated layout here (omega arith) refl was begun same now start
    (whole_torn (at + 7) (16 ∷ []) disk.reads le) (λ stored. (refl, high)))
  where
    begins : (states : List DiskState) → Now states (Facts places is_fixed base kind row spot) → Now states (Facts places is_fixed base kind' row spot)
    begins [] facts = tt
    begins (disk ∷ past) facts = gate_begins places is_fixed base kind kind' row spot disk j digest was same_kind begun facts

-- ---- the counts of the status record

pub length-count_bytes : (data_count hash_count : ℕ) → length (count_bytes data_count hash_count) ≡ 8
length-count_bytes data_count hash_count =
    omega (arith, length-append (le_bytes 4 data_count) (le_bytes 4 hash_count), length-le_bytes 4 data_count, length-le_bytes 4 hash_count)

pub status_goes : {T E : Type 0} (at : ℕ) (piece : List ℕ) (old new : List DiskState) (result : Result T E) → length piece ≡ 8 → Writes at piece old new result → StatusGoes at old new result
status_goes at piece old new result eight writes places is_fixed base kind row spot layout inside loose has =
    write_from at piece old new result (Facts places is_fixed base kind row spot) (Facts places is_fixed base kind row spot) (Facts places is_fixed base kind row spot)
    (Keeps places is_fixed base kind) writes has (facts_keep places is_fixed base kind row spot) (λ disk start. start) step
    (λ disk start.
    let within = spans_inside places is_fixed (length base) (at + 0) layout (inside 0 (omega arith)) in
    step disk (overwritten at piece disk.reads) start (whole_torn at piece disk.reads (omega (arith, start.long, start.longer))))
  where
    step : (disk : DiskState) (bytes : List ℕ) → Facts places is_fixed base kind row spot disk → IsTorn at (length piece) disk.reads bytes → Facts places is_fixed base kind row spot (touched at (length piece) bytes disk)
    step disk bytes start torn = status_step places is_fixed base kind row spot disk at (length piece) bytes layout eight (λ k lt. inside k (omega arith)) (λ k lt. loose k (omega arith)) start torn
