-- The write of eight bytes within a settled file, and the sync after it.
use Rattle.std.proofs.Common.{◌≡◌, ◌⊎◌, inl, inr, ℕ, ◌+◌, ◌-◌, ◌<◌, ◌≤◌, false, List, [], ◌∷◌, length, get_or, Result, Ok, Err, refl, sym, ◌∙◌, ap, subst, arith}
use Rattle.std.specs.Prelude.{OnOk, OnErr}
use Rattle.std.proofs.lemmas.Bool.{cases_lt, or_from}
use Rattle.std.proofs.lemmas.Bool.Decides.{nat_tests}
use Rattle.std.proofs.lemmas.List.{ext_get_or, get_or_past}
use Rattle.inc_disk.specs.Disk.{DiskState, IsTorn, Now, SoundNow, in_range, is_dirty, overwritten, settled, touched, Writes, Syncs}
use Rattle.inc_disk.specs.Laws.{EachImage, Goes}
use Rattle.inc_disk.proofs.Moments.{joined, sync_goes, weaker, write_goes}
use Rattle.inc_disk.proofs.States.{length-overwritten, overwritten_after, overwritten_before, torn_overwritten, written_byte}
use Rattle.inc_recover.specs.Mounting.{DiffersAt, StaysUntold}

-- ---- the disk meanwhile

-- what is kept back, and what was written since the last sync, is in the eight bytes
record IsOverAt (at : ℕ) (bytes : List ℕ) (disk : DiskState) : Type 0 where
  reads : DiffersAt at bytes disk.reads
  synced : disk.synced ≡ bytes
  longest : disk.longest ≡ length bytes
  clean : (j : ℕ) → (j < at) ⊎ (at + 8 ≤ j) → is_dirty disk.dirty j ≡ false

differs_not : (at : ℕ) (bytes : List ℕ) → DiffersAt at bytes bytes
differs_not at bytes = record { len_is = refl; before = λ j lt. refl; after = λ j le. refl }

over_settled : (at : ℕ) (bytes : List ℕ) → IsOverAt at bytes (settled bytes)
over_settled at bytes = record { reads = differs_not at bytes; synced = refl; longest = refl; clean = λ j out. refl }

out_of_range : (at j : ℕ) → (j < at) ⊎ (at + 8 ≤ j) → in_range j (at, at + 8) ≡ false
out_of_range at j (inl lt) = grind (arith, nat_tests)
out_of_range at j (inr le) = grind (arith, nat_tests)

over_touched : (at : ℕ) (bytes : List ℕ) (disk : DiskState) (torn : List ℕ) → at + 8 ≤ length bytes → IsOverAt at bytes disk → IsTorn at 8 disk.reads torn → IsOverAt at bytes (touched at 8 torn disk)
over_touched at bytes disk torn fits over is = record {
  reads = record {
    len_is = omega (arith, is.no_shorter, is.no_longer, over.reads.len_is);
    before = λ j lt. is.before j lt ∙ over.reads.before j lt;
    after = λ j le. is.after j le ∙ over.reads.after j le;
  };
  synced = over.synced;
  longest = omega (arith, over.longest);
  clean = λ j out. or_from (in_range j (at, at + 8)) (is_dirty disk.dirty j) (out_of_range at j out) (over.clean j out);
}

-- ---- what a crash leaves of it

same_byte : (a b : List ℕ) (j : ℕ) → length a ≡ length b → (j < length a → get_or a j 0 ≡ get_or b j 0) → get_or a j 0 ≡ get_or b j 0
same_byte a b j len same =
    elim (cases_lt j (length a)) [
      | inl lt ↦ same lt
      | inr le ↦ get_or_past a j 0 le ∙ sym (get_or_past b j 0 (omega arith))
    ]

over_image : (at : ℕ) (bytes : List ℕ) (disk : DiskState) → IsOverAt at bytes disk → EachImage disk (DiffersAt at bytes)
over_image at bytes disk over image is =
    let synced_len : length disk.synced ≡ length bytes = ap (λ (b : List ℕ). length b) over.synced in
    let len : length image ≡ length bytes = omega (arith, is.no_shorter, is.no_longer, synced_len, over.longest) in
    let byte : (j : ℕ) → (j < at) ⊎ (at + 8 ≤ j) → get_or image j 0 ≡ get_or bytes j 0 =
    λ j out. same_byte image bytes j len (λ lt. (is.outside j lt (over.clean j out)).1 ∙ ap (λ (b : List ℕ). get_or b j 0) over.synced) in
    record { len_is = len; before = λ j lt. byte j (inl lt); after = λ j le. byte j (inr le) }

-- a write begun over it dirties no other byte, whatever the disk then reads as
over_begun : (at : ℕ) (bytes : List ℕ) (disk : DiskState) (torn : List ℕ) → at + 8 ≤ length bytes → IsOverAt at bytes disk → EachImage (touched at 8 torn disk) (DiffersAt at bytes)
over_begun at bytes disk torn fits over image is =
    let synced_len : length disk.synced ≡ length bytes = ap (λ (b : List ℕ). length b) over.synced in
    let no_longer = is.no_longer in
    let len : length image ≡ length bytes = omega (arith, is.no_shorter, no_longer, synced_len, over.longest) in
    let byte : (j : ℕ) → (j < at) ⊎ (at + 8 ≤ j) → get_or image j 0 ≡ get_or bytes j 0 =
    λ j out. same_byte image bytes j len (λ lt. (is.outside j lt (or_from (in_range j (at, at + 8)) (is_dirty disk.dirty j) (out_of_range at j out) (over.clean j out))).1 ∙ ap (λ (b : List ℕ). get_or b j 0) over.synced) in
    record { len_is = len; before = λ j lt. byte j (inl lt); after = λ j le. byte j (inr le) }

-- ---- the two calls

-- the piece is there whole
record IsWritten (at : ℕ) (piece bytes : List ℕ) (disk : DiskState) : Type 0 where
  over : IsOverAt at bytes disk
  reads_is : disk.reads ≡ overwritten at piece bytes

pub now_weaker : (states : List DiskState) (P Q : DiskState → Type 0) → ((disk : DiskState) → P disk → Q disk) → Now states P → Now states Q
now_weaker [] P Q so has = tt
now_weaker (disk ∷ past) P Q so has = so disk has

ok_weaker : {T E : Type 0} (result : Result T E) (states : List DiskState) (P Q : DiskState → Type 0) → ((disk : DiskState) → P disk → Q disk) → OnOk result (Now states P) → OnOk result (Now states Q)
ok_weaker (Ok x) states P Q so has = now_weaker states P Q so has
ok_weaker (Err x) states P Q so has = tt

err_weaker : {T E : Type 0} (result : Result T E) (states : List DiskState) (P Q : DiskState → Type 0) → ((disk : DiskState) → P disk → Q disk) → OnErr result (Now states P) → OnErr result (Now states Q)
err_weaker (Ok x) states P Q so has = tt
err_weaker (Err x) states P Q so has = now_weaker states P Q so has

-- a call that does this does what follows from it
pub goes_weaker : {T E : Type 0} (old new : List DiskState) (result : Result T E) (done done' failed failed' : DiskState → Type 0) (P P' : List ℕ → Type 0)
    → ((disk : DiskState) → done disk → done' disk) → ((disk : DiskState) → failed disk → failed' disk) → ((image : List ℕ) → P image → P' image)
    → Goes old new result done failed P → Goes old new result done' failed' P'
goes_weaker old new result done done' failed failed' P P' so_done so_failed so goes = record {
  ok = ok_weaker result new done done' so_done goes.ok;
  err = err_weaker result new failed failed' so_failed goes.err;
  moments = weaker old new P P' goes.moments so;
}

-- what is written over differing bytes is there in their place
over_same : (at : ℕ) (piece bytes other : List ℕ) → length piece ≡ 8 → at + 8 ≤ length bytes → DiffersAt at bytes other → overwritten at piece other ≡ overwritten at piece bytes
over_same at piece bytes other eight fits differs =
    let le : at ≤ length bytes = omega (arith, fits) in
    let le_other : at ≤ length other = omega (arith, fits, differs.len_is) in
    ext_get_or 0 (overwritten at piece other) (overwritten at piece bytes)
    (omega (arith, length-overwritten at piece other le_other, length-overwritten at piece bytes le, differs.len_is))
    (λ j lt. elim (cases_lt j at) [
      | inl low ↦ overwritten_before at piece other j le_other low ∙ differs.before j low ∙ sym (overwritten_before at piece bytes j le low)
      | inr ge ↦ elim (cases_lt j (at + 8)) [
        | inl within ↦
            let e : at + (j - at) ≡ j = omega arith in
            let small : j - at < length piece = omega (arith, eight) in
            let there : (b : List ℕ) → at ≤ length b → get_or (overwritten at piece b) j 0 ≡ get_or piece (j - at) 0 =
            λ b fit. ap (λ (n : ℕ). get_or (overwritten at piece b) n 0) (sym e) ∙ written_byte at piece b (j - at) fit small in
            there other le_other ∙ sym (there bytes le)
        | inr high ↦
            overwritten_after at piece other j le_other (omega (arith, eight)) ∙ differs.after j high ∙ sym (overwritten_after at piece bytes j le (omega (arith, eight)))
      ]
    ])

over_each : (at : ℕ) (bytes : List ℕ) (states : List DiskState) → Now states (IsOverAt at bytes) → Now states (λ disk. EachImage disk (DiffersAt at bytes))
over_each at bytes states has = now_weaker states (IsOverAt at bytes) (λ disk. EachImage disk (DiffersAt at bytes)) (over_image at bytes) has

begins : (at : ℕ) (bytes : List ℕ) (old : List DiskState) → Now old (λ disk. disk ≡ settled bytes) → Now old (IsOverAt at bytes)
begins at bytes old has =
    now_weaker old (λ disk. disk ≡ settled bytes) (IsOverAt at bytes) (λ disk is. subst (λ (d : DiskState). IsOverAt at bytes d) (sym is) (over_settled at bytes)) has

-- the write, from a settled file on
writes_over : {T E : Type 0} (at : ℕ) (piece bytes : List ℕ) (old new : List DiskState) (result : Result T E) → length piece ≡ 8 → at + 8 ≤ length bytes
    → Now old (λ disk. disk ≡ settled bytes) → Writes at piece old new result
    → Goes old new result (IsWritten at piece bytes) (IsOverAt at bytes) (DiffersAt at bytes)
writes_over at piece bytes old new result eight fits has writes =
    write_goes at piece old new result (IsWritten at piece bytes) (IsOverAt at bytes) (DiffersAt at bytes) writes (begins at bytes old has) (over_each at bytes old (begins at bytes old has))
    (λ disk torn over. subst (λ (n : ℕ). EachImage (touched at n torn disk) (DiffersAt at bytes)) (sym eight) (over_begun at bytes disk torn fits over))
    (λ disk torn over is. torn_over disk torn over is)
    (λ disk over. record {
      over = torn_over disk (overwritten at piece disk.reads) over (torn_overwritten at (length piece) piece disk.reads (omega (arith, over.reads.len_is, fits)) (omega arith));
      reads_is = over_same at piece bytes disk.reads eight fits over.reads;
    })
  where
    torn_over : (disk : DiskState) (torn : List ℕ) → IsOverAt at bytes disk → IsTorn at (length piece) disk.reads torn → IsOverAt at bytes (touched at (length piece) torn disk)
    torn_over disk torn over is =
        subst (λ (n : ℕ). IsOverAt at bytes (touched at n torn disk)) (sym eight) (over_touched at bytes disk torn fits over (subst (λ (n : ℕ). IsTorn at n disk.reads torn) eight is))

-- the sync after it
syncs_over : {T E : Type 0} (at : ℕ) (piece bytes : List ℕ) (old new : List DiskState) (result : Result T E) → SoundNow old → Now old (IsWritten at piece bytes) → Syncs old new result
    → Goes old new result (λ disk. disk ≡ settled (overwritten at piece bytes)) (IsWritten at piece bytes) (DiffersAt at bytes)
syncs_over at piece bytes old new result sound has syncs =
    sync_goes old new result (λ disk. disk ≡ settled (overwritten at piece bytes)) (IsWritten at piece bytes) (DiffersAt at bytes) syncs sound has
    (over_each at bytes old (now_weaker old (IsWritten at piece bytes) (IsOverAt at bytes) (λ disk written. written.over) has))
    (λ disk is written. ap settled written.reads_is)

-- ---- one after the other

abbrev pub CountsGo : {E : Type 0} → ℕ → List ℕ → List ℕ → List DiskState → List DiskState → Result (Unit {0}) E → Type 0
CountsGo at piece bytes old new result =
    Goes old new result (λ disk. disk ≡ settled (overwritten at piece bytes)) (λ disk. DiffersAt at bytes disk.reads) (DiffersAt at bytes)

pub write_fails : {E : Type 0} (at : ℕ) (piece bytes : List ℕ) (old new : List DiskState) (fault : E) → length piece ≡ 8 → at + 8 ≤ length bytes
    → Now old (λ disk. disk ≡ settled bytes) → Writes {T = Unit {0}} at piece old new (Err fault) → CountsGo at piece bytes old new (Err fault)
write_fails at piece bytes old new fault eight fits has writes =
    let goes = writes_over at piece bytes old new (Err fault) eight fits has writes in
    record { ok = tt; err = now_weaker new (IsOverAt at bytes) (λ disk. DiffersAt at bytes disk.reads) (λ disk over. over.reads) goes.err; moments = goes.moments }

pub counts_go : {E : Type 0} (at : ℕ) (piece bytes : List ℕ) (old mid new : List DiskState) (result : Result (Unit {0}) E) → length piece ≡ 8 → at + 8 ≤ length bytes → SoundNow mid
    → Now old (λ disk. disk ≡ settled bytes) → Writes {T = Unit {0}} {E = E} at piece old mid (Ok tt) → Syncs mid new result → CountsGo at piece bytes old new result
counts_go {E = E} at piece bytes old mid new result eight fits sound has writes syncs =
    let first = writes_over {T = Unit {0}} {E = E} at piece bytes old mid (Ok tt) eight fits has writes in
    let second = syncs_over at piece bytes mid new result sound first.ok syncs in
    let weak = goes_weaker mid new result (λ disk. disk ≡ settled (overwritten at piece bytes)) (λ disk. disk ≡ settled (overwritten at piece bytes)) (IsWritten at piece bytes)
    (λ disk. DiffersAt at bytes disk.reads) (DiffersAt at bytes) (DiffersAt at bytes) (λ disk is. is) (λ disk written. written.over.reads) (λ image is. is) second in
    record { ok = weak.ok; err = weak.err; moments = joined old mid new (DiffersAt at bytes) first.moments weak.moments }

-- ---- a disk that tells nothing

pub untold_write : {T E : Type 0} (at : ℕ) (piece : List ℕ) (old new : List DiskState) (result : Result T E) → Writes at piece old new result → StaysUntold old new
untold_write at piece [] new result writes none = writes
untold_write at piece (disk ∷ past) new result writes none = absurd cc

pub untold_sync : {T E : Type 0} (old new : List DiskState) (result : Result T E) → Syncs old new result → StaysUntold old new
untold_sync [] new result syncs none = syncs
untold_sync (disk ∷ past) new result syncs none = absurd cc

pub untold_kept : (old mid new : List DiskState) → new ≡ mid → StaysUntold old mid → StaysUntold old new
untold_kept old mid new same first none = same ∙ first none

pub untold_both : (old mid new : List DiskState) → StaysUntold old mid → StaysUntold mid new → StaysUntold old new
untold_both old mid new first second none = second (first none)
