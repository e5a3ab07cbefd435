-- A mount, step by step: the sync, the opening, and the counts that are mended.
use Rattle.std.proofs.Common.{◌≡◌, ◌⊎◌, inl, inr, ⊎_elim, ℕ, ◌+◌, ◌<◌, ◌≤◌, ◌^◌, Bool, true, false, cond, ◌&&◌, List, [], ◌∷◌, length, Option, Some, None, Result, Ok, Err, refl, sym, ◌∙◌, ap, subst, arith}
use Rattle.std.specs.Prelude.{◌==◌, IfOk, IfSome, OnErr, nat_le, nat_lt, option_map}
use Rattle.std.proofs.lemmas.Bool.Decides.{nat_tests}
use Rattle.inc_md.specs.Staying.{in_counts}
use Rattle.inc_md.specs.declared.records.StatusRecord.{StatusRecord}
use Rattle.inc_disk.specs.Disk.{DiskState, IsImage, MayHaveLeft, Now, SoundNow, overwritten, reads_of, settled, Syncs}
use Rattle.inc_disk.specs.Laws.{EachImage, Goes, LeavesOnly}
use Rattle.inc_disk.proofs.Moments.{joined, settled_image, started, stays, sync_goes, weaker}
use Rattle.inc_disk.proofs.States.{torn_overwritten}
use Rattle.inc_layout.specs.Backing.{IsBackingFile, fixed_in, opened_of}
use Rattle.inc_layout.specs.opening.Faults.{GivesLayoutFault, GivesOpening, IsOwnFault}
use Rattle.inc_layout.specs.state.Reopening.{IsMountedOn}
use Rattle.inc_layout.specs.declared.fault.LayoutFault.{LayoutFault}
use Rattle.inc_layout.specs.declared.fault.LayoutFault.TheVariants.{TooLong, ReadFault, OutOfMemory as NoMemory}
use Rattle.inc_layout.specs.declared.opened.Opened.{Opened}
use Rattle.inc_layout.proofs.opened_file.BackingMeaning.{backing_stands}
use Rattle.inc_fill.specs.Steps.{count_bytes}
use Rattle.inc_fill.proofs.Going.{length-count_bytes}
use Rattle.inc_recover.specs.Mounting.{DiffersAt, GivesMountFault, HasOtherCounts, HasRightCounts, IsCutAtSync, IsOnlySynced, IsOwnMountFault, IsSameButCounts, IsUnwritten, MayBeLeftBy, Mends, Mounts, StaysUntold, bytes_with_counts, counted, counted_bytes, layout_of, mount_fault, open_data, open_hash, status_with}
use Rattle.inc_recover.specs.declared.fault.MountFault.{MountFault}
use Rattle.inc_recover.specs.declared.fault.MountFault.TheVariants.{Layout, DiskFault, OutOfMemory}
use Rattle.inc_recover.proofs.CountWrites.{CountsGo, goes_weaker, now_weaker}
use Rattle.inc_recover.proofs.CountsStand.{OthersSame, counted_stands, counts_inside, still_stands}

-- ---- the counts in the bytes

same_counts : (data_count hash_count : ℕ) (bytes : List ℕ) (status : StatusRecord) → status_with data_count hash_count status ≡ status → bytes_with_counts data_count hash_count (Some status) bytes ≡ bytes
same_counts data_count hash_count bytes status same =
    let data_is : status.data_written ≡ data_count = sym (ap (λ (s : StatusRecord). s.data_written) same) in
    let hash_is : status.hash_written ≡ hash_count = sym (ap (λ (s : StatusRecord). s.hash_written) same) in
    ap (λ (b : Bool). cond b bytes (overwritten status.at (count_bytes data_count hash_count) bytes)) (both status.data_written status.hash_written data_is hash_is)
  where
    both : (data_written hash_written : ℕ) → data_written ≡ data_count → hash_written ≡ hash_count → (data_written == data_count && (hash_written == hash_count)) ≡ true
    both data_written hash_written d h = grind (arith, nat_tests)

-- bytes of right counts stay
right_bytes : (data_count hash_count : ℕ) (bytes : List ℕ) (found : Option StatusRecord) → option_map (status_with data_count hash_count) found ≡ found → bytes_with_counts data_count hash_count found bytes ≡ bytes
right_bytes data_count hash_count bytes None same = refl
right_bytes data_count hash_count bytes (Some status) same = same_counts data_count hash_count bytes status cc

-- others are written over
other_bytes : (data_count hash_count : ℕ) (bytes : List ℕ) (status : StatusRecord) → (status_with data_count hash_count status ≡ status → ⊥)
    → bytes_with_counts data_count hash_count (Some status) bytes ≡ overwritten status.at (count_bytes data_count hash_count) bytes
other_bytes data_count hash_count bytes status other =
    ap (λ (b : Bool). cond b bytes (overwritten status.at (count_bytes data_count hash_count) bytes)) (one_other (status.data_written == data_count && (status.hash_written == hash_count)) (λ same. other (again status same)))
  where
    one_other : (b : Bool) → (b ≡ true → ⊥) → b ≡ false
    one_other true never = absurd (never refl)
    one_other false never = refl

    both_same : (data_written hash_written : ℕ) → (data_written == data_count && (hash_written == hash_count)) ≡ true → (data_count ≡ data_written) × (hash_count ≡ hash_written)
    both_same data_written hash_written e = grind (arith, nat_tests)

    again : (s : StatusRecord) → (s.data_written == data_count && (s.hash_written == hash_count)) ≡ true → status_with data_count hash_count s ≡ s
    again s e =
        let parts = both_same s.data_written s.hash_written e in
        λ d. record { at = s.at; data_written = parts.0 d; hash_written = parts.1 d }

-- ---- where nothing has to be written

abbrev IsMended : List ℕ → Opened → DiskState → Type 0
IsMended bytes opened disk = IsMountedOn settled (counted opened) disk × IsSameButCounts bytes disk.reads × (disk.reads ≡ counted_bytes opened bytes)

settled_mended : (bytes : List ℕ) (opened : Opened) (disk : DiskState) → IsBackingFile bytes opened → counted opened ≡ opened → disk ≡ settled bytes → IsMended bytes opened disk
settled_mended bytes opened disk stands same is =
    let reads : disk.reads ≡ bytes = ap (λ (d : DiskState). d.reads) is in
    let right = right_bytes (open_data opened) (open_hash opened) bytes opened.records.status (ap (λ (o : Opened). o.records.status) same) in
    (record { bytes = bytes; state_is = is; stands = subst (λ (o : Opened). IsBackingFile bytes o) (sym same) stands }, inl reads, reads ∙ sym right)

settled_images : (bytes : List ℕ) (old : List DiskState) → Now old (λ disk. disk ≡ settled bytes) → Now old (λ disk. EachImage disk (IsSameButCounts bytes))
settled_images bytes old has = now_weaker old (λ disk. disk ≡ settled bytes) (λ disk. EachImage disk (IsSameButCounts bytes)) (λ disk is image left. inl (one disk image is left)) has
  where
    one : (disk : DiskState) (image : List ℕ) → disk ≡ settled bytes → IsImage disk image → image ≡ bytes
    one disk image is left = settled_image bytes image (subst (λ (d : DiskState). IsImage d image) is left)

pub none_mends : {E : Type 0} (opened : Opened) (old : List DiskState) → counted opened ≡ opened → Mends {E = E} opened old old (Ok tt)
none_mends opened old same bytes stands has =
    record {
      ok = now_weaker old (λ disk. disk ≡ settled bytes) (IsMended bytes opened) (λ disk is. settled_mended bytes opened disk stands same is) has;
      err = tt;
      moments = started old (IsSameButCounts bytes) (settled_images bytes old has);
    }

-- counts that are right aren't others
pub not_needed : (opened : Opened) (status : StatusRecord) → counted opened ≡ opened → (counted opened).records.status ≡ Some status → (opened.records.status ≡ Some status → ⊥) → ⊥
not_needed opened status right is other = other (sym (ap (λ (o : Opened). o.records.status) right) ∙ is)

-- what holds in any case holds where a call fails
pub where_failed : {T E P : Type 0} (r : Result T E) → P → OnErr r P
where_failed (Ok value) holds = tt
where_failed (Err fault) holds = holds

-- ---- where the counts are written

counted_some : (data_count hash_count : ℕ) (found : Option StatusRecord) (status : StatusRecord) → option_map (status_with data_count hash_count) found ≡ Some status
    → (was : StatusRecord) × (found ≡ Some was) × (status_with data_count hash_count was ≡ status)
counted_some data_count hash_count None status e = absurd cc
counted_some data_count hash_count (Some was) status e = (was, refl, cc)

out_of_counts : (status : StatusRecord) (j : ℕ) → in_counts (Some status) j ≡ false → (j < status.at) ⊎ (status.at + 8 ≤ j)
out_of_counts status j e = either status.at e
  where
    either : (at : ℕ) → (nat_le at j && nat_lt j (at + 8)) ≡ false → (j < at) ⊎ (at + 8 ≤ j)
    either at e = grind (arith, nat_tests)

others_same : (bytes other : List ℕ) (status : StatusRecord) (found : Option StatusRecord) → found ≡ Some status → DiffersAt status.at bytes other → OthersSame found bytes other
others_same bytes other status found is differs =
    subst (λ (f : Option StatusRecord). OthersSame f bytes other) (sym is) (λ j out. ⊎_elim (λ lt. differs.before j lt) (λ le. differs.after j le) (out_of_counts status j out))

has_other_counts : (bytes other : List ℕ) (opened : Opened) (status : StatusRecord) → IsBackingFile bytes opened → opened.records.status ≡ Some status → DiffersAt status.at bytes other → HasOtherCounts bytes other
has_other_counts bytes other opened status stands is differs =
    record { opened = opened; stands = stands; len_is = differs.len_is; same = others_same bytes other status opened.records.status is differs }

written_differs : (at : ℕ) (piece bytes : List ℕ) → length piece ≡ 8 → at + 8 ≤ length bytes → DiffersAt at bytes (overwritten at piece bytes)
written_differs at piece bytes eight fits =
    let torn = torn_overwritten at (length piece) piece bytes (omega arith) (omega arith) in
    record {
      len_is = omega (arith, torn.no_shorter, torn.no_longer, eight, fits);
      before = torn.before;
      after = λ j le. torn.after j (omega (arith, eight, le));
    }

written_mended : (bytes : List ℕ) (opened : Opened) (status : StatusRecord) (disk : DiskState) → IsBackingFile bytes opened → opened.records.status ≡ Some status
    → (status_with (open_data opened) (open_hash opened) status ≡ status → ⊥) → open_data opened < 2 ^ 32 → open_hash opened < 2 ^ 32 → status.at + 8 ≤ length bytes
    → disk ≡ settled (overwritten status.at (count_bytes (open_data opened) (open_hash opened)) bytes) → IsMended bytes opened disk
written_mended bytes opened status disk stands is other data_small hash_small fits state =
    let piece : List ℕ = count_bytes (open_data opened) (open_hash opened) in
    let differs = written_differs status.at piece bytes (length-count_bytes (open_data opened) (open_hash opened)) fits in
    let others = others_same bytes (overwritten status.at piece bytes) status opened.records.status is differs in
    let still = still_stands bytes (overwritten status.at piece bytes) (fixed_in opened) stands.laid.fixed differs.len_is others in
    let counts = counted_stands bytes opened status (overwritten status.at piece bytes) stands differs.len_is still is data_small hash_small (omega (arith, fits)) refl in
    let same : IsSameButCounts bytes (overwritten status.at piece bytes) = inr (has_other_counts bytes (overwritten status.at piece bytes) opened status stands is differs) in
    let reads : disk.reads ≡ overwritten status.at piece bytes = ap (λ (d : DiskState). d.reads) state in
    let written = ap (λ (found : Option StatusRecord). bytes_with_counts (open_data opened) (open_hash opened) found bytes) is ∙ other_bytes (open_data opened) (open_hash opened) bytes status other in
    (record { bytes = overwritten status.at piece bytes; state_is = state; stands = counts }, subst (λ (d : DiskState). IsSameButCounts bytes d.reads) (sym state) same, reads ∙ sym written)

abbrev pub Counts : {E : Type 0} → StatusRecord → List DiskState → List DiskState → Result (Unit {0}) E → Type 0
Counts status old new result =
    (bytes : List ℕ) → status.at + 8 ≤ length bytes → Now old (λ disk. disk ≡ settled bytes) → CountsGo status.at (count_bytes status.data_written status.hash_written) bytes old new result

pub some_mends : {E : Type 0} (opened : Opened) (status : StatusRecord) (old new : List DiskState) (result : Result (Unit {0}) E) → (counted opened).records.status ≡ Some status
    → (opened.records.status ≡ Some status → ⊥) → status.data_written < 2 ^ 32 → status.hash_written < 2 ^ 32 → Counts status old new result → Mends opened old new result
some_mends {E = E} opened status old new result is other data_small hash_small counts bytes stands has =
    let found = counted_some (open_data opened) (open_hash opened) opened.records.status status is in
    let was : StatusRecord = found.0 in
    let counts_was : Counts (status_with (open_data opened) (open_hash opened) was) old new result =
    subst (λ (s : StatusRecord). Counts {E = E} s old new result) (sym found.2) counts in
    let data_was : open_data opened < 2 ^ 32 = subst (λ (s : StatusRecord). s.data_written < 2 ^ 32) (sym found.2) data_small in
    let hash_was : open_hash opened < 2 ^ 32 = subst (λ (s : StatusRecord). s.hash_written < 2 ^ 32) (sym found.2) hash_small in
    let differs_was : status_with (open_data opened) (open_hash opened) was ≡ was → ⊥ = λ same. other (found.1 ∙ ap Some (sym same ∙ found.2)) in
    let fits = counts_inside bytes (fixed_in opened) was stands.laid.fixed found.1 in
    goes_weaker old new result (λ disk. disk ≡ settled (overwritten was.at (count_bytes (open_data opened) (open_hash opened)) bytes)) (IsMended bytes opened)
    (λ disk. DiffersAt was.at bytes disk.reads) (λ disk. IsSameButCounts bytes disk.reads) (DiffersAt was.at bytes) (IsSameButCounts bytes)
    (λ disk state. written_mended bytes opened was disk stands found.1 differs_was data_was hash_was fits state)
    (λ disk differs. inr (has_other_counts bytes disk.reads opened was stands found.1 differs))
    (λ image differs. inr (has_other_counts bytes image opened was stands found.1 differs))
    (counts_was bytes fits has)

-- ---- what is answered

short_layout : (b : Bool) (bytes : List ℕ) (opened : Opened) → cond b (opened_of bytes) (Err TooLong) ≡ Ok opened → opened_of bytes ≡ Ok opened
short_layout true bytes opened e = e
short_layout false bytes opened e = absurd cc

pub layout_backing : (bytes : List ℕ) (opened : Opened) → layout_of bytes ≡ Ok opened → IsBackingFile bytes opened
layout_backing bytes opened e = backing_stands bytes opened (short_layout (nat_le (length bytes) (2 ^ 46)) bytes opened e)

gives_mount : (fault : LayoutFault) (wanted : Result Opened LayoutFault) → GivesLayoutFault fault wanted → GivesMountFault (mount_fault fault) wanted
gives_mount ReadFault wanted given = tt
gives_mount NoMemory wanted given = tt
gives_mount fault wanted given = given

-- what fails outside of the file is no fault of its layout
pub own_mount : (fault : LayoutFault) → IsOwnFault fault → IsOwnMountFault (mount_fault fault)
own_mount NoMemory own = tt
own_mount fault own = own

pub opened_len : (told : Option (List ℕ)) (opened : Opened) → IfSome told (λ bytes. GivesOpening (Ok opened) (layout_of bytes)) → IfSome told (λ bytes. opened.len ≡ length bytes)
opened_len None opened given = tt
opened_len (Some bytes) opened given = (layout_backing bytes opened given).laid.len_is

-- ---- the whole

first_sync : {T E : Type 0} (disk : DiskState) (past new : List DiskState) (result : Result T E) → SoundNow (disk ∷ past) → Syncs (disk ∷ past) new result
    → Goes (disk ∷ past) new result (λ state. state ≡ settled disk.reads) (λ state. state.reads ≡ disk.reads) (MayBeLeftBy (disk ∷ past) disk.reads)
first_sync disk past new result sound syncs =
    sync_goes (disk ∷ past) new result (λ state. state ≡ settled disk.reads) (λ state. state.reads ≡ disk.reads) (MayBeLeftBy (disk ∷ past) disk.reads) syncs sound refl
    (λ image is. inl (inl (omega arith, is))) (λ state is same. ap settled same)

-- before a sync has succeeded each image is an old one
unsynced : {T E : Type 0} (disk : DiskState) (past new : List DiskState) (result : Result T E) → SoundNow (disk ∷ past) → Syncs (disk ∷ past) new result
    → LeavesOnly (disk ∷ past) new (MayHaveLeft (length (disk ∷ past)) (disk ∷ past))
unsynced disk past new result sound syncs =
    (sync_goes (disk ∷ past) new result (λ state. Unit {0}) (λ state. Unit {0}) (MayHaveLeft (length (disk ∷ past)) (disk ∷ past)) syncs sound tt
    (λ image is. inl (omega arith, is)) (λ state is same. tt)).moments

pub sync_fails : (T : Type 0) {E : Type 0} (old new : List DiskState) (fault : E) → SoundNow old → Syncs {T = T} old new (Err fault) → Now old (λ state. Mounts old new (Err DiskFault) state.reads)
sync_fails T [] new fault sound syncs = tt
sync_fails T (disk ∷ past) new fault sound syncs =
    let goes = first_sync {T = T} disk past new (Err fault) sound syncs in
    record {
      answer = tt;
      opened = tt;
      same = now_weaker new (λ state. state.reads ≡ disk.reads) (λ state. IsSameButCounts disk.reads state.reads) (λ state same. inl same) goes.err;
      moments = goes.moments;
      since = inl (refl, unsynced {T = T} disk past new (Err fault) sound syncs);
      counts = tt;
      unwritten = inl syncs;
    }

-- a disk that was settled, and nothing since
just_settled : (bytes : List ℕ) (old : List DiskState) → LeavesOnly (settled bytes ∷ old) (settled bytes ∷ old) (IsSameButCounts bytes)
just_settled bytes old = started (settled bytes ∷ old) (IsSameButCounts bytes) (λ image is. inl (settled_image bytes image is))

-- what the file tells after the sync is what it told before
told_settled : (E : Type 0) (disk : DiskState) (past mid : List DiskState) (told : Option (List ℕ)) (P : List ℕ → Type 0) → Syncs {T = Unit {0}} {E = E} (disk ∷ past) mid (Ok tt)
    → told ≡ reads_of mid → IfSome told P → P disk.reads
told_settled E disk past mid told P syncs is has = subst (λ (t : Option (List ℕ)). IfSome t P) (is ∙ ap reads_of syncs) has

fault_unwritten : (old new : List DiskState) (bytes : List ℕ) (fault : LayoutFault) → IsOnlySynced old new bytes → IsUnwritten old new bytes (Err (mount_fault fault))
fault_unwritten old new bytes NoMemory only = only
fault_unwritten old new bytes fault only = only

pub open_fails : (E : Type 0) (old mid new : List DiskState) (told : Option (List ℕ)) (fault : LayoutFault) → SoundNow old → Syncs {T = Unit {0}} {E = E} old mid (Ok tt) → new ≡ mid → told ≡ reads_of mid
    → IfSome told (λ bytes. GivesOpening (Err fault) (layout_of bytes)) → Now old (λ state. Mounts old new (Err (mount_fault fault)) state.reads)
open_fails E [] mid new told fault sound syncs same is given = tt
open_fails E (disk ∷ past) mid new told fault sound syncs same is given =
    let goes = first_sync {T = Unit {0}} {E = E} disk past mid (Ok tt) sound syncs in
    record {
      answer = gives_mount fault (layout_of disk.reads) (told_settled E disk past mid told (λ bytes. GivesOpening (Err fault) (layout_of bytes)) syncs is given);
      opened = tt;
      same = subst (λ (states : List DiskState). Now states (λ state. IsSameButCounts disk.reads state.reads)) (sym (same ∙ syncs)) (inl refl);
      moments = stays (disk ∷ past) mid new (MayBeLeftBy (disk ∷ past) disk.reads) goes.moments same;
      since = inr (subst (λ (states : List DiskState). LeavesOnly (settled disk.reads ∷ (disk ∷ past)) states (IsSameButCounts disk.reads)) (sym (same ∙ syncs)) (just_settled disk.reads (disk ∷ past)));
      counts = tt;
      unwritten = fault_unwritten (disk ∷ past) new disk.reads fault (same ∙ syncs);
    }

-- the two runs of a mount that opened the file
both_runs : {E : Type 0} (disk : DiskState) (past mid between new : List DiskState) (told : Option (List ℕ)) (opened : Opened) (result : Result (Unit {0}) E) → SoundNow (disk ∷ past)
    → Syncs {T = Unit {0}} {E = E} (disk ∷ past) mid (Ok tt) → between ≡ mid → Mends opened between new result → IsBackingFile disk.reads opened
    → Goes (disk ∷ past) new result (IsMended disk.reads opened) (λ state. IsSameButCounts disk.reads state.reads) (MayBeLeftBy (disk ∷ past) disk.reads)
both_runs {E = E} disk past mid between new told opened result sound syncs same mends stands =
    let first = first_sync {T = Unit {0}} {E = E} disk past mid (Ok tt) sound syncs in
    let mends_mid : Mends opened mid new result = subst (λ (states : List DiskState). Mends opened states new result) same mends in
    let second = mends_mid disk.reads stands first.ok in
    let moments = weaker mid new (IsSameButCounts disk.reads) (MayBeLeftBy (disk ∷ past) disk.reads) second.moments (λ image has. inr has) in
    record { ok = second.ok; err = second.err; moments = joined (disk ∷ past) mid new (MayBeLeftBy (disk ∷ past) disk.reads) first.moments moments }

-- since the first sync only the counts are others
mended_since : {E : Type 0} (disk : DiskState) (past mid between new : List DiskState) (opened : Opened) (result : Result (Unit {0}) E)
    → Syncs {T = Unit {0}} {E = E} (disk ∷ past) mid (Ok tt) → between ≡ mid → Mends opened between new result → IsBackingFile disk.reads opened
    → LeavesOnly (settled disk.reads ∷ (disk ∷ past)) new (IsSameButCounts disk.reads)
mended_since {E = E} disk past mid between new opened result syncs same mends stands =
    let after : Mends opened (settled disk.reads ∷ (disk ∷ past)) new result = subst (λ (states : List DiskState). Mends opened states new result) (same ∙ syncs) mends in
    (after disk.reads stands refl).moments

pub mend_fails : {E : Type 0} (old mid between new : List DiskState) (told : Option (List ℕ)) (opened : Opened) (fault : E) → SoundNow old → Syncs {T = Unit {0}} {E = E} old mid (Ok tt) → between ≡ mid → told ≡ reads_of mid
    → IfSome told (λ bytes. GivesOpening (Ok opened) (layout_of bytes)) → Mends opened between new (Err fault) → (counted opened ≡ opened → ⊥) → Now old (λ state. Mounts old new (Err DiskFault) state.reads)
mend_fails [] mid between new told opened fault sound syncs same is given mends others = tt
mend_fails {E = E} (disk ∷ past) mid between new told opened fault sound syncs same is given mends others =
    let layout = told_settled E disk past mid told (λ bytes. GivesOpening (Ok opened) (layout_of bytes)) syncs is given in
    let goes = both_runs disk past mid between new told opened (Err fault) sound syncs same mends (layout_backing disk.reads opened layout) in
    record {
      answer = tt;
      opened = tt;
      same = goes.err;
      moments = goes.moments;
      since = inr (mended_since disk past mid between new opened (Err fault) syncs same mends (layout_backing disk.reads opened layout));
      counts = tt;
      unwritten = inr (record { found = opened; found_is = layout; others = others });
    }

same_right : {r : Result Opened LayoutFault} (found other : Opened) → r ≡ Ok found → r ≡ Ok other → counted other ≡ other → counted found ≡ found
same_right found other is also right = let same : other ≡ found = cc in subst (λ (o : Opened). counted o ≡ o) same right

pub mounted : {E : Type 0} (old mid between new : List DiskState) (told : Option (List ℕ)) (opened found : Opened) → SoundNow old → Syncs {T = Unit {0}} {E = E} old mid (Ok tt) → between ≡ mid → told ≡ reads_of mid
    → IfSome told (λ bytes. GivesOpening (Ok found) (layout_of bytes)) → opened ≡ counted found → Mends {E = E} found between new (Ok tt) → (counted found ≡ found → new ≡ between)
    → Now old (λ state. Mounts old new (Ok opened) state.reads)
mounted [] mid between new told opened found sound syncs same is given counts mends right = tt
mounted {E = E} (disk ∷ past) mid between new told opened found sound syncs same is given counts mends right =
    let layout = told_settled E disk past mid told (λ bytes. GivesOpening (Ok found) (layout_of bytes)) syncs is given in
    let goes = both_runs disk past mid between new told found (Ok tt) sound syncs same mends (layout_backing disk.reads found layout) in
    record {
      answer = record { found = found; wanted_is = layout; counted_is = counts };
      opened = subst (λ (o : Opened). Now new (IsMountedOn settled o)) (sym counts) (now_weaker new (IsMended disk.reads found) (IsMountedOn settled (counted found)) (λ state has. has.0) goes.ok);
      same = now_weaker new (IsMended disk.reads found) (λ state. IsSameButCounts disk.reads state.reads) (λ state has. has.1) goes.ok;
      counts = now_weaker new (IsMended disk.reads found) (HasRightCounts disk.reads) (λ state has. record { found = found; found_is = layout; reads_is = has.2 }) goes.ok;
      moments = goes.moments;
      since = inr (mended_since disk past mid between new found (Ok tt) syncs same mends (layout_backing disk.reads found layout));
      unwritten = λ other told_other right_other. right (same_right found other layout told_other right_other) ∙ same ∙ syncs;
    }

pub opened_now : (old new : List DiskState) (opened : Opened) → StaysUntold old new → Now old (λ state. Mounts old new (Ok opened) state.reads) → Now new (IsMountedOn settled opened)
opened_now [] new opened untold mounts = subst (λ (states : List DiskState). Now states (IsMountedOn settled opened)) (sym (untold refl)) tt
opened_now (disk ∷ past) new opened untold mounts = mounts.opened

-- where a disk tells what it holds, what a mount says of its counts holds of the disk that is mounted
pub counts_now : (old new : List DiskState) (result : Result Opened MountFault) → Now old (λ state. Mounts old new result state.reads) → Now old (λ state. IfOk result (λ opened. Now new (HasRightCounts state.reads)))
counts_now [] new result mounts = tt
counts_now (disk ∷ past) new result mounts = mounts.counts

pub cut_now : (old new : List DiskState) (result : Result Opened MountFault) → Now old (λ state. Mounts old new result state.reads) → Now old (λ state. IsCutAtSync old new state.reads result)
cut_now [] new result mounts = tt
cut_now (disk ∷ past) new result mounts = mounts.since
