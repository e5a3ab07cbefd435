-- A mount keeps the state of a file, and what it finds is a reopening of it.
use Rattle.std.proofs.Common.{◌≡◌, ◌⊎◌, inl, inr, ⊎_elim, ℕ, ◌+◌, ◌<◌, ◌≤◌, ◌^◌, Bool, true, false, cond, List, [], ◌∷◌, length, Option, Some, None, Result, Ok, Err, refl, sym, ◌∙◌, ap, subst, arith}
use Rattle.std.specs.Prelude.{IfOk, IfErr, is_some, slice_index_or}
use Rattle.std.proofs.lemmas.Bool.{cases_lt, le-leb}
use Rattle.std.proofs.lemmas.List.{get_or_default, get_or_past}
use Rattle.inc_entry.specs.Entry.{Places, entries, area_places}
use Rattle.inc_entry.specs.declared.classes.Class.{Class}
use Rattle.inc_entry.specs.declared.classes.Class.TheVariants.{Closed, Compressed, Damaged, OpenAt}
use Rattle.inc_disk.specs.Disk.{DiskState, IsImage, Now, SoundNow, settled}
use Rattle.inc_disk.specs.Laws.{EachImage, LeavesOnly}
use Rattle.inc_disk.proofs.Moments.{settled_image, started, weaker}
use Rattle.inc_entry.specs.Keeps.{KeepsEntry, Kind, Acknowledged, Begun, KeptDamaged, KeptCompressed, Shut}
use Rattle.inc_entry.specs.Stored.{class_at, digest_of, is_compressed_class, is_damaged_class, is_open_class, stored_digest}
use Rattle.inc_layout.specs.Backing.{IsBackingFile, fixed_in, opened_of}
use Rattle.inc_layout.specs.state.Preserves.{MayReopen, Preserves}
use Rattle.inc_layout.specs.state.Reopening.{AreApartIn, AreOpened, IsMountedOn}
use Rattle.inc_layout.specs.state.State.{IsStateOf, StateParts, has_index, kind_in, kind_of, kind_with, row_digest, unfilled_kind}
use Rattle.inc_layout.specs.declared.fault.LayoutFault.{LayoutFault}
use Rattle.inc_layout.specs.declared.fault.LayoutFault.TheVariants.{TooLong, ReadFault, OutOfMemory as NoMemory}
use Rattle.inc_layout.specs.declared.opened.Opened.{Opened}
use Rattle.inc_layout.proofs.opened_file.BackingMeaning.{stands_backing}
use Rattle.inc_recover.specs.Mounting.{GivesMountFault, HasOtherCounts, IsSameButCounts, MayBeLeftBy, Mounts, StaysUntold, counted, layout_of}
use Rattle.inc_recover.specs.Reopening.{IsOutsideFault, Reopens}
use Rattle.inc_recover.specs.declared.fault.MountFault.{MountFault}
use Rattle.inc_recover.specs.declared.fault.MountFault.TheVariants.{Layout, DiskFault, OutOfMemory}
use Rattle.inc_recover.proofs.CountsStand.{OthersSame, opened_again, reopened, still_stands}
use Rattle.inc_recover.proofs.MountLemmas.{layout_backing}

-- ---- a file tells one thing

one_ok : (x y : Opened) (r : Result Opened LayoutFault) → r ≡ Ok x → r ≡ Ok y → x ≡ y
one_ok x y r e f = cc

pub one_opened : (bytes : List ℕ) (opened other : Opened) → IsBackingFile bytes opened → IsBackingFile bytes other → opened ≡ other
one_opened bytes opened other stands also = one_ok opened other (opened_of bytes) (stands_backing bytes opened stands) (stands_backing bytes other also)

-- the indices of the state are those of the file
pub all_entries : (opened : Opened) (parts : StateParts) → IsStateOf opened parts → entries (area_places opened.areas) ≡ parts.data_count + parts.hash_count
all_entries opened parts state = omega (arith, state.data_is, state.hash_is)

-- ---- other counts keep the state

same_keeps : (places : Places) (bytes other : List ℕ) (i : ℕ) (kind : Kind) → class_at places other i ≡ class_at places bytes i → stored_digest places other i ≡ stored_digest places bytes i
    → KeepsEntry places bytes i kind → KeepsEntry places other i kind
same_keeps places bytes other i (Acknowledged digest) class stored keeps = stored ∙ keeps
same_keeps places bytes other i (Begun digest) class stored (inl keeps) = inl (stored ∙ keeps)
same_keeps places bytes other i (Begun digest) class stored (inr keeps) = inr (class ∙ keeps)
same_keeps places bytes other i KeptDamaged class stored keeps = class ∙ keeps
same_keeps places bytes other i KeptCompressed class stored keeps = class ∙ keeps
same_keeps places bytes other i Shut class stored keeps = class ∙ keeps

others_preserve : (bytes other : List ℕ) (parts : StateParts) → Preserves bytes parts → HasOtherCounts bytes other → Preserves other parts
others_preserve bytes other parts keeps has =
    let opened : Opened = keeps.opened in
    let same : OthersSame opened.records.status bytes other =
    subst (λ (o : Opened). OthersSame o.records.status bytes other) (one_opened bytes has.opened opened has.stands keeps.stands) has.same in
    let still = still_stands bytes other (fixed_in opened) keeps.stands.laid.fixed has.len_is same in
    let count = all_entries opened parts keeps.state in
    record {
      opened = reopened opened still.found.records;
      stands = opened_again bytes other opened keeps.stands has.len_is still;
      state = record { id_is = keeps.state.id_is; root_is = keeps.state.root_is; data_is = keeps.state.data_is; hash_is = keeps.state.hash_is };
      each = λ i lt. let here : i < entries (area_places opened.areas) = omega (arith, count, lt) in
          same_keeps (area_places opened.areas) bytes other i (kind_in parts i) (still.class_is i here) (still.digest_is i here) (keeps.each i lt);
    }

pub same_preserves : (bytes other : List ℕ) (parts : StateParts) → Preserves bytes parts → IsSameButCounts bytes other → Preserves other parts
same_preserves bytes other parts keeps (inl same) = subst (λ (b : List ℕ). Preserves b parts) (sym same) keeps
same_preserves bytes other parts keeps (inr has) = others_preserve bytes other parts keeps has

moments_keep : (disk : DiskState) (past new : List DiskState) (parts : StateParts) → EachImage disk (λ image. Preserves image parts) → Preserves disk.reads parts
    → LeavesOnly (disk ∷ past) new (MayBeLeftBy (disk ∷ past) disk.reads) → LeavesOnly (disk ∷ past) new (λ image. Preserves image parts)
moments_keep disk past new parts each reads moments =
    weaker (disk ∷ past) new (MayBeLeftBy (disk ∷ past) disk.reads) (λ image. Preserves image parts) moments
    (λ image left. ⊎_elim (λ before. (started (disk ∷ past) (λ image. Preserves image parts) each).each image before) (λ same. same_preserves disk.reads image parts reads same) left)

-- ---- what the mounted file keeps

own_kind : (places : Places) (bytes : List ℕ) (i : ℕ) (class : Class) → class_at places bytes i ≡ class
    → KeepsEntry places bytes i (kind_with (digest_of places bytes i class) None (unfilled_kind (is_damaged_class class) (is_compressed_class class)))
own_kind places bytes i (OpenAt place size) is = ap (digest_of places bytes i) is
own_kind places bytes i Compressed is = is
own_kind places bytes i Damaged is = is
own_kind places bytes i Closed is = is

kind_is : (parts : StateParts) (i : ℕ) → kind_in parts i ≡ kind_with (row_digest parts.acknowledged i) (row_digest parts.begun i) (unfilled_kind (has_index parts.damaged i) (has_index parts.compressed i))
unfolding kind_of
kind_is parts i = refl

-- the class and the digest of an index, as the file tells them
class_told : (bytes : List ℕ) (opened : Opened) (i : ℕ) → IsBackingFile bytes opened → i < entries (area_places opened.areas) → slice_index_or opened.classes i Closed ≡ class_at (area_places opened.areas) bytes i
class_told bytes opened i stands lt = get_or_default opened.classes i Closed Damaged (omega (arith, stands.laid.class_count, lt)) ∙ stands.laid.each_class i lt

pub own_preserves : (bytes : List ℕ) (opened : Opened) (after : StateParts) → IsBackingFile bytes opened → AreOpened opened after → Preserves bytes after
own_preserves bytes opened after stands own =
    let places : Places = area_places opened.areas in
    let count = all_entries opened after own.state in
    record {
      opened = opened;
      stands = stands;
      state = own.state;
      each = λ i lt. let here : i < entries places = omega (arith, count, lt) in
          let class = class_told bytes opened i stands here in
          let ack = own.acknowledged_is i ∙ stands.each_digest i here in
          let begun : row_digest after.begun i ≡ None = ap (λ (rows : List (ℕ × List ℕ)). row_digest rows i) own.none_begun in
          let damaged = own.damaged_is i ∙ ap is_damaged_class class in
          let compressed = own.compressed_is i ∙ ap is_compressed_class class in
          let kind = kind_is after i ∙ (λ d. kind_with (ack d) (begun d) (unfilled_kind (damaged d) (compressed d))) in
          subst (λ (k : Kind). KeepsEntry places bytes i k) (sym kind) (own_kind places bytes i (class_at places bytes i) refl);
    }

mounted_keeps : (opened : Opened) (after : StateParts) (states : List DiskState) → AreOpened opened after → Now states (IsMountedOn settled opened) → Now states (λ disk. EachImage disk (λ image. Preserves image after))
mounted_keeps opened after [] own has = tt
mounted_keeps opened after (disk ∷ past) own has = λ image is.
    let one : image ≡ has.bytes = settled_image has.bytes image (subst (λ (d : DiskState). IsImage d image) has.state_is is) in
    subst (λ (b : List ℕ). Preserves b after) (sym one) (own_preserves has.bytes opened after has.stands own)

-- ---- the reopening

-- an entry against the groups that its index was in
record EntryReopens (ack begun : Option (List ℕ)) (damaged compressed : Bool) (class : Class) (stored : Option (List ℕ)) : Type 0 where
  damaged_is : is_damaged_class class ≡ damaged
  compressed_is : is_compressed_class class ≡ compressed
  at_least : (digest : List ℕ) → ack ≡ Some digest → stored ≡ Some digest
  at_most : (digest : List ℕ) → stored ≡ Some digest → (ack ≡ Some digest) ⊎ (begun ≡ Some digest)

abbrev Fits : Kind → Class → Option (List ℕ) → Type 0
Fits (Acknowledged digest) class stored = stored ≡ Some digest
Fits (Begun digest) class stored = (stored ≡ Some digest) ⊎ (class ≡ Closed)
Fits KeptDamaged class stored = class ≡ Damaged
Fits KeptCompressed class stored = class ≡ Compressed
Fits Shut class stored = class ≡ Closed

fits_kind : (places : Places) (bytes : List ℕ) (i : ℕ) (kind : Kind) → KeepsEntry places bytes i kind → Fits kind (class_at places bytes i) (stored_digest places bytes i)
fits_kind places bytes i (Acknowledged digest) keeps = keeps
fits_kind places bytes i (Begun digest) keeps = keeps
fits_kind places bytes i KeptDamaged keeps = keeps
fits_kind places bytes i KeptCompressed keeps = keeps
fits_kind places bytes i Shut keeps = keeps

stored_open : (places : Places) (bytes : List ℕ) (i : ℕ) (class : Class) → is_some (digest_of places bytes i class) ≡ is_open_class class
stored_open places bytes i (OpenAt place size) = refl
stored_open places bytes i Compressed = refl
stored_open places bytes i Damaged = refl
stored_open places bytes i Closed = refl

open_neither : (class : Class) (stored : Option (List ℕ)) (digest : List ℕ) → is_some stored ≡ is_open_class class → stored ≡ Some digest → (is_damaged_class class ≡ false) × (is_compressed_class class ≡ false)
open_neither (OpenAt place size) stored digest both is = (refl, refl)
open_neither Compressed stored digest both is = absurd cc
open_neither Damaged stored digest both is = absurd cc
open_neither Closed stored digest both is = absurd cc

closed_none : (class : Class) (stored : Option (List ℕ)) (digest : List ℕ) → is_some stored ≡ is_open_class class → is_open_class class ≡ false → stored ≡ Some digest → ⊥
closed_none class stored digest both shut is = cc

-- a flag under which there is no row is not set where there is one
not_set : (flag : Bool) (ack begun : Option (List ℕ)) (digest : List ℕ) → (ack ≡ Some digest) ⊎ (begun ≡ Some digest) → (flag ≡ true → (ack ≡ None) × (begun ≡ None)) → flag ≡ false
not_set false ack begun digest row alone = refl
not_set true ack begun digest (inl is) alone = let none = (alone refl).0 in absurd cc
not_set true ack begun digest (inr is) alone = let none = (alone refl).1 in absurd cc

abbrev none_row : Option (List ℕ)
none_row = None

entry_reopens : (ack begun : Option (List ℕ)) (damaged compressed : Bool) (class : Class) (stored : Option (List ℕ)) → is_some stored ≡ is_open_class class
    → (damaged ≡ true → (ack ≡ None) × (begun ≡ None)) → (compressed ≡ true → (ack ≡ None) × (begun ≡ None) × (damaged ≡ false))
    → Fits (kind_with ack begun (unfilled_kind damaged compressed)) class stored → EntryReopens ack begun damaged compressed class stored
entry_reopens (Some digest) begun damaged compressed class stored both alone apart fits =
    let neither = open_neither class stored digest both fits in
    record {
      damaged_is = neither.0 ∙ sym (not_set damaged (Some digest) begun digest (inl refl) alone);
      compressed_is = neither.1 ∙ sym (not_set compressed (Some digest) begun digest (inl refl) (λ set. let all = apart set in (all.0, all.1)));
      at_least = λ other is. fits ∙ is;
      at_most = λ other is. inl (sym fits ∙ is);
    }
entry_reopens None (Some digest) damaged compressed class stored both alone apart (inl fits) =
    let neither = open_neither class stored digest both fits in
    record {
      damaged_is = neither.0 ∙ sym (not_set damaged None (Some digest) digest (inr refl) alone);
      compressed_is = neither.1 ∙ sym (not_set compressed None (Some digest) digest (inr refl) (λ set. let all = apart set in (all.0, all.1)));
      at_least = λ other is. absurd cc;
      at_most = λ other is. inr (sym fits ∙ is);
    }
entry_reopens None (Some digest) damaged compressed class stored both alone apart (inr closed) = record {
  damaged_is = ap is_damaged_class closed ∙ sym (not_set damaged None (Some digest) digest (inr refl) alone);
  compressed_is = ap is_compressed_class closed ∙ sym (not_set compressed None (Some digest) digest (inr refl) (λ set. let all = apart set in (all.0, all.1)));
  at_least = λ other is. absurd cc;
  at_most = λ other is. absurd (closed_none class stored other both (ap is_open_class closed) is);
}
entry_reopens None None true compressed class stored both alone apart fits = record {
  damaged_is = ap is_damaged_class fits;
  compressed_is = ap is_compressed_class fits ∙ sym (unless compressed apart);
  at_least = λ other is. absurd cc;
  at_most = λ other is. absurd (closed_none class stored other both (ap is_open_class fits) is);
}
  where
    unless : (flag : Bool) → (flag ≡ true → (none_row ≡ None) × (none_row ≡ None) × (true ≡ false)) → flag ≡ false
    unless false so = refl
    unless true so = let no = (so refl).2 in absurd cc
entry_reopens None None false true class stored both alone apart fits = record {
  damaged_is = ap is_damaged_class fits;
  compressed_is = ap is_compressed_class fits;
  at_least = λ other is. absurd cc;
  at_most = λ other is. absurd (closed_none class stored other both (ap is_open_class fits) is);
}
entry_reopens None None false false class stored both alone apart fits = record {
  damaged_is = ap is_damaged_class fits;
  compressed_is = ap is_compressed_class fits;
  at_least = λ other is. absurd cc;
  at_most = λ other is. absurd (closed_none class stored other both (ap is_open_class fits) is);
}

-- each entry of a file that keeps the state
each_reopens : (bytes : List ℕ) (parts : StateParts) (keeps : Preserves bytes parts) (i : ℕ) → AreApartIn parts → i < parts.data_count + parts.hash_count
    → EntryReopens (row_digest parts.acknowledged i) (row_digest parts.begun i) (has_index parts.damaged i) (has_index parts.compressed i)
    (class_at (area_places keeps.opened.areas) bytes i) (stored_digest (area_places keeps.opened.areas) bytes i)
each_reopens bytes parts keeps i apart lt =
    let places : Places = area_places keeps.opened.areas in
    let kept = subst (λ (k : Kind). KeepsEntry places bytes i k) (kind_is parts i) (keeps.each i lt) in
    entry_reopens (row_digest parts.acknowledged i) (row_digest parts.begun i) (has_index parts.damaged i) (has_index parts.compressed i) (class_at places bytes i) (stored_digest places bytes i)
    (stored_open places bytes i (class_at places bytes i)) (apart.damaged_alone i) (apart.compressed_alone i)
    (fits_kind places bytes i (kind_with (row_digest parts.acknowledged i) (row_digest parts.begun i) (unfilled_kind (has_index parts.damaged i) (has_index parts.compressed i))) kept)

-- no index past the file's is in a group
none_set : (flag : Bool) (i count : ℕ) → count ≤ i → (flag ≡ true → i < count) → flag ≡ false
none_set false i count le so = refl
none_set true i count le so = absurd (omega (arith, le, so refl))

past_class : (classes : List Class) (i : ℕ) → length classes ≤ i → slice_index_or classes i Closed ≡ Closed
past_class classes i le = get_or_past classes i Closed le

past_digest : (digests : List (Option (List ℕ))) (i : ℕ) (digest : List ℕ) → length digests ≤ i → slice_index_or digests i None ≡ Some digest → ⊥
past_digest digests i digest le is = let none = get_or_past digests i None le in cc

may_reopen : (bytes : List ℕ) (opened : Opened) (parts after : StateParts) → AreApartIn parts → (keeps : Preserves bytes parts) → keeps.opened ≡ opened → AreOpened opened after → MayReopen parts after
may_reopen bytes opened parts after apart keeps is own_given =
    let own = subst (λ (o : Opened). AreOpened o after) (sym is) own_given in
    let told : Opened = keeps.opened in
    let total : ℕ = parts.data_count + parts.hash_count in
    let count = all_entries told parts keeps.state in
    record {
      id_is = sym own.state.id_is ∙ keeps.state.id_is;
      root_is = sym own.state.root_is ∙ keeps.state.root_is;
      data_is = sym own.state.data_is ∙ keeps.state.data_is;
      hash_is = sym own.state.hash_is ∙ keeps.state.hash_is;
      damaged_is = λ i. own.damaged_is i ∙ elim (cases_lt i total) [
        | inl lt ↦ ap is_damaged_class (class_told bytes told i keeps.stands (omega (arith, count, lt))) ∙ (each_reopens bytes parts keeps i apart lt).damaged_is
        | inr le ↦ ap is_damaged_class (past_class told.classes i (omega (arith, keeps.stands.laid.class_count, count, le))) ∙ sym (none_set (has_index parts.damaged i) i total le (apart.damaged_in i))
      ];
      compressed_is = λ i. own.compressed_is i ∙ elim (cases_lt i total) [
        | inl lt ↦ ap is_compressed_class (class_told bytes told i keeps.stands (omega (arith, count, lt))) ∙ (each_reopens bytes parts keeps i apart lt).compressed_is
        | inr le ↦ ap is_compressed_class (past_class told.classes i (omega (arith, keeps.stands.laid.class_count, count, le))) ∙ sym (none_set (has_index parts.compressed i) i total le (apart.compressed_in i))
      ];
      none_begun = own.none_begun;
      at_least = λ i digest row. let lt = apart.acknowledged_in i digest row in
          own.acknowledged_is i ∙ keeps.stands.each_digest i (omega (arith, count, lt)) ∙ (each_reopens bytes parts keeps i apart lt).at_least digest row;
      at_most = λ i digest row. elim (cases_lt i total) [
        | inl lt ↦ (each_reopens bytes parts keeps i apart lt).at_most digest (sym (own.acknowledged_is i ∙ keeps.stands.each_digest i (omega (arith, count, lt))) ∙ row)
        | inr le ↦ absurd (past_digest told.digests i digest (omega (arith, keeps.stands.digest_count, count, le)) (sym (own.acknowledged_is i) ∙ row))
      ];
    }

-- ---- what is answered

outside_fault : (fault : MountFault) (opened : Opened) → GivesMountFault fault (Ok opened) → IsOutsideFault fault
outside_fault (Layout ReadFault) opened gives = tt
outside_fault (Layout NoMemory) opened gives = absurd gives
outside_fault (Layout fault) opened gives = absurd cc
outside_fault DiskFault opened gives = tt
outside_fault OutOfMemory opened gives = tt

layout_short : (bytes : List ℕ) (opened : Opened) → IsBackingFile bytes opened → length bytes ≤ 2 ^ 46 → layout_of bytes ≡ Ok opened
layout_short bytes opened stands short =
    ap (λ (b : Bool). cond b (opened_of bytes) (Err TooLong)) (le-leb (length bytes) (2 ^ 46) short) ∙ stands_backing bytes opened stands

accepts : (old new : List DiskState) (result : Result Opened MountFault) (bytes : List ℕ) (parts : StateParts) → Preserves bytes parts → Mounts old new result bytes → length bytes ≤ 2 ^ 46 → IfErr result IsOutsideFault
accepts old new (Ok opened) bytes parts keeps mounts short = tt
accepts old new (Err fault) bytes parts keeps mounts short =
    outside_fault fault keeps.opened (subst (λ (r : Result Opened LayoutFault). GivesMountFault fault r) (layout_short bytes keeps.opened keeps.stands short) mounts.answer)

-- the counts are no part of a state
pub counted_own : (opened : Opened) (after : StateParts) → AreOpened (counted opened) after → AreOpened opened after
counted_own opened after own = record {
  state = record { id_is = own.state.id_is; root_is = own.state.root_is; data_is = own.state.data_is; hash_is = own.state.hash_is };
  damaged_is = own.damaged_is;
  compressed_is = own.compressed_is;
  acknowledged_is = own.acknowledged_is;
  none_begun = own.none_begun;
}

reopens : (old new : List DiskState) (result : Result Opened MountFault) (bytes : List ℕ) (parts : StateParts) → AreApartIn parts → Preserves bytes parts → Mounts old new result bytes
    → IfOk result (λ opened. (after : StateParts) → AreOpened opened after → MayReopen parts after)
reopens old new (Ok opened) bytes parts apart keeps mounts = λ after own.
    let found : Opened = mounts.answer.found in
    let is = one_opened bytes keeps.opened found keeps.stands (layout_backing bytes found mounts.answer.wanted_is) in
    may_reopen bytes found parts after apart keeps is (counted_own found after (subst (λ (o : Opened). AreOpened o after) mounts.answer.counted_is own))
reopens old new (Err fault) bytes parts apart keeps mounts = tt

keeps_own : (old new : List DiskState) (result : Result Opened MountFault) → IfOk result (λ opened. Now new (IsMountedOn settled opened))
    → IfOk result (λ opened. (after : StateParts) → AreOpened opened after → Now new (λ disk. EachImage disk (λ image. Preserves image after)))
keeps_own old new (Ok opened) has = λ after own. mounted_keeps opened after new own has
keeps_own old new (Err fault) has = tt

untold_own : (new : List DiskState) (result : Result Opened MountFault) → new ≡ [] → IfOk result (λ opened. Now new (IsMountedOn settled opened))
untold_own new (Ok opened) is = subst (λ (states : List DiskState). Now states (IsMountedOn settled opened)) (sym is) tt
untold_own new (Err fault) is = tt

pub keeps_state : (old new : List DiskState) (result : Result Opened MountFault) → SoundNow old → StaysUntold old new → Now old (λ state. Mounts old new result state.reads) → Reopens old new result
keeps_state [] new result sound untold mounts parts apart each = record {
  moments = subst (λ (states : List DiskState). LeavesOnly [] states (λ image. Preserves image parts)) (sym (untold refl)) (started [] (λ image. Preserves image parts) tt);
  reopened = tt;
  kept = keeps_own [] new result (untold_own new result (untold refl));
  accepted = tt;
}
keeps_state (disk ∷ past) new result sound untold mounts parts apart each =
    let reads : Preserves disk.reads parts = each disk.reads (sound disk past refl) in
    record {
      moments = moments_keep disk past new parts each reads mounts.moments;
      reopened = reopens (disk ∷ past) new result disk.reads parts apart reads mounts;
      kept = keeps_own (disk ∷ past) new result mounts.opened;
      accepted = accepts (disk ∷ past) new result disk.reads parts reads mounts;
    }
