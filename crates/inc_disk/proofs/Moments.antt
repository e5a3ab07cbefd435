-- How a run of calls on a disk goes on: what a crash at any of its moments leaves.
use Rattle.std.proofs.Common.{◌≡◌, ◌⊎◌, inl, inr, ⊎_elim, ℕ, suc, ◌<◌, ◌≤◌, List, [], ◌∷◌, ◌++◌, length, Result, Ok, Err, refl, sym, ◌∙◌, ap, subst, arith, append_assoc, length-append}
use Rattle.std.proofs.lemmas.List.{ext_get_or}
use Rattle.inc_disk.specs.Disk.{DiskState, IsImage, IsSound, SoundNow, IsTorn, Now, MayHaveLeft, overwritten, touched, settled, Writes, Syncs}
use Rattle.inc_disk.specs.Laws.{EachImage, HoldsSince, GoesOn, LeavesOnly, Goes}

none_later : (moment : ℕ) (states : List DiskState) (image : List ℕ) → length states < moment → MayHaveLeft moment states image → ⊥
none_later moment [] image lt left = left
none_later moment (disk ∷ past) image lt (inl here) = absurd (omega (arith, here.0))
none_later moment (disk ∷ past) image lt (inr there) = none_later moment past image (omega arith) there

-- what might have been left since a later moment might have been left since an earlier one
pub since_earlier : (moment later : ℕ) (states : List DiskState) (image : List ℕ) → moment ≤ later → MayHaveLeft later states image → MayHaveLeft moment states image
since_earlier moment later [] image le left = left
since_earlier moment later (disk ∷ past) image le (inl here) = inl (omega (arith, here.0), here.1)
since_earlier moment later (disk ∷ past) image le (inr there) = inr (since_earlier moment later past image le there)

pub split_at_moment : (moment : ℕ) (more old : List DiskState) (image : List ℕ) → MayHaveLeft moment (more ++ old) image
    → MayHaveLeft moment old image ⊎ MayHaveLeft (suc (length old)) (more ++ old) image
split_at_moment moment [] old image left = inl left
split_at_moment moment (disk ∷ more) old image (inl here) = inr (inl (omega (arith, length-append more old), here.1))
split_at_moment moment (disk ∷ more) old image (inr there) = ⊎_elim (λ before. inl before) (λ since. inr (inr since)) (split_at_moment moment more old image there)

-- One call.

goes_on_same : (states : List DiskState) → GoesOn states states
goes_on_same states = record { later = omega arith; keeps = λ moment image left. left; nothing_else = λ moment image left. inl left }

goes_on_one : (disk : DiskState) (past : List DiskState) → GoesOn past (disk ∷ past)
goes_on_one disk past = record {
  later = omega arith;
  keeps = λ moment image left. inr left;
  nothing_else = λ moment image left. ⊎_elim (λ here. inr here.1) (λ there. inl there) left;
}

-- a call that leaves the states, as each call that leaves the kept part does
pub goes_on_kept : (old new : List DiskState) → new ≡ old → GoesOn old new
goes_on_kept old new same = subst (GoesOn old) (sym same) (goes_on_same old)

goes_on_more : (disk : DiskState) (past new : List DiskState) → new ≡ disk ∷ past → GoesOn past new
goes_on_more disk past new is = subst (GoesOn past) (sym is) (goes_on_one disk past)

pub goes_on_write : {T E : Type 0} (at : ℕ) (piece : List ℕ) (old new : List DiskState) (result : Result T E) → Writes at piece old new result → GoesOn old new
goes_on_write at piece [] new result writes = goes_on_kept [] new writes
goes_on_write at piece (disk ∷ past) new (Ok done) writes = goes_on_more _ (disk ∷ past) new writes
goes_on_write at piece (disk ∷ past) new (Err fault) (inl same) = goes_on_kept (disk ∷ past) new same
goes_on_write at piece (disk ∷ past) new (Err fault) (inr torn) = goes_on_more _ (disk ∷ past) new torn.2

pub goes_on_sync : {T E : Type 0} (old new : List DiskState) (result : Result T E) → Syncs old new result → GoesOn old new
goes_on_sync [] new result syncs = goes_on_kept [] new syncs
goes_on_sync (disk ∷ past) new (Ok done) syncs = goes_on_more _ (disk ∷ past) new syncs
goes_on_sync (disk ∷ past) new (Err fault) (inl same) = goes_on_kept (disk ∷ past) new same
goes_on_sync (disk ∷ past) new (Err fault) (inr again) = goes_on_more _ (disk ∷ past) new again

-- what holds of each image now, and of each that was left since a moment, holds of all since
pub holds_since_now : (moment : ℕ) (disk : DiskState) (past : List DiskState) (P : List ℕ → Type 0) → HoldsSince moment past P → EachImage disk P → HoldsSince moment (disk ∷ past) P
holds_since_now moment disk past P held here image left = ⊎_elim (λ now. here image now.1) (held image) left

pub holds_since_on : (moment : ℕ) (old new : List DiskState) (P : List ℕ → Type 0) → GoesOn old new → HoldsSince moment old P → ((image : List ℕ) → Now new (λ disk. IsImage disk image) → P image) → HoldsSince moment new P
holds_since_on moment old new P on held here image left = ⊎_elim (held image) (here image) (on.nothing_else moment image left)

-- after a sync there is one image
pub settled_image : (bytes image : List ℕ) → IsImage (settled bytes) image → image ≡ bytes
settled_image bytes image is =
    ext_get_or 0 image bytes (omega (arith, is.no_shorter, is.no_longer)) (λ place lt. (is.outside place lt refl).1)

-- A run of calls.

at_start : (states : List DiskState) (P : List ℕ → Type 0) (image : List ℕ) → Now states (λ disk. EachImage disk P) → MayHaveLeft (length states) states image → P image
at_start [] P image here left = absurd left
at_start (disk ∷ past) P image here (inl now) = here image now.1
at_start (disk ∷ past) P image here (inr there) = absurd (none_later (suc (length past)) past image (omega arith) there)

-- before the first call
pub started : (states : List DiskState) (P : List ℕ → Type 0) → Now states (λ disk. EachImage disk P) → LeavesOnly states states P
started states P here = record {
  later = omega arith;
  each = λ image left. at_start states P image here left;
  before = λ moment image le left. inl left;
  grew = ([], refl);
}

one_more : (old past : List DiskState) (disk : DiskState) (P : List ℕ → Type 0) → LeavesOnly old past P → EachImage disk P → LeavesOnly old (disk ∷ past) P
one_more old past disk P run here = record {
  later = omega (arith, run.later);
  each = λ image left. ⊎_elim (λ now. here image now.1) (run.each image) left;
  before = λ moment image le left. ⊎_elim (λ now. inr (here image now.1)) (run.before moment image le) left;
  grew = (disk ∷ run.grew.0, ap (λ (states : List DiskState). disk ∷ states) run.grew.1);
}

-- one call more that leads to this state
pub goes_on : (old past new : List DiskState) (disk : DiskState) (P : List ℕ → Type 0) → LeavesOnly old past P → new ≡ disk ∷ past → EachImage disk P → LeavesOnly old new P
goes_on old past new disk P run is here = subst (λ states. LeavesOnly old states P) (sym is) (one_more old past disk P run here)

-- one call more that leaves the states
pub stays : (old past new : List DiskState) (P : List ℕ → Type 0) → LeavesOnly old past P → new ≡ past → LeavesOnly old new P
stays old past new P run same = subst (λ states. LeavesOnly old states P) (sym same) run

-- two runs, one after the other
pub joined : (old mid new : List DiskState) (P : List ℕ → Type 0) → LeavesOnly old mid P → LeavesOnly mid new P → LeavesOnly old new P
joined old mid new P first second = record {
  later = omega (arith, first.later, second.later);
  each = λ image left. ⊎_elim (first.each image) (λ has. has) (second.before (length old) image first.later left);
  before = λ moment image le left. ⊎_elim (first.before moment image le) (λ has. inr has) (second.before moment image (omega (arith, le, first.later)) left);
  grew = (
    second.grew.0 ++ first.grew.0,
    second.grew.1 ∙ ap (λ (states : List DiskState). second.grew.0 ++ states) first.grew.1 ∙ sym (append_assoc second.grew.0 first.grew.0 old),
  );
}

pub weaker : (old new : List DiskState) (P Q : List ℕ → Type 0) → LeavesOnly old new P → ((image : List ℕ) → P image → Q image) → LeavesOnly old new Q
weaker old new P Q run so = record {
  later = run.later;
  each = λ image left. so image (run.each image left);
  before = λ moment image le left. ⊎_elim (λ was. inl was) (λ has. inr (so image has)) (run.before moment image le left);
  grew = run.grew;
}

-- the images at the end of a run
pub now_only : (old new : List DiskState) (P : List ℕ → Type 0) → LeavesOnly old new P → Now new (λ disk. EachImage disk P)
now_only old [] P run = tt
now_only old (disk ∷ past) P run = λ image is. run.each image (inl (run.later, is))

-- A call that finds a state with `failed` and leads to one with `done`, or with `failed` where it fails.

-- a write: done, not begun, or torn
pub write_goes : {T E : Type 0} (at : ℕ) (piece : List ℕ) (old new : List DiskState) (result : Result T E) (done failed : DiskState → Type 0) (P : List ℕ → Type 0)
    → Writes at piece old new result → Now old failed → Now old (λ disk. EachImage disk P)
    → ((disk : DiskState) (bytes : List ℕ) → failed disk → EachImage (touched at (length piece) bytes disk) P)
    → ((disk : DiskState) (bytes : List ℕ) → failed disk → IsTorn at (length piece) disk.reads bytes → failed (touched at (length piece) bytes disk))
    → ((disk : DiskState) → failed disk → done (touched at (length piece) (overwritten at piece disk.reads) disk))
    → Goes old new result done failed P
write_goes at piece [] new (Ok x) done failed P writes has here images torn whole =
    record { ok = subst (λ states. Now states done) (sym writes) tt; err = tt; moments = stays [] [] new P (started [] P tt) writes }
write_goes at piece [] new (Err fault) done failed P writes has here images torn whole =
    record { ok = tt; err = subst (λ states. Now states failed) (sym writes) tt; moments = stays [] [] new P (started [] P tt) writes }
write_goes at piece (disk ∷ past) new (Ok x) done failed P writes has here images torn whole = record {
  ok = subst (λ states. Now states done) (sym writes) (whole disk has);
  err = tt;
  moments = goes_on (disk ∷ past) (disk ∷ past) new _ P (started (disk ∷ past) P here) writes (images disk _ has);
}
write_goes at piece (disk ∷ past) new (Err fault) done failed P (inl same) has here images torn whole = record {
  ok = tt;
  err = subst (λ states. Now states failed) (sym same) has;
  moments = stays (disk ∷ past) (disk ∷ past) new P (started (disk ∷ past) P here) same;
}
write_goes at piece (disk ∷ past) new (Err fault) done failed P (inr part) has here images torn whole = record {
  ok = tt;
  err = subst (λ states. Now states failed) (sym part.2) (torn disk part.0 has part.1);
  moments = goes_on (disk ∷ past) (disk ∷ past) new _ P (started (disk ∷ past) P here) part.2 (images disk part.0 has);
}

-- what has P before a sync has it after
settled_has : (disk : DiskState) (P : List ℕ → Type 0) → IsSound disk → EachImage disk P → EachImage (settled disk.reads) P
settled_has disk P sound here image is = subst P (sym (settled_image disk.reads image is)) (here disk.reads sound)

pub sync_goes : {T E : Type 0} (old new : List DiskState) (result : Result T E) (done failed : DiskState → Type 0) (P : List ℕ → Type 0)
    → Syncs old new result → SoundNow old → Now old failed → Now old (λ disk. EachImage disk P)
    → ((disk : DiskState) → IsSound disk → failed disk → done (settled disk.reads))
    → Goes old new result done failed P
sync_goes [] new (Ok x) done failed P syncs sound has here whole =
    record { ok = subst (λ states. Now states done) (sym syncs) tt; err = tt; moments = stays [] [] new P (started [] P tt) syncs }
sync_goes [] new (Err fault) done failed P syncs sound has here whole =
    record { ok = tt; err = subst (λ states. Now states failed) (sym syncs) tt; moments = stays [] [] new P (started [] P tt) syncs }
sync_goes (disk ∷ past) new (Ok x) done failed P syncs sound has here whole = record {
  ok = subst (λ states. Now states done) (sym syncs) (whole disk (sound disk past refl) has);
  err = tt;
  moments = goes_on (disk ∷ past) (disk ∷ past) new _ P (started (disk ∷ past) P here) syncs (settled_has disk P (sound disk past refl) here);
}
sync_goes (disk ∷ past) new (Err fault) done failed P (inl same) sound has here whole = record {
  ok = tt;
  err = subst (λ states. Now states failed) (sym same) has;
  moments = stays (disk ∷ past) (disk ∷ past) new P (started (disk ∷ past) P here) same;
}
sync_goes (disk ∷ past) new (Err fault) done failed P (inr again) sound has here whole = record {
  ok = tt;
  err = subst (λ states. Now states failed) (sym again) has;
  moments = goes_on (disk ∷ past) (disk ∷ past) new disk P (started (disk ∷ past) P here) again here;
}
