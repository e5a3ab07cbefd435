-- The states of a disk: what a write leaves, and what a disk in memory keeps of it.
use Rattle.std.proofs.Common.{◌≡◌, ◌⊎◌, inl, inr, ℕ, ◌+◌, ◌-◌, ◌<◌, ◌≤◌, max, Bool, false, true, ◌||◌, List, [], ◌∷◌, ◌++◌, length, get_or, take, drop, Option, None, Some, Result, Ok, Err, refl, sym, ◌∙◌, ap, subst, arith, length-append, length-take, length-drop}
use Rattle.std.specs.Prelude.{IsSome, IfSome, OnOk, OnErr}
use Rattle.std.specs.Option.{unwrap_or}
use Rattle.std.proofs.lemmas.List.{get_or-append_right, get_or_append_left, get_or-take, get_or-drop, length-take-le}
use Rattle.std.proofs.lemmas.Bool.Decides.{nat_tests}
use Rattle.inc_disk.specs.Disk.{DiskState, IsSound, SoundNow, IsTorn, Now, reads_of, in_range, is_dirty, overwritten, touched, settled, Writes}
use Rattle.inc_disk.specs.Memory.{after, replay, history_of}
use Rattle.inc_disk.specs.declared.history.Call.{Call}
use Rattle.inc_disk.specs.declared.history.Call.TheVariants.{Wrote}

pub replay_push : (states : List DiskState) (calls : List Call) (call : Call) → replay states (calls ++ call ∷ []) ≡ after call (replay states calls)
replay_push states [] call = refl
replay_push states (first ∷ calls) call = replay_push (after first states) calls call

-- one call more, once the first state is kept
pub recorded : (first kept : Option DiskState) (state new : DiskState) (calls made : List Call) (call : Call) (past : List DiskState)
    → history_of first state calls ≡ state ∷ past → unwrap_or kept state ≡ unwrap_or first state → IsSome kept → made ≡ calls ++ call ∷ []
    → after call (state ∷ past) ≡ new ∷ (state ∷ past) → history_of kept new made ≡ new ∷ (state ∷ past)
recorded first None state new calls made call past ends same some is step = absurd (cc)
recorded first (Some f) state new calls made call past ends same some is step =
    ap (λ (cs : List Call). replay (f ∷ []) cs) is ∙ replay_push (f ∷ []) calls call ∙ ap (λ (s : DiskState). after call (replay (s ∷ []) calls)) same ∙ ap (after call) ends ∙ step

pub length-overwritten : (at : ℕ) (piece bytes : List ℕ) → at ≤ length bytes → length (overwritten at piece bytes) ≡ max (length bytes) (at + length piece)
length-overwritten at piece bytes le =
    omega (arith, length-append (take at bytes ++ piece) (drop (at + length piece) bytes), length-append (take at bytes) piece, length-take at bytes, length-drop (at + length piece) bytes)

front_length : (at : ℕ) (piece bytes : List ℕ) → at ≤ length bytes → length (take at bytes ++ piece) ≡ at + length piece
front_length at piece bytes le = omega (arith, length-append (take at bytes) piece, length-take at bytes)

pub overwritten_before : (at : ℕ) (piece bytes : List ℕ) (place : ℕ) → at ≤ length bytes → place < at → get_or (overwritten at piece bytes) place 0 ≡ get_or bytes place 0
overwritten_before at piece bytes place le lt =
    let whole : place < length (take at bytes ++ piece) = omega (arith, front_length at piece bytes le) in
    let front : place < length (take at bytes) = omega (arith, length-take at bytes) in
    get_or_append_left (take at bytes ++ piece) (drop (at + length piece) bytes) 0 place whole
    ∙ get_or_append_left (take at bytes) piece 0 place front ∙ get_or-take at bytes place 0 lt

pub overwritten_after : (at : ℕ) (piece bytes : List ℕ) (place : ℕ) → at ≤ length bytes → at + length piece ≤ place → get_or (overwritten at piece bytes) place 0 ≡ get_or bytes place 0
overwritten_after at piece bytes place le past =
    let same : (at + length piece) + (place - (at + length piece)) ≡ place = omega arith in
    get_or-append_right (take at bytes ++ piece) (drop (at + length piece) bytes) (at + length piece) place 0 (front_length at piece bytes le) past
    ∙ get_or-drop (at + length piece) bytes (place - (at + length piece)) 0 ∙ ap (λ (n : ℕ). get_or bytes n 0) same

-- the range reads as the piece
pub written_byte : (at : ℕ) (piece bytes : List ℕ) (k : ℕ) → at ≤ length bytes → k < length piece → get_or (overwritten at piece bytes) (at + k) 0 ≡ get_or piece k 0
written_byte at piece bytes k le lt =
    let whole : at + k < length (take at bytes ++ piece) = omega (arith, front_length at piece bytes le) in
    let same : (at + k) - at ≡ k = omega arith in
    get_or_append_left (take at bytes ++ piece) (drop (at + length piece) bytes) 0 (at + k) whole
    ∙ get_or-append_right (take at bytes) piece at (at + k) 0 (length-take-le at bytes le) (omega arith) ∙ ap (λ (n : ℕ). get_or piece n 0) same

-- a write of which a front gets through is a torn one
pub torn_overwritten : (at count : ℕ) (front bytes : List ℕ) → at ≤ length bytes → length front ≤ count → IsTorn at count bytes (overwritten at front bytes)
torn_overwritten at count front bytes le short = record {
  no_shorter = omega (arith, length-overwritten at front bytes le);
  no_longer = omega (arith, length-overwritten at front bytes le);
  before = λ place lt. overwritten_before at front bytes place le lt;
  after = λ place past. overwritten_after at front bytes place le (omega arith);
}

pub sound_settled : (bytes : List ℕ) → IsSound (settled bytes)
sound_settled bytes = record { no_shorter = omega arith; no_longer = omega arith; outside = λ place lt clean. (lt, refl) }

neither : (a b : Bool) → a || b ≡ false → (a ≡ false) × (b ≡ false)
neither false b e = (refl, e)
neither true b e = absurd (cc)

pub outside_range : (at count place : ℕ) → in_range place (at, at + count) ≡ false → (place < at) ⊎ (at + count ≤ place)
outside_range at count place e = grind (arith, nat_tests)

-- a place that is not dirty after a write lies outside its range, and was not dirty before
pub clean_before : (disk : DiskState) (at count : ℕ) (bytes : List ℕ) (place : ℕ) → is_dirty (touched at count bytes disk).dirty place ≡ false
    → (is_dirty disk.dirty place ≡ false) × ((place < at) ⊎ (at + count ≤ place))
clean_before disk at count bytes place e = let both = neither (in_range place (at, at + count)) (is_dirty disk.dirty place) e in (both.1, outside_range at count place both.0)

-- what a disk reads as stays one of its images
pub sound_touched : (disk : DiskState) (at count : ℕ) (bytes : List ℕ) → IsSound disk → at ≤ length disk.reads → IsTorn at count disk.reads bytes → IsSound (touched at count bytes disk)
sound_touched disk at count bytes sound le torn = record {
  no_shorter = omega (arith, sound.no_shorter, torn.no_shorter);
  no_longer = omega (arith, sound.no_longer, torn.no_longer);
  outside = λ place lt clean. kept place lt (clean_before disk at count bytes place clean);
}
  where
    kept : (place : ℕ) → place < length bytes → (is_dirty disk.dirty place ≡ false) × ((place < at) ⊎ (at + count ≤ place))
        → (place < length disk.synced) × (get_or bytes place 0 ≡ get_or disk.synced place 0)
    kept place lt (clean, inl low) = let was = sound.outside place (omega arith) clean in (was.0, torn.before place low ∙ was.1)
    kept place lt (clean, inr high) = let was = sound.outside place (omega (arith, torn.no_longer)) clean in (was.0, torn.after place high ∙ was.1)

pub sound_written : (disk new : DiskState) (at count : ℕ) (front : List ℕ) → IsSound disk → at ≤ length disk.reads → length front ≤ count
    → new ≡ touched at count (overwritten at front disk.reads) disk → IsSound new
sound_written disk new at count front sound le short is =
    subst IsSound (sym is) (sound_touched disk at count (overwritten at front disk.reads) sound le (torn_overwritten at count front disk.reads le short))

-- after a call that changes nothing where it fails
pub sound_after : {T E : Type 0} (result : Result T E) (old new : List DiskState) → OnErr result (new ≡ old) → OnOk result (SoundNow new) → SoundNow old → SoundNow new
sound_after (Ok done) old new err ok sound = ok
sound_after (Err fault) old new err ok sound = subst SoundNow (sym err) sound

pub sound_first : (states : List DiskState) (state : DiskState) (past : List DiskState) → states ≡ state ∷ past → IsSound state → SoundNow states
sound_first states state past is sound disk before also = let same : state ≡ disk = cc in subst IsSound same sound

-- what the calls of a disk in memory say of its states
pub writes_torn : (T : Type 0) {E : Type 0} (at : ℕ) (piece front : List ℕ) (old new : List DiskState) (fault : E) → Now old (λ disk. at ≤ length disk.reads) → length front ≤ length piece
    → (new ≡ old) ⊎ (new ≡ after (Wrote at (length piece) front) old) → Writes {T = T} at piece old new (Err fault)
writes_torn T at piece front [] new fault le short (inl same) = same
writes_torn T at piece front [] new fault le short (inr torn) = torn
writes_torn T at piece front (disk ∷ past) new fault le short (inl same) = inl same
writes_torn T at piece front (disk ∷ past) new fault le short (inr torn) = inr (overwritten at front disk.reads, torn_overwritten at (length piece) front disk.reads le short, torn)

pub place_now : (states : List DiskState) (at : ℕ) → IfSome (reads_of states) (λ bytes. at ≤ length bytes) → Now states (λ disk. at ≤ length disk.reads)
place_now [] at place = tt
place_now (disk ∷ past) at place = place
