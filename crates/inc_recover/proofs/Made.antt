-- What a crash leaves while a file is made, step by step.
use Rattle.std.proofs.Common.{◌≡◌, ◌⊎◌, inl, inr, ℕ, ◌+◌, ◌-◌, ◌^◌, ◌<◌, ◌≤◌, true, false, eqb, List, [], ◌∷◌, ◌++◌, length, take, drop, get_or, min, Option, None, Some, Result, Ok, Err, refl, sym, ap, ◌∙◌, subst, arith, append_assoc, length-append}
use Rattle.std.specs.Prelude.{IfOk, IfSome, OnOk, replicate}
use Rattle.std.proofs.lemmas.Bool.{eqb-true, le-leb, lt-leb, le-ltb, cases_lt, or_from}
use Rattle.std.proofs.Math.Seq.{take-length, take-append-add, take-append_seam, drop-append_seam}
use Rattle.std.proofs.lemmas.List.{append-nil, drop_all, drop-replicate, ext_get_or, get_or-append-add, get_or_append_left, get_or_past, get_or-take, get_or-drop, get_or-replicate, length-take, length-drop, length-replicate, replicate-append-replicate, take-append-drop, take-append-le, take-replicate}
use Rattle.inc_bytes.specs.Fields.{AreBytes, le_number, le_bytes, field}
use Rattle.inc_bytes.proofs.Numbers.{AreBytes-take, field-take, le_bytes-field}
use Rattle.inc_header.specs.Header.{header_bytes, header_of, header_tests, IsHeader}
use Rattle.inc_header.specs.declared.header.Header.{Header}
use Rattle.inc_header.specs.declared.header.HeaderFault.{HeaderFault}
use Rattle.inc_header.specs.declared.header.HeaderFault.TheVariants.{Short, BadMagic}
use Rattle.inc_header.proofs.Spelling.{header_bytes-length, is_spelled}
use Rattle.inc_io.specs.declared.failed.Failed.{Failed}
use Rattle.inc_disk.specs.Disk.{DiskState, IsImage, SoundNow, Now, in_range, is_dirty, reads_of, overwritten, touched, settled, Writes, Syncs}
use Rattle.inc_disk.specs.Laws.{EachImage, Goes, LeavesOnly}
use Rattle.inc_disk.proofs.States.{length-overwritten}
use Rattle.inc_fill.proofs.Going.{write_from}
use Rattle.inc_disk.proofs.Moments.{goes_on, joined, settled_image, started, stays, sync_goes}
use Rattle.inc_layout.specs.Fresh.{IsFreshImage}
use Rattle.inc_recover.specs.Making.{HasMagic, IsRefused, IsUnmarked, MayBeLeft, blank, image_with, magic_in, zeros_in}

-- ---- what a reader refuses

short_refused : (left : List ℕ) → length left < 56 → header_of (take 56 left) ≡ Err Short
unfolding header_of header_tests
short_refused left lt = rw (lt-leb 56 (length (take 56 left)) (omega (arith, length-take 56 left))) refl

magic_refused : (left : List ℕ) → 56 ≤ length left → eqb (field 8 0 left) 0x5346434e49 ≡ false → header_of (take 56 left) ≡ Err BadMagic
unfolding header_of header_tests
magic_refused left le ne =
    let same : field 8 0 (take 56 left) ≡ field 8 0 left = field-take 8 0 56 left (omega arith) in
    rw (le-leb 56 (length (take 56 left)) (omega (arith, length-take 56 left)), same, ne) refl

-- without a good magic number they are refused, however many they are
no_magic : (left : List ℕ) → eqb (field 8 0 left) 0x5346434e49 ≡ false → IsRefused left
no_magic left ne = elim (cases_lt (length left) 56) [ inl lt ↦ inl (short_refused left lt) | inr le ↦ inr (magic_refused left le ne) ]

-- ---- a fresh image

spelled_magic : (h : Header) → field 8 0 (header_bytes h) ≡ 0x5346434e49
unfolding header_bytes le_bytes
spelled_magic h = refl

pub has_magic : (image : List ℕ) → AreBytes image → IsFreshImage image → HasMagic image
has_magic image fits is =
    let stands = is.fresh.stands.laid.fixed in
    let front = AreBytes-take 56 image fits in
    let said = subst (λ (r : Result Header HeaderFault). IfOk r (λ h. IsHeader h × (header_bytes h ≡ take 56 (take 56 image)))) stands.front.header_is (is_spelled (take 56 image) (header_of (take 56 image)) front refl) in
    let len = header_bytes-length is.fresh.opened.header said.0.id_length in
    record {
      long = omega (arith, len, ap length said.1, length-take 56 (take 56 image), length-take 56 image);
      short = stands.front.short;
      bytes = fits;
      magic = sym (field-take 8 0 56 image (omega arith)) ∙ sym (field-take 8 0 56 (take 56 image) (omega arith)) ∙ ap (field 8 0) (sym said.1) ∙ spelled_magic is.fresh.opened.header;
    }

-- ---- a write from a settled state, and the sync after it

-- whatever it got through, what a crash leaves has P
pub put_goes : {T E : Type 0} (at : ℕ) (piece bytes : List ℕ) (old new : List DiskState) (result : Result T E) (P : List ℕ → Type 0)
    → Writes at piece old new result → Now old (λ disk. disk ≡ settled bytes) → EachImage (settled bytes) P
    → ((reads : List ℕ) → EachImage (touched at (length piece) reads (settled bytes)) P)
    → Goes old new result (λ disk. disk ≡ touched at (length piece) (overwritten at piece bytes) (settled bytes)) (λ disk. Unit {0}) P
put_goes at piece bytes [] new (Ok done) P writes is before after =
    record { ok = subst (λ states. Now states (λ disk. disk ≡ touched at (length piece) (overwritten at piece bytes) (settled bytes))) (sym writes) tt; err = tt; moments = stays [] [] new P (started [] P tt) writes }
put_goes at piece bytes [] new (Err fault) P writes is before after =
    record { ok = tt; err = subst (λ states. Now states (λ disk. Unit {0})) (sym writes) tt; moments = stays [] [] new P (started [] P tt) writes }
put_goes at piece bytes (disk ∷ past) new (Ok done) P writes is before after =
    let here = subst (λ d. EachImage d P) (sym is) before in
    let next = touched at (length piece) (overwritten at piece disk.reads) disk in
    let same : next ≡ touched at (length piece) (overwritten at piece bytes) (settled bytes) = ap (λ d. touched at (length piece) (overwritten at piece d.reads) d) is in
    record {
      ok = subst (λ states. Now states (λ d. d ≡ touched at (length piece) (overwritten at piece bytes) (settled bytes))) (sym writes) same;
      err = tt;
      moments = goes_on (disk ∷ past) (disk ∷ past) new next P (started (disk ∷ past) P here) writes (subst (λ d. EachImage d P) (sym same) (after (overwritten at piece bytes)));
    }
put_goes at piece bytes (disk ∷ past) new (Err fault) P (inl same) is before after =
    let here = subst (λ d. EachImage d P) (sym is) before in
    record {
      ok = tt;
      err = subst (λ states. Now states (λ d. Unit {0})) (sym same) tt;
      moments = stays (disk ∷ past) (disk ∷ past) new P (started (disk ∷ past) P here) same;
    }
put_goes at piece bytes (disk ∷ past) new (Err fault) P (inr torn) is before after =
    let here = subst (λ d. EachImage d P) (sym is) before in
    let next = touched at (length piece) torn.0 disk in
    let same : next ≡ touched at (length piece) torn.0 (settled bytes) = ap (λ d. touched at (length piece) torn.0 d) is in
    record {
      ok = tt;
      err = subst (λ states. Now states (λ d. Unit {0})) (sym torn.2) tt;
      moments = goes_on (disk ∷ past) (disk ∷ past) new next P (started (disk ∷ past) P here) torn.2 (subst (λ d. EachImage d P) (sym same) (after torn.0));
    }

images_now : (states : List DiskState) (disk : DiskState) (P : List ℕ → Type 0) → Now states (λ d. d ≡ disk) → EachImage disk P → Now states (λ d. EachImage d P)
images_now [] disk P is each = tt
images_now (first ∷ past) disk P is each = subst (λ d. EachImage d P) (sym is) each

pub settles : {T E : Type 0} (disk : DiskState) (old new : List DiskState) (result : Result T E) (P : List ℕ → Type 0)
    → Syncs old new result → SoundNow old → Now old (λ d. d ≡ disk) → EachImage disk P → Goes old new result (λ d. d ≡ settled disk.reads) (λ d. d ≡ disk) P
settles disk old new result P syncs sound is each =
    sync_goes old new result (λ d. d ≡ settled disk.reads) (λ d. d ≡ disk) P syncs sound is (images_now old disk P is each) (λ d s same. ap (λ x. settled x.reads) same)

-- a whole step: the write, and the sync after it
pub step_goes : (at : ℕ) (piece bytes : List ℕ) (old mid new : List DiskState) (done : Unit {0}) (result : Result (Unit {0}) Failed) (P : List ℕ → Type 0)
    → Writes {T = Unit {0}} {E = Failed} at piece old mid (Ok done) → Syncs mid new result → SoundNow mid → Now old (λ disk. disk ≡ settled bytes) → EachImage (settled bytes) P
    → ((reads : List ℕ) → EachImage (touched at (length piece) reads (settled bytes)) P)
    → OnOk result (Now new (λ disk. disk ≡ settled (overwritten at piece bytes))) × LeavesOnly old new P
step_goes at piece bytes old mid new done result P writes syncs sound is before after =
    let reads = overwritten at piece bytes in
    let written = put_goes {T = Unit {0}} {E = Failed} at piece bytes old mid (Ok done) P writes is before after in
    let synced = settles (touched at (length piece) reads (settled bytes)) mid new result P syncs sound written.ok (after reads) in
    (synced.ok, joined old mid new P written.moments synced.moments)

-- ---- the images of each step

is_short : (image left : List ℕ) → length left < 56 → MayBeLeft image left
is_short image left lt fits = inl (inl (short_refused left lt))

-- nothing but zeros stands where the magic number is to come
zero_front : (left : List ℕ) → 8 ≤ length left → ((k : ℕ) → k < 8 → get_or left k 0 ≡ 0) → take 8 left ≡ blank
zero_front left le zero =
    ext_get_or 0 (take 8 left) blank (omega (arith, length-take 8 left)) (λ k lt.
    let below : k < 8 = omega (arith, lt, length-take 8 left) in
    get_or-take 8 left k 0 below ∙ zero k below ∙ sym (get_or-replicate 8 k 0 0 below))

zeros_refused : (image left : List ℕ) → take 8 left ≡ blank → MayBeLeft image left
zeros_refused image left front fits =
    let none : field 8 0 left ≡ 0 = ap le_number front in
    inl (no_magic left (ap (λ (n : ℕ). eqb n 0x5346434e49) none))

pub empty_images : (image : List ℕ) → EachImage (settled []) (MayBeLeft image)
empty_images image left is = is_short image left (omega (arith, is.no_longer))

pub blank_images : (image reads : List ℕ) → EachImage (touched 0 8 reads (settled [])) (MayBeLeft image)
blank_images image reads left is = is_short image left (omega (arith, is.no_longer))

pub rest_before : (image : List ℕ) → EachImage (settled blank) (MayBeLeft image)
rest_before image left is = is_short image left (omega (arith, is.no_longer))

pub magic_before : (image rest : List ℕ) → EachImage (settled (blank ++ rest)) (MayBeLeft image)
magic_before image rest left is = zeros_refused image left (ap (take 8) (settled_image (blank ++ rest) left is))

within_magic : (k : ℕ) → 8 ≤ k → is_dirty ((0, 8) ∷ []) k ≡ false
within_magic k le = rw (le-leb 0 k (omega arith), le-ltb k 8 le) refl

rest_stays : (image reads left : List ℕ) → 8 ≤ length image → IsImage (touched 0 8 reads (settled (blank ++ drop 8 image))) left → drop 8 left ≡ drop 8 image
rest_stays image reads left long is =
    let len : length (drop 8 image) ≡ length image - 8 = length-drop 8 image in
    let whole : length left ≡ length image = omega (arith, is.no_shorter, is.no_longer, len) in
    ext_get_or 0 (drop 8 left) (drop 8 image) (omega (arith, length-drop 8 left, len, whole)) (λ k lt.
    let there : 8 + k < length left = omega (arith, lt, length-drop 8 left) in
    get_or-drop 8 left k 0 ∙ (is.outside (8 + k) there (within_magic (8 + k) (omega arith))).1 ∙ sym (get_or-drop 8 (blank ++ drop 8 image) k 0))

-- with a good magic number all of the image is there
pub magic_images : (image reads : List ℕ) → HasMagic image → EachImage (touched 0 8 reads (settled (blank ++ drop 8 image))) (MayBeLeft image)
magic_images image reads has left is fits =
    elim (eqb (field 8 0 left) 0x5346434e49) as (λ b. eqb (field 8 0 left) 0x5346434e49 ≡ b → IsRefused left ⊎ (left ≡ image)) [
      | true ↦ λ e.
          let len : length (drop 8 image) ≡ length image - 8 = length-drop 8 image in
          let long : 8 ≤ length left = omega (arith, is.no_shorter, len, has.long) in
          let whole : 8 ≤ length image = omega (arith, has.long) in
          let mine = le_bytes-field 8 0 left fits long in
          let theirs = le_bytes-field 8 0 image has.bytes whole in
          let front : take 8 left ≡ take 8 image = sym mine ∙ ap (le_bytes 8) (eqb-true _ _ e ∙ sym has.magic) ∙ theirs in
          inr (sym (take-append-drop 8 left) ∙ ap (λ (x : List ℕ). x ++ drop 8 left) front ∙ ap (λ (x : List ℕ). take 8 image ++ x) (rest_stays image reads left whole is) ∙ take-append-drop 8 image)
      | false ↦ λ e. inl (no_magic left e)
    ] refl

-- ---- what is written

piece_is : (image : List ℕ) → HasMagic image → length (take 8 image) ≡ 8
piece_is image has = omega (arith, length-take 8 image, has.long)

pub whole_image : (image : List ℕ) → HasMagic image → overwritten 0 (take 8 image) (blank ++ drop 8 image) ≡ image
whole_image image has =
    ap (λ (n : ℕ). take 8 image ++ drop n (blank ++ drop 8 image)) (let e : 0 + length (take 8 image) ≡ 8 = omega (arith, piece_is image has) in e) ∙ take-append-drop 8 image

pub magic_after : (image reads : List ℕ) → HasMagic image → EachImage (touched 0 (length (take 8 image)) reads (settled (blank ++ drop 8 image))) (MayBeLeft image)
magic_after image reads has = subst (λ (n : ℕ). EachImage (touched 0 n reads (settled (blank ++ drop 8 image))) (MayBeLeft image)) (sym (piece_is image has)) (magic_images image reads has)

pub made_of : {T E : Type 0} (image : List ℕ) (states : List DiskState) (result : Result T E) → HasMagic image → OnOk result (Now states (λ d. d ≡ settled (overwritten 0 (take 8 image) (blank ++ drop 8 image)))) → OnOk result (Now states (λ d. d ≡ settled image))
made_of image states result has made = subst (λ (bytes : List ℕ). OnOk result (Now states (λ d. d ≡ settled bytes))) (whole_image image has) made

-- ---- the file grows behind the zeros that stand in for its magic number

pub record IsBlankFront (disk : DiskState) : Type 0 where
  pub synced_is : disk.synced ≡ blank
  pub untouched : (j : ℕ) → j < 8 → is_dirty disk.dirty j ≡ false

blank_front : (image : List ℕ) (disk : DiskState) → IsBlankFront disk → EachImage disk (MayBeLeft image)
blank_front image disk front left is =
    let eight : length disk.synced ≡ 8 = ap (λ (b : List ℕ). length b) front.synced_is in
    let long : 8 ≤ length left = omega (arith, is.no_shorter) in
    zeros_refused image left (zero_front left long (λ k lt.
    (is.outside k (omega arith) (front.untouched k lt)).1 ∙ ap (λ (b : List ℕ). get_or b k 0) front.synced_is ∙ get_or-replicate 8 k 0 0 lt))

range_above : (at end j : ℕ) → j < at → in_range j (at, end) ≡ false
range_above at end j lt = rw (lt-leb at j lt) refl

front_kept : (at n : ℕ) (bytes : List ℕ) (disk : DiskState) → 8 ≤ at → IsBlankFront disk → IsBlankFront (touched at n bytes disk)
front_kept at n bytes disk behind front = record {
  synced_is = front.synced_is;
  untouched = λ j lt. or_from (in_range j (at, at + n)) (is_dirty disk.dirty j) (range_above at (at + n) j (omega arith)) (front.untouched j lt);
}

front_of : (rest : List ℕ) (disk : DiskState) → IsUnmarked rest disk → IsBlankFront disk
front_of rest disk un = record { synced_is = un.synced_is; untouched = un.untouched }

pub blank_unmarked : IsUnmarked [] (settled blank)
blank_unmarked = record { reads_is = refl; synced_is = refl; untouched = λ j lt. refl }

overwritten_end : (at : ℕ) (piece bytes : List ℕ) → at ≡ length bytes → overwritten at piece bytes ≡ bytes ++ piece
overwritten_end at piece bytes is =
    let behind : drop (at + length piece) bytes ≡ [] = drop_all (at + length piece) bytes (omega arith) in
    ap (λ (b : List ℕ). (b ++ piece) ++ drop (at + length piece) bytes) (ap (λ n. take n bytes) is ∙ take-length bytes)
    ∙ ap (λ (b : List ℕ). (bytes ++ piece) ++ b) behind ∙ append-nil (bytes ++ piece)

unmarked_length : (rest : List ℕ) (disk : DiskState) → IsUnmarked rest disk → length disk.reads ≡ 8 + length rest
unmarked_length rest disk un =
    let all : length disk.reads ≡ length (blank ++ rest) = ap (λ (b : List ℕ). length b) un.reads_is in
    omega (arith, length-append blank rest)

grown : (at : ℕ) (piece rest : List ℕ) (disk : DiskState) → at ≡ 8 + length rest → IsUnmarked rest disk → IsUnmarked (rest ++ piece) (touched at (length piece) (overwritten at piece disk.reads) disk)
grown at piece rest disk is un =
    let front = front_kept at (length piece) (overwritten at piece disk.reads) disk (omega arith) (front_of rest disk un) in
    record {
      reads_is = overwritten_end at piece disk.reads (is ∙ sym (unmarked_length rest disk un)) ∙ ap (λ (b : List ℕ). b ++ piece) un.reads_is ∙ append_assoc blank rest piece;
      synced_is = front.synced_is;
      untouched = front.untouched;
    }

-- one piece more
pub grows : {T E : Type 0} (at : ℕ) (piece rest image : List ℕ) (old new : List DiskState) (result : Result T E) → at ≡ 8 + length rest → Writes at piece old new result → Now old (IsUnmarked rest)
    → Goes old new result (IsUnmarked (rest ++ piece)) IsBlankFront (MayBeLeft image)
grows at piece rest image old new result is writes has =
    write_from at piece old new result (IsUnmarked rest) (IsUnmarked (rest ++ piece)) IsBlankFront (MayBeLeft image) writes has (blank_front image) (front_of rest)
    (λ disk bytes un torn. front_kept at (length piece) bytes disk (omega arith) (front_of rest disk un)) (λ disk un. grown at piece rest disk is un)

-- no piece
pub grows_by_none : (rest image : List ℕ) (states : List DiskState) → Now states (IsUnmarked rest) → LeavesOnly states states (MayBeLeft image)
grows_by_none rest image [] has = started [] (MayBeLeft image) tt
grows_by_none rest image (disk ∷ past) has = started (disk ∷ past) (MayBeLeft image) (blank_front image disk (front_of rest disk has))

rest_now : (rest image : List ℕ) (states : List DiskState) → Now states (IsUnmarked rest) → Now states (λ disk. EachImage disk (MayBeLeft image))
rest_now rest image [] un = tt
rest_now rest image (disk ∷ past) un = blank_front image disk (front_of rest disk un)

-- what has been written is settled
pub rest_settles : {T E : Type 0} (rest image : List ℕ) (old new : List DiskState) (result : Result T E) → Syncs old new result → SoundNow old → Now old (IsUnmarked rest)
    → Goes old new result (λ disk. disk ≡ settled (blank ++ rest)) (IsUnmarked rest) (MayBeLeft image)
rest_settles rest image old new result syncs sound has =
    sync_goes old new result (λ disk. disk ≡ settled (blank ++ rest)) (IsUnmarked rest) (MayBeLeft image) syncs sound has (rest_now rest image old has) (λ disk is un. ap settled un.reads_is)

-- ---- what the disk tells of its length

pub unmarked_told : (states : List DiskState) (rest : List ℕ) (at : ℕ) → at ≡ 8 + length rest → Now states (IsUnmarked rest) → IfSome (reads_of states) (λ bytes. length bytes ≡ at)
unmarked_told [] rest at is has = tt
unmarked_told (disk ∷ past) rest at is has = unmarked_length rest disk has ∙ sym is

pub longer_told : (E : Type 0) (at n : ℕ) (piece : List ℕ) (old new : List DiskState) → Writes {T = Unit {0}} {E = E} at piece old new (Ok tt) → n ≡ at + length piece
    → IfSome (reads_of old) (λ bytes. length bytes ≡ at) → IfSome (reads_of new) (λ bytes. length bytes ≡ n)
longer_told E at n piece [] new writes is told = let P : List DiskState → Type 0 = λ s. IfSome (reads_of s) (λ bytes. length bytes ≡ n) in subst P (sym writes) tt
longer_told E at n piece (disk ∷ past) new writes is told =
    let P : List DiskState → Type 0 = λ s. IfSome (reads_of s) (λ bytes. length bytes ≡ n) in subst P (sym writes) (omega (arith, length-overwritten at piece disk.reads (omega arith)))

-- ---- the pieces of a described file

short_magic : (front : List ℕ) → length front ≤ 8 → magic_in front ≡ front ++ replicate (8 - length front) 0
short_magic front le =
    let n : ℕ = length front in
    ap (λ k. take k (front ++ blank)) (let e : 8 ≡ n + (8 - n) = omega arith in e) ∙ take-append-add front blank (8 - n) ∙ ap (λ (b : List ℕ). front ++ b) (take-replicate (8 - n) 8 0 (omega arith))

short_parts : (front : List ℕ) (len : ℕ) → length front ≤ 8 → 8 ≤ len → image_with front len ≡ magic_in front ++ (drop 8 front ++ replicate (zeros_in front len) 0)
short_parts front len le long =
    let n : ℕ = length front in
    let apart : len - n ≡ (8 - n) + (len - 8) = omega arith in
    let count : zeros_in front len ≡ len - 8 = omega arith in
    let magic : magic_in front ≡ front ++ replicate (8 - n) 0 = short_magic front le in
    let none : drop 8 front ≡ [] = drop_all 8 front le in
    ap (λ k. front ++ replicate k 0) apart ∙ ap (λ (b : List ℕ). front ++ b) (sym (replicate-append-replicate (8 - n) (len - 8) 0)) ∙ sym (append_assoc front (replicate (8 - n) 0) (replicate (len - 8) 0))
    ∙ ap (λ (b : List ℕ). b ++ replicate (len - 8) 0) (sym magic)
    ∙ ap (λ k. magic_in front ++ replicate k 0) (sym count) ∙ ap (λ (b : List ℕ). magic_in front ++ (b ++ replicate (zeros_in front len) 0)) (sym none)

long_parts : (front : List ℕ) (len : ℕ) → 8 ≤ length front → image_with front len ≡ magic_in front ++ (drop 8 front ++ replicate (zeros_in front len) 0)
long_parts front len le =
    let count : zeros_in front len ≡ len - length front = omega arith in
    let magic : magic_in front ≡ take 8 front = take-append-le 8 front blank le in
    ap (λ (b : List ℕ). b ++ replicate (len - length front) 0) (sym (take-append-drop 8 front)) ∙ append_assoc (take 8 front) (drop 8 front) (replicate (len - length front) 0)
    ∙ ap (λ (b : List ℕ). b ++ (drop 8 front ++ replicate (len - length front) 0)) (sym magic) ∙ ap (λ k. magic_in front ++ (drop 8 front ++ replicate k 0)) (sym count)

image_parts : (front : List ℕ) (len : ℕ) → 8 ≤ length (image_with front len) → image_with front len ≡ magic_in front ++ (drop 8 front ++ replicate (zeros_in front len) 0)
image_parts front len long =
    elim (cases_lt (length front) 8) [
      | inl lt ↦ short_parts front len (omega arith) (omega (arith, length-append front (replicate (len - length front) 0), length-replicate {A = ℕ} (len - length front) 0))
      | inr le ↦ long_parts front len le
    ]

magic_length : (front : List ℕ) → length (magic_in front) ≡ 8
magic_length front = omega (arith, length-take 8 (front ++ blank), length-append front blank)

-- the first eight bytes of the image, and all others
pub image_magic : (front : List ℕ) (len : ℕ) → 8 ≤ length (image_with front len) → magic_in front ≡ take 8 (image_with front len)
image_magic front len long =
    sym (ap (take 8) (image_parts front len long) ∙ ap (λ k. take k (magic_in front ++ (drop 8 front ++ replicate (zeros_in front len) 0))) (sym (magic_length front))
    ∙ take-append_seam (magic_in front) (drop 8 front ++ replicate (zeros_in front len) 0))

pub image_rest : (front : List ℕ) (len : ℕ) → 8 ≤ length (image_with front len) → drop 8 front ++ replicate (zeros_in front len) 0 ≡ drop 8 (image_with front len)
image_rest front len long =
    sym (ap (drop 8) (image_parts front len long) ∙ ap (λ k. drop k (magic_in front ++ (drop 8 front ++ replicate (zeros_in front len) 0))) (sym (magic_length front))
    ∙ drop-append_seam (magic_in front) (drop 8 front ++ replicate (zeros_in front len) 0))

pub rest_short : (front : List ℕ) (len : ℕ) → HasMagic (image_with front len) → 8 + length (drop 8 front) + zeros_in front len ≤ 2 ^ 47
rest_short front len has =
    let long : 8 ≤ length (image_with front len) = omega (arith, has.long) in
    let all : length (image_with front len) ≡ length (magic_in front ++ (drop 8 front ++ replicate (zeros_in front len) 0)) = ap (λ (b : List ℕ). length b) (image_parts front len long) in
    omega (
      arith,
      has.short,
      length-append (magic_in front) (drop 8 front ++ replicate (zeros_in front len) 0),
      length-append (drop 8 front) (replicate (zeros_in front len) 0),
      magic_length front,
      length-replicate {A = ℕ} (zeros_in front len) 0,
    )

zeros_are : (n k : ℕ) → ◌≡◌ {A = ℕ} (get_or (replicate n 0) k 0) 0
zeros_are n k =
    elim (cases_lt k n) [
      | inl lt ↦ get_or-replicate n k 0 0 lt
      | inr le ↦ get_or_past (replicate n 0) k 0 (omega (arith, length-replicate {A = ℕ} n 0))
    ]

pub image_bytes : (front : List ℕ) (len : ℕ) → AreBytes front → AreBytes (image_with front len)
image_bytes front len bytes i =
    let n : ℕ = len - length front in
    elim (cases_lt i (length front)) [
      | inl lt ↦ let same : get_or (front ++ replicate n 0) i 0 ≡ get_or front i 0 = get_or_append_left front (replicate n 0) 0 i lt in omega (arith, same, bytes i)
      | inr le ↦
          let k : ℕ = i - length front in
          let e : i ≡ length front + k = omega arith in
          let zero : get_or (front ++ replicate n 0) i 0 ≡ 0 = ap (λ j. get_or (front ++ replicate n 0) j 0) e ∙ get_or-append-add front (replicate n 0) k 0 ∙ zeros_are n k in
          omega (arith, zero)
    ]

-- all that the steps of a file rest on
pub fresh_parts : (front : List ℕ) (len : ℕ) → AreBytes front → IsFreshImage (image_with front len) → HasMagic (image_with front len)
fresh_parts front len bytes fresh = has_magic (image_with front len) (image_bytes front len bytes) fresh

pub magic_filled : (front : List ℕ) (count : ℕ) → count ≡ min (length front) 8 → take count front ++ drop count blank ≡ magic_in front
magic_filled front count is =
    elim (cases_lt (length front) 8) [
      | inl lt ↦
          let n : ℕ = length front in
          let e : count ≡ n = omega arith in
          ap (λ k. take k front ++ drop k blank) e ∙ ap (λ (b : List ℕ). b ++ drop n blank) (take-length front) ∙ ap (λ (b : List ℕ). front ++ b) (drop-replicate {X = ℕ} n 8 0)
          ∙ sym (short_magic front (omega arith))
      | inr le ↦
          let e : count ≡ 8 = omega arith in
          ap (λ k. take k front ++ drop k blank) e ∙ append-nil (take 8 front) ∙ sym (take-append-le 8 front blank le)
    ]

-- ---- zeros, piece by piece

pub begins_unmarked : (states : List DiskState) → Now states (λ disk. disk ≡ settled blank) → Now states (IsUnmarked [])
begins_unmarked [] is = tt
begins_unmarked (disk ∷ past) is = subst (λ (d : DiskState). IsUnmarked [] d) (sym is) blank_unmarked

pub told_same : (told : Option (List ℕ)) (n m : ℕ) → m ≡ n → IfSome told (λ bytes. length bytes ≡ n) → IfSome told (λ bytes. length bytes ≡ m)
told_same None n m e is = tt
told_same (Some bytes) n m e is = is ∙ sym e

zeros_at : (from done : ℕ) (rest : List ℕ) → from ≡ 8 + length rest → from + done ≡ 8 + length (rest ++ replicate done 0)
zeros_at from done rest is = omega (arith, length-append rest (replicate done 0), length-replicate {A = ℕ} done 0)

pub zeros_left : {T E : Type 0} (from done : ℕ) (rest image piece : List ℕ) (old mid new : List DiskState) (result : Result T E) → from ≡ 8 + length rest → Writes (from + done) piece mid new result
    → LeavesOnly old mid (MayBeLeft image) → Now mid (IsUnmarked (rest ++ replicate done 0)) → LeavesOnly old new (MayBeLeft image)
zeros_left from done rest image piece old mid new result is writes before has =
    joined old mid new (MayBeLeft image) before (grows (from + done) piece (rest ++ replicate done 0) image mid new result (zeros_at from done rest is) writes has).moments

pub next_zeros : (E : Type 0) (from done more : ℕ) (rest piece : List ℕ) (mid new : List DiskState) → from ≡ 8 + length rest → piece ≡ replicate more 0
    → Writes {T = Unit {0}} {E = E} (from + done) piece mid new (Ok tt) → Now mid (IsUnmarked (rest ++ replicate done 0)) → Now new (IsUnmarked (rest ++ replicate (done + more) 0))
next_zeros E from done more rest piece mid new is zeros writes has =
    subst (λ (b : List ℕ). Now new (IsUnmarked b))
    (append_assoc rest (replicate done 0) piece ∙ ap (λ (b : List ℕ). rest ++ (replicate done 0 ++ b)) zeros ∙ ap (λ (b : List ℕ). rest ++ b) (replicate-append-replicate done more 0))
    (grows {T = Unit {0}} {E = E} (from + done) piece (rest ++ replicate done 0) [] mid new (Ok tt) (zeros_at from done rest is) writes has).ok
