-- A frame's fields in its bytes, and what is written is read again.
use Rattle.std.proofs.Common.{◌≡◌, ℕ, suc, ◌+◌, ◌*◌, ◌/◌, ◌%◌, ◌^◌, ◌<◌, ◌≤◌, ◌⊎◌, inl, inr, Bool, true, false, cond, eqb, List, [], ◌∷◌, ◌++◌, length, get_or, take, drop, Some, refl, sym, ap, subst, ◌∙◌, arith}
use Rattle.std.specs.Prelude.{All}
use Rattle.std.specs.List.{flat_map}
use Rattle.std.proofs.lemmas.List.{append_assoc, take_at, drop_at, take-append-le, drop-append-le, length-append, length-drop, get_or_append_left, get_or_at}
use Rattle.inc_bytes.specs.Fields.{le_number, le_bytes, field, field_at}
use Rattle.inc_bytes.proofs.Numbers.{length-le_bytes, field_at-there, field-put}
use Rattle.inc_frame.specs.Frames.{hello_bytes, kind_byte, frame_head, frame_bytes, stream_bytes, IsPiece, IsStream, stream_limit, frame_length, piece_of}
use Rattle.inc_frame.specs.Fronts.{StreamState, Greeting, Framing, Ended, Faulty, StreamFront, no_piece, joined_front, within_limit, front_from, stream_front}
use Rattle.inc_frame.specs.declared.piece.Piece.{Piece}
use Rattle.inc_frame.specs.declared.fault.FrameFault.{FrameFault}
use Rattle.inc_frame.specs.declared.fault.FrameFault.TheVariants.{TooLong}
use Rattle.inc_frame.proofs.FrontLemmas.{front_with, front_from-append, front_from-faulty, front_from-bytes, frame_length-append, within_limit-pieces, grown_whole, below_limit, GrowsSoundly, grows, hello_front_1, hello_front_2, end_front}

-- a part of a frame's head
part_of_head : (count at : ℕ) (head bytes : List ℕ) → at + count ≤ length head → take count (drop at (head ++ bytes)) ≡ take count (drop at head)
part_of_head count at head bytes le =
    let begins : at ≤ length head = omega arith in
    let within : count ≤ length (drop at head) = omega (arith, length-drop at head) in
    rw (drop-append-le at head bytes begins) (take-append-le count (drop at head) bytes within)

pub piece_parts : (head bytes id : List ℕ) (number : ℕ) → length head ≡ 25 → id ≡ take 16 (drop 1 head) → Some number ≡ field_at 4 head 19
    → record { id = id; hash = eqb (get_or head 17 0) 1; number = number; compression = get_or head 18 0; bytes = bytes } ≡ piece_of (head ++ bytes)
unfolding piece_of
piece_parts head bytes id number len id-is number-is =
    let id-there : take 16 (drop 1 (head ++ bytes)) ≡ id = part_of_head 16 1 head bytes (omega arith) ∙ sym id-is in
    let found : Some number ≡ Some (field 4 19 head) = number-is ∙ field_at-there 4 19 head (omega arith) in
    let number-there : field 4 19 (head ++ bytes) ≡ number = ap le_number (part_of_head 4 19 head bytes (omega arith)) ∙ cc in
    let hash-there : get_or (head ++ bytes) 17 0 ≡ get_or head 17 0 = get_or_append_left head bytes 0 17 (omega arith) in
    let compression-there : get_or (head ++ bytes) 18 0 ≡ get_or head 18 0 = get_or_append_left head bytes 0 18 (omega arith) in
    let bytes-there : drop 25 (head ++ bytes) ≡ bytes = drop_at head bytes 25 len in
    rw (id-there, number-there, hash-there, compression-there, bytes-there) refl

-- ---- the fields of a piece's frame

head_length : (p : Piece) → length p.id ≡ 16 → length (frame_head p) ≡ 25
unfolding frame_head
head_length p len =
    let kinds = kind_byte p.hash ∷ p.compression ∷ [] in
    let number = le_bytes 4 p.number in
    let size = le_bytes 2 (length p.bytes) in
    omega (arith, length-append (1 ∷ p.id ++ kinds ++ number) size, length-append (1 ∷ p.id ++ kinds) number, length-append (1 ∷ p.id) kinds, length-le_bytes 4 p.number, length-le_bytes 2 (length p.bytes))

head_id : (p : Piece) → length p.id ≡ 16 → take 16 (drop 1 (frame_head p)) ≡ p.id
unfolding frame_head
head_id p len =
    let kinds = kind_byte p.hash ∷ p.compression ∷ [] in
    let number = le_bytes 4 p.number in
    let size = le_bytes 2 (length p.bytes) in
    let regrouped : p.id ++ kinds ++ number ++ size ≡ p.id ++ (kinds ++ (number ++ size)) = append_assoc (p.id ++ kinds) number size ∙ append_assoc p.id kinds (number ++ size) in
    ap (take 16) regrouped ∙ take_at p.id (kinds ++ (number ++ size)) 16 len

head_kind : (p : Piece) → length p.id ≡ 16 → get_or (frame_head p) 17 0 ≡ kind_byte p.hash
unfolding frame_head
head_kind p len =
    let kinds = kind_byte p.hash ∷ p.compression ∷ [] in
    let number = le_bytes 4 p.number in
    let size = le_bytes 2 (length p.bytes) in
    let front = 1 ∷ p.id in
    let regrouped : front ++ kinds ++ number ++ size ≡ front ++ (kinds ++ (number ++ size)) = append_assoc (front ++ kinds) number size ∙ append_assoc front kinds (number ++ size) in
    ap (λ (x : List ℕ). get_or x 17 0) regrouped ∙ get_or_at front (kind_byte p.hash) (p.compression ∷ (number ++ size)) 0 17 (omega arith)

head_compression : (p : Piece) → length p.id ≡ 16 → get_or (frame_head p) 18 0 ≡ p.compression
unfolding frame_head
head_compression p len =
    let kinds = kind_byte p.hash ∷ p.compression ∷ [] in
    let number = le_bytes 4 p.number in
    let size = le_bytes 2 (length p.bytes) in
    let front = 1 ∷ p.id in
    let longer = front ++ kind_byte p.hash ∷ [] in
    let regrouped : front ++ kinds ++ number ++ size ≡ longer ++ (p.compression ∷ (number ++ size)) =
    append_assoc (front ++ kinds) number size ∙ append_assoc front kinds (number ++ size) ∙ sym (append_assoc front (kind_byte p.hash ∷ []) (p.compression ∷ (number ++ size))) in
    let len-is : length longer ≡ 18 = omega (arith, length-append front (kind_byte p.hash ∷ [])) in
    ap (λ (x : List ℕ). get_or x 18 0) regrouped ∙ get_or_at longer p.compression (number ++ size) 0 18 len-is

head_number : (p : Piece) → length p.id ≡ 16 → p.number < 2 ^ 32 → field 4 19 (frame_head p) ≡ p.number
unfolding frame_head
head_number p len lt =
    let kinds = kind_byte p.hash ∷ p.compression ∷ [] in
    let size = le_bytes 2 (length p.bytes) in
    let front = 1 ∷ p.id ++ kinds in
    let len-is : length front ≡ 19 = omega (arith, length-append (1 ∷ p.id) kinds) in
    ap (field 4 19) (append_assoc front (le_bytes 4 p.number) size) ∙ field-put 4 p.number front size 19 len-is lt

low_and_high : (n : ℕ) → n ≤ 4096 → n % 256 + 256 * (n / 256 % 256) ≡ n
low_and_high n le = omega arith

head_size : (p : Piece) → length p.id ≡ 16 → length p.bytes ≤ 4096 → frame_length (frame_head p) ≡ length p.bytes
unfolding frame_head le_bytes
head_size p len le =
    let kinds = kind_byte p.hash ∷ p.compression ∷ [] in
    let number = le_bytes 4 p.number in
    let front = 1 ∷ p.id ++ kinds ++ number in
    let low = length p.bytes % 256 in
    let high = length p.bytes / 256 % 256 in
    let front-len : length front ≡ 23 = omega (arith, length-append (1 ∷ p.id ++ kinds) number, length-append (1 ∷ p.id) kinds, length-le_bytes 4 p.number) in
    let longer = front ++ low ∷ [] in
    let longer-len : length longer ≡ 24 = omega (arith, length-append front (low ∷ [])) in
    let first : get_or (front ++ low ∷ high ∷ []) 23 0 ≡ low = get_or_at front low (high ∷ []) 0 23 front-len in
    let second : get_or (front ++ low ∷ high ∷ []) 24 0 ≡ high =
    ap (λ (x : List ℕ). get_or x 24 0) (sym (append_assoc front (low ∷ []) (high ∷ []))) ∙ get_or_at longer high [] 0 24 longer-len in
    rw (first, second) (low_and_high (length p.bytes) le)

kind_again : (hash : Bool) → eqb (kind_byte hash) 1 ≡ hash
kind_again true = refl
kind_again false = refl

kind_low : (hash : Bool) → kind_byte hash ≤ 1
kind_low true = omega arith
kind_low false = omega arith

piece_again : (p : Piece) → IsPiece p → piece_of (frame_bytes p) ≡ p
unfolding frame_bytes
piece_again p fits =
    let head = frame_head p in
    let len = head_length p fits.id_length in
    let number : Some p.number ≡ field_at 4 head 19 = sym (field_at-there 4 19 head (omega arith) ∙ ap (λ (n : ℕ). Some n) (head_number p fits.id_length fits.number)) in
    let parts = piece_parts head p.bytes p.id p.number len (sym (head_id p fits.id_length)) number in
    let made : Piece = record { id = p.id; hash = p.hash; number = p.number; compression = p.compression; bytes = p.bytes } in
    let hash : eqb (get_or head 17 0) 1 ≡ p.hash = ap (λ (n : ℕ). eqb n 1) (head_kind p fits.id_length) ∙ kind_again p.hash in
    let same : record { id = p.id; hash = eqb (get_or head 17 0) 1; number = p.number; compression = get_or head 18 0; bytes = p.bytes } ≡ made = rw (hash, head_compression p fits.id_length) refl in
    sym parts ∙ same

-- ---- a frame is read again

first_is_frame : (p : Piece) → get_or (frame_bytes p) 0 0 ≡ 1
unfolding frame_bytes frame_head
first_is_frame p = refl

frame_sound : (p : Piece) → IsPiece p → GrowsSoundly 0 (frame_bytes p)
unfolding frame_bytes
frame_sound p fits =
    let head = frame_head p in
    let len = head_length p fits.id_length in
    let size : frame_length (head ++ p.bytes) ≡ length p.bytes = frame_length-append head p.bytes (omega arith) ∙ head_size p fits.id_length fits.most in
    record {
      first = λ _. first_is_frame p;
      kind = λ _ _. omega (arith, get_or_append_left head p.bytes 0 17 (omega arith), head_kind p fits.id_length, kind_low p.hash);
      size = λ _ _. (omega (arith, size, fits.some), omega (arith, size, fits.most));
      short = λ _. omega (arith, size, length-append head p.bytes);
    }

pub frame_bytes-length : (p : Piece) → IsPiece p → length (frame_bytes p) ≡ 25 + length p.bytes
unfolding frame_bytes
frame_bytes-length p fits = omega (arith, length-append (frame_head p) p.bytes, head_length p fits.id_length)

frame_size : (p : Piece) → IsPiece p → length (frame_bytes p) ≡ 25 + frame_length (frame_bytes p)
unfolding frame_bytes
frame_size p fits =
    let head = frame_head p in
    let len = head_length p fits.id_length in
    omega (arith, length-append head p.bytes, frame_length-append head p.bytes (omega arith), head_size p fits.id_length fits.most)

limit_state : (limit count : ℕ) → within_limit limit count [] [] ≡ no_piece (within_limit limit count [] []).state
limit_state limit count =
    elim (eqb count limit) as (λ full. cond full (no_piece (Faulty (TooLong limit))) (no_piece (Framing limit count [])) ≡ no_piece (cond full (no_piece (Faulty (TooLong limit))) (no_piece (Framing limit count []))).state) [ true ↦ refl | false ↦ refl ]

pub frame_again : (p : Piece) (limit place : ℕ) (more : List ℕ) → IsPiece p → place + length (frame_bytes p) ≤ limit
    → front_from (Framing limit place []) (frame_bytes p ++ more) ≡ joined_front (p ∷ []) (front_from (within_limit limit (place + length (frame_bytes p)) [] []).state more)
frame_again p limit place more fits within =
    let frame = frame_bytes p in
    let count = place + length frame in
    let next = (within_limit limit count [] []).state in
    let whole : front_from (Framing limit place []) frame ≡ front_with (p ∷ []) next =
    grows limit frame [] place (omega (arith, frame_bytes-length p fits)) (frame_sound p fits) within
    ∙ grown_whole limit count frame (frame_size p fits)
    ∙ within_limit-pieces limit count (piece_of frame ∷ []) next (limit_state limit count)
    ∙ ap (λ (piece : Piece). front_with (piece ∷ []) next) (piece_again p fits) in
    front_from-bytes (Framing limit place []) next (p ∷ []) frame more whole

-- ---- a stream is read again

frames_again : (pieces : List Piece) (limit place : ℕ) (more : List ℕ) → All IsPiece pieces → place + length (flat_map frame_bytes pieces) + 1 ≤ limit
    → front_from (Framing limit place []) (flat_map frame_bytes pieces ++ (2 ∷ more)) ≡ front_with pieces (Ended (place + length (flat_map frame_bytes pieces) + 1))
frames_again [] limit place more each within = end_front limit place more ∙ ap (λ (n : ℕ). front_with [] (Ended n)) (omega arith)
frames_again (p ∷ pieces) limit place more each within =
    let frame = frame_bytes p in
    let later = flat_map frame_bytes pieces in
    let rest = later ++ (2 ∷ more) in
    let both : length (frame ++ later) ≡ length frame + length later = length-append frame later in
    let next : (within_limit limit (place + length frame) [] []).state ≡ Framing limit (place + length frame) [] =
    ap (λ (front : StreamFront). front.state) (below_limit limit (place + length frame) [] (omega arith)) in
    ap (λ (x : List ℕ). front_from (Framing limit place []) x) (append_assoc frame later (2 ∷ more))
    ∙ frame_again p limit place rest (each 0 p (omega arith)) (omega arith)
    ∙ ap (λ (state : StreamState). joined_front (p ∷ []) (front_from state rest)) next
    ∙ ap (λ (front : StreamFront). joined_front (p ∷ []) front) (frames_again pieces limit (place + length frame) more (λ k d lt. each (suc k) d (omega arith)) (omega arith))
    ∙ ap (λ (n : ℕ). front_with (p ∷ pieces) (Ended n)) (omega arith)

hello_again : (version : ℕ) (more : List ℕ) → (version ≡ 1) ⊎ (version ≡ 2) → front_from (Greeting []) (hello_bytes version ++ more) ≡ front_from (Framing (stream_limit version) 8 []) more
hello_again version more known =
    let Again : ℕ → Type 0 = λ (v : ℕ). front_from (Greeting []) (hello_bytes v ++ more) ≡ front_from (Framing (stream_limit v) 8 []) more in
    elim known [
      | inl one ↦ subst Again (sym one) (hello_front_1 more)
      | inr two ↦ subst Again (sym two) (hello_front_2 more)
    ]

hello_length : (version : ℕ) → length (hello_bytes version) ≡ 8
unfolding hello_bytes
hello_length version = refl

-- a spelled stream's front is its pieces and its end, whatever follows
pub stream_again : (version : ℕ) (pieces : List Piece) (more : List ℕ) → IsStream version pieces
    → stream_front (stream_bytes version pieces ++ more) ≡ front_with pieces (Ended (length (stream_bytes version pieces)))
unfolding stream_bytes
stream_again version pieces more fits =
    let hello = hello_bytes version in
    let frames = flat_map frame_bytes pieces in
    let end = 2 ∷ [] in
    let len : length (hello ++ frames ++ end) ≡ 8 + length frames + 1 = omega (arith, length-append (hello ++ frames) end, length-append hello frames, hello_length version) in
    let within : length (hello ++ frames ++ end) ≤ stream_limit version = fits.within in
    let regrouped : (hello ++ frames ++ end) ++ more ≡ hello ++ (frames ++ (2 ∷ more)) = append_assoc (hello ++ frames) end more ∙ append_assoc hello frames (2 ∷ more) in
    ap (λ (x : List ℕ). stream_front x) regrouped
    ∙ hello_again version (frames ++ (2 ∷ more)) fits.known
    ∙ frames_again pieces (stream_limit version) 8 more fits.each (omega (arith, len, within))
    ∙ ap (λ (n : ℕ). front_with pieces (Ended n)) (sym len)

-- bytes with a fault begin no stream
pub refused_front : (bytes more extra : List ℕ) (fault : FrameFault) (version : ℕ) (pieces : List Piece) → (stream_front bytes).state ≡ Faulty fault → IsStream version pieces
    → bytes ++ more ≡ stream_bytes version pieces ++ extra → ⊥
refused_front bytes more extra fault version pieces faulty fits same =
    let refused : (stream_front (bytes ++ more)).state ≡ Faulty fault =
    ap (λ (front : StreamFront). front.state) (front_from-append (Greeting []) bytes more)
    ∙ ap (λ (state : StreamState). (front_from state more).state) faulty
    ∙ ap (λ (front : StreamFront). front.state) (front_from-faulty fault more) in
    let read : (stream_front (stream_bytes version pieces ++ extra)).state ≡ Ended (length (stream_bytes version pieces)) = ap (λ (front : StreamFront). front.state) (stream_again version pieces extra fits) in
    let both : (stream_front (bytes ++ more)).state ≡ (stream_front (stream_bytes version pieces ++ extra)).state = ap (λ (x : List ℕ). (stream_front x).state) same in
    let clash : Faulty fault ≡ Ended (length (stream_bytes version pieces)) = sym refused ∙ both ∙ read in
    cc
