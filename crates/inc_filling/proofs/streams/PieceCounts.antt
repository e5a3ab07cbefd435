-- How many pieces a stream may have: fewer than its limit in bytes.
use Rattle.std.proofs.Common.{◌≡◌, ℕ, ◌+◌, ◌-◌, ◌^◌, ◌<◌, ◌≤◌, Bool, true, false, cond, eqb, List, [], ◌∷◌, ◌++◌, length, slice_index, Option, Some, None, refl, arith}
use Rattle.std.specs.Prelude.{nat_lt, nat_le}
use Rattle.std.proofs.lemmas.Bool.{ltb-true, and_parts, cond_both}
use Rattle.std.proofs.lemmas.List.{length-append}
use Rattle.inc_frame.specs.Frames.{frame_length, piece_of}
use Rattle.inc_frame.specs.Fronts.{StreamState, Greeting, Framing, Ended, Faulty, StreamFront, ends_stream, is_hello_byte, hello_front, frame_fault, unless_fault, within_limit, grown_front, frame_front, byte_front, front_from, stream_front}
use Rattle.inc_frame.specs.declared.piece.Piece.{Piece}
use Rattle.inc_frame.specs.declared.fault.FrameFault.{FrameFault}
use Rattle.inc_loader.specs.Limits.{is_within}
use Rattle.inc_loader.proofs.LimitLemmas.{bytes_within}

-- as many bytes as a stream may still have
abbrev most_left : StreamState → ℕ
most_left (Greeting seen) = 2 ^ 36
most_left (Framing limit count rest) = limit - count
most_left (Ended count) = 0
most_left (Faulty fault) = 0

abbrev IsFew : ℕ → StreamFront → Type 0
IsFew left front = length front.pieces + most_left front.state ≤ left

begins_few : (second : Bool) → IsFew (2 ^ 36) (record { pieces = []; state = Framing (cond second (2 ^ 36) (2 ^ 33)) 8 [] })
begins_few true = omega arith
begins_few false = omega arith

hello_few : (seen : List ℕ) (byte : ℕ) → IsFew (2 ^ 36) (hello_front seen byte)
unfolding hello_front
hello_few seen byte =
    cond_both (is_hello_byte (length seen) byte) _ _ (IsFew (2 ^ 36))
    (λ _. cond_both (eqb (length seen) 7) _ _ (IsFew (2 ^ 36)) (λ _. begins_few (eqb (slice_index seen 6) 2)) (λ _. omega arith))
    (λ _. omega arith)

limit_few : (limit count : ℕ) (rest : List ℕ) (pieces : List Piece) → count < limit → length pieces ≤ 1 → IsFew (limit - count) (within_limit limit (count + 1) rest pieces)
limit_few limit count rest pieces low one =
    cond_both (eqb (count + 1) limit) _ _ (IsFew (limit - count)) (λ _. omega arith) (λ less. omega arith)

grown_few : (limit count : ℕ) (frame : List ℕ) → count < limit → IsFew (limit - count) (grown_front limit (count + 1) frame)
unfolding grown_front
grown_few limit count frame low =
    cond_both (eqb (length frame) (25 + frame_length frame)) _ _ (IsFew (limit - count))
    (λ _. limit_few limit count [] (piece_of frame ∷ []) low (omega arith)) (λ _. limit_few limit count frame [] low (omega arith))

unless_few : (fault : Option FrameFault) (left : ℕ) (front : StreamFront) → IsFew left front → IsFew left (unless_fault fault front)
unless_few None left front h = h
unless_few (Some fault) left front h = omega arith

frame_few : (limit place : ℕ) (rest frame : List ℕ) → is_within (Framing limit place rest) ≡ true → IsFew (limit - place) (frame_front limit place frame)
unfolding frame_front
frame_few limit place rest frame h =
    let both : (nat_lt place limit ≡ true) × (nat_le limit (2 ^ 36) ≡ true) = and_parts (nat_lt place limit) (nat_le limit (2 ^ 36)) h in
    let low : place < limit = ltb-true place limit both.0 in
    cond_both (ends_stream frame) _ _ (IsFew (limit - place)) (λ _. omega arith)
    (λ _. unless_few (frame_fault frame place) (limit - place) (grown_front limit (place + 1) frame) (grown_few limit place frame low))

byte_few : (state : StreamState) (byte : ℕ) → is_within state ≡ true → IsFew (most_left state) (byte_front state byte)
unfolding byte_front
byte_few (Greeting seen) byte h = hello_few seen byte
byte_few (Framing limit place rest) byte h = frame_few limit place rest (rest ++ byte ∷ []) h
byte_few (Ended count) byte h = omega arith
byte_few (Faulty fault) byte h = omega arith

byte_within : (state : StreamState) (byte : ℕ) → is_within state ≡ true → is_within (byte_front state byte).state ≡ true
unfolding front_from
byte_within state byte h = bytes_within state (byte ∷ []) h

bytes_few : (state : StreamState) (bytes : List ℕ) → is_within state ≡ true → IsFew (most_left state) (front_from state bytes)
unfolding front_from
bytes_few state [] h = omega arith
bytes_few state (byte ∷ bytes) h =
    let first = byte_few state byte h in
    let rest = bytes_few (byte_front state byte).state bytes (byte_within state byte h) in
    omega (arith, length-append (byte_front state byte).pieces (front_from (byte_front state byte).state bytes).pieces)

pub few_pieces : (bytes : List ℕ) → length (stream_front bytes).pieces ≤ 2 ^ 36
few_pieces bytes = let few = bytes_few (Greeting []) bytes refl in omega arith
