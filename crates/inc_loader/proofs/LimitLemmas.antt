-- A stream stays within its limit, byte by byte.
use Rattle.std.proofs.Common.{◌≡◌, ℕ, ◌+◌, ◌-◌, ◌^◌, ◌<◌, ◌≤◌, Bool, true, false, cond, eqb, List, [], ◌∷◌, ◌++◌, length, slice_index, Option, Some, None, refl, arith}
use Rattle.std.proofs.lemmas.Bool.{eqb-false, ltb-true, leb-true, lt-ltb, and_parts, and_from, cond_both}
use Rattle.std.specs.Prelude.{nat_lt, nat_le}
use Rattle.std.proofs.lemmas.List.{length-append}
use Rattle.inc_frame.specs.Frames.{frame_length, piece_of}
use Rattle.inc_frame.specs.Fronts.{StreamState, Greeting, Framing, Ended, Faulty, StreamFront, ends_stream, is_hello_byte, hello_front, frame_fault, unless_fault, within_limit, grown_front, frame_front, byte_front, front_from, byte_count, fault_of, has_ended}
use Rattle.inc_frame.specs.declared.piece.Piece.{Piece}
use Rattle.inc_frame.specs.declared.fault.FrameFault.{FrameFault}
use Rattle.inc_loader.specs.Limits.{is_within}

abbrev pub FrontWithin : StreamFront → Type 0
FrontWithin front = is_within front.state ≡ true

begins_within : (second : Bool) → is_within (Framing (cond second (2 ^ 36) (2 ^ 33)) 8 []) ≡ true
begins_within true = refl
begins_within false = refl

hello_within : (seen : List ℕ) (byte : ℕ) → is_within (Greeting seen) ≡ true → FrontWithin (hello_front seen byte)
unfolding hello_front
hello_within seen byte h =
    cond_both (is_hello_byte (length seen) byte) _ _ FrontWithin
    (λ _. cond_both (eqb (length seen) 7) _ _ FrontWithin (λ _. begins_within (eqb (slice_index seen 6) 2))
    (λ more. lt-ltb (length (seen ++ byte ∷ [])) 8 (grind (arith, length-append seen (byte ∷ []), ltb-true (length seen) 8 h, eqb-false (length seen) 7 more))))
    (λ _. refl)

limit_within : (limit count : ℕ) (rest : List ℕ) (pieces : List Piece) → count ≤ limit → nat_le limit (2 ^ 36) ≡ true → FrontWithin (within_limit limit count rest pieces)
limit_within limit count rest pieces low small =
    cond_both (eqb count limit) _ _ FrontWithin (λ _. refl)
    (λ less. and_from (nat_lt count limit) (nat_le limit (2 ^ 36)) (lt-ltb count limit (grind (arith, low, eqb-false count limit less))) small)

grown_within : (limit count : ℕ) (frame : List ℕ) → count ≤ limit → nat_le limit (2 ^ 36) ≡ true → FrontWithin (grown_front limit count frame)
unfolding grown_front
grown_within limit count frame low small =
    cond_both (eqb (length frame) (25 + frame_length frame)) _ _ FrontWithin
    (λ _. limit_within limit count [] (piece_of frame ∷ []) low small) (λ _. limit_within limit count frame [] low small)

unless_within : (fault : Option FrameFault) (front : StreamFront) → FrontWithin front → FrontWithin (unless_fault fault front)
unless_within None front h = h
unless_within (Some fault) front h = refl

frame_within : (limit place : ℕ) (rest frame : List ℕ) → is_within (Framing limit place rest) ≡ true → FrontWithin (frame_front limit place frame)
unfolding frame_front
frame_within limit place rest frame h =
    let both : (nat_lt place limit ≡ true) × (nat_le limit (2 ^ 36) ≡ true) = and_parts (nat_lt place limit) (nat_le limit (2 ^ 36)) h in
    let low : place < limit = ltb-true place limit both.0 in
    cond_both (ends_stream frame) _ _ FrontWithin (λ _. refl)
    (λ _. unless_within (frame_fault frame place) (grown_front limit (place + 1) frame) (grown_within limit (place + 1) frame (omega arith) both.1))

byte_within : (state : StreamState) (byte : ℕ) → is_within state ≡ true → FrontWithin (byte_front state byte)
unfolding byte_front
byte_within (Greeting seen) byte h = hello_within seen byte h
byte_within (Framing limit place rest) byte h = frame_within limit place rest (rest ++ byte ∷ []) h
byte_within (Ended count) byte h = refl
byte_within (Faulty fault) byte h = refl

pub bytes_within : (state : StreamState) (bytes : List ℕ) → is_within state ≡ true → FrontWithin (front_from state bytes)
unfolding front_from
bytes_within state [] h = h
bytes_within state (byte ∷ bytes) h = bytes_within (byte_front state byte).state bytes (byte_within state byte h)

-- a stream that goes on has fewer bytes than any stream may have
pub count_within : (state : StreamState) → is_within state ≡ true → fault_of state ≡ None → has_ended state ≡ false → byte_count state < 2 ^ 36
count_within (Greeting seen) h fine going = omega (arith, ltb-true (length seen) 8 h)
count_within (Framing limit count rest) h fine going =
    let both : (nat_lt count limit ≡ true) × (nat_le limit (2 ^ 36) ≡ true) = and_parts (nat_lt count limit) (nat_le limit (2 ^ 36)) h in
    omega (arith, ltb-true count limit both.0, leb-true limit (2 ^ 36) both.1)
count_within (Ended count) h fine going = absurd cc
count_within (Faulty fault) h fine going = absurd cc

-- a stream comes nearer to its end with each byte, until nothing more is to be read
pub nearer : (settled after : Bool) (count next : ℕ) → settled ≡ false → count < 2 ^ 36 → (after ≡ false → count < next)
    → cond after 0 (2 ^ 36 - next + 1) < cond settled 0 (2 ^ 36 - count + 1)
nearer true after count next e low on = absurd cc
nearer false true count next e low on = omega arith
nearer false false count next e low on = let more : count < next = on refl in omega arith
