-- A number and its bytes: each gives the other back. What is put at a place is got there, and fields elsewhere stay.
use Rattle.std.proofs.Common.{◌≡◌, ℕ, zero, suc, ◌+◌, ◌-◌, ◌*◌, ◌/◌, ◌%◌, ◌^◌, ◌<◌, ◌≤◌, ◌⊎◌, List, [], ◌∷◌, ◌++◌, length, take, drop, Some, None, refl, sym, ap, subst, ◌∙◌, arith, inl, inr}
use Rattle.std.proofs.Math.Nat.{pow-suc, div-div-eq-div-mul}
use Rattle.std.proofs.lemmas.Bool.{cases_lt, le-leb, lt-leb}
use Rattle.std.proofs.lemmas.List.{take_at, drop_at, take-append-drop, length-append, length-take, length-drop, get_or-drop, get_or-take, get_or_past, drop-drop, take-append-le, drop-append-le, take-take, drop-take}
use Rattle.std.proofs.lemmas.Nat.{div_below}
use Rattle.std.specs.Int.{w16, w32, w64, to_le_bytes}
use Rattle.inc_bytes.specs.Fields.{AreBytes, le_number, le_bytes, field, field_at}

pub AreBytes-drop : (n : ℕ) (bytes : List ℕ) → AreBytes bytes → AreBytes (drop n bytes)
AreBytes-drop n bytes h i = rw get_or-drop (h (n + i))

pub AreBytes-take : (n : ℕ) (bytes : List ℕ) → AreBytes bytes → AreBytes (take n bytes)
AreBytes-take n bytes h i =
    elim (cases_lt i n) [
      | inl lt ↦ rw (get_or-take n bytes i 0 lt) (h i)
      | inr le ↦ rw (get_or_past (take n bytes) i 0 (omega (arith, length-take n bytes))) (omega arith)
    ]

AreBytes-rest : (b : ℕ) (bytes : List ℕ) → AreBytes (b ∷ bytes) → AreBytes bytes
AreBytes-rest b bytes h i = h (suc i)

-- ---- a number and its bytes

pub le_number-lt : (bytes : List ℕ) → AreBytes bytes → le_number bytes < 256 ^ length bytes
le_number-lt [] h = omega arith
le_number-lt (b ∷ bytes) h =
    let low : b < 256 = h 0 in
    let high = le_number-lt bytes (AreBytes-rest b bytes h) in
    omega (arith, pow-suc 256 (length bytes))

pub length-le_bytes : (count n : ℕ) → length (le_bytes count n) ≡ count
unfolding le_bytes
length-le_bytes zero n = refl
length-le_bytes (suc count) n = ap suc (length-le_bytes count (n / 256))

pub AreBytes-le_bytes : (count n : ℕ) → AreBytes (le_bytes count n)
unfolding le_bytes
AreBytes-le_bytes zero n i = omega arith
AreBytes-le_bytes (suc count) n zero = omega arith
AreBytes-le_bytes (suc count) n (suc i) = AreBytes-le_bytes count (n / 256) i

pub le_number-le_bytes : (count n : ℕ) → n < 256 ^ count → le_number (le_bytes count n) ≡ n
unfolding le_bytes
le_number-le_bytes zero n lt = omega arith
le_number-le_bytes (suc count) n lt =
    let below : n / 256 < 256 ^ count = div_below n 256 (256 ^ count) (omega arith) (omega (arith, pow-suc 256 count)) in
    let high = le_number-le_bytes count (n / 256) below in
    omega arith

pub le_bytes-le_number : (bytes : List ℕ) → AreBytes bytes → le_bytes (length bytes) (le_number bytes) ≡ bytes
unfolding le_bytes
le_bytes-le_number [] h = refl
le_bytes-le_number (b ∷ bytes) h =
    let low : b < 256 = h 0 in
    let first : (b + 256 * le_number bytes) % 256 ≡ b = omega arith in
    let rest : (b + 256 * le_number bytes) / 256 ≡ le_number bytes = omega arith in
    rw (first, rest, le_bytes-le_number bytes (AreBytes-rest b bytes h)) refl

-- ---- a field at a place

pub field_at-there : (count at : ℕ) (bytes : List ℕ) → at + count ≤ length bytes → field_at count bytes at ≡ Some (field count at bytes)
field_at-there count at bytes le = rw (le-leb (at + count) (length bytes) le) refl

pub field_at-missing : (count at : ℕ) (bytes : List ℕ) → length bytes < at + count → field_at count bytes at ≡ None
field_at-missing count at bytes lt = rw (lt-leb (at + count) (length bytes) lt) refl

-- below 256 ^ count
pub field-lt : (count at : ℕ) (bytes : List ℕ) → AreBytes bytes → at + count ≤ length bytes → field count at bytes < 256 ^ count
field-lt count at bytes h le =
    let len : length (take count (drop at bytes)) ≡ count = omega (arith, length-take count (drop at bytes), length-drop at bytes) in
    subst (λ (k : ℕ). field count at bytes < 256 ^ k) len (le_number-lt _ (AreBytes-take count _ (AreBytes-drop at bytes h)))

-- a field's bytes are those of its number
pub le_bytes-field : (count at : ℕ) (bytes : List ℕ) → AreBytes bytes → at + count ≤ length bytes → le_bytes count (field count at bytes) ≡ take count (drop at bytes)
le_bytes-field count at bytes h le =
    let len : length (take count (drop at bytes)) ≡ count = omega (arith, length-take count (drop at bytes), length-drop at bytes) in
    subst (λ (k : ℕ). le_bytes k (field count at bytes) ≡ take count (drop at bytes)) len (le_bytes-le_number _ (AreBytes-take count _ (AreBytes-drop at bytes h)))

-- what stands at a place begins with the field's bytes
pub field_then : (count at : ℕ) (bytes : List ℕ) → AreBytes bytes → at + count ≤ length bytes → drop at bytes ≡ le_bytes count (field count at bytes) ++ drop (at + count) bytes
field_then count at bytes h le = sym (ap (λ (x : List ℕ). x ++ drop (at + count) bytes) (le_bytes-field count at bytes h le) ∙ ap (λ (x : List ℕ). take count (drop at bytes) ++ x) (sym (drop-drop count at bytes)) ∙ take-append-drop count (drop at bytes))

-- a front of the bytes, and what stands next
pub take-then : (count at : ℕ) (bytes : List ℕ) → take at bytes ++ take count (drop at bytes) ≡ take (at + count) bytes
take-then count at bytes =
    sym (
    sym (take-append-drop at (take (at + count) bytes))
    ∙ ap (λ (x : List ℕ). x ++ drop at (take (at + count) bytes)) (take-take at (at + count) bytes (omega arith))
    ∙ ap (λ (x : List ℕ). take at bytes ++ x) (drop-take at count bytes))

-- a front of the bytes, and the bytes of the field next to it
pub field_next : (bytes : List ℕ) → AreBytes bytes → (count at n : ℕ) (front : List ℕ) → at + count ≤ length bytes → front ≡ take at bytes → field count at bytes ≡ n → front ++ le_bytes count n ≡ take (at + count) bytes
field_next bytes h count at n front le front-is n-is =
    ap (λ (x : List ℕ). x ++ le_bytes count n) front-is
    ∙ ap (λ (k : ℕ). take at bytes ++ le_bytes count k) (sym n-is)
    ∙ ap (λ (x : List ℕ). take at bytes ++ x) (le_bytes-field count at bytes h le)
    ∙ take-then count at bytes

-- a field that lies in a front of the bytes
pub field-take : (count at n : ℕ) (bytes : List ℕ) → at + count ≤ n → field count at (take n bytes) ≡ field count at bytes
field-take count at n bytes le =
    let split : at + (n - at) ≡ n = omega arith in
    let within : count ≤ n - at = omega arith in
    ap le_number (
    ap (λ (k : ℕ). take count (drop at (take k bytes))) (sym split)
    ∙ ap (take count) (drop-take at (n - at) bytes)
    ∙ take-take count (n - at) (drop at bytes) within)

-- what was put is read
pub field-put : (count n : ℕ) (front back : List ℕ) (at : ℕ) → length front ≡ at → n < 256 ^ count → field count at (front ++ (le_bytes count n ++ back)) ≡ n
field-put count n front back at len lt =
    rw (drop_at front (le_bytes count n ++ back) at len, take_at (le_bytes count n) back count (length-le_bytes count n)) (le_number-le_bytes count n lt)

-- the part of a list that lies in its front
part_in_front : (other place : ℕ) (front rest : List ℕ) → place + other ≤ length front → take other (drop place (front ++ rest)) ≡ take other (drop place front)
part_in_front other place front rest le =
    let begins : place ≤ length front = omega arith in
    let within : other ≤ length (drop place front) = omega (arith, length-drop place front) in
    rw (drop-append-le place front rest begins) (take-append-le other (drop place front) rest within)

-- the part of a list that lies behind its front
drop_behind : (place more : ℕ) (front rest : List ℕ) → length front + more ≡ place → drop place (front ++ rest) ≡ drop more rest
drop_behind place more front rest e =
    subst (λ (k : ℕ). drop k (front ++ rest) ≡ drop more rest) e
    (sym (drop-drop more (length front) (front ++ rest)) ∙ ap (drop more) (drop_at front rest (length front) refl))

-- a field that lies before or after what was put is what it was
pub field-elsewhere : (count at other place : ℕ) (piece bytes : List ℕ) → length piece ≡ count → at + count ≤ length bytes → (place + other ≤ at) ⊎ (at + count ≤ place)
    → field other place (take at bytes ++ piece ++ drop (at + count) bytes) ≡ field other place bytes
field-elsewhere count at other place piece bytes len le apart =
    let front-len : length (take at bytes) ≡ at = omega (arith, length-take at bytes) in
    let both-len : length (take at bytes ++ piece) ≡ at + count = omega (arith, length-append (take at bytes) piece) in
    elim apart [
      | inl before ↦
          ap le_number (
          part_in_front other place (take at bytes ++ piece) (drop (at + count) bytes) (omega arith)
          ∙ part_in_front other place (take at bytes) piece (omega arith)
          ∙ sym (part_in_front other place (take at bytes) (drop at bytes) (omega arith))
          ∙ ap (λ (x : List ℕ). take other (drop place x)) (take-append-drop at bytes))
      | inr after ↦
          let gap : (at + count) + (place - (at + count)) ≡ place = omega arith in
          ap (λ (x : List ℕ). le_number (take other x)) (
          drop_behind place (place - (at + count)) (take at bytes ++ piece) (drop (at + count) bytes) (omega arith)
          ∙ drop-drop (place - (at + count)) (at + count) bytes
          ∙ ap (λ (k : ℕ). drop k bytes) gap)
    ]

-- ---- the bytes that std gives are those of this repository

pub le_bytes_2 : (n : ℕ) → to_le_bytes w16 n ≡ le_bytes 2 n
unfolding le_bytes
le_bytes_2 n = refl

pub le_bytes_4 : (n : ℕ) → to_le_bytes w32 n ≡ le_bytes 4 n
unfolding le_bytes
le_bytes_4 n = simp div-div-eq-div-mul

pub le_bytes_6 : (n : ℕ) → take 6 (to_le_bytes w64 n) ≡ le_bytes 6 n
unfolding le_bytes
le_bytes_6 n = simp div-div-eq-div-mul

pub le_bytes_8 : (n : ℕ) → to_le_bytes w64 n ≡ le_bytes 8 n
unfolding le_bytes
le_bytes_8 n = simp div-div-eq-div-mul
