-- Fields written one after another over 56 bytes give the spelling. It is read again, and what is read is spelled so.
use Rattle.std.proofs.Common.{◌≡◌, ℕ, ◌+◌, ◌-◌, ◌≤◌, List, [], ◌++◌, replicate, length, take, drop, Result, Ok, refl, ap, subst, ◌∙◌, arith}
use Rattle.std.specs.Prelude.{IfOk}
use Rattle.std.proofs.lemmas.List.{take_at, length-append, length-take, length-drop, drop_all, append-nil}
use Rattle.inc_bytes.specs.Fields.{AreBytes, le_bytes}
use Rattle.inc_bytes.proofs.Numbers.{length-le_bytes}
use Rattle.inc_header.specs.declared.header.Header.{Header}
use Rattle.inc_header.specs.declared.header.HeaderFault.{HeaderFault}
use Rattle.inc_header.specs.Header.{flags_of, place_of, header_bytes, IsHeader, header_of}
use Rattle.inc_header.proofs.Spelling.{is_spelled, is_accepted, header_bytes-length}

-- what a write of a piece over the bytes from a place on leaves
abbrev Put : ℕ → ℕ → List ℕ → List ℕ → List ℕ → Type 0
Put at count piece old new = new ≡ take at old ++ piece ++ drop (at + count) old

-- so far this front is written
record Written (at : ℕ) (front bytes : List ℕ) : Type 0 where
  front_is : take at bytes ≡ front
  whole : length bytes ≡ 56

written_more : (at count : ℕ) (front piece old new : List ℕ) → Written at front old → length piece ≡ count → at + count ≤ 56 → Put at count piece old new → Written (at + count) (front ++ piece) new
written_more at count front piece old new w len fits put =
    let is : new ≡ front ++ piece ++ drop (at + count) old = put ∙ ap (λ (x : List ℕ). x ++ piece ++ drop (at + count) old) w.front_is in
    let front-len : length front ≡ at = omega (arith, ap length w.front_is, length-take at old, w.whole) in
    let both-len : length (front ++ piece) ≡ at + count = omega (arith, length-append front piece) in
    record {
      front_is = ap (take (at + count)) is ∙ take_at (front ++ piece) (drop (at + count) old) (at + count) both-len;
      whole = ap length is ∙ omega (arith, length-append (front ++ piece) (drop (at + count) old), length-drop (at + count) old, w.whole);
    }

pub spelled : (h : Header) (flags place size : ℕ) (id b1 b2 b3 b4 b5 b6 b7 : List ℕ) → id ≡ h.id → flags ≡ flags_of h.kind → place ≡ place_of h.kind → size ≡ h.size
    → Put 0 8 (le_bytes 8 0x5346434e49) (replicate 56 0) b1 → Put 8 8 (le_bytes 8 1) b1 b2 → Put 16 2 (le_bytes 2 56) b2 b3 → Put 18 2 (le_bytes 2 4096) b3 b4
    → Put 20 4 (le_bytes 4 flags) b4 b5 → Put 24 8 (le_bytes 8 place) b5 b6 → Put 32 8 (le_bytes 8 size) b6 b7
    → take 40 b7 ++ id ≡ header_bytes h
unfolding header_bytes
spelled h flags place size id b1 b2 b3 b4 b5 b6 b7 id-is flags-is place-is size-is p1 p2 p3 p4 p5 p6 p7 =
    let magic = le_bytes 8 0x5346434e49 in
    let version = le_bytes 8 1 in
    let header_size = le_bytes 2 56 in
    let block_size = le_bytes 2 4096 in
    let w0 : Written 0 [] (replicate 56 0) = record { front_is = refl; whole = refl } in
    let w1 = written_more 0 8 [] _ (replicate 56 0) b1 w0 (length-le_bytes 8 0x5346434e49) (omega arith) p1 in
    let w2 = written_more 8 8 _ _ b1 b2 w1 (length-le_bytes 8 1) (omega arith) p2 in
    let w3 = written_more 16 2 _ _ b2 b3 w2 (length-le_bytes 2 56) (omega arith) p3 in
    let w4 = written_more 18 2 _ _ b3 b4 w3 (length-le_bytes 2 4096) (omega arith) p4 in
    let w5 = written_more 20 4 _ _ b4 b5 w4 (length-le_bytes 4 flags) (omega arith) p5 in
    let w6 = written_more 24 8 _ _ b5 b6 w5 (length-le_bytes 8 place) (omega arith) p6 in
    let w7 = written_more 32 8 _ _ b6 b7 w6 (length-le_bytes 8 size) (omega arith) p7 in
    ap (λ (x : List ℕ). take 40 b7 ++ x) id-is
    ∙ ap (λ (x : List ℕ). x ++ h.id) w7.front_is
    ∙ ap (λ (n : ℕ). magic ++ version ++ header_size ++ block_size ++ le_bytes 4 n ++ le_bytes 8 place ++ le_bytes 8 size ++ h.id) flags-is
    ∙ ap (λ (n : ℕ). magic ++ version ++ header_size ++ block_size ++ le_bytes 4 (flags_of h.kind) ++ le_bytes 8 n ++ le_bytes 8 size ++ h.id) place-is
    ∙ ap (λ (n : ℕ). magic ++ version ++ header_size ++ block_size ++ le_bytes 4 (flags_of h.kind) ++ le_bytes 8 (place_of h.kind) ++ le_bytes 8 n ++ h.id) size-is

-- what is written up to the end
pub put_last : (bytes piece id : List ℕ) → piece ≡ id → take 40 bytes ++ (piece ++ drop (length bytes - 40) (drop 40 bytes)) ≡ take 40 bytes ++ id
put_last bytes piece id is =
    ap (λ (x : List ℕ). take 40 bytes ++ (piece ++ x)) (drop_all (length bytes - 40) (drop 40 bytes) (omega (arith, length-drop 40 bytes)))
    ∙ ap (λ (x : List ℕ). take 40 bytes ++ x) (append-nil piece ∙ is)

-- what is written is read, whatever follows
pub read_again : (h : Header) (written more : List ℕ) → IsHeader h → written ≡ header_bytes h → header_of (written ++ more) ≡ Ok h
read_again h written more fits is =
    is_accepted (written ++ more) (header_of (written ++ more)) refl h fits
    (take_at written more 56 (ap length is ∙ header_bytes-length h fits.id_length) ∙ is)

-- what is read is written as it was
pub written_again : (h : Header) (written bytes : List ℕ) → written ≡ header_bytes h → AreBytes bytes → header_of bytes ≡ Ok h → written ≡ take 56 bytes
written_again h written bytes is fits e =
    let said = subst (λ (r : Result Header HeaderFault). IfOk r (λ x. IsHeader x × (header_bytes x ≡ take 56 bytes))) e (is_spelled bytes (header_of bytes) fits refl) in
    is ∙ said.1
