-- A stream that goes on counts each byte, up to its end.
use Rattle.std.proofs.Common.{◌≡◌, ℕ, suc, ◌+◌, ◌≤◌, Bool, true, false, cond, eqb, List, [], ◌∷◌, ◌++◌, length, Option, Some, None, refl, sym, ap, subst, arith}
use Rattle.std.proofs.lemmas.Bool.{eqb-true}
use Rattle.std.proofs.lemmas.List.{length-append}
use Rattle.inc_frame.specs.Frames.{frame_length, piece_of}
use Rattle.inc_frame.specs.Fronts.{StreamState, Greeting, Framing, Ended, Faulty, StreamFront, no_piece, ends_stream, is_hello_byte, hello_front, frame_fault, unless_fault, within_limit, grown_front, frame_front, byte_front, front_from, byte_count, has_ended, fault_of}
use Rattle.inc_frame.proofs.FrontLemmas.{front_with, front_from-ended, front_from-faulty}
use Rattle.inc_frame.specs.declared.piece.Piece.{Piece}
use Rattle.inc_frame.specs.declared.fault.FrameFault.{FrameFault}
use Rattle.inc_frame.specs.declared.fault.FrameFault.TheVariants.{BadHello, TooLong}

-- ---- one byte

by_hello : (good last : Bool) (limit count : ℕ) (seen : List ℕ) (fault : FrameFault) → (last ≡ true → count ≡ 8) → length seen ≡ count
    → fault_of (cond good (cond last (no_piece (Framing limit 8 [])) (no_piece (Greeting seen))) (no_piece (Faulty fault))).state ≡ None
    → byte_count (cond good (cond last (no_piece (Framing limit 8 [])) (no_piece (Greeting seen))) (no_piece (Faulty fault))).state ≡ count
by_hello true true limit count seen fault last-is len e = sym (last-is refl)
by_hello true false limit count seen fault last-is len e = len
by_hello false last limit count seen fault last-is len e = absurd cc

hello_counts : (seen : List ℕ) (byte : ℕ) → fault_of (hello_front seen byte).state ≡ None → byte_count (hello_front seen byte).state ≡ length seen + 1
unfolding hello_front
hello_counts seen byte e =
    by_hello (is_hello_byte (length seen) byte) (eqb (length seen) 7) _ (length seen + 1) (seen ++ byte ∷ []) (BadHello (length seen))
    (λ last. let at = eqb-true (length seen) 7 last in omega arith) (length-append seen (byte ∷ [])) e

by_limit : (full : Bool) (limit count : ℕ) (rest : List ℕ) (pieces : List Piece) (fault : FrameFault)
    → fault_of (cond full (front_with pieces (Faulty fault)) (front_with pieces (Framing limit count rest))).state ≡ None
    → byte_count (cond full (front_with pieces (Faulty fault)) (front_with pieces (Framing limit count rest))).state ≡ count
by_limit true limit count rest pieces fault e = absurd cc
by_limit false limit count rest pieces fault e = refl

by_whole : (whole : Bool) (first second : StreamFront) (count : ℕ)
    → (fault_of first.state ≡ None → byte_count first.state ≡ count) → (fault_of second.state ≡ None → byte_count second.state ≡ count)
    → fault_of (cond whole first second).state ≡ None → byte_count (cond whole first second).state ≡ count
by_whole true first second count left right e = left e
by_whole false first second count left right e = right e

grown_counts : (limit count : ℕ) (frame : List ℕ) → fault_of (grown_front limit count frame).state ≡ None → byte_count (grown_front limit count frame).state ≡ count
unfolding grown_front
grown_counts limit count frame =
    by_whole (eqb (length frame) (25 + frame_length frame)) (within_limit limit count [] (piece_of frame ∷ [])) (within_limit limit count frame []) count
    (by_limit (eqb count limit) limit count [] (piece_of frame ∷ []) (TooLong limit))
    (by_limit (eqb count limit) limit count frame [] (TooLong limit))

by_fault : (fault : Option FrameFault) (front : StreamFront) (count : ℕ) → (fault_of front.state ≡ None → byte_count front.state ≡ count)
    → fault_of (unless_fault fault front).state ≡ None → byte_count (unless_fault fault front).state ≡ count
by_fault None front count fine e = fine e
by_fault (Some fault) front count fine e = absurd cc

frame_counts : (limit place : ℕ) (frame : List ℕ) → fault_of (frame_front limit place frame).state ≡ None → byte_count (frame_front limit place frame).state ≡ place + 1
unfolding frame_front
frame_counts limit place frame =
    by_whole (ends_stream frame) (no_piece (Ended (place + 1))) (unless_fault (frame_fault frame place) (grown_front limit (place + 1) frame)) (place + 1) (λ _. refl) (by_fault (frame_fault frame place) (grown_front limit (place + 1) frame) (place + 1) (grown_counts limit (place + 1) frame))

-- ---- several bytes

pub record CountsOn (before after : StreamState) (count : ℕ) : Type 0 where
  pub least : byte_count before ≤ byte_count after
  pub most : byte_count after ≤ byte_count before + count
  pub all : has_ended after ≡ false → byte_count after ≡ byte_count before + count

-- a stream with no fault had none before
fault_before : (state : StreamState) (bytes : List ℕ) → fault_of (front_from state bytes).state ≡ None → fault_of state ≡ None
fault_before (Greeting seen) bytes e = refl
fault_before (Framing limit count rest) bytes e = refl
fault_before (Ended count) bytes e = refl
fault_before (Faulty fault) bytes e = absurd (let stays = ap (λ (front : StreamFront). fault_of front.state) (front_from-faulty fault bytes) in let none : fault_of (front_from (Faulty fault) bytes).state ≡ None = e in cc)

counts_more : (before mid after : StreamState) (count : ℕ) → byte_count mid ≡ byte_count before + 1 → CountsOn mid after count → CountsOn before after (suc count)
counts_more before mid after count one more = record {
  least = omega (arith, more.least, one);
  most = omega (arith, more.most, one);
  all = λ going. omega (arith, more.all going, one);
}

pub counts_on : (state : StreamState) (bytes : List ℕ) → fault_of (front_from state bytes).state ≡ None → CountsOn state (front_from state bytes).state (length bytes)
unfolding front_from byte_front
counts_on state [] e = record { least = omega arith; most = omega arith; all = λ _. omega arith }
counts_on (Greeting seen) (byte ∷ bytes) e =
    let mid = (hello_front seen byte).state in
    counts_more (Greeting seen) mid (front_from mid bytes).state (length bytes) (hello_counts seen byte (fault_before mid bytes e)) (counts_on mid bytes e)
counts_on (Framing limit place rest) (byte ∷ bytes) e =
    let mid = (frame_front limit place (rest ++ byte ∷ [])).state in
    counts_more (Framing limit place rest) mid (front_from mid bytes).state (length bytes) (frame_counts limit place (rest ++ byte ∷ []) (fault_before mid bytes e)) (counts_on mid bytes e)
counts_on (Ended count) (byte ∷ bytes) e =
    subst (λ (after : StreamState). CountsOn (Ended count) after (suc (length bytes))) (sym (ap (λ (front : StreamFront). front.state) (front_from-ended count bytes)))
    (record { least = omega arith; most = omega arith; all = λ going. absurd cc })
counts_on (Faulty fault) (byte ∷ bytes) e = absurd (let none = fault_before (Faulty fault) bytes e in cc)
