-- What was read of a stream, and all that the stream gives: the pieces that are taken, and how it ends.
use Rattle.std.proofs.Common.{◌≡◌, ℕ, zero, suc, ◌≤◌, Bool, true, List, [], ◌∷◌, ◌++◌, length, take, drop, Option, Some, None, Ok, Err, refl, sym, ap, ◌∙◌, subst, arith, append-nil}
use Rattle.std.specs.Prelude.{option_map}
use Rattle.inc_frame.specs.Fronts.{StreamFront, StreamState, Greeting, Framing, Ended, Faulty, front_from, has_ended, joined_front, no_piece, stream_front}
use Rattle.inc_frame.specs.Reader.{verdict_at_end}
use Rattle.inc_frame.specs.declared.fault.FrameFault.{FrameFault}
use Rattle.inc_frame.specs.declared.piece.Piece.{Piece}
use Rattle.inc_frame.proofs.FrontLemmas.{front_from-append, front_from-ended, front_from-faulty}
use Rattle.inc_layout.specs.declared.opened.Opened.{Opened}
use Rattle.inc_loader.specs.Reading.{IsRefusedStream, before_rest}
use Rattle.inc_filling.specs.Refusals.{first_refusal, refusal_of, taken_pieces}
use Rattle.inc_filling.specs.declared.refusal.PieceRefusal.{PieceRefusal}
use Rattle.inc_cmd.specs.Runs.{TakesSome}

-- ---- bytes

pub given_is : (given read : List ℕ) (left : Option (List ℕ)) → Some given ≡ before_rest read left → (rest : List ℕ) × (left ≡ Some rest) × (given ≡ read ++ rest)
given_is given read None e = absurd (cc)
given_is given read (Some rest) e = (rest, refl, some_is _ _ e)
  where
    some_is : (a b : List ℕ) → Some a ≡ Some b → a ≡ b
    some_is a b e = cc

drop_front : (read rest : List ℕ) → rest ≡ drop (length read) (read ++ rest)
drop_front [] rest = refl
drop_front (byte ∷ read) rest = drop_front read rest

pub takes_some : (before left : Option (List ℕ)) (read : List ℕ) → before ≡ before_rest read left → TakesSome before left
takes_some before None read is = (0, subst (λ (b : Option (List ℕ)). None ≡ option_map (drop 0) b) (sym is) refl)
takes_some before (Some rest) read is =
    (length read, subst (λ (b : Option (List ℕ)). Some rest ≡ option_map (drop (length read)) b) (sym is) (ap (λ (l : List ℕ). Some l) (drop_front read rest)))

-- ---- pieces

refused_more : (opened : Opened) (found : Option PieceRefusal) (piece : Piece) (pieces more : List Piece) (refusal : PieceRefusal) → refusal_of opened piece ≡ found
    → first_refusal opened (piece ∷ pieces) ≡ Some refusal → (first_refusal opened pieces ≡ Some refusal → first_refusal opened (pieces ++ more) ≡ Some refusal)
    → first_refusal opened ((piece ∷ pieces) ++ more) ≡ Some refusal
refused_more opened None piece pieces more refusal is e rest = rw is (rest (rw is at e))
refused_more opened (Some other) piece pieces more refusal is e rest = rw is (rw is at e)

-- a piece that is refused is so, whatever comes after it
pub still_refused : (opened : Opened) (pieces more : List Piece) (refusal : PieceRefusal) → first_refusal opened pieces ≡ Some refusal → first_refusal opened (pieces ++ more) ≡ Some refusal
still_refused opened [] more refusal e = absurd (cc)
still_refused opened (piece ∷ pieces) more refusal e =
    refused_more opened (refusal_of opened piece) piece pieces more refusal refl e (still_refused opened pieces more refusal)

taken_step : (opened : Opened) (found : Option PieceRefusal) (piece : Piece) (pieces more : List Piece) (refusal : PieceRefusal) → refusal_of opened piece ≡ found
    → first_refusal opened (piece ∷ pieces) ≡ Some refusal → (first_refusal opened pieces ≡ Some refusal → taken_pieces opened (pieces ++ more) ≡ taken_pieces opened pieces)
    → taken_pieces opened ((piece ∷ pieces) ++ more) ≡ taken_pieces opened (piece ∷ pieces)
taken_step opened None piece pieces more refusal is e rest = rw is (ap (λ (ps : List Piece). piece ∷ ps) (rest (rw is at e)))
taken_step opened (Some other) piece pieces more refusal is e rest = rw is refl

pub same_taken : (opened : Opened) (pieces more : List Piece) (refusal : PieceRefusal) → first_refusal opened pieces ≡ Some refusal → taken_pieces opened (pieces ++ more) ≡ taken_pieces opened pieces
same_taken opened [] more refusal e = absurd (cc)
same_taken opened (piece ∷ pieces) more refusal e = taken_step opened (refusal_of opened piece) piece pieces more refusal refl e (same_taken opened pieces more refusal)

front_step : (opened : Opened) (found : Option PieceRefusal) (piece : Piece) (pieces more : List Piece) (count : ℕ) → refusal_of opened piece ≡ found → suc count ≤ length (taken_pieces opened (piece ∷ pieces))
    → (count ≤ length (taken_pieces opened pieces) → (taken_pieces opened (take count (pieces ++ more)) ≡ take count (taken_pieces opened pieces)) × (count ≤ length pieces))
    → (taken_pieces opened (take (suc count) ((piece ∷ pieces) ++ more)) ≡ take (suc count) (taken_pieces opened (piece ∷ pieces))) × (suc count ≤ length (piece ∷ pieces))
front_step opened None piece pieces more count is le rest =
    let few : suc count ≤ suc (length (taken_pieces opened pieces)) = rw is at le in
    let both = rest (omega arith) in
    (rw is (ap (λ (ps : List Piece). piece ∷ ps) both.0), let fits : count ≤ length pieces = both.1 in omega arith)
front_step opened (Some other) piece pieces more count is le rest = absurd (let none : suc count ≤ 0 = rw is at le in omega arith)

-- the first so many of those that are taken are the first so many of all
pub taken_front : (opened : Opened) (pieces more : List Piece) (count : ℕ) → count ≤ length (taken_pieces opened pieces)
    → (taken_pieces opened (take count (pieces ++ more)) ≡ take count (taken_pieces opened pieces)) × (count ≤ length pieces)
taken_front opened pieces more zero le = (refl, omega arith)
taken_front opened [] more (suc count) le = absurd (omega arith)
taken_front opened (piece ∷ pieces) more (suc count) le =
    front_step opened (refusal_of opened piece) piece pieces more count refl le (taken_front opened pieces more count)

begins_step : (opened : Opened) (found : Option PieceRefusal) (piece : Piece) (pieces more : List Piece) → refusal_of opened piece ≡ found
    → ((later : List Piece) × (taken_pieces opened (pieces ++ more) ≡ taken_pieces opened pieces ++ later))
    → (later : List Piece) × (taken_pieces opened ((piece ∷ pieces) ++ more) ≡ taken_pieces opened (piece ∷ pieces) ++ later)
begins_step opened None piece pieces more is rest = (rest.0, rw is (ap (λ (ps : List Piece). piece ∷ ps) rest.1))
begins_step opened (Some other) piece pieces more is rest = ([], rw is refl)

-- those that are taken of a front are a front of those that are taken of all
pub taken_begins : (opened : Opened) (pieces more : List Piece) → (later : List Piece) × (taken_pieces opened (pieces ++ more) ≡ taken_pieces opened pieces ++ later)
taken_begins opened [] more = (taken_pieces opened more, refl)
taken_begins opened (piece ∷ pieces) more = begins_step opened (refusal_of opened piece) piece pieces more refl (taken_begins opened pieces more)

all_step : (opened : Opened) (found : Option PieceRefusal) (piece : Piece) (pieces : List Piece) → refusal_of opened piece ≡ found → first_refusal opened (piece ∷ pieces) ≡ None
    → (first_refusal opened pieces ≡ None → taken_pieces opened pieces ≡ pieces) → taken_pieces opened (piece ∷ pieces) ≡ piece ∷ pieces
all_step opened None piece pieces is e rest = rw is (ap (λ (ps : List Piece). piece ∷ ps) (rest (rw is at e)))
all_step opened (Some other) piece pieces is e rest = absurd (let none : Some other ≡ None = rw is at e in cc)

-- where none is refused all are taken
pub taken_unless_refused : (opened : Opened) (pieces : List Piece) → first_refusal opened pieces ≡ None → taken_pieces opened pieces ≡ pieces
taken_unless_refused opened [] e = refl
taken_unless_refused opened (piece ∷ pieces) e = all_step opened (refusal_of opened piece) piece pieces refl e (taken_unless_refused opened pieces)

-- ---- the whole stream

pub pieces_more : (read rest : List ℕ) → (stream_front (read ++ rest)).pieces ≡ (stream_front read).pieces ++ (front_from (stream_front read).state rest).pieces
pieces_more read rest = ap (λ (front : StreamFront). front.pieces) (front_from-append (Greeting []) read rest)

-- after its end or its fault nothing changes a stream
after_end : (front : StreamFront) (rest : List ℕ) (state : StreamState) → front.state ≡ state → front_from state rest ≡ no_piece state
    → joined_front front.pieces (front_from front.state rest) ≡ front
after_end front rest state is stays = rw (is, stays) (ap (with_state state) (append-nil front.pieces))
  where
    with_state : StreamState → List Piece → StreamFront
    with_state state pieces = record { pieces = pieces; state = state }

pub ended_front : (read rest : List ℕ) (count : ℕ) → (stream_front read).state ≡ Ended count → stream_front (read ++ rest) ≡ stream_front read
ended_front read rest count is = front_from-append (Greeting []) read rest ∙ after_end (stream_front read) rest (Ended count) is (front_from-ended count rest)

pub faulty_front : (read rest : List ℕ) (fault : FrameFault) → (stream_front read).state ≡ Faulty fault → stream_front (read ++ rest) ≡ stream_front read
faulty_front read rest fault is = front_from-append (Greeting []) read rest ∙ after_end (stream_front read) rest (Faulty fault) is (front_from-faulty fault rest)

pub whole_ended : (read rest : List ℕ) (state : StreamState) → (stream_front read).state ≡ state → has_ended state ≡ true → (stream_front (read ++ rest) ≡ stream_front read) × (verdict_at_end state ≡ Ok tt)
whole_ended read rest (Ended count) is e = (ended_front read rest count is, refl)
whole_ended read rest (Greeting seen) is e = absurd (cc)
whole_ended read rest (Framing limit count frame) is e = absurd (cc)
whole_ended read rest (Faulty fault) is e = absurd (cc)

pub whole_refused : (read rest : List ℕ) (state : StreamState) (ended : Bool) (fault : FrameFault) → (stream_front read).state ≡ state → IsRefusedStream state ended (Some rest) (Some fault)
    → (stream_front (read ++ rest) ≡ stream_front read) × (verdict_at_end state ≡ Err fault)
whole_refused read rest (Faulty own) ended fault is refused = (faulty_front read rest own is, (let same : own ≡ fault = cc in ap (λ (f : FrameFault). Err f) same))
whole_refused read rest (Ended count) ended fault is refused = absurd (cc)
whole_refused read rest (Greeting seen) ended fault is refused = (at_end read rest refused.1.1, ap (λ (f : FrameFault). Err f) (sym refused.0))
  where
    at_end : (read rest : List ℕ) → rest ≡ [] → stream_front (read ++ rest) ≡ stream_front read
    at_end read rest none = ap stream_front (ap (λ (l : List ℕ). read ++ l) none ∙ append-nil read)
whole_refused read rest (Framing limit count frame) ended fault is refused = (at_end read rest refused.1.1, ap (λ (f : FrameFault). Err f) (sym refused.0))
  where
    at_end : (read rest : List ℕ) → rest ≡ [] → stream_front (read ++ rest) ≡ stream_front read
    at_end read rest none = ap stream_front (ap (λ (l : List ℕ). read ++ l) none ∙ append-nil read)
