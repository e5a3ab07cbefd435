-- Pieces that are taken, one after another, up to the first that isn't.
use Rattle.std.proofs.Common.{◌≡◌, zero, suc, List, [], ◌∷◌, ◌++◌, Some, None, refl, ap, arith}
use Rattle.inc_frame.specs.declared.piece.Piece.{Piece}
use Rattle.inc_layout.specs.declared.opened.Opened.{Opened}
use Rattle.inc_filling.specs.Pieces.{AreTaken}
use Rattle.inc_filling.specs.Refusals.{first_refusal, refusal_of, taken_pieces}
use Rattle.inc_filling.specs.declared.refusal.PieceRefusal.{PieceRefusal}

pub none_taken : (opened : Opened) → AreTaken opened []
none_taken opened k d lt = absurd (omega arith)

pub taken_more : (opened : Opened) (pieces more : List Piece) → AreTaken opened pieces → AreTaken opened more → AreTaken opened (pieces ++ more)
taken_more opened [] more h rest k d lt = rest k d lt
taken_more opened (p ∷ ps) more h rest zero d lt = h 0 d (omega arith)
taken_more opened (p ∷ ps) more h rest (suc k) d lt = taken_more opened ps more (λ j e below. h (suc j) e (omega arith)) rest k d (omega arith)

pub one_taken : (opened : Opened) (piece : Piece) → refusal_of opened piece ≡ None → AreTaken opened (piece ∷ [])
one_taken opened piece e zero d lt = e
one_taken opened piece e (suc k) d lt = absurd (omega arith)

pub taken_first : (opened : Opened) (pieces more : List Piece) → AreTaken opened pieces → taken_pieces opened (pieces ++ more) ≡ pieces ++ taken_pieces opened more
taken_first opened [] more h = refl
taken_first opened (p ∷ ps) more h = rw (h 0 p (omega arith)) (ap (λ (l : List Piece). p ∷ l) (taken_first opened ps more (λ j e below. h (suc j) e (omega arith))))

pub refused_later : (opened : Opened) (pieces more : List Piece) → AreTaken opened pieces → first_refusal opened (pieces ++ more) ≡ first_refusal opened more
refused_later opened [] more h = refl
refused_later opened (p ∷ ps) more h = rw (h 0 p (omega arith)) (refused_later opened ps more (λ j e below. h (suc j) e (omega arith)))

pub all_taken : (opened : Opened) (pieces : List Piece) → AreTaken opened pieces → taken_pieces opened pieces ≡ pieces
all_taken opened [] h = refl
all_taken opened (p ∷ ps) h = rw (h 0 p (omega arith)) (ap (λ (l : List Piece). p ∷ l) (all_taken opened ps (λ j e below. h (suc j) e (omega arith))))

pub none_refused : (opened : Opened) (pieces : List Piece) → AreTaken opened pieces → first_refusal opened pieces ≡ None
none_refused opened [] h = refl
none_refused opened (p ∷ ps) h = rw (h 0 p (omega arith)) (none_refused opened ps (λ j e below. h (suc j) e (omega arith)))

pub taken_none : (opened : Opened) (piece : Piece) (rest : List Piece) (refusal : PieceRefusal) → refusal_of opened piece ≡ Some refusal → taken_pieces opened (piece ∷ rest) ≡ []
taken_none opened piece rest refusal e = rw e refl

pub refused_here : (opened : Opened) (piece : Piece) (rest : List Piece) (refusal : PieceRefusal) → refusal_of opened piece ≡ Some refusal → first_refusal opened (piece ∷ rest) ≡ Some refusal
refused_here opened piece rest refusal e = rw e refl
