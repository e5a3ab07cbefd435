-- Pieces that may be one group, and one more.
use Rattle.std.proofs.Common.{◌≡◌, ℕ, suc, ◌<◌, Bool, true, false, ◌||◌, eqb, List, [], ◌∷◌, ◌++◌, None, refl, sym, ap, subst, ◌∙◌, arith}
use Rattle.std.proofs.lemmas.Bool.{eqb-true}
use Rattle.inc_tree.specs.shape.Geometry.{Shape}
use Rattle.inc_frame.specs.declared.piece.Piece.{Piece}
use Rattle.inc_layout.specs.declared.opened.Opened.{Opened}
use Rattle.inc_model.specs.relation.State.{has}
use Rattle.inc_cell.specs.events.Pieces.{kind_count, piece_index}
use Rattle.inc_filling.specs.Contents.{index_of_piece}
use Rattle.inc_filling.specs.Grouped.{AreDistinct}
use Rattle.inc_filling.specs.Pieces.{AreTaken, piece_indices}
use Rattle.inc_filling.specs.Refusals.{refusal_of}
use Rattle.inc_filling.specs.Rounds.{AreOtherBlocks, MayWait}
use Rattle.inc_filling.proofs.lemmas.ListLemmas.{distinct_last}
use Rattle.inc_filling.proofs.lemmas.TakenLemmas.{taken_sound}
use Rattle.inc_filling.proofs.streams.TakenPieces.{none_taken, one_taken, taken_more}

-- two blocks of the file have two indices
apart_index : (shape : Shape) (hash other : Bool) (number second : ℕ) → number < kind_count shape hash → second < kind_count shape other → (other ≡ hash → second ≡ number → ⊥) → piece_index shape hash number ≡ piece_index shape other second → ⊥
apart_index shape true true number second a b apart e = apart refl (omega arith)
apart_index shape false false number second a b apart e = apart refl (sym e)
apart_index shape true false number second a b apart e = omega arith
apart_index shape false true number second a b apart e = omega arith

not_equal : (a b : ℕ) → (a ≡ b → ⊥) → eqb a b ≡ false
not_equal a b apart = step (eqb a b) refl
  where
    step : (t : Bool) → eqb a b ≡ t → t ≡ false
    step true e = absurd (apart (eqb-true a b e))
    step false e = refl

not_either : (a b : Bool) → a ≡ false → b ≡ false → (a || b) ≡ false
not_either a b e f = rw (e, f) refl

pub others_not_there : (opened : Opened) (piece : Piece) (pieces : List Piece) → refusal_of opened piece ≡ None → AreTaken opened pieces → AreOtherBlocks piece pieces → has (index_of_piece opened piece) (piece_indices opened pieces) ≡ false
others_not_there opened piece [] fine taken others = refl
others_not_there opened piece (p ∷ ps) fine taken others =
    not_either _ _
    (not_equal (index_of_piece opened piece) (index_of_piece opened p)
    (apart_index opened.areas.geometry piece.hash p.hash piece.number p.number (taken_sound opened piece fine).within (taken_sound opened p (taken 0 p (omega arith))).within (others 0 p (omega arith))))
    (others_not_there opened piece ps fine (λ k d lt. taken (suc k) d (omega arith)) (λ k d lt. others (suc k) d (omega arith)))

indices_more : (opened : Opened) (pieces more : List Piece) → piece_indices opened (pieces ++ more) ≡ piece_indices opened pieces ++ piece_indices opened more
indices_more opened [] more = refl
indices_more opened (p ∷ ps) more = ap (λ (l : List ℕ). index_of_piece opened p ∷ l) (indices_more opened ps more)

pub may_wait_more : (opened : Opened) (pieces all : List Piece) (piece : Piece) → all ≡ pieces ++ piece ∷ [] → MayWait opened pieces → refusal_of opened piece ≡ None → AreOtherBlocks piece pieces → MayWait opened all
may_wait_more opened pieces all piece e h fine others =
    subst (λ (l : List Piece). MayWait opened l) (sym e) (record {
      taken = taken_more opened pieces (piece ∷ []) h.taken (one_taken opened piece fine);
      distinct = subst AreDistinct (sym (indices_more opened pieces (piece ∷ []))) (distinct_last (piece_indices opened pieces) (index_of_piece opened piece) h.distinct (others_not_there opened piece pieces fine h.taken others));
    })

pub none_wait : (opened : Opened) → MayWait opened []
none_wait opened = record { taken = none_taken opened; distinct = λ k lt. absurd (omega arith) }

-- the piece that is taken is the one that was looked at
pub same_first : (pieces rest : List Piece) (next piece : Piece) → pieces ≡ next ∷ rest → (left : List Piece) → pieces ≡ piece ∷ left → piece ≡ next
same_first pieces rest next piece e left f = first (sym f ∙ e)
  where
    first : piece ∷ left ≡ next ∷ rest → piece ≡ next
    first g = cc
