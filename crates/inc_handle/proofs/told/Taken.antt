-- Pieces of which none is refused are taken, and may be filled.
use Rattle.std.proofs.Common.{◌≡◌, ℕ, zero, suc, ◌+◌, Bool, true, false, cond, List, [], ◌∷◌, Option, Some, None, refl, sym, ap, subst, ◌∙◌, arith}
use Rattle.std.specs.Prelude.{nat_eq, nat_lt, option_map}
use Rattle.std.specs.Cmp.Lexicographic.{pointwise}
use Rattle.inc_frame.specs.declared.piece.Piece.{Piece}
use Rattle.inc_layout.specs.declared.opened.Opened.{Opened}
use Rattle.inc_model.specs.declared.words.outcomes.FillError.{FillError}
use Rattle.inc_filling.specs.Grouped.{group_indices}
use Rattle.inc_filling.specs.Pieces.{AreTaken, StorePieces}
use Rattle.inc_filling.specs.Refusals.{refusal_of}
use Rattle.inc_filling.specs.declared.filling.Filling.{Filling}
use Rattle.inc_filling.specs.declared.refusal.PieceRefusal.TheVariants.{Refused, UnknownFile}
use Rattle.inc_filling.specs.Grouped.{AllMayBeFilled}
use Rattle.inc_filling.proofs.steps.PieceSteps.{all_may_be_filled, stored_indices}
use Rattle.inc_handle.specs.Checks.{AreOfFile, cause_order, first_cause, of_piece, piece_refusal, refusal_from}
use Rattle.inc_handle.specs.Outcomes.{fill_refusal}
use Rattle.inc_handle.specs.Standing.{AllMayFill}

no_cause : (own later : Option FillError) → first_cause own later ≡ None → (own ≡ None) × (later ≡ None)
no_cause None later e = (refl, e)
no_cause (Some error) None e = absurd (cc)
no_cause (Some error) (Some other) e = step (nat_lt (cause_order other) (cause_order error)) e
  where
    step : (b : Bool) → cond b (Some other) (Some error) ≡ None → (Some error ≡ None) × (Some other ≡ None)
    step true t = absurd (cc)
    step false t = absurd (cc)

none_mapped : (number : ℕ) (found : Option FillError) → option_map (of_piece number) found ≡ None → found ≡ None
none_mapped number None e = refl
none_mapped number (Some error) e = absurd (cc)

taken_one : (opened : Opened) (piece : Piece) → pointwise nat_eq piece.id opened.header.id ≡ true → piece_refusal opened piece ≡ None → refusal_of opened piece ≡ None
taken_one opened piece own e =
    ap (λ b. cond b (option_map Refused (piece_refusal opened piece)) (Some UnknownFile)) own ∙ ap (λ (found : Option FillError). option_map Refused found) e

taken_from : (opened : Opened) (number : ℕ) (pieces : List Piece) → AreOfFile opened.header.id pieces → refusal_from opened number pieces ≡ None → AreTaken opened pieces
taken_from opened number [] own e k d lt = absurd (omega arith)
taken_from opened number (p ∷ ps) own e zero d lt =
    taken_one opened p (own 0 d (omega arith)) (none_mapped number (piece_refusal opened p) (no_cause (option_map (of_piece number) (piece_refusal opened p)) (refusal_from opened (number + 1) ps) e).0)
taken_from opened number (p ∷ ps) own e (suc k) d lt =
    taken_from opened (number + 1) ps (λ j other below. own (suc j) other (omega arith)) (no_cause (option_map (of_piece number) (piece_refusal opened p)) (refusal_from opened (number + 1) ps) e).1 k d (omega arith)

pub none_refused : (opened : Opened) (pieces : List Piece) → AreOfFile opened.header.id pieces → refusal_from opened 0 pieces ≡ None → AreTaken opened pieces
none_refused opened pieces own e = taken_from opened 0 pieces own e

pub group_may : (opened : Opened) (group : List Filling) (pieces : List Piece) → StorePieces opened group pieces → AreTaken opened pieces → AllMayFill opened (group_indices group)
group_may opened group pieces stores taken = λ s of. subst (λ (indices : List ℕ). AllMayBeFilled s indices) (sym (stored_indices opened group pieces stores)) (all_may_be_filled opened s pieces of taken)

pub permitted_taken : (permitted : Bool) (opened : Opened) (pieces : List Piece) → AreOfFile opened.header.id pieces → fill_refusal permitted opened pieces ≡ None → AreTaken opened pieces
permitted_taken true opened pieces own e = none_refused opened pieces own e
permitted_taken false opened pieces own e = absurd (cc)
