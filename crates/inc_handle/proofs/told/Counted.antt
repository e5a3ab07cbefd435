-- How many first blocks have their outcome, and the refusal of the pieces from a place on, place by place.
use Rattle.std.proofs.Common.{◌≡◌, ℕ, zero, suc, ◌+◌, ◌<◌, ◌≤◌, true, false, List, [], ◌∷◌, length, get_or, drop, Option, refl, sym, ap, ◌∙◌, arith}
use Rattle.std.specs.Prelude.{option_map}
use Rattle.inc_frame.specs.declared.piece.Piece.{Piece}
use Rattle.inc_layout.specs.declared.opened.Opened.{Opened}
use Rattle.inc_model.specs.declared.words.outcomes.FillError.{FillError}
use Rattle.inc_handle.specs.Checks.{first_cause, of_piece, piece_refusal, refusal_from}
use Rattle.inc_handle.specs.UnderWay.{is_stored}
use Rattle.inc_handle.specs.Outcomes.{ended_first}
use Rattle.inc_handle.specs.declared.fill.window.PutEnd.{PutEnd}
use Rattle.inc_handle.specs.declared.fill.window.PutEnd.TheVariants.{Busy, Present, Stored}

pub drop_next : {T : Type 0} (xs : List T) (k : ℕ) (d : T) → k < length xs → drop k xs ≡ get_or xs k d ∷ drop (k + 1) xs
drop_next [] k d lt = absurd (omega arith)
drop_next (x ∷ xs) zero d lt = refl
drop_next {T} (x ∷ xs) (suc k) d lt = let e : suc (k + 1) ≡ suc k + 1 = omega arith in drop_next xs k d (omega arith) ∙ ap (λ (n : ℕ). get_or xs k d ∷ drop n (x ∷ xs)) e

drop_all : {T : Type 0} (xs : List T) (k : ℕ) → length xs ≤ k → drop k xs ≡ []
drop_all [] zero le = refl
drop_all [] (suc k) le = refl
drop_all (x ∷ xs) zero le = absurd (omega arith)
drop_all (x ∷ xs) (suc k) le = drop_all xs k (omega arith)

stored_ends : (end : PutEnd) (ends : List PutEnd) → is_stored end ≡ true → ended_first (end ∷ ends) ≡ 0
stored_ends Stored ends e = refl
stored_ends (Present at) ends e = absurd (cc)
stored_ends (Busy window at) ends e = absurd (cc)

other_counts : (end : PutEnd) (ends : List PutEnd) → is_stored end ≡ false → ended_first (end ∷ ends) ≡ suc (ended_first ends)
other_counts Stored ends e = absurd (cc)
other_counts (Present at) ends e = refl
other_counts (Busy window at) ends e = refl

module _ (ends : List PutEnd) (k : ℕ) (next : PutEnd) (is : next ≡ get_or ends k next) (lt : k < length ends) (before : ended_first ends ≡ k + ended_first (drop k ends)) where
  here : drop k ends ≡ next ∷ drop (k + 1) ends
  here = drop_next ends k next lt ∙ ap (λ (x : PutEnd). x ∷ drop (k + 1) ends) (sym is)

  pub count_stops : is_stored next ≡ true → ended_first ends ≡ k
  count_stops e = let none : ended_first (drop k ends) ≡ 0 = ap ended_first here ∙ stored_ends next (drop (k + 1) ends) e in omega arith

  pub count_goes : is_stored next ≡ false → ended_first ends ≡ (k + 1) + ended_first (drop (k + 1) ends)
  count_goes e = let one : ended_first (drop k ends) ≡ suc (ended_first (drop (k + 1) ends)) = ap ended_first here ∙ other_counts next (drop (k + 1) ends) e in omega arith

pub count_all : (ends : List PutEnd) (k : ℕ) → length ends ≤ k → k ≤ length ends → ended_first ends ≡ k + ended_first (drop k ends) → ended_first ends ≡ length ends
count_all ends k le ge before = let none : ended_first (drop k ends) ≡ 0 = ap ended_first (drop_all ends k le) in omega arith

-- one piece more in front
pub refusal_more : (opened : Opened) (pieces : List Piece) (i next : ℕ) (piece : Piece) → i < length pieces → next ≡ i + 1 → piece ≡ get_or pieces i piece → (later : Option FillError) → later ≡ refusal_from opened next (drop next pieces)
    → first_cause (option_map (of_piece i) (piece_refusal opened piece)) later ≡ refusal_from opened i (drop i pieces)
refusal_more opened pieces i next piece lt e is later same =
    ap (first_cause (option_map (of_piece i) (piece_refusal opened piece))) (same ∙ ap (λ (n : ℕ). refusal_from opened n (drop n pieces)) e)
    ∙ sym (ap (refusal_from opened i) (drop_next pieces i piece lt ∙ ap (λ (p : Piece). p ∷ drop (i + 1) pieces) (sym is)))
