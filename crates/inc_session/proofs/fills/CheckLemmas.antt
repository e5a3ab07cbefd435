-- Pieces that a file takes, and passes for it.
use Rattle.std.proofs.Common.{◌≡◌, ℕ, zero, suc, ◌+◌, ◌<◌, Bool, true, false, cond, eqb, ◌&&◌, List, [], ◌∷◌, ◌++◌, length, take, get_or, Option, Some, None, refl, sym, ap, ◌∙◌, arith}
use Rattle.std.specs.Prelude.{Result, Ok, Err, option_map, nat_eq}
use Rattle.std.specs.Cmp.Lexicographic.{pointwise}
use Rattle.std.proofs.lemmas.Bool.{eq-eqb, eqb-true}
use Rattle.inc_bytes.specs.Tests.{judge}
use Rattle.inc_frame.specs.declared.piece.Piece.{Piece}
use Rattle.inc_layout.specs.declared.opened.Opened.{Opened}
use Rattle.inc_model.specs.declared.words.outcomes.FillError.{FillError}
use Rattle.inc_filling.specs.Pieces.{AreTaken}
use Rattle.inc_filling.specs.Refusals.{refusal_of}
use Rattle.inc_filling.specs.Rounds.{AreOtherBlocks, MayWait}
use Rattle.inc_filling.specs.declared.refusal.PieceRefusal.TheVariants.{Refused, UnknownFile}
use Rattle.inc_filling.proofs.streams.WaitingPieces.{may_wait_more, none_wait}
use Rattle.inc_handle.specs.Checks.{AreOfFile, first_cause, of_piece, piece_refusal, refusal_from}
use Rattle.inc_handle.specs.Outcomes.{fill_refusal, is_permitted}

same_list : (xs : List ℕ) → pointwise nat_eq xs xs ≡ true
same_list [] = refl
same_list (x ∷ xs) = rw (eq-eqb x x refl) (same_list xs)

pub equal_lists : (a b : List ℕ) → pointwise nat_eq a b ≡ true → a ≡ b
equal_lists [] [] e = refl
equal_lists [] (y ∷ ys) e = absurd (cc)
equal_lists (x ∷ xs) [] e = absurd (cc)
equal_lists (x ∷ xs) (y ∷ ys) e = step (eqb x y) refl e (λ f. equal_lists xs ys f)
  where
    step : (b : Bool) → eqb x y ≡ b → (b && pointwise nat_eq xs ys) ≡ true → (pointwise nat_eq xs ys ≡ true → xs ≡ ys) → x ∷ xs ≡ y ∷ ys
    step true t f rest = ap (λ (n : ℕ). n ∷ xs) (eqb-true x y t) ∙ ap (λ (l : List ℕ). y ∷ l) (rest f)
    step false t f rest = absurd (cc)

pub permitted : (pass_id id : List ℕ) (session : ℕ) → pass_id ≡ id → is_permitted pass_id session id session ≡ true
permitted pass_id id session e =
    ap (λ (i : List ℕ). is_permitted i session id session) e ∙ ap (λ b. b && eqb session session) (same_list id) ∙ eq-eqb session session refl

not_refused : (own : Bool) (found : Option FillError) → cond own (option_map Refused found) (Some UnknownFile) ≡ None → (own ≡ true) × (found ≡ None)
not_refused true None e = (refl, refl)
not_refused true (Some error) e = absurd (cc)
not_refused false found e = absurd (cc)

-- the id is the file's, and no test fails
pub is_taken : (opened : Opened) (piece : Piece) → refusal_of opened piece ≡ None → (pointwise nat_eq piece.id opened.header.id ≡ true) × (piece_refusal opened piece ≡ None)
is_taken opened piece e = not_refused (pointwise nat_eq piece.id opened.header.id) (piece_refusal opened piece) e

pub takes_one : (opened : Opened) (piece : Piece) → piece.id ≡ opened.header.id → piece_refusal opened piece ≡ None → refusal_of opened piece ≡ None
takes_one opened piece own e =
    ap (λ b. cond b (option_map Refused (piece_refusal opened piece)) (Some UnknownFile)) (ap (λ (i : List ℕ). pointwise nat_eq i opened.header.id) own ∙ same_list opened.header.id) ∙ ap (λ (found : Option FillError). option_map Refused found) e

pub own_pieces : (opened : Opened) (pieces : List Piece) → AreTaken opened pieces → AreOfFile opened.header.id pieces
own_pieces opened pieces taken k d lt = (is_taken opened (get_or pieces k d) (taken k d lt)).0

none_refused : (opened : Opened) (number : ℕ) (pieces : List Piece) → AreTaken opened pieces → refusal_from opened number pieces ≡ None
none_refused opened number [] taken = refl
none_refused opened number (p ∷ ps) taken =
    ap (λ (found : Option FillError). first_cause (option_map (of_piece number) found) (refusal_from opened (number + 1) ps)) (is_taken opened p (taken 0 p (omega arith))).1
    ∙ none_refused opened (number + 1) ps (λ k d lt. taken (suc k) d (omega arith))

pub no_refusal : (opened : Opened) (pieces : List Piece) (pass_id : List ℕ) (session : ℕ) → pass_id ≡ opened.header.id → AreTaken opened pieces → fill_refusal (is_permitted pass_id session opened.header.id session) opened pieces ≡ None
no_refusal opened pieces pass_id session e taken =
    ap (λ b. fill_refusal b opened pieces) (permitted pass_id opened.header.id session e) ∙ none_refused opened 0 pieces taken

pub same_error : {T : Type 0} (a b : FillError) → (let r : Result T FillError = Err a in r) ≡ Err b → a ≡ b
same_error a b e = cc

pub judged_err : (found : Option FillError) (error : FillError) (result : Result (Unit {0}) FillError) → result ≡ judge found tt → result ≡ Err error → found ≡ Some error
judged_err None error result e f = absurd (let g = sym e ∙ f in cc)
judged_err (Some other) error result e f = ap (λ (x : FillError). Some x) (same_error {T = Unit {0}} other error (sym e ∙ f))

pub judged_ok : (found : Option FillError) (t : Unit {0}) (result : Result (Unit {0}) FillError) → result ≡ judge found tt → result ≡ Ok t → found ≡ None
judged_ok None t result e f = refl
judged_ok (Some other) t result e f = absurd (let g = sym e ∙ f in cc)

first_one : (pieces : List Piece) (first : Piece) → 0 < length pieces → first ≡ get_or pieces 0 first → take 1 pieces ≡ first ∷ []
first_one [] first some e = absurd (omega arith)
first_one (p ∷ ps) first some e = ap (λ (x : Piece). x ∷ []) (sym e)

pub may_first : (opened : Opened) (pieces : List Piece) (first : Piece) → 0 < length pieces → first ≡ get_or pieces 0 first → first.id ≡ opened.header.id → piece_refusal opened first ≡ None → MayWait opened (take 1 pieces)
may_first opened pieces first some is own fine =
    may_wait_more opened [] (take 1 pieces) first (first_one pieces first some is) (none_wait opened) (takes_one opened first own fine) (λ k d lt. absurd (omega arith))

take_next : (pieces : List Piece) (len : ℕ) (piece : Piece) → len < length pieces → piece ≡ get_or pieces len piece → take (len + 1) pieces ≡ take len pieces ++ piece ∷ []
take_next [] len piece lt e = absurd (omega arith)
take_next (p ∷ ps) zero piece lt e = ap (λ (x : Piece). x ∷ []) (sym e)
take_next (p ∷ ps) (suc len) piece lt e =
    let shift : suc len + 1 ≡ suc (len + 1) = omega arith in
    ap (λ (n : ℕ). take n (p ∷ ps)) shift ∙ ap (λ (l : List Piece). p ∷ l) (take_next ps len piece (omega arith) e)

pub may_next : (opened : Opened) (pieces : List Piece) (len : ℕ) (piece : Piece) → len < length pieces → piece ≡ get_or pieces len piece → piece.id ≡ opened.header.id → piece_refusal opened piece ≡ None → AreOtherBlocks piece (take len pieces)
    → MayWait opened (take len pieces) → MayWait opened (take (len + 1) pieces)
may_next opened pieces len piece lt is own fine others may =
    may_wait_more opened (take len pieces) (take (len + 1) pieces) piece (take_next pieces len piece lt is) may (takes_one opened piece own fine) others
