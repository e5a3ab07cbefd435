-- The pieces of a content that go in, group by group.
use Rattle.std.proofs.Common.{◌≡◌, ℕ, ◌+◌, ◌^◌, ◌≤◌, List, [], ◌∷◌, ◌++◌, length, get_or, None, refl, sym, ap, subst, ◌∙◌, arith, length-append, append_assoc, append-nil}
use Rattle.std.specs.Prelude.{Result, Ok, Err}
use Rattle.std.proofs.lemmas.List.{get_or-append_right}
use Rattle.inc_frame.specs.declared.piece.Piece.{Piece}
use Rattle.inc_layout.specs.declared.opened.Opened.{Opened}
use Rattle.inc_loader.specs.PiecesLeft.{left_of}
use Rattle.inc_loader.specs.declared.gen_loader.file_in_work.FileInWork.{FileInWork}
use Rattle.inc_loader.proofs.PlaceLemmas.{few_left, later_is_other}
use Rattle.inc_model.specs.declared.words.event.Window.{Window}
use Rattle.inc_cell.specs.seen.Seen.{Seen}
use Rattle.inc_filling.specs.Fillable.{IsFillable}
use Rattle.inc_filling.specs.Filled.{AreIn, StopsBy}
use Rattle.inc_filling.specs.Generated.{FillsAll, FillsFurther, IsFilledUpTo, IsNeverFull}
use Rattle.inc_filling.specs.Pieces.{AreTaken}
use Rattle.inc_filling.specs.Refusals.{refusal_of}
use Rattle.inc_filling.specs.Rounds.{FillsWaiting, MayWait}
use Rattle.inc_filling.specs.declared.from_stream.rounds.FillTotals.{FillTotals}
use Rattle.inc_filling.specs.declared.stop.FillStop.{FillStop}
use Rattle.inc_filling.specs.declared.stop.FillStop.TheVariants.{DiskFault, Failed, HistoryFull, OutOfMemory}
use Rattle.inc_filling.proofs.streams.GroupIn.{no_piece_in}
use Rattle.inc_filling.proofs.streams.Outcomes.{all_in, stops_more}
use Rattle.inc_filling.proofs.streams.WaitingPieces.{may_wait_more}

-- ---- pieces that are taken

pub taken_rest : (opened : Opened) (front rest : List Piece) → AreTaken opened (front ++ rest) → AreTaken opened rest
taken_rest opened front rest h k d lt =
    subst (λ (p : Piece). refusal_of opened p ≡ None)
    (get_or-append_right front rest (length front) (length front + k) d refl (omega arith) ∙ ap (λ (i : ℕ). get_or rest i d) (omega arith))
    (h (length front + k) d (omega (arith, length-append front rest)))

taken_here : (opened : Opened) (front rest : List Piece) (piece : Piece) → AreTaken opened (front ++ piece ∷ rest) → refusal_of opened piece ≡ None
taken_here opened front rest piece h = taken_rest opened front (piece ∷ rest) h 0 piece (omega arith)

-- ---- the pieces of a group

-- one more piece of the content may go into the group
pub next_may_wait : (start work : FileInWork) (opened : Opened) (waiting after rest : List Piece) (piece : Piece) → left_of start ≡ waiting ++ left_of work → left_of work ≡ piece ∷ rest
    → after ≡ waiting ++ piece ∷ [] → AreTaken opened (left_of start) → MayWait opened waiting → MayWait opened after
next_may_wait start work opened waiting after rest piece is first grown taken may =
    let whole : left_of start ≡ waiting ++ piece ∷ rest = is ∙ ap (λ (l : List Piece). waiting ++ l) first in
    may_wait_more opened waiting after piece grown may (taken_here opened waiting rest piece (subst (AreTaken opened) whole taken))
    (λ k d lt same_kind same_number. later_is_other start waiting rest piece k d whole lt same_kind same_number)

pub one_further : (all waiting left after rest : List Piece) (piece : Piece) → all ≡ waiting ++ left → left ≡ piece ∷ rest → after ≡ waiting ++ piece ∷ [] → all ≡ after ++ rest
one_further all waiting left after rest piece is first grown =
    is ∙ ap (λ (l : List Piece). waiting ++ l) first ∙ sym (append_assoc waiting (piece ∷ []) rest) ∙ ap (λ (l : List Piece). l ++ rest) (sym grown)

-- ---- the whole

pub begins_filling : (start : Seen) (window : Window) (all : List Piece) → IsFillable start → IsFilledUpTo start window all all 0 0 start
begins_filling start window all h = record { gave = []; all_are = refl; are_in = no_piece_in start window h }

pub up_to_few : (start seen : Seen) (window : Window) (work : FileInWork) (left : List Piece) (written present : ℕ) → IsFilledUpTo start window (left_of work) left written present seen → written + present ≤ 2 ^ 37
up_to_few start seen window work left written present h =
    let told = h.are_in.all_told in
    omega (arith, told, few_left work, ap length h.all_are, length-append h.gave left)

pub still_taken : (start seen : Seen) (window : Window) (all left : List Piece) (written present : ℕ) → IsFilledUpTo start window all left written present seen → AreTaken start.opened all → AreTaken seen.opened left
still_taken start seen window all left written present h taken =
    subst (λ (o : Opened). AreTaken o left) (sym h.are_in.taken.opened) (taken_rest start.opened h.gave left (subst (AreTaken start.opened) h.all_are taken))

-- for want of memory a group isn't made
pub stops_unmade : (start seen : Seen) (window : Window) (all left : List Piece) (written present : ℕ) → IsFilledUpTo start window all left written present seen → StopsBy start window all OutOfMemory seen
stops_unmade start seen window all left written present h =
    subst (λ (l : List Piece). StopsBy start window l OutOfMemory seen) (sym h.all_are) (stops_more start seen window h.gave left OutOfMemory (all_in start seen window h.gave written present h.are_in))

-- a group was made, and came to this
pub goes_further : {T : Type 0} (start seen new : Seen) (window : Window) (all before group left : List Piece) (written present now_written now_present : ℕ) (result : Result T FillStop)
    → (h : IsFilledUpTo start window all before written present seen) → before ≡ group ++ left → FillsWaiting start window (h.gave ++ group) now_written now_present result new
    → FillsFurther start window all left now_written now_present result new
goes_further start seen new window all before group left written present now_written now_present (Ok done) h is fills = record {
  gave = h.gave ++ group;
  all_are = h.all_are ∙ ap (λ (l : List Piece). h.gave ++ l) is ∙ sym (append_assoc h.gave group left);
  are_in = fills;
}
goes_further start seen new window all before group left written present now_written now_present (Err stop) h is fills =
    subst (λ (l : List Piece). StopsBy start window l stop new)
    (append_assoc h.gave group left ∙ ap (λ (l : List Piece). h.gave ++ l) (sym is) ∙ sym h.all_are)
    (stops_more start new window (h.gave ++ group) left stop fills)

pub is_filled : (start seen : Seen) (window : Window) (all left : List Piece) (written present : ℕ) → IsFilledUpTo start window all left written present seen → left ≡ [] → AreIn start window all written present seen
is_filled start seen window all left written present h none =
    subst (λ (l : List Piece). AreIn start window l written present seen) (sym (h.all_are ∙ ap (λ (l : List Piece). h.gave ++ l) none ∙ append-nil h.gave)) h.are_in

-- a piece takes seven entries at most
pub never_full : (start new : Seen) (window : Window) (work : FileInWork) (result : Result FillTotals FillStop) → FillsAll start window (left_of work) result new → length start.history ≤ 2 ^ 22 → IsNeverFull result
never_full start new window work (Ok totals) h few = tt
never_full start new window work (Err DiskFault) h few = tt
never_full start new window work (Err (Failed at)) h few = tt
never_full start new window work (Err OutOfMemory) h few = tt
never_full start new window work (Err (HistoryFull entries claimed)) h few =
    let many = h.many in
    let within = h.front.within in
    omega (arith, few, many, within, few_left work)
