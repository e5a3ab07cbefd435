-- What was read of an input decides what the whole input does.
use Rattle.std.proofs.Common.{◌≡◌, ℕ, Bool, true, List, [], ◌∷◌, ◌++◌, Option, Some, None, refl, sym, ap, subst, ◌∙◌, append-nil}
use Rattle.std.specs.Prelude.{Result, Ok, Err}
use Rattle.inc_frame.specs.Fronts.{StreamFront, StreamState, Greeting, Framing, Ended, Faulty, front_from, has_ended, stream_front, no_piece}
use Rattle.inc_frame.specs.declared.fault.FrameFault.{FrameFault}
use Rattle.inc_frame.specs.declared.piece.Piece.{Piece}
use Rattle.inc_frame.proofs.FedLemmas.{joined_bytes}
use Rattle.inc_frame.proofs.FrontLemmas.{front_from-ended, front_from-faulty}
use Rattle.inc_layout.specs.declared.opened.Opened.{Opened}
use Rattle.inc_loader.specs.Reading.{IsRefusedStream, before_rest}
use Rattle.inc_model.specs.declared.words.event.Window.{Window}
use Rattle.inc_cell.specs.seen.Seen.{Seen}
use Rattle.inc_filling.specs.Filled.{AreIn, FillsFrom, FillsTold, FillsWith, StopsBy}
use Rattle.inc_filling.specs.Refusals.{first_refusal, refusal_of, taken_pieces}
use Rattle.inc_filling.specs.Streams.{EndsStream, end_of_fill, end_of_state, refused_or_end}
use Rattle.inc_filling.specs.declared.refusal.PieceRefusal.{PieceRefusal}
use Rattle.inc_filling.specs.declared.from_stream.filled.FillEnd.{FillEnd}
use Rattle.inc_filling.specs.declared.from_stream.filled.FillEnd.TheVariants.{Done, Refused, Stream}
use Rattle.inc_filling.specs.declared.from_stream.filled.Filled.{Filled}
use Rattle.inc_filling.specs.declared.from_stream.filled.FillFailure.{FillFailure}
use Rattle.inc_filling.specs.declared.from_stream.filled.FillFailure.TheVariants.{Source, Stopped}
use Rattle.inc_filling.specs.declared.stop.FillStop.{FillStop}
use Rattle.inc_filling.specs.declared.stop.FillStop.TheVariants.{OutOfMemory}
use Rattle.inc_filling.proofs.streams.Outcomes.{all_in, stops_more}

-- ---- pieces and further ones

-- where one is refused the further ones count for nothing
refused_stays : (opened : Opened) (pieces more : List Piece) (refusal : PieceRefusal) → first_refusal opened pieces ≡ Some refusal → (first_refusal opened (pieces ++ more) ≡ Some refusal) × (taken_pieces opened (pieces ++ more) ≡ taken_pieces opened pieces)
refused_stays opened [] more refusal e = absurd (cc)
refused_stays opened (p ∷ ps) more refusal e = step (refused_stays opened ps more refusal) (refusal_of opened p) refl
  where
    step : (first_refusal opened ps ≡ Some refusal → (first_refusal opened (ps ++ more) ≡ Some refusal) × (taken_pieces opened (ps ++ more) ≡ taken_pieces opened ps)) → (found : Option PieceRefusal) → refusal_of opened p ≡ found → (first_refusal opened (p ∷ (ps ++ more)) ≡ Some refusal) × (taken_pieces opened (p ∷ (ps ++ more)) ≡ taken_pieces opened (p ∷ ps))
    step on None f = let later = on (rw f at e) in rw f (later.0, ap (λ (l : List Piece). p ∷ l) later.1)
    step on (Some own) f = let same : Some own ≡ Some refusal = rw f at e in rw f (same, refl)

-- those that are taken stay the first ones
taken_stay : (opened : Opened) (pieces more : List Piece) → (rest : List Piece) × (taken_pieces opened (pieces ++ more) ≡ taken_pieces opened pieces ++ rest)
taken_stay opened [] more = (taken_pieces opened more, refl)
taken_stay opened (p ∷ ps) more = step (taken_stay opened ps more) (refusal_of opened p) refl
  where
    step : ((rest : List Piece) × (taken_pieces opened (ps ++ more) ≡ taken_pieces opened ps ++ rest)) → (found : Option PieceRefusal) → refusal_of opened p ≡ found → (rest : List Piece) × (taken_pieces opened (p ∷ (ps ++ more)) ≡ taken_pieces opened (p ∷ ps) ++ rest)
    step later None f = rw f (later.0, ap (λ (l : List Piece). p ∷ l) later.1)
    step later (Some own) f = rw f ([], refl)

-- none refused: all are taken
all_are_taken : (opened : Opened) (pieces : List Piece) → first_refusal opened pieces ≡ None → taken_pieces opened pieces ≡ pieces
all_are_taken opened [] e = refl
all_are_taken opened (p ∷ ps) e = step (all_are_taken opened ps) (refusal_of opened p) refl
  where
    step : (first_refusal opened ps ≡ None → taken_pieces opened ps ≡ ps) → (found : Option PieceRefusal) → refusal_of opened p ≡ found → taken_pieces opened (p ∷ ps) ≡ p ∷ ps
    step on None f = rw f (ap (λ (l : List Piece). p ∷ l) (on (rw f at e)))
    step on (Some own) f = absurd (let same : Some own ≡ None = rw f at e in cc)

-- ---- a stream and further bytes

abbrev the_front : List Piece → StreamState → StreamFront
the_front pieces state = record { pieces = pieces; state = state }

-- nothing comes after its end or its fault
stands_still : (bytes more : List ℕ) (state : StreamState) → (stream_front bytes).state ≡ state → front_from state more ≡ no_piece state → stream_front (bytes ++ more) ≡ stream_front bytes
stands_still bytes more state is still =
    joined_bytes bytes more (stream_front bytes).pieces [] state state (ap (λ (s : StreamState). the_front (stream_front bytes).pieces s) is) still
    ∙ ap (λ (l : List Piece). the_front l state) (append-nil (stream_front bytes).pieces) ∙ ap (λ (s : StreamState). the_front (stream_front bytes).pieces s) (sym is)

further : (bytes more : List ℕ) → (later : List Piece) × ((stream_front (bytes ++ more)).pieces ≡ (stream_front bytes).pieces ++ later)
further bytes more =
    let on = front_from (stream_front bytes).state more in
    (on.pieces, ap (λ (f : StreamFront). f.pieces) (joined_bytes bytes more (stream_front bytes).pieces on.pieces (stream_front bytes).state on.state refl refl))

ended_state : (state : StreamState) (more : List ℕ) → has_ended state ≡ true → front_from state more ≡ no_piece state
ended_state (Ended count) more e = front_from-ended count more
ended_state (Greeting seen) more e = absurd (cc)
ended_state (Framing limit count rest) more e = absurd (cc)
ended_state (Faulty fault) more e = absurd (cc)

ended_is_done : (state : StreamState) → has_ended state ≡ true → end_of_state state ≡ Done
ended_is_done (Ended count) e = refl
ended_is_done (Greeting seen) e = absurd (cc)
ended_is_done (Framing limit count rest) e = absurd (cc)
ended_is_done (Faulty fault) e = absurd (cc)

-- a stream that is refused stands still: it has its fault, or nothing comes
refused_state : (state : StreamState) (source_ended : Bool) (more : List ℕ) (fault : FrameFault) → IsRefusedStream state source_ended (Some more) (Some fault) → (front_from state more ≡ no_piece state) × (Stream fault ≡ end_of_state state)
unfolding front_from
refused_state (Faulty own) source_ended more fault h = (front_from-faulty own more, ap Stream (let same : Some fault ≡ Some own = h in cc))
refused_state (Ended count) source_ended more fault h = absurd (let same : Some fault ≡ None = h in cc)
refused_state (Greeting seen) source_ended more fault h = (ap (front_from (Greeting seen)) h.1.1, ap Stream h.0)
refused_state (Framing limit count rest) source_ended more fault h = (ap (front_from (Framing limit count rest)) h.1.1, ap Stream h.0)

-- ---- the whole input

rest_of : (all bytes : List ℕ) (left : Option (List ℕ)) → Some all ≡ before_rest bytes left → (more : List ℕ) × (left ≡ Some more) × (all ≡ bytes ++ more)
rest_of all bytes None e = absurd (cc)
rest_of all bytes (Some more) e = (more, refl, let same : Some all ≡ Some (bytes ++ more) = e in cc)

ends_told : (opened : Opened) (bytes more : List ℕ) (source_ended : Bool) (end : FillEnd) → EndsStream opened (stream_front bytes) source_ended (Some more) end
    → (end ≡ end_of_fill opened (stream_front (bytes ++ more))) × (taken_pieces opened (stream_front (bytes ++ more)).pieces ≡ taken_pieces opened (stream_front bytes).pieces)
ends_told opened bytes more source_ended (Refused refusal) h =
    let on = further bytes more in
    let stays = refused_stays opened (stream_front bytes).pieces on.0 refusal h in (
      sym (ap (λ (l : List Piece). refused_or_end (first_refusal opened l) (end_of_state (stream_front (bytes ++ more)).state)) on.1 ∙ ap (λ (found : Option PieceRefusal). refused_or_end found (end_of_state (stream_front (bytes ++ more)).state)) stays.0),
      ap (taken_pieces opened) on.1 ∙ stays.1,
    )
ends_told opened bytes more source_ended (Stream fault) h =
    let state = refused_state (stream_front bytes).state source_ended more fault h.1 in
    let same = stands_still bytes more (stream_front bytes).state refl state.0 in (
      state.1 ∙ sym (ap (λ (found : Option PieceRefusal). refused_or_end found (end_of_state (stream_front bytes).state)) h.0) ∙ ap (end_of_fill opened) (sym same),
      ap (λ (f : StreamFront). taken_pieces opened f.pieces) same,
    )
ends_told opened bytes more source_ended Done h =
    let same = stands_still bytes more (stream_front bytes).state refl (ended_state (stream_front bytes).state more h.1) in (
      sym (ended_is_done (stream_front bytes).state h.1) ∙ sym (ap (λ (found : Option PieceRefusal). refused_or_end found (end_of_state (stream_front bytes).state)) h.0) ∙ ap (end_of_fill opened) (sym same),
      ap (λ (f : StreamFront). taken_pieces opened f.pieces) same,
    )

stops_told : (old new : Seen) (window : Window) (bytes more : List ℕ) (stop : FillStop) → StopsBy old window (taken_pieces old.opened (stream_front bytes).pieces) stop new → StopsBy old window (taken_pieces old.opened (stream_front (bytes ++ more)).pieces) stop new
stops_told old new window bytes more stop h =
    let on = further bytes more in
    let stay = taken_stay old.opened (stream_front bytes).pieces on.0 in
    subst (λ (l : List Piece). StopsBy old window l stop new) (sym (ap (taken_pieces old.opened) on.1 ∙ stay.1)) (stops_more old new window (taken_pieces old.opened (stream_front bytes).pieces) stay.0 stop h)

with_told : (old new : Seen) (window : Window) (bytes more : List ℕ) (source_ended : Bool) (result : Result Filled FillFailure) → FillsWith old window (stream_front bytes) source_ended (Some more) result new → FillsTold old window (stream_front (bytes ++ more)) result new
with_told old new window bytes more source_ended (Ok filled) h =
    let told = ends_told old.opened bytes more source_ended filled.end h.0 in
    (told.0, subst (λ (l : List Piece). AreIn old window l filled.written filled.present new) (sym told.1) h.1)
with_told old new window bytes more source_ended (Err (Source None)) h =
    stops_told old new window bytes more OutOfMemory (subst (λ (l : List Piece). StopsBy old window l OutOfMemory new) (sym (all_are_taken old.opened (stream_front bytes).pieces h.0.none_refused)) (all_in old new window (stream_front bytes).pieces h.1 h.2 h.3))
with_told old new window bytes more source_ended (Err (Source (Some stop))) h =
    stops_told old new window bytes more stop (subst (λ (l : List Piece). StopsBy old window l stop new) (sym (all_are_taken old.opened (stream_front bytes).pieces h.0.none_refused)) h.1)
with_told old new window bytes more source_ended (Err (Stopped stop)) h = stops_told old new window bytes more stop h

pub fills_told : (old new : Seen) (window : Window) (before left : Option (List ℕ)) (source_ended : Bool) (result : Result Filled FillFailure) (all : List ℕ) → FillsFrom old window before left source_ended result new → before ≡ Some all → FillsTold old window (stream_front all) result new
fills_told old new window before left source_ended result all h e =
    let rest = rest_of all h.read left (sym e ∙ h.input_is) in
    subst (λ (bytes : List ℕ). FillsTold old window (stream_front bytes) result new) (sym rest.2)
    (with_told old new window h.read rest.0 source_ended result (subst (λ (l : Option (List ℕ)). FillsWith old window (stream_front h.read) source_ended l result new) rest.1 h.fills))
