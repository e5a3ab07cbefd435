-- What one call of a drive answers: the first group of given pieces, and the reads of one file.
use Rattle.std.proofs.Common.{◌≡◌, inl, inr, ℕ, zero, suc, ◌+◌, ◌-◌, ◌^◌, ◌<◌, ◌≤◌, ltb, List, [], ◌∷◌, ◌++◌, length, take, drop, get_or, Some, refl, sym, ap, subst, ◌∙◌, arith}
use Rattle.std.specs.Prelude.{map, Result, Ok, Err}
use Rattle.std.proofs.lemmas.Bool.{ltb-true, ltb-false}
use Rattle.std.proofs.lemmas.List.{append-nil, length-map, length-take, take_all}
use Rattle.inc_bytes.specs.Tests.{judge}
use Rattle.inc_frame.specs.declared.piece.Piece.{Piece}
use Rattle.inc_layout.specs.declared.opened.Opened.{Opened}
use Rattle.inc_pending.specs.declared.pending_record.PendingRecord.{PendingRecord}
use Rattle.inc_model.specs.declared.words.event.Window.{Window}
use Rattle.inc_model.specs.declared.words.outcomes.FillError.{FillError}
use Rattle.inc_model.specs.declared.words.outcomes.FillError.TheVariants as refusal
use Rattle.inc_model.specs.declared.words.outcomes.Outcome.{Outcome}
use Rattle.inc_model.specs.declared.words.reply.Entry.{Entry}
use Rattle.inc_turn.specs.Turns.{AddsOwn}
use Rattle.inc_turn.specs.declared.view.View.{View}
use Rattle.inc_turn.specs.Locks.{lock_of, seat_view}
use Rattle.inc_turn.specs.declared.seat.Seat.{Seat}
use Rattle.inc_turn.proofs.TurnLemmas.{nothing_adds}
use Rattle.inc_cell.specs.declared.machine.CellFooting.{CellFooting}
use Rattle.inc_filling.specs.Grouped.{puts_of}
use Rattle.inc_filling.specs.declared.filling.Filling.{Filling}
use Rattle.inc_filling.specs.declared.stop.FillStop.{FillStop}
use Rattle.inc_filling.proofs.steps.PieceSteps.{stored_length}
use Rattle.inc_handle.specs.Checks.{piece_refusal}
use Rattle.inc_handle.specs.Fills.{FillsOwn}
use Rattle.inc_handle.specs.Outcomes.{FillsTaken, is_permitted, outcome_at, pass_refusal, told_by}
use Rattle.inc_handle.specs.Pending.{TakesPending}
use Rattle.inc_handle.specs.Shared.{HasGoneOn}
use Rattle.inc_handle.specs.UnderWay.{EachEnds}
use Rattle.inc_handle.specs.declared.fill.pending.TakenReads.{TakenReads}
use Rattle.inc_handle.specs.declared.fill.window.PutEnd.{PutEnd}
use Rattle.inc_script.specs.declared.report_text.ends.DriveEnd.{DriveEnd}
use Rattle.inc_script.specs.declared.report_text.ends.DriveEnd.TheVariants as end
use Rattle.inc_filling.specs.Rounds.{MayWait}
use Rattle.inc_session.specs.DeedFills.{GroupIsIn, StopsGroup}
use Rattle.inc_session.specs.Deeds.{serial_after}
use Rattle.inc_session.specs.GivenFills.{FillsFirst}
use Rattle.inc_session.specs.ReadTakes.{TakesFile, TakesOnce, TakesUntold, TellStop, TellsFirst, TellsReads}
use Rattle.inc_session.specs.declared.driving.counts.DriveCounts.{DriveCounts}
use Rattle.inc_session.proofs.fills.CheckLemmas.{permitted}
use Rattle.inc_session.proofs.fills.SeatSteps.{any_default}

-- ---- checks

pub checked : (result : Result (Unit {0}) FillError) (opened : Opened) (pass_id : List ℕ) (session : ℕ) (piece : Piece) → result ≡ judge (pass_refusal (is_permitted pass_id session opened.header.id session) (piece_refusal opened piece)) tt → pass_id ≡ opened.header.id
    → result ≡ judge (piece_refusal opened piece) tt
checked result opened pass_id session piece e own =
    e ∙ ap (λ b. let r : Result (Unit {0}) FillError = judge (pass_refusal b (piece_refusal opened piece)) tt in r) (permitted pass_id opened.header.id session own)

pub first_refused : (file : CellFooting) (v w : View CellFooting) (pieces : List Piece) (first : Piece) (error : FillError) (counts : DriveCounts) → 0 < length pieces → first ≡ get_or pieces 0 first → piece_refusal file.opened first ≡ Some error → w ≡ v
    → FillsFirst file v pieces counts (Err (end.Refused error)) counts w
first_refused file v w pieces first error counts some is refused same = (
  inl (record {
    error = error;
    stop_is = refl;
    refusal_is = λ d. ap (λ (p : Piece). piece_refusal file.opened p) (any_default pieces 0 d first some ∙ sym is) ∙ refused;
    same = same;
  }),
  refl,
)

-- ---- the first group

-- a seat that nothing was done with
pub stays_put : (before after : Seat CellFooting) → after ≡ before → HasGoneOn before after
stays_put before after e = record {
  same = record { lock_is = ap (λ (s : Seat CellFooting). lock_of s) e; number_is = ap (λ (s : Seat CellFooting). s.number) e; made_is = ap (λ (s : Seat CellFooting). (seat_view s).made) e };
  mine = [];
  adds = subst (λ (s : Seat CellFooting). AddsOwn (seat_view before) (seat_view s) []) (sym e) (nothing_adds (seat_view before));
}

pub first_in : (file : CellFooting) (v u w : View CellFooting) (pieces : List Piece) (len : ℕ) (old new : DriveCounts) → u ≡ v → 1 ≤ len → len ≤ length pieces → MayWait file.opened (take len pieces) → GroupIsIn file u (take len pieces) old new w
    → FillsFirst file v pieces old (Ok len) new w
first_in file v u w pieces len old new e some within may g = record {
  some = some;
  within = within;
  may = may;
  is_in = subst (λ (y : View CellFooting). GroupIsIn file y (take len pieces) old new w) e g;
}

pub first_out : (file : CellFooting) (v u w : View CellFooting) (pieces : List Piece) (len : ℕ) (old new : DriveCounts) (stop : DriveEnd) → u ≡ v → 1 ≤ len → len ≤ length pieces → MayWait file.opened (take len pieces)
    → StopsGroup file u (take len pieces) stop w × (new ≡ old) → FillsFirst file v pieces old (Err stop) new w
first_out file v u w pieces len old new stop e some within may g =
    (inr (record { len = len; some = some; within = within; may = may; stops = subst (λ (y : View CellFooting). StopsGroup file y (take len pieces) stop w) e g.0 }), g.1)

-- ---- a fill has an outcome for each piece

ends_count : (history : List Entry) (from who : ℕ) (opened : Opened) (window : Window) (group : List Filling) (ends : List PutEnd) → EachEnds history from who (puts_of opened window group) ends → length ends ≡ length group
ends_count history from who opened window [] [] h = refl
ends_count history from who opened window [] (e ∷ es) h = absurd h
ends_count history from who opened window (f ∷ fs) [] h = absurd h
ends_count history from who opened window (f ∷ fs) (e ∷ es) h = ap suc (ends_count history from who opened window fs es h.1)

pub outcomes_count : (file : CellFooting) (v w : View CellFooting) (window : Window) (pieces : List Piece) (outcomes : List Outcome) → FillsTaken file v window pieces (Ok outcomes) w → length outcomes ≤ length pieces
outcomes_count file v w window pieces outcomes (inl none) = absurd (let e = none.told in cc)
outcomes_count file v w window pieces outcomes (inr h) = by h.end h.fills h.told
  where
    by : (how : Result ℕ FillStop) → FillsOwn file v window h.group how h.ends h.stored w → Ok outcomes ≡ told_by how h.ends → length outcomes ≤ length pieces
    by (Ok at) f e =
        let same : outcomes ≡ map (outcome_at at) h.ends = cc in
        let each = ends_count _ _ _ file.opened window h.group h.ends f.each in
        let many = stored_length file.opened h.group pieces h.stores in
        omega (arith, ap length same, length-map h.ends (outcome_at at))
    by (Err why) f e = absurd (cc)

-- ---- the reads of one file

pub adds_none : (file : CellFooting) (v w : View CellFooting) (after most : ℕ) (error : FillError) → TakesPending file v after most (Err error) w → AddsOwn v w []
adds_none file v w after most (refusal.HistoryFull entries claimed) h = h.adds
adds_none file v w after most refusal.OutOfMemory h = h
adds_none file v w after most error h = absurd h

takes_once : (file : CellFooting) (v w : View CellFooting) (after next : ℕ) (taken : TakenReads) → TakesPending file v after (2 ^ 32 - 1) (Ok taken) w → next ≡ serial_after after taken.records → TakesOnce v after next taken.records taken.readers w
takes_once file v w after next taken h e = record { adds = h.adds; after_is = e }

pub takes_all : {T : Type 0} (file : CellFooting) (v w : View CellFooting) (after next : ℕ) (taken : TakenReads) (told_before told : List PendingRecord) (old new : DriveCounts) (before faults : ℕ) (done : T) → TakesPending file v after (2 ^ 32 - 1) (Ok taken) w → next ≡ serial_after after taken.records
    → TellsReads taken.records told_before told old new before faults (Ok done) → TakesFile file v after next told_before told old new before faults (Ok (ltb 0 taken.readers)) w
takes_all file v w after next taken told_before told old new before faults done h e tells = (
  record {
    records = taken.records;
    readers = taken.readers;
    takes = takes_once file v w after next taken h e;
    tells = tells.0;
    some_are = λ t. ltb-true 0 taken.readers t;
    none_are = λ t. let low = ltb-false 0 taken.readers t in omega arith;
  },
  tells.1,
)

pub takes_some : (file : CellFooting) (v w : View CellFooting) (after next : ℕ) (taken : TakenReads) (told_before told : List PendingRecord) (old new : DriveCounts) (before faults : ℕ) (stop : DriveEnd) → TakesPending file v after (2 ^ 32 - 1) (Ok taken) w → next ≡ serial_after after taken.records
    → TellsReads {T = Unit {0}} taken.records told_before told old new before faults (Err stop) → TakesFile file v after next told_before told old new before faults (Err stop) w
takes_some file v w after next taken told_before told old new before faults stop h e tells = by stop tells.1
  where
    some : TakesUntold v after next told_before told old new w
    some = record { records = taken.records; readers = taken.readers; unsaid = tells.0.0; takes = takes_once file v w after next taken h e; tells = tells.0.1 }

    by : (how : DriveEnd) → TellStop before faults how → TakesFile file v after next told_before told old new before faults (Err how) w
    by end.Fault c = (inr some, c)
    by end.OutOfMemory c = (inr some, c)
    by how c = absurd c

pub takes_full : (file : CellFooting) (v w : View CellFooting) (after : ℕ) (entries claimed : ℕ) (told : List PendingRecord) (counts : DriveCounts) (faults : ℕ) → TakesPending file v after (2 ^ 32 - 1) (Err (refusal.HistoryFull entries claimed)) w
    → TakesFile file v after after told told counts counts faults faults (Err end.HistoryFull) w
takes_full file v w after entries claimed told counts faults h = ((entries, claimed, h), record { adds = h.adds; told_same = refl; counts_same = refl }, refl)

pub takes_nothing : (file : CellFooting) (v w : View CellFooting) (after : ℕ) (error : FillError) (told : List PendingRecord) (counts : DriveCounts) (faults : ℕ) → TakesPending file v after (2 ^ 32 - 1) (Err error) w
    → TakesFile file v after after told told counts counts faults faults (Err end.OutOfMemory) w
takes_nothing file v w after error told counts faults h = (inl (record { adds = adds_none file v w after (2 ^ 32 - 1) error h; told_same = refl; counts_same = refl }), refl)

-- ---- telling

cut_at : {A : Type 0} (n : ℕ) (xs : List A) → xs ≡ take n xs ++ drop n xs
cut_at zero xs = refl
cut_at (suc n) [] = refl
cut_at {A} (suc n) (x ∷ xs) = ap (λ (l : List A). x ∷ l) (cut_at n xs)

pub told_some : (reads told_before told : List PendingRecord) (old new : DriveCounts) (at : ℕ) → at ≤ length reads → told ≡ told_before ++ take at reads → new ≡ record old { told = old.told + at } → TellsFirst reads told_before told old new (drop at reads)
told_some reads told_before told old new at le e counted = record {
  said = take at reads;
  reads_are = cut_at at reads;
  told_are = e;
  counted = counted ∙ ap (λ (n : ℕ). let d : DriveCounts = record old { told = old.told + n } in d) (omega (arith, length-take at reads));
}

pub told_whole : (reads told_before told : List PendingRecord) (old new : DriveCounts) (at : ℕ) → length reads ≤ at → at ≤ length reads → told ≡ told_before ++ take at reads → new ≡ record old { told = old.told + at } → TellsFirst reads told_before told old new []
told_whole reads told_before told old new at ge le e counted = record {
  said = reads;
  reads_are = sym (append-nil reads);
  told_are = e ∙ ap (λ (l : List PendingRecord). told_before ++ l) (take_all at reads ge);
  counted = counted ∙ ap (λ (n : ℕ). let d : DriveCounts = record old { told = old.told + n } in d) (omega arith);
}
