-- Each read that waits stood there before or was asked by the step, so its entry stands in the history.
use Rattle.std.proofs.Common.{◌≡◌, ℕ, ◌+◌, ◌⊎◌, Bool, true, false, not, cond, leb, List, [], ◌∷◌, ◌++◌, length, get_or, Option, Some, None, refl, sym, ap, subst, ◌∙◌, arith, inl, inr}
use Rattle.std.specs.Prelude.{All}
use Rattle.std.proofs.lemmas.List.{append-nil, append_assoc, length-append}
use Rattle.std.proofs.lemmas.List.Elements.{All-nil, All-push, All-map, All-filter, All-contains_itself}
use Rattle.inc_pending.specs.Polling.{asked_row, is_asked, marked, waits_on}
use Rattle.inc_pending.specs.Times.{times_of}
use Rattle.inc_pending.specs.declared.reads.ReadRow.{ReadRow}
use Rattle.inc_model.specs.declared.words.event.Event.{Event}
use Rattle.inc_model.specs.declared.words.event.Event.TheVariants.{Ask, Poll, Cancel, Claim, PutData, PutPlace, Settle, Gate, Release, TakePending, SetTimes, Ranges, Count, Leave}
use Rattle.inc_model.specs.declared.words.event.Window.{Window}
use Rattle.inc_model.specs.declared.words.file_state.FileState.{FileState}
use Rattle.inc_model.specs.declared.words.file_state.FlightRow.{FlightRow}
use Rattle.inc_model.specs.declared.words.reply.Entry.{Entry}
use Rattle.inc_model.specs.declared.words.reply.Reply.{Reply}
use Rattle.inc_model.specs.declared.words.reply.Reply.TheVariants.{Asked, NoPath, Handed, TimedOut, Fault, Cancelled, Put, Placed, Settled, Gated, TimesSet, Left}
use Rattle.inc_pending.specs.declared.timeouts.Times.{Times}
use Rattle.inc_model.specs.relation.State.{is_in, has, flight_row, IsOpening}
use Rattle.inc_model.specs.relation.Table.{reply_of, ask_reply}
use Rattle.inc_model.specs.relation.Changes.{ask_change, poll_change, cancel_change, put_data_change, put_place_change, settle_change, gate_change, times_change, leave_change, rest_change}
use Rattle.inc_model.specs.relation.Step.{Fits, Step, IsEntry, IsLegal, after_entry, state_after}
use Rattle.inc_model.specs.laws.ReadLaws.{asking, WasWaiting, IsNewRead, WasAsked}
use Rattle.inc_model.proofs.lists.Members.{any_of}
use Rattle.inc_model.proofs.runs.Histories.{after_one}

-- ---- one step

asked_serial : (past damaged compressed : Bool) (next serial : ℕ) → ask_reply past damaged compressed next ≡ Asked serial → next ≡ serial
asked_serial true damaged compressed next serial e = absurd (cc)
asked_serial false true compressed next serial e = absurd (cc)
asked_serial false false true next serial e = absurd (cc)
asked_serial false false false next serial e = cc

module _ (s : FileState) where
  abbrev From : ℕ → Event → Reply → ReadRow → Type 0
  From who event reply row = WasWaiting s row ⊎ IsNewRead s who event reply row

  abbrev Was : ReadRow → ReadRow → Type 0
  Was row other = row ≡ record other { done = row.done }

  was : (who : ℕ) (event : Event) (reply : Reply) → All (From who event reply) s.reads
  was who event reply = λ k d lt. inl (any_of (Was (get_or s.reads k d)) s.reads (get_or s.reads k d) (All-contains_itself s.reads k d lt) refl)

  marked_was_by : (b : Bool) (row : ReadRow) → Was (cond b (record row { done = true }) row) row
  marked_was_by true row = refl
  marked_was_by false row = refl

  ask_from : (told : Bool) (who block uid at : ℕ) (reply : Reply) → Fits told s.faults (reply_of s who (Ask block uid at)) reply → All (From who (Ask block uid at) reply) (ask_change s who block uid at reply).reads
  ask_from told who block uid at (Asked serial) h =
      let next = asked_serial (leb s.n block) (has block s.damaged) (has block s.compressed) s.next serial h in
      let new = asked_row s.next who block (is_in block s.map) uid at (times_of uid s.times) in
      All-push (From who (Ask block uid at) (Asked serial)) s.reads new (was who (Ask block uid at) (Asked serial))
      (inr (record { asker = refl; event_is = refl; reply_is = ap (λ k. Asked k) (sym next); asked_in = record { serial = refl; floor = refl; deadline = refl } }))
  ask_from told who block uid at reply h = was who (Ask block uid at) reply

  poll_from : (who serial at : ℕ) (reply : Reply) → All (From who (Poll serial at) reply) (poll_change s who serial reply).reads
  poll_from who serial at (NoPath hash) = All-filter (λ row. not (is_asked who serial row)) (From who (Poll serial at) (NoPath hash)) s.reads (was who (Poll serial at) (NoPath hash))
  poll_from who serial at (Handed digest) = All-filter (λ row. not (is_asked who serial row)) (From who (Poll serial at) (Handed digest)) s.reads (was who (Poll serial at) (Handed digest))
  poll_from who serial at (TimedOut deadline) = All-filter (λ row. not (is_asked who serial row)) (From who (Poll serial at) (TimedOut deadline)) s.reads (was who (Poll serial at) (TimedOut deadline))
  poll_from who serial at (Fault count) = was who (Poll serial at) (Fault count)
  poll_from who serial at reply = was who (Poll serial at) reply

  cancel_from : (who serial : ℕ) (reply : Reply) → All (From who (Cancel serial) reply) (cancel_change s who serial reply).reads
  cancel_from who serial Cancelled = All-filter (λ row. not (is_asked who serial row)) (From who (Cancel serial) Cancelled) s.reads (was who (Cancel serial) Cancelled)
  cancel_from who serial reply = was who (Cancel serial) reply

  put_data_from : (who at : ℕ) (event : Event) (window : Window) (index : ℕ) (digest : List ℕ) (reply : Reply) → All (From who event reply) (put_data_change at s window index digest reply).reads
  put_data_from who at event window index digest (Put place given) = was who event (Put place given)
  put_data_from who at event window index digest (Fault count) = was who event (Fault count)
  put_data_from who at event window index digest reply = was who event reply

  put_place_from : (who at : ℕ) (event : Event) (index : ℕ) (reply : Reply) → All (From who event reply) (put_place_change at s index reply).reads
  put_place_from who at event index Placed = was who event Placed
  put_place_from who at event index (Fault count) = was who event (Fault count)
  put_place_from who at event index reply = was who event reply

  settle_from : (who at : ℕ) (event : Event) (reply : Reply) → All (From who event reply) (settle_change at s reply).reads
  settle_from who at event Settled = was who event Settled
  settle_from who at event (Fault count) = was who event (Fault count)
  settle_from who at event reply = was who event reply

  gate_from : (who at : ℕ) (event : Event) (index : ℕ) (found : Option FlightRow) (reply : Reply) → All (From who event reply) (gate_change at s index found reply).reads
  gate_from who at event index None reply = was who event reply
  gate_from who at event index (Some row) (Gated count) =
      All-map (From who event (Gated count)) (marked index) s.reads
      (λ k d lt. inl (any_of (Was (marked index (get_or s.reads k d))) s.reads (get_or s.reads k d) (All-contains_itself s.reads k d lt) (marked_was_by (waits_on index (get_or s.reads k d)) (get_or s.reads k d))))
  gate_from who at event index (Some row) (Fault count) = was who event (Fault count)
  gate_from who at event index (Some row) reply = was who event reply

  times_from : (who : ℕ) (event : Event) (uid : ℕ) (times : Times) (reply : Reply) → All (From who event reply) (times_change s uid times reply).reads
  times_from who event uid times TimesSet = was who event TimesSet
  times_from who event uid times reply = was who event reply

  leave_from : (who : ℕ) (event : Event) (reply : Reply) → All (From who event reply) (leave_change s reply).reads
  leave_from who event (Left readers) = was who event (Left readers)
  leave_from who event reply = was who event reply

  rest_from : (told : Bool) (at who : ℕ) (event : Event) (reply : Reply) → Fits told s.faults (reply_of s who event) reply → All (From who event reply) (rest_change at s who event reply).reads
  rest_from told at who (Ask block uid moment) reply h = ask_from told who block uid moment reply h
  rest_from told at who (Poll serial moment) reply h = poll_from who serial moment reply
  rest_from told at who (Cancel serial) reply h = cancel_from who serial reply
  rest_from told at who (Claim window places) reply h = was who (Claim window places) reply
  rest_from told at who (PutData window index digest) reply h = put_data_from who at (PutData window index digest) window index digest reply
  rest_from told at who (PutPlace window index) reply h = put_place_from who at (PutPlace window index) index reply
  rest_from told at who (Settle window) reply h = settle_from who at (Settle window) reply
  rest_from told at who (Gate window index) reply h = gate_from who at (Gate window index) index (flight_row index s.flight) reply
  rest_from told at who (Release window) reply h = was who (Release window) reply
  rest_from told at who (TakePending after most) reply h = was who (TakePending after most) reply
  rest_from told at who (SetTimes uid times) reply h = times_from who (SetTimes uid times) uid times reply
  rest_from told at who (Ranges start end room) reply h = was who (Ranges start end room) reply
  rest_from told at who Count reply h = was who Count reply
  rest_from told at who Leave reply h = leave_from who Leave reply

pub reads_come : (old new : FileState) (told : Bool) (at who : ℕ) (event : Event) (reply : Reply) → Step at told old who event reply new → All (λ row. WasWaiting old row ⊎ IsNewRead old who event reply row) new.reads
reads_come old new told at who event reply step = subst (λ (s : FileState). All (λ row. WasWaiting old row ⊎ IsNewRead old who event reply row) s.reads) (sym step.after) (rest_from old told at who event reply step.allowed.fits)

-- ---- histories

abbrev entry_with : ℕ → Event → Reply → Entry
entry_with who event reply = record { who = who; event = event; reply = reply }

module _ (start : FileState) where
  -- a longer history has the entry too
  longer : (entries more : List Entry) (row : ReadRow) → WasAsked start entries row → WasAsked start (entries ++ more) row
  longer entries more row w = record {
    before = w.before;
    after = w.after ++ more;
    cut = ap (λ (l : List Entry). l ++ more) w.cut ∙ append_assoc w.before (asking row ∷ w.after) more;
    asked_in = w.asked_in;
  }

  -- whether a read is done doesn't matter
  redone : (entries : List Entry) (row : ReadRow) (done : Bool) → WasAsked start entries row → WasAsked start entries (record row { done = done })
  redone entries row done w = record {
    before = w.before;
    after = w.after;
    cut = w.cut;
    asked_in = record { serial = w.asked_in.serial; floor = w.asked_in.floor; deadline = w.asked_in.deadline };
  }

  one_from : (done : List Entry) (entry : Entry) (row : ReadRow) → All (WasAsked start done) (state_after 0 start done).reads → WasWaiting (state_after 0 start done) row ⊎ IsNewRead (state_after 0 start done) entry.who entry.event entry.reply row → WasAsked start (done ++ entry ∷ []) row
  one_from done entry row h (inl waited) =
      let other = waited.1 in
      let asked : WasAsked start done other = subst (WasAsked start done) waited.3 (h waited.0 other waited.2) in
      longer done (entry ∷ []) row (subst (WasAsked start done) (sym waited.4) (redone done other row.done asked))
  one_from done entry row h (inr new) = record {
    before = done;
    after = [];
    cut = ap (λ (e : Entry). done ++ e ∷ []) (
        ap (λ (who : ℕ). entry_with who entry.event entry.reply) (sym new.asker)
        ∙ ap (λ (event : Event). entry_with row.who event entry.reply) new.event_is
        ∙ ap (λ (reply : Reply). entry_with row.who (Ask row.block row.uid row.asked) reply) new.reply_is);
    asked_in = new.asked_in;
  }

  abbrev AllAsked : List Entry → Type 0
  AllAsked entries = All (WasAsked start entries) (state_after 0 start entries).reads

  one_asked : (told : Bool) (done : List Entry) (entry : Entry) → AllAsked done → IsEntry (length done) told (state_after 0 start done) entry → AllAsked (done ++ entry ∷ [])
  one_asked told done entry h e =
      let s = state_after 0 start done in
      let new = after_entry (length done) s entry in
      let is : new ≡ state_after 0 start (done ++ entry ∷ []) = ap (λ k. after_entry k s entry) (omega arith) ∙ sym (after_one start 0 done entry) in
      let come = reads_come s new told (length done) entry.who entry.event entry.reply (record { allowed = e.allowed; after = refl }) in
      subst (λ (t : FileState). All (WasAsked start (done ++ entry ∷ [])) t.reads) is (λ k d lt. one_from done entry (get_or new.reads k d) h (come k d lt))

  all_asked : (told : Bool) (done rest : List Entry) → AllAsked done → IsLegal (length done) told (state_after 0 start done) rest → AllAsked (done ++ rest)
  all_asked told done [] h legal = subst AllAsked (sym (append-nil done)) h
  all_asked told done (entry ∷ rest) h legal =
      let s = state_after 0 start done in
      let new = after_entry (length done) s entry in
      let is : new ≡ state_after 0 start (done ++ entry ∷ []) = ap (λ k. after_entry k s entry) (omega arith) ∙ sym (after_one start 0 done entry) in
      let count : length done + 1 ≡ length (done ++ entry ∷ []) = omega (arith, length-append done (entry ∷ [])) in
      let later : IsLegal (length (done ++ entry ∷ [])) told (state_after 0 start (done ++ entry ∷ [])) rest = subst (λ (t : FileState). IsLegal (length (done ++ entry ∷ [])) told t rest) is (subst (λ k. IsLegal k told new rest) count legal.1) in
      subst AllAsked (append_assoc done (entry ∷ []) rest) (all_asked told (done ++ entry ∷ []) rest (one_asked told done entry h legal.0) later)

pub reads_asked : (start : FileState) (told : Bool) (entries : List Entry) → IsOpening start → IsLegal 0 told start entries → All (WasAsked start entries) (state_after 0 start entries).reads
reads_asked start told entries opening legal =
    all_asked start told [] entries (subst (All (WasAsked start [])) (sym opening.no_reads) (All-nil (WasAsked start []))) legal
