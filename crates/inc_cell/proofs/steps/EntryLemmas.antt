-- What holds of each cell after one more entry.
use Rattle.std.proofs.Common.{◌≡◌, ℕ, ◌+◌, ◌^◌, ◌<◌, ◌≤◌, Bool, eqb, ltb, List, [], ◌∷◌, ◌++◌, length, Some, refl, sym, ap, subst, ◌∙◌, arith, length-append, append_assoc}
use Rattle.std.proofs.lemmas.Bool.{cond_both, ne_eqb, eqb-false}
use Rattle.inc_entry.specs.Entry.{Places, area_places}
use Rattle.inc_disk.specs.Disk.{DiskState, SoundNow}
use Rattle.inc_layout.specs.state.State.{IsStateOf}
use Rattle.inc_layout.specs.declared.opened.Opened.{Opened}
use Rattle.inc_model.specs.relation.Changes.{change}
use Rattle.inc_model.specs.relation.Facts.{FileFacts, MoreFacts}
use Rattle.inc_model.specs.relation.State.{flight_row}
use Rattle.inc_model.specs.relation.Stages.{written}
use Rattle.inc_model.specs.relation.Step.{IsAllowed, IsEntry, IsKept, IsLegal, Step, after_entry, state_after}
use Rattle.inc_model.specs.declared.words.event.Event.{Event}
use Rattle.inc_model.specs.declared.words.event.Event.TheVariants.{Ask, Poll, Cancel, Claim, PutData, PutPlace, Settle, Gate, Release, TakePending, SetTimes, Ranges, Count, Leave}
use Rattle.inc_model.specs.declared.words.event.Window.{Window}
use Rattle.inc_model.specs.declared.words.file_state.FileState.{FileState}
use Rattle.inc_model.specs.declared.words.file_state.FlightRow.{FlightRow}
use Rattle.inc_model.specs.declared.words.reply.Entry.{Entry}
use Rattle.inc_model.specs.declared.words.reply.Reply.{Reply}
use Rattle.inc_model.specs.declared.words.reply.Reply.TheVariants.{Fault, Put}
use Rattle.inc_model.proofs.lists.Flight.{row_fly}
use Rattle.inc_model.proofs.runs.Histories.{after_one, both_legal, legal_facts, legal_more}
use Rattle.inc_model.proofs.steps.Faults.{faults_seen, faults_stay}
use Rattle.inc_readlog.specs.Log.{Tells}
use Rattle.inc_readlog.specs.declared.entry.LogEntry.{LogEntry}
use Rattle.inc_cell.specs.device.Device.{DeviceDoes, PutDoes}
use Rattle.inc_cell.specs.events.Ended.{ended_by, ended_reads}
use Rattle.inc_cell.specs.device.Moves.{Brings, LeavesEither, end_then, end_with}
use Rattle.inc_cell.specs.seen.Parts.{parts_of}
use Rattle.inc_cell.specs.seen.Seen.{CellHolds, Seen, StandsIn, spots_now, state_now, tells}
use Rattle.inc_cell.specs.seen.Spots.{opened_spot, spot_after, spot_then}
use Rattle.inc_cell.specs.events.Steps.{HasCounted}
use Rattle.inc_cell.specs.laws.MachineLaws.{device_tells}
use Rattle.inc_cell.proofs.standing.FlownLemmas.{flew}
use Rattle.inc_cell.proofs.standing.MoveLemmas.{moves}

-- ---- lists that go on with a history

pub spot_more : (spot : ℕ → ℕ) (entries : List Entry) (entry : Entry) → spot_after spot (entries ++ entry ∷ []) ≡ spot_then entry.event entry.reply (spot_after spot entries)
spot_more spot [] entry = refl
spot_more spot (first ∷ rest) entry = spot_more (spot_then first.event first.reply spot) rest entry

pub ended_more : (at : ℕ) (s : FileState) (entries : List Entry) (entry : Entry) → ended_reads at s (entries ++ entry ∷ []) ≡ ended_reads at s entries ++ ended_by (state_after at s entries) entry.who entry.event entry.reply
ended_more at s [] entry = right (ended_by s entry.who entry.event entry.reply)
  where
    right : (xs : List LogEntry) → xs ++ [] ≡ xs
    right [] = refl
    right (x ∷ xs) = ap (λ rest. x ∷ rest) (right xs)
ended_more at s (first ∷ rest) entry =
    ap (λ more. ended_by s first.who first.event first.reply ++ more) (ended_more (at + 1) (after_entry at s first) rest entry)
    ∙ sym (append_assoc (ended_by s first.who first.event first.reply) (ended_reads (at + 1) (after_entry at s first) rest) (ended_by (state_after (at + 1) (after_entry at s first) rest) entry.who entry.event entry.reply))

pub state_more : (opening : FileState) (entries : List Entry) (entry : Entry) → state_after 0 opening (entries ++ entry ∷ []) ≡ after_entry (length entries) (state_after 0 opening entries) entry
state_more opening entries entry =
    let e : 0 + length entries ≡ length entries = omega arith in
    after_one opening 0 entries entry ∙ ap (λ n. after_entry n (state_after 0 opening entries) entry) e

-- ---- numbers

end_with_most : (places : Places) (end index : ℕ) (reply : Reply) → end_with places end index reply ≤ end + 4096
end_with_most places end index (Put place digest) = cond_both (ltb index _) (end + 4096) end (λ n. n ≤ end + 4096) (λ _. omega arith) (λ _. omega arith)
end_with_most places end index reply = omega arith

end_most : (places : Places) (end : ℕ) (event : Event) (reply : Reply) → end_then places end event reply ≤ end + 4096
end_most places end (PutData window index digest) reply = end_with_most places end index reply
end_most places end event reply = omega arith

counted_then : (s t : FileState) (told : Bool) (at who : ℕ) (event : Event) (reply : Reply) (before now : ℕ) → Step at told s who event reply t → HasCounted before now reply → s.faults ≤ before → t.faults ≤ now
counted_then s t told at who event (Fault count) before now step cause le =
    let seen = faults_seen s t told at who event count step in
    let one = seen.counted in
    let two = cause.0 in
    omega arith
counted_then s t told at who event reply before now step cause le =
    let quiet = (faults_stay s t told at who event reply step (λ h. h)).0 in
    let same : now ≡ before = cause in
    omega arith

-- ---- the places of the blocks in flight

put_fits : (opened : Opened) (s : FileState) (at who : ℕ) (window : Window) (index : ℕ) (digest block : List ℕ) (reply : Reply) (spot : ℕ → ℕ) (old new : List DiskState) → PutDoes (area_places opened.areas) index block reply old new
    → ((i : ℕ) (found : FlightRow) → flight_row i s.flight ≡ Some found → spot i < 2 ^ 48) → (i : ℕ) (found : FlightRow) → flight_row i (change at s who (PutData window index digest) reply).flight ≡ Some found
    → spot_then (PutData window index digest) reply spot i < 2 ^ 48
put_fits opened s at who window index digest block (Put place given) spot old new does low i found e =
    let below = does.0.below in
    cond_both (eqb i index) place (spot i) (λ n. n < 2 ^ 48) (λ _. omega arith)
    (λ ne. low i found (sym (row_fly i (written window index digest) s.flight (ne_eqb index i (λ same. eqb-false i index ne (sym same)))) ∙ e))
put_fits opened s at who window index digest block (Fault count) spot old new does low i found e = low i found e
put_fits opened s at who window index digest block reply spot old new does low i found e = low i found e

-- ---- the whole

module _ (old : Seen) (end : ℕ) (holds : CellHolds old end) (who : ℕ) (event : Event) (reply : Reply) (block : List ℕ) (states : List DiskState)
    (allowed : IsAllowed (length old.history) (tells old.states) (state_now old) who event reply)
    (sound : SoundNow old.states) (brings : Brings old.opened event block) (device : DeviceDoes old.opened (spots_now old) block event reply old.states states) where
  abbrev Before : FileState
  Before = state_now old

  abbrev After : FileState
  After = change (length old.history) (state_now old) who event reply

  facts : FileFacts old.opening (state_now old)
  facts = legal_facts old.opening (tells old.states) old.history holds.begins.opening holds.legal

  more : MoreFacts old.opening (state_now old)
  more = legal_more old.opening (tells old.states) old.history holds.begins.opening holds.legal

  -- the file is the same as at the opening
  is_state : IsStateOf old.opened (parts_of (state_now old))
  is_state =
      let told = holds.begins.told.state in
      let same = more.same in
      record { id_is = told.id_is ∙ sym same.0; root_is = told.root_is ∙ sym same.3; data_is = told.data_is ∙ sym same.1; hash_is = told.hash_is ∙ sym same.2 }

  pub moved_to : LeavesEither old.states states (state_now old) (change (length old.history) (state_now old) who event reply)
      × StandsIn old.opened (change (length old.history) (state_now old) who event reply) (spot_then event reply (spots_now old)) (end_then (area_places old.opened.areas) end event reply) states
  moved_to =
      let m = moves old.opened old.opening (state_now old) facts more is_state (tells old.states) (length old.history) who event reply block (spots_now old) end old.states states sound allowed.fits brings holds.spots_fit device holds.standing in
      (m.moments, m.standing)

  spots_then : (e : Event) → event ≡ e → (i : ℕ) (found : FlightRow) → flight_row i (change (length old.history) (state_now old) who e reply).flight ≡ Some found → DeviceDoes old.opened (spots_now old) block e reply old.states states → spot_then e reply (spots_now old) i < 2 ^ 48
  spots_then (PutData window index digest) is i found e does = put_fits old.opened (state_now old) (length old.history) who window index digest block reply (spots_now old) old.states states does holds.spots_fit i found e
  spots_then (PutPlace window index) is i found e does = let was = flew (state_now old) facts.flying.once (length old.history) who (PutPlace window index) reply tt i found e in holds.spots_fit i was.0 was.1
  spots_then (Settle window) is i found e does = let was = flew (state_now old) facts.flying.once (length old.history) who (Settle window) reply tt i found e in holds.spots_fit i was.0 was.1
  spots_then (Gate window index) is i found e does = let was = flew (state_now old) facts.flying.once (length old.history) who (Gate window index) reply tt i found e in holds.spots_fit i was.0 was.1
  spots_then (Ask index uid moment) is i found e does = let was = flew (state_now old) facts.flying.once (length old.history) who (Ask index uid moment) reply tt i found e in holds.spots_fit i was.0 was.1
  spots_then (Poll serial moment) is i found e does = let was = flew (state_now old) facts.flying.once (length old.history) who (Poll serial moment) reply tt i found e in holds.spots_fit i was.0 was.1
  spots_then (Cancel serial) is i found e does = let was = flew (state_now old) facts.flying.once (length old.history) who (Cancel serial) reply tt i found e in holds.spots_fit i was.0 was.1
  spots_then (Claim window count) is i found e does = let was = flew (state_now old) facts.flying.once (length old.history) who (Claim window count) reply tt i found e in holds.spots_fit i was.0 was.1
  spots_then (Release window) is i found e does = let was = flew (state_now old) facts.flying.once (length old.history) who (Release window) reply tt i found e in holds.spots_fit i was.0 was.1
  spots_then (TakePending after most) is i found e does = let was = flew (state_now old) facts.flying.once (length old.history) who (TakePending after most) reply tt i found e in holds.spots_fit i was.0 was.1
  spots_then (SetTimes uid times) is i found e does = let was = flew (state_now old) facts.flying.once (length old.history) who (SetTimes uid times) reply tt i found e in holds.spots_fit i was.0 was.1
  spots_then (Ranges start limit room) is i found e does = let was = flew (state_now old) facts.flying.once (length old.history) who (Ranges start limit room) reply tt i found e in holds.spots_fit i was.0 was.1
  spots_then Count is i found e does = let was = flew (state_now old) facts.flying.once (length old.history) who Count reply tt i found e in holds.spots_fit i was.0 was.1
  spots_then Leave is i found e does = let was = flew (state_now old) facts.flying.once (length old.history) who Leave reply tt i found e in holds.spots_fit i was.0 was.1

  module _ (new : Seen) (kept : IsKept reply) (states_are : new.states ≡ states) (opened_is : new.opened ≡ old.opened) (opening_is : new.opening ≡ old.opening)
      (history_is : new.history ≡ old.history ++ record { who = who; event = event; reply = reply } ∷ []) (cause : HasCounted old.count new.count reply)
      (log : Tells (ended_reads 0 old.opening old.history ++ ended_by (state_now old) who event reply) new.log) where
    abbrev TheEntry : Entry
    TheEntry = record { who = who; event = event; reply = reply }

    made : Seen
    made = record { states = states; count = new.count; opened = old.opened; opening = old.opening; history = old.history ++ record { who = who; event = event; reply = reply } ∷ []; log = new.log }

    made_is : record { states = states; count = new.count; opened = old.opened; opening = old.opening; history = old.history ++ record { who = who; event = event; reply = reply } ∷ []; log = new.log } ≡ new
    made_is =
        let a = sym states_are in
        let b = sym opened_is in
        let c = sym opening_is in
        let d = sym history_is in
        λ k. record { states = a k; count = new.count; opened = b k; opening = c k; history = d k; log = new.log }

    pub state_then : state_after 0 old.opening (old.history ++ record { who = who; event = event; reply = reply } ∷ []) ≡ change (length old.history) (state_now old) who event reply
    state_then = state_more old.opening old.history (record { who = who; event = event; reply = reply })

    the_step : Step (length old.history) (tells old.states) (state_now old) who event reply (change (length old.history) (state_now old) who event reply)
    the_step = record { allowed = allowed; after = refl }

    pub entry_holds : CellHolds new (end_then (area_places old.opened.areas) end event reply)
    entry_holds =
        let entry : Entry = record { who = who; event = event; reply = reply } in
        let t : FileState = change (length old.history) (state_now old) who event reply in
        let e : 0 + length old.history ≡ length old.history = omega arith in
        let told = device_tells old.opened (spots_now old) block event reply old.states states device in
        let is_entry : IsEntry (0 + length old.history) (tells old.states) (state_now old) entry = subst (λ n. IsEntry n (tells old.states) (state_now old) entry) (sym e) (record { allowed = allowed; kept = kept }) in
        let legal : IsLegal 0 (tells old.states) old.opening (old.history ++ entry ∷ []) = both_legal old.opening (tells old.states) 0 old.history (entry ∷ []) holds.legal (is_entry, tt) in
        let state_is : t ≡ state_after 0 old.opening (old.history ++ entry ∷ []) = sym state_then in
        let spots_are = sym (spot_more (opened_spot old.opened) old.history entry) in
        let end' : ℕ = end_then (area_places old.opened.areas) end event reply in
        subst (λ (seen : Seen). CellHolds seen (end_then (area_places old.opened.areas) end event reply)) made_is (record {
          sound = holds.sound;
          short = holds.short;
          begins = holds.begins;
          legal = subst (λ b. IsLegal 0 b old.opening (old.history ++ entry ∷ [])) (sym told) legal;
          counted = subst (λ (s : FileState). s.faults ≤ new.count) state_is (counted_then (state_now old) t (tells old.states) (length old.history) who event reply old.count new.count the_step cause holds.counted);
          grown =
              let most = end_most (area_places old.opened.areas) end event reply in
              let grown = holds.grown in
              let longer = length-append old.history (entry ∷ []) in
              omega arith;
          standing = subst (λ (s : FileState). StandsIn old.opened s (spot_after (opened_spot old.opened) (old.history ++ entry ∷ [])) end' states) state_is (subst (λ (spot : ℕ → ℕ). StandsIn old.opened t spot end' states) spots_are moved_to.1);
          spots_fit = λ i found is.
              let at : flight_row i t.flight ≡ Some found = subst (λ (s : FileState). flight_row i s.flight ≡ Some found) (sym state_is) is in
              subst (λ (spot : ℕ → ℕ). spot i < 2 ^ 48) spots_are (spots_then event refl i found at device);
          logged = subst (λ all. Tells all new.log) (sym (ended_more 0 old.opening old.history entry)) log;
        })

    pub entry_moments : LeavesEither old.states new.states (state_now old) (state_now new)
    entry_moments =
        let state_is : change (length old.history) (state_now old) who event reply ≡ state_now new = sym state_then ∙ ap (λ (seen : Seen). state_now seen) made_is in
        subst (λ (s : FileState). LeavesEither old.states new.states (state_now old) s) state_is
        (subst (λ (after : List DiskState). LeavesEither old.states after (state_now old) (change (length old.history) (state_now old) who event reply)) (sym states_are) moved_to.0)

    pub entry_step : Step (length old.history) (tells old.states) (state_now old) who event reply (state_now new)
    entry_step = record { allowed = allowed; after = sym (ap (λ (seen : Seen). state_now seen) made_is) ∙ state_then }
