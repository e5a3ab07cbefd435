-- The reads of one file more, in a turn.
use Rattle.std.proofs.Common.{◌≡◌, ◌≢◌, ◌⊎◌, inl, inr, ℕ, ◌+◌, ◌<◌, Bool, true, false, cond, eqb, ltb, List, [], ◌∷◌, ◌++◌, length, get_or, set, Some, None, refl, sym, ap, subst, ◌∙◌, arith, append_assoc, length-append}
use Rattle.std.proofs.lemmas.Bool.{eqb-true, eq-eqb, ltb-true, ltb-false}
use Rattle.std.proofs.lemmas.List.{append-nil, get_or-set_same, get_or-set_other, length-set}
use Rattle.inc_pending.specs.declared.pending_record.PendingRecord.{PendingRecord}
use Rattle.inc_model.specs.declared.words.reply.Entry.{Entry}
use Rattle.inc_turn.specs.Locks.{IsSameSeat, seat_view}
use Rattle.inc_turn.specs.Turns.{AddsOwn}
use Rattle.inc_turn.specs.declared.seat.Seat.{Seat}
use Rattle.inc_cell.specs.declared.machine.CellFooting.{CellFooting}
use Rattle.inc_script.specs.declared.report_text.ends.DriveEnd.{DriveEnd}
use Rattle.inc_session.proofs.fills.EachLemmas.{each_append}
use Rattle.inc_session.specs.Deeds.{EachOf, Deed, deeds_of, entries_at, reads_taken, readers_left, serial_after}
use Rattle.inc_session.specs.DriveSeats.{HomeFile, SeatsAdd}
use Rattle.inc_session.specs.ReadTakes.{IsTakeEntry, ReadersLeft, TakesAll, TakesNone, TakesUntold, TellsFirst, TookAt, TurnIsTold, TurnStopCause, TurnStops, take_entry}
use Rattle.inc_session.specs.declared.driving.counts.DriveCounts.{DriveCounts}
use Rattle.inc_session.proofs.fills.DeedLemmas.{entries_both, entries_other, entries_own, reads_both}
use Rattle.inc_session.proofs.fills.SeatSteps.{any_default, seats_both, seats_none, seats_one}

tells_none : (told : List PendingRecord) (counts : DriveCounts) → TellsFirst [] told told counts counts []
tells_none told counts = record { said = []; reads_are = refl; told_are = sym (append-nil told); counted = same }
  where
    same : counts ≡ record counts { told = counts.told + 0 }
    same = ap (λ (n : ℕ). record counts { told = n }) (omega arith)

pub turn_none : (seats : List (Seat CellFooting)) (afters : List ℕ) (told : List PendingRecord) (counts : DriveCounts) → TurnIsTold seats 0 afters afters told told counts counts false seats
turn_none seats afters told counts = record {
  deeds = [];
  took = record {
    seats = seats_none seats;
    afters_count = refl;
    taken = λ k d lt. absurd (omega arith);
    rest = λ k d le. (refl, refl);
    each = tt;
  };
  tells = tells_none told counts;
  left = λ k lt. absurd (omega arith);
}

-- what was told first, and then
pub tells_both : (first second : List PendingRecord) (a b c : List PendingRecord) (old mid new : DriveCounts) (unsaid : List PendingRecord) → TellsFirst first a b old mid [] → TellsFirst second b c mid new unsaid → TellsFirst (first ++ second) a c old new unsaid
tells_both first second a b c old mid new unsaid h k = record {
  said = h.said ++ k.said;
  reads_are =
      ap (λ (l : List PendingRecord). l ++ second) (h.reads_are ∙ append-nil h.said)
      ∙ ap (λ (l : List PendingRecord). h.said ++ l) k.reads_are
      ∙ sym (append_assoc h.said k.said unsaid);
  told_are = k.told_are ∙ ap (λ (l : List PendingRecord). l ++ k.said) h.told_are ∙ append_assoc a h.said k.said;
  counted = counted;
}
  where
    counted : new ≡ record old { told = old.told + length (h.said ++ k.said) }
    counted =
        k.counted
        ∙ ap (λ (c : DriveCounts). let d : DriveCounts = record c { told = c.told + length k.said } in d) h.counted
        ∙ ap (λ (n : ℕ). let d : DriveCounts = record old { told = n } in d) (omega (arith, length-append h.said k.said))

module _ (before seats : List (Seat CellFooting)) (place : ℕ) (afters_before afters : List ℕ) (told_before told : List PendingRecord) (old mid : DriveCounts) (some : Bool) (t : TurnIsTold before place afters_before afters told_before told old mid some seats)
    (within : place < length seats) (same_count : length afters ≡ length seats) (seat now : Seat CellFooting) (seat_is : seat ≡ get_or seats place seat) (same : IsSameSeat seat now) where
  -- another file's entries, and its own
  entries_there : (entries : List Entry) (k : ℕ) → k ≢ place → entries_at k (t.deeds ++ deeds_of place entries) ≡ entries_at k t.deeds
  entries_there entries k other =
      entries_both k t.deeds (deeds_of place entries) ∙ ap (λ (l : List Entry). entries_at k t.deeds ++ l) (entries_other k place entries (λ e. other (sym e))) ∙ append-nil (entries_at k t.deeds)

  entries_here : (entries : List Entry) → entries_at place (t.deeds ++ deeds_of place entries) ≡ entries
  entries_here entries =
      entries_both place t.deeds (deeds_of place entries) ∙ ap (λ (l : List Entry). l ++ entries_at place (deeds_of place entries)) (t.took.rest place 0 (omega arith)).0 ∙ entries_own place entries

  seats_on : (entries : List Entry) → AddsOwn (seat_view seat) (seat_view now) entries → SeatsAdd before (set seats place now) (t.deeds ++ deeds_of place entries)
  seats_on entries adds = seats_both before seats (set seats place now) t.deeds (deeds_of place entries) t.took.seats (seats_one seats place now seat entries within seat_is same adds)

  after_here : (d : ℕ) → get_or afters place d ≡ get_or afters_before place d
  after_here d = (t.took.rest place d (omega arith)).1

  take_each : (after next : ℕ) (records : List PendingRecord) (readers : ℕ) → EachOf (λ (deed : Deed). IsTakeEntry deed.entry) (t.deeds ++ deeds_of place (take_entry (seat_view seat).number after records readers ∷ []))
  take_each after next records readers =
      each_append (λ (deed : Deed). IsTakeEntry deed.entry) t.deeds (deeds_of place (take_entry (seat_view seat).number after records readers ∷ [])) t.took.each
      (record { who = (seat_view seat).number; after = after; records = records; readers = readers; entry_is = refl }, tt)

  reads_here : (after : ℕ) (records : List PendingRecord) (readers : ℕ) → reads_taken (t.deeds ++ deeds_of place (take_entry (seat_view seat).number after records readers ∷ [])) ≡ reads_taken t.deeds ++ records
  reads_here after records readers =
      reads_both t.deeds (deeds_of place (take_entry (seat_view seat).number after records readers ∷ [])) ∙ ap (λ (l : List PendingRecord). reads_taken t.deeds ++ l) (append-nil records)

  module _ (next : ℕ) (told_now : List PendingRecord) (new : DriveCounts) where
    pub turn_more : (more all : Bool) → all ≡ cond more true some → TakesAll (seat_view seat) (get_or afters place 0) next told told_now mid new more (seat_view now)
        → TurnIsTold before (place + 1) afters_before (set afters place next) told_before told_now old new all (set seats place now)
    turn_more more all e h = record {
      deeds = deeds;
      took = record {
        seats = seats_on entries h.takes.adds;
        afters_count = length-set afters place next ∙ t.took.afters_count;
        taken = λ k d lt. taken k d lt (eqb k place) refl;
        rest = λ k d le.
            let other : k ≢ place = λ at. absurd (omega (arith, at)) in
            let was = t.took.rest k d (omega arith) in
            (entries_there entries k other ∙ was.0, get_or-set_other afters place k next d other ∙ was.1);
        each = take_each (get_or afters place 0) next h.records h.readers;
      };
      tells = subst (λ (l : List PendingRecord). TellsFirst l told_before told_now old new []) (sym (reads_here (get_or afters place 0) h.records h.readers))
          (tells_both (reads_taken t.deeds) h.records told_before told told_now old mid new [] t.tells h.tells);
      left = subst (λ b. ReadersLeft b (place + 1) deeds) (sym e) (left more refl some t.left);
    }
      where
        entries : List Entry
        entries = take_entry (seat_view seat).number (get_or afters place 0) h.records h.readers ∷ []

        deeds : List Deed
        deeds = t.deeds ++ deeds_of place entries

        in_afters : place < length afters
        in_afters = omega (arith, same_count, within)

        taken : (k d : ℕ) → k < place + 1 → (b : Bool) → eqb k place ≡ b → TookAt (get_or afters_before k d) (get_or (set afters place next) k d) (entries_at k deeds)
        taken k d lt true at =
            let is : k ≡ place = eqb-true k place at in
            subst (λ (n : ℕ). TookAt (get_or afters_before n d) (get_or (set afters place next) n d) (entries_at n deeds)) (sym is) (record {
              who = (seat_view seat).number;
              records = h.records;
              readers = h.readers;
              entries_are = entries_here entries ∙ ap (λ (n : ℕ). take_entry (seat_view seat).number n h.records h.readers ∷ []) (any_default afters place 0 d in_afters ∙ after_here d);
              after_is = get_or-set_same afters place next d in_afters ∙ h.takes.after_is ∙ ap (λ (n : ℕ). serial_after n h.records) (any_default afters place 0 d in_afters ∙ after_here d);
            })
        taken k d lt false at =
            let other : k ≢ place = λ same_k. absurd (let own : eqb k place ≡ true = eq-eqb k place same_k in cc) in
            let low : k < place = omega (arith, lt, other) in
            subst (λ (l : List Entry). TookAt (get_or afters_before k d) (get_or (set afters place next) k d) l) (sym (entries_there entries k other))
            (subst (λ (n : ℕ). TookAt (get_or afters_before k d) n (entries_at k t.deeds)) (sym (get_or-set_other afters place k next d other)) (t.took.taken k d low))

        here_left : readers_left None (entries_at place deeds) ≡ Some h.readers
        here_left = ap (λ (l : List Entry). readers_left None l) (entries_here entries)

        there_left : (k : ℕ) → k < place → readers_left None (entries_at k deeds) ≡ readers_left None (entries_at k t.deeds)
        there_left k lt = ap (λ (l : List Entry). readers_left None l) (entries_there entries k (λ e. absurd (omega (arith, e, lt))))

        left : (m : Bool) → more ≡ m → (s : Bool) → ReadersLeft s place t.deeds → ReadersLeft (cond m true s) (place + 1) deeds
        left true is s was = record { file = place; here = omega arith; readers = h.readers; left_are = here_left; some = h.some_are is }
        left false is true was = record { file = was.file; here = omega (arith, was.here); readers = was.readers; left_are = there_left was.file was.here ∙ was.left_are; some = was.some }
        left false is false was = λ k lt. none k lt (ltb k place) refl
          where
            none : (k : ℕ) → k < place + 1 → (b : Bool) → ltb k place ≡ b → readers_left None (entries_at k deeds) ≡ Some 0
            none k lt true f = let low = ltb-true k place f in there_left k low ∙ was k low
            none k lt false f =
                let above = ltb-false k place f in
                let is_place : k ≡ place = omega arith in
                subst (λ (n : ℕ). readers_left None (entries_at n deeds) ≡ Some 0) (sym is_place) (here_left ∙ ap (λ (n : ℕ). Some n) (h.none_are is))

    -- ---- it ends here

    module _ (homes : List HomeFile) (faults_before faults : ℕ) (stop : DriveEnd) where
      abbrev Stops : Type 0
      Stops = TurnStops homes before afters_before told_before told_now old new faults_before faults stop (set seats place now)

      pub turn_stops_some : (h : TakesUntold (seat_view seat) (get_or afters place 0) next told told_now mid new (seat_view now)) → TurnStopCause homes (set seats place now) faults_before faults h.unsaid stop → Stops
      turn_stops_some h cause = record {
        deeds = deeds;
        unsaid = h.unsaid;
        seats = seats_on entries h.takes.adds;
        each = take_each (get_or afters place 0) next h.records h.readers;
        once = λ k d lt. once k d (eqb k place) refl;
        tells = subst (λ (l : List PendingRecord). TellsFirst l told_before told_now old new h.unsaid) (sym (reads_here (get_or afters place 0) h.records h.readers))
            (tells_both (reads_taken t.deeds) h.records told_before told told_now old mid new h.unsaid t.tells h.tells);
        cause = cause;
      }
        where
          entries : List Entry
          entries = take_entry (seat_view seat).number (get_or afters place 0) h.records h.readers ∷ []

          deeds : List Deed
          deeds = t.deeds ++ deeds_of place entries

          once : (k d : ℕ) → (b : Bool) → eqb k place ≡ b → (entries_at k deeds ≡ []) ⊎ ((following : ℕ) × TookAt (get_or afters_before k d) following (entries_at k deeds))
          once k d true at =
              let is : k ≡ place = eqb-true k place at in
              subst (λ (n : ℕ). (entries_at n deeds ≡ []) ⊎ ((following : ℕ) × TookAt (get_or afters_before n d) following (entries_at n deeds))) (sym is)
              (inr (
                serial_after (get_or afters_before place d) h.records,
                record {
                  who = (seat_view seat).number;
                  records = h.records;
                  readers = h.readers;
                  entries_are = entries_here entries ∙ ap (λ (n : ℕ). take_entry (seat_view seat).number n h.records h.readers ∷ []) (any_default afters place 0 d (omega (arith, same_count, within)) ∙ after_here d);
                  after_is = refl;
                },
              ))
          once k d false at =
              let other : k ≢ place = λ same_k. absurd (let own : eqb k place ≡ true = eq-eqb k place same_k in cc) in
              subst (λ (l : List Entry). (l ≡ []) ⊎ ((following : ℕ) × TookAt (get_or afters_before k d) following l)) (sym (entries_there entries k other)) (earlier k d)
            where
              earlier : (j e : ℕ) → (entries_at j t.deeds ≡ []) ⊎ ((following : ℕ) × TookAt (get_or afters_before j e) following (entries_at j t.deeds))
              earlier j e = by (ltb j place) refl
                where
                  by : (b : Bool) → ltb j place ≡ b → (entries_at j t.deeds ≡ []) ⊎ ((following : ℕ) × TookAt (get_or afters_before j e) following (entries_at j t.deeds))
                  by true f = inr (get_or afters j e, t.took.taken j e (ltb-true j place f))
                  by false f = inl (t.took.rest j e (ltb-false j place f)).0

      pub turn_stops_none : TakesNone (seat_view seat) told told_now mid new (seat_view now) → TurnStopCause homes (set seats place now) faults_before faults [] stop → Stops
      turn_stops_none h cause = record {
        deeds = t.deeds;
        unsaid = [];
        seats = subst (λ (l : List Deed). SeatsAdd before (set seats place now) l) (append-nil t.deeds) (seats_on [] h.adds);
        each = t.took.each;
        once = λ k d lt. by k d (ltb k place) refl;
        tells = subst (λ (c : DriveCounts). TellsFirst (reads_taken t.deeds) told_before told_now old c []) (sym h.counts_same)
            (subst (λ (l : List PendingRecord). TellsFirst (reads_taken t.deeds) told_before l old mid []) (sym h.told_same) t.tells);
        cause = cause;
      }
        where
          by : (k d : ℕ) → (b : Bool) → ltb k place ≡ b → (entries_at k t.deeds ≡ []) ⊎ ((following : ℕ) × TookAt (get_or afters_before k d) following (entries_at k t.deeds))
          by k d true f = inr (get_or afters k d, t.took.taken k d (ltb-true k place f))
          by k d false f = inl (t.took.rest k d (ltb-false k place f)).0
