-- A drive, turn after turn, and its end.
use Rattle.std.proofs.Common.{◌≡◌, ◌⊎◌, inl, inr, ℕ, ◌+◌, ◌*◌, ◌<◌, ◌≤◌, Bool, true, false, List, [], ◌∷◌, ◌++◌, length, get_or, Option, None, refl, sym, ap, subst, ◌∙◌, arith, length-append, append_assoc}
use Rattle.std.proofs.lemmas.List.{append-nil}
use Rattle.inc_io.specs.Causes.{Rose}
use Rattle.inc_frame.specs.declared.fault.FrameFault.{FrameFault}
use Rattle.inc_pending.specs.declared.pending_record.PendingRecord.{PendingRecord}
use Rattle.inc_loader.specs.declared.loader_file.LoaderFile.{LoaderFile}
use Rattle.inc_loader.specs.declared.mark.PieceMark.{PieceMark}
use Rattle.inc_model.specs.declared.words.event.Event.{Event}
use Rattle.inc_model.specs.declared.words.event.Event.TheVariants.{TakePending}
use Rattle.inc_model.specs.declared.words.reply.Entry.{Entry}
use Rattle.inc_turn.specs.declared.seat.Seat.{Seat}
use Rattle.inc_cell.specs.declared.machine.CellFooting.{CellFooting}
use Rattle.inc_script.specs.declared.report_text.ends.DriveEnd.{DriveEnd}
use Rattle.inc_script.specs.declared.report_text.ends.DriveEnd.TheVariants as end
use Rattle.inc_session.proofs.fills.EachLemmas.{each_append}
use Rattle.inc_session.specs.DeedFills.{AreFillEntries, IsFillEntry}
use Rattle.inc_session.specs.Deeds.{EachOf, AsksOnward, Deed, IsDriveEvent, IsFillEvent, claimed_in, entries_at, reads_taken, readers_left, serial_after, serial_of, takes_in}
use Rattle.inc_session.specs.DriveSeats.{HomeFile, SeatsAdd}
use Rattle.inc_session.specs.Drives.{DriveEnds, DriveRuns, DriveView, EndsBy, IsCalmEnd, no_counts}
use Rattle.inc_session.specs.GivenFills.{GivenIsIn, GivenStops, MarksAreIn, StopsAt}
use Rattle.inc_session.specs.ReadTakes.{HasNoReaders, HasReaders, ReadersLeft, TellsFirst, TookAt, TurnIsTold, TurnStopCause, TurnStops}
use Rattle.inc_session.specs.declared.driving.counts.DriveCounts.{DriveCounts}
use Rattle.inc_session.proofs.fills.DeedLemmas.{all_at, asks_both, claimed_both, entries_both, fewer_at, fill_asks, fill_reads, fill_readers, fill_serial, fill_takes, readers_both, reads_both, serial_both, takes_both}
use Rattle.inc_session.proofs.fills.GivenLemmas.{marks_both}
use Rattle.inc_session.proofs.fills.SeatSteps.{seats_both}
use Rattle.inc_session.proofs.turns.TakeLemmas.{no_claims, take_events, take_marks}

-- ---- a fill's deeds are a drive's

fill_drive : (event : Event) → IsFillEvent event → IsDriveEvent event
fill_drive (TakePending after most) h = tt
fill_drive event h = h

fill_events : (deeds : List Deed) → EachOf (λ (deed : Deed). IsFillEntry deed.entry) deeds → EachOf (λ (deed : Deed). IsDriveEvent deed.entry.event) deeds
fill_events [] h = tt
fill_events (deed ∷ deeds) h = (fill_drive deed.entry.event h.0.event_is, fill_events deeds h.1)

-- ---- the reads of one more turn

took_asks : (serial after next : ℕ) (entries : List Entry) → TookAt after next entries → after ≡ serial → AsksOnward serial entries
took_asks serial after next entries h e = subst (λ (l : List Entry). AsksOnward serial l) (sym h.entries_are) ((e, refl), tt)

took_serial : (serial after next : ℕ) (entries : List Entry) → TookAt after next entries → after ≡ serial → next ≡ serial_of serial entries
took_serial serial after next entries h e =
    h.after_is ∙ ap (λ (n : ℕ). serial_after n h.records) e ∙ ap (λ (l : List Entry). serial_of serial l) (sym h.entries_are)

took_length : (after next : ℕ) (entries : List Entry) → TookAt after next entries → length entries ≡ 1
took_length after next entries h = ap (λ (l : List Entry). length l) h.entries_are

took_takes : (after next : ℕ) (entries : List Entry) → TookAt after next entries → takes_in entries ≡ 1
took_takes after next entries h = ap (λ (l : List Entry). takes_in l) h.entries_are

took_readers : (before : Option ℕ) (after next : ℕ) (entries : List Entry) → TookAt after next entries → readers_left before entries ≡ readers_left None entries
took_readers before after next entries h = ap (λ (l : List Entry). readers_left before l) h.entries_are ∙ ap (λ (l : List Entry). readers_left None l) (sym h.entries_are)

told_on : (log deeds : List Deed) (v_told w_told unsaid : List PendingRecord) (old new : DriveCounts) → v_told ≡ reads_taken log → TellsFirst (reads_taken deeds) v_told w_told old new unsaid → w_told ++ unsaid ≡ reads_taken (log ++ deeds)
told_on log deeds v_told w_told unsaid old new e t =
    ap (λ (l : List PendingRecord). l ++ unsaid) t.told_are
    ∙ append_assoc v_told t.said unsaid
    ∙ ap (λ (l : List PendingRecord). v_told ++ l) (sym t.reads_are)
    ∙ ap (λ (l : List PendingRecord). l ++ reads_taken deeds) e
    ∙ sym (reads_both log deeds)

told_counted : (reads v_told w_told unsaid : List PendingRecord) (old new : DriveCounts) → old.told ≡ length v_told → TellsFirst reads v_told w_told old new unsaid → new.told ≡ length w_told
told_counted reads v_told w_told unsaid old new e t =
    let c : new.told ≡ old.told + length t.said = ap (λ (c : DriveCounts). c.told) t.counted in
    let l : length w_told ≡ length v_told + length t.said = ap length t.told_are ∙ length-append v_told t.said in
    omega arith

module _ (homes : List HomeFile) (files : List LoaderFile) (start : List (Seat CellFooting)) (faults turns : ℕ) (v w : DriveView) (r : DriveRuns homes files start faults turns 0 v) (seats_count : length v.seats ≡ length homes)
    (given_same : w.given ≡ v.given) (idle_on : v.idle ≤ w.idle) where
  module _ (some : Bool) (t : TurnIsTold v.seats (length v.seats) v.afters w.afters v.told w.told v.counts w.counts some w.seats) (calm_on : w.faults ≡ v.faults) where
    abbrev log_on : List Deed
    log_on = r.log ++ t.deeds

    at : (k d : ℕ) → k < length homes → TookAt (get_or v.afters k d) (get_or w.afters k d) (entries_at k t.deeds)
    at k d lt = t.took.taken k d (omega (arith, seats_count, lt))

    told_now : w.told ≡ reads_taken log_on
    told_now = sym (append-nil w.told) ∙ told_on r.log t.deeds v.told w.told [] v.counts w.counts r.told_are t.tells

    marks_now : MarksAreIn homes files w.given log_on no_counts w.counts
    marks_now =
        subst (λ (marks : List PieceMark). MarksAreIn homes files marks log_on no_counts w.counts) (append-nil v.given ∙ sym given_same)
        (marks_both homes files v.given [] r.log t.deeds no_counts v.counts w.counts r.are_in (take_marks homes files t.deeds v.counts w.counts t.took.each (v.counts.told + length t.tells.said) t.tells.counted))

    pub asked : DriveRuns homes files start faults (turns + 1) 1 w
    asked = record {
      log = log_on;
      seats = seats_both start v.seats w.seats r.log t.deeds r.seats t.took.seats;
      events = each_append (λ (deed : Deed). IsDriveEvent deed.entry.event) r.log t.deeds r.events (take_events t.deeds t.took.each);
      told_are = told_now;
      told_count = told_counted (reads_taken t.deeds) v.told w.told [] v.counts w.counts r.told_count t.tells;
      are_in = marks_now;
      asks = λ k lt.
          subst (λ (l : List Entry). AsksOnward 0 l) (sym (entries_both k r.log t.deeds))
          (asks_both 0 (entries_at k r.log) (entries_at k t.deeds) (r.asks k lt) (took_asks (serial_of 0 (entries_at k r.log)) (get_or v.afters k 0) (get_or w.afters k 0) (entries_at k t.deeds) (at k 0 lt) (r.afters_are k 0 lt)));
      afters_count = t.took.afters_count ∙ r.afters_count;
      afters_are = λ k d lt.
          took_serial (serial_of 0 (entries_at k r.log)) (get_or v.afters k d) (get_or w.afters k d) (entries_at k t.deeds) (at k d lt) (r.afters_are k d lt)
          ∙ sym (serial_both 0 (entries_at k r.log) (entries_at k t.deeds))
          ∙ ap (λ (l : List Entry). serial_of 0 l) (sym (entries_both k r.log t.deeds));
      takes = λ k lt. ap (λ (l : List Entry). takes_in l) (entries_both k r.log t.deeds) ∙ (
          let one = took_takes (get_or v.afters k 0) (get_or w.afters k 0) (entries_at k t.deeds) (at k 0 lt) in
          let both = takes_both (entries_at k r.log) (entries_at k t.deeds) in
          let was = r.takes k lt in
          omega arith
          );
      given_few = let same = ap (λ (l : List PieceMark). length l) given_same in let few = r.given_few in omega arith;
      few = λ k lt.
          let same = ap (λ (l : List PieceMark). length l) given_same in
          let one = took_length (get_or v.afters k 0) (get_or w.afters k 0) (entries_at k t.deeds) (at k 0 lt) in
          let both : length (entries_at k log_on) ≡ length (entries_at k r.log) + length (entries_at k t.deeds) = ap (λ (l : List Entry). length l) (entries_both k r.log t.deeds) ∙ length-append (entries_at k r.log) (entries_at k t.deeds) in
          let was = r.few k lt in
          omega arith;
      claims_few =
          let same = ap (λ (l : List PieceMark). length l) given_same in
          let none = no_claims t.deeds t.took.each in
          let both = claimed_both r.log t.deeds in
          let was = r.claims_few in
          omega arith;
      nothings = r.nothings;
      turns_few = let same = ap (λ (l : List PieceMark). length l) given_same in let was = r.turns_few in omega arith;
      idle_is = let was = r.idle_is in omega arith;
      calm = calm_on ∙ r.calm;
    }

    readers_now : (k : ℕ) → k < length homes → readers_left None (entries_at k log_on) ≡ readers_left None (entries_at k t.deeds)
    readers_now k lt =
        ap (λ (l : List Entry). readers_left None l) (entries_both k r.log t.deeds)
        ∙ readers_both None (entries_at k r.log) (entries_at k t.deeds)
        ∙ took_readers (readers_left None (entries_at k r.log)) (get_or v.afters k 0) (get_or w.afters k 0) (entries_at k t.deeds) (at k 0 lt)

    some_read : HasReaders (length v.seats) t.deeds → HasReaders (length homes) log_on
    some_read h =
        let here : h.file < length homes = omega (arith, h.here, seats_count) in
        record { file = h.file; here = here; readers = h.readers; left_are = readers_now h.file here ∙ h.left_are; some = h.some }

    none_reads : HasNoReaders (length v.seats) t.deeds → HasNoReaders (length homes) log_on
    none_reads h k lt = readers_now k lt ∙ h k (omega (arith, lt, seats_count))

    readers_by : (b : Bool) → ReadersLeft b (length v.seats) t.deeds → ReadersLeft b (length homes) log_on
    readers_by true h = some_read h
    readers_by false h = none_reads h

    pub readers_asked : ReadersLeft some (length homes) asked.log
    unfolding asked
    readers_asked = readers_by some t.left

  -- ---- the turn comes to an end at its reads

  pub turn_ends : (ended : Bool) (refused : Option FrameFault) (how : DriveEnd) → TurnStops homes v.seats v.afters v.told w.told v.counts w.counts v.faults w.faults how w.seats → DriveEnds homes files start faults w ended refused how
  turn_ends ended refused how t = record {
    counted = r.log ++ t.deeds;
    rest = [];
    seats = subst (λ (l : List Deed). SeatsAdd start w.seats l) (sym (append-nil (r.log ++ t.deeds))) (seats_both start v.seats w.seats r.log t.deeds r.seats t.seats);
    events = subst (λ (l : List Deed). EachOf (λ (deed : Deed). IsDriveEvent deed.entry.event) l) (sym (append-nil (r.log ++ t.deeds)))
        (each_append (λ (deed : Deed). IsDriveEvent deed.entry.event) r.log t.deeds r.events (take_events t.deeds t.each));
    unsaid = t.unsaid;
    told_are = told_on r.log t.deeds v.told w.told t.unsaid v.counts w.counts r.told_are t.tells ∙ ap (λ (l : List Deed). reads_taken l) (sym (append-nil (r.log ++ t.deeds)));
    all_told = λ calm. all_said how calm t.cause;
    told_count = told_counted (reads_taken t.deeds) v.told w.told t.unsaid v.counts w.counts r.told_count t.tells;
    front = w.given;
    later = [];
    given_are = sym (append-nil w.given);
    are_in =
        subst (λ (marks : List PieceMark). MarksAreIn homes files marks (r.log ++ t.deeds) no_counts w.counts) (append-nil v.given ∙ sym given_same)
        (marks_both homes files v.given [] r.log t.deeds no_counts v.counts w.counts r.are_in (take_marks homes files t.deeds v.counts w.counts t.each (v.counts.told + length t.tells.said) t.tells.counted));
    begun = 0;
    puts = refl;
    asks = λ k lt.
        subst (λ (l : List Entry). AsksOnward 0 l) (sym (whole k))
        (asks_both 0 (entries_at k r.log) (entries_at k t.deeds) (r.asks k lt) (asks_by k lt (t.once k 0 (omega (arith, seats_count, lt)))));
    given_few = λ k lt.
        let same = ap (λ (l : List PieceMark). length l) given_same in
        let was = r.given_few in
        let taken = r.takes k lt in
        let both : takes_in (entries_at k ((r.log ++ t.deeds) ++ [])) ≡ takes_in (entries_at k r.log) + takes_in (entries_at k t.deeds) = ap (λ (l : List Entry). takes_in l) (whole k) ∙ takes_both (entries_at k r.log) (entries_at k t.deeds) in
        omega arith;
    turns = turns + 1;
    few = λ k lt.
        let same = ap (λ (l : List PieceMark). length l) given_same in
        let was = r.few k lt in
        let one = once_length k (t.once k 0 (omega (arith, seats_count, lt))) in
        let both : length (entries_at k ((r.log ++ t.deeds) ++ [])) ≡ length (entries_at k r.log) + length (entries_at k t.deeds) = ap (λ (l : List Entry). length l) (whole k) ∙ length-append (entries_at k r.log) (entries_at k t.deeds) in
        omega arith;
    claims_few =
        let same = ap (λ (l : List PieceMark). length l) given_same in
        let none = no_claims t.deeds t.each in
        let both = claimed_both r.log t.deeds in
        let all : claimed_in ((r.log ++ t.deeds) ++ []) ≡ claimed_in (r.log ++ t.deeds) = ap (λ (l : List Deed). claimed_in l) (append-nil (r.log ++ t.deeds)) in
        let was = r.claims_few in
        omega arith;
    nothings = r.nothings;
    turns_few = let same = ap (λ (l : List PieceMark). length l) given_same in let was = r.turns_few in omega arith;
    idle_is = let was = r.idle_is in omega arith;
    cause = cause_by how t.cause;
    calm = λ calm. calm_by how calm t.cause ∙ r.calm;
    later_faults = let rises = faults_by how t.cause in let was = r.calm in omega arith;
  }
    where
      whole : (k : ℕ) → entries_at k ((r.log ++ t.deeds) ++ []) ≡ entries_at k r.log ++ entries_at k t.deeds
      whole k = ap (λ (l : List Deed). entries_at k l) (append-nil (r.log ++ t.deeds)) ∙ entries_both k r.log t.deeds

      asks_by : (k : ℕ) → k < length homes → (entries_at k t.deeds ≡ []) ⊎ ((next : ℕ) × TookAt (get_or v.afters k 0) next (entries_at k t.deeds)) → AsksOnward (serial_of 0 (entries_at k r.log)) (entries_at k t.deeds)
      asks_by k lt (inl none) = subst (λ (l : List Entry). AsksOnward (serial_of 0 (entries_at k r.log)) l) (sym none) tt
      asks_by k lt (inr took) = took_asks (serial_of 0 (entries_at k r.log)) (get_or v.afters k 0) took.0 (entries_at k t.deeds) took.1 (r.afters_are k 0 lt)

      once_length : (k : ℕ) → (entries_at k t.deeds ≡ []) ⊎ ((next : ℕ) × TookAt (get_or v.afters k 0) next (entries_at k t.deeds)) → length (entries_at k t.deeds) ≤ 1
      once_length k (inl none) = let e = ap (λ (l : List Entry). length l) none in omega arith
      once_length k (inr took) = let e = took_length (get_or v.afters k 0) took.0 (entries_at k t.deeds) took.1 in omega arith

      all_said : (stop : DriveEnd) → IsCalmEnd stop → TurnStopCause homes w.seats v.faults w.faults t.unsaid stop → t.unsaid ≡ []
      all_said end.HistoryFull calm c = c.1
      all_said end.Fault calm c = absurd calm
      all_said end.OutOfMemory calm c = absurd calm
      all_said stop calm c = absurd c

      cause_by : (stop : DriveEnd) → TurnStopCause homes w.seats v.faults w.faults t.unsaid stop → EndsBy homes files [] [] ((r.log ++ t.deeds) ++ []) w.seats ended refused faults w.faults stop
      cause_by end.HistoryFull c = (c.0, refl)
      cause_by end.Fault c = inl (subst (λ (n : ℕ). Rose n w.faults) r.calm c.1)
      cause_by end.OutOfMemory c = tt
      cause_by stop c = absurd c

      calm_by : (stop : DriveEnd) → IsCalmEnd stop → TurnStopCause homes w.seats v.faults w.faults t.unsaid stop → w.faults ≡ v.faults
      calm_by end.HistoryFull calm c = c.2
      calm_by end.Fault calm c = absurd calm
      calm_by end.OutOfMemory calm c = absurd calm
      calm_by stop calm c = absurd c

      faults_by : (stop : DriveEnd) → TurnStopCause homes w.seats v.faults w.faults t.unsaid stop → v.faults ≤ w.faults
      faults_by end.HistoryFull c = let e = c.2 in omega arith
      faults_by end.Fault c = c.0
      faults_by end.OutOfMemory c = omega (arith, c)
      faults_by stop c = absurd c

-- ---- what was given is in

module _ (homes : List HomeFile) (files : List LoaderFile) (start : List (Seat CellFooting)) (faults turns : ℕ) (v w : DriveView) (r : DriveRuns homes files start faults turns 1 v) (told_same : w.told ≡ v.told) (idle_on : v.idle ≤ w.idle) where
  fill_same : (deeds : List Deed) → EachOf (λ (deed : Deed). IsFillEntry deed.entry) deeds → (k : ℕ) → AreFillEntries (entries_at k deeds)
  fill_same deeds h k = all_at IsFillEntry k deeds h

  reads_on : (deeds : List Deed) → EachOf (λ (deed : Deed). IsFillEntry deed.entry) deeds → w.told ≡ reads_taken (r.log ++ deeds)
  reads_on deeds h =
      told_same ∙ r.told_are ∙ sym (append-nil (reads_taken r.log)) ∙ ap (λ (l : List PendingRecord). reads_taken r.log ++ l) (sym (fill_reads deeds h)) ∙ sym (reads_both r.log deeds)

  asks_on : (deeds : List Deed) → EachOf (λ (deed : Deed). IsFillEntry deed.entry) deeds → (k : ℕ) → k < length homes → AsksOnward 0 (entries_at k (r.log ++ deeds))
  asks_on deeds h k lt =
      subst (λ (l : List Entry). AsksOnward 0 l) (sym (entries_both k r.log deeds))
      (asks_both 0 (entries_at k r.log) (entries_at k deeds) (r.asks k lt) (fill_asks (serial_of 0 (entries_at k r.log)) (entries_at k deeds) (fill_same deeds h k)))

  takes_on : (deeds : List Deed) → EachOf (λ (deed : Deed). IsFillEntry deed.entry) deeds → (k : ℕ) → k < length homes → takes_in (entries_at k (r.log ++ deeds)) ≡ turns
  takes_on deeds h k lt =
      let both = takes_both (entries_at k r.log) (entries_at k deeds) in
      let none = fill_takes (entries_at k deeds) (fill_same deeds h k) in
      let was = r.takes k lt in
      let all = ap (λ (l : List Entry). takes_in l) (entries_both k r.log deeds) in
      omega arith

  few_on : (deeds : List Deed) (k : ℕ) → k < length homes → length (entries_at k (r.log ++ deeds)) ≤ turns + 7 * length v.given + length deeds
  few_on deeds k lt =
      let both : length (entries_at k (r.log ++ deeds)) ≡ length (entries_at k r.log) + length (entries_at k deeds) = ap (λ (l : List Entry). length l) (entries_both k r.log deeds) ∙ length-append (entries_at k r.log) (entries_at k deeds) in
      let fewer = fewer_at k deeds in
      let was = r.few k lt in
      omega arith

  readers_on : (deeds : List Deed) → EachOf (λ (deed : Deed). IsFillEntry deed.entry) deeds → HasReaders (length homes) r.log → HasReaders (length homes) (r.log ++ deeds)
  readers_on deeds h some = record {
    file = some.file;
    here = some.here;
    readers = some.readers;
    left_are = ap (λ (l : List Entry). readers_left None l) (entries_both some.file r.log deeds) ∙ readers_both None (entries_at some.file r.log) (entries_at some.file deeds)
        ∙ fill_readers (readers_left None (entries_at some.file r.log)) (entries_at some.file deeds) (fill_same deeds h some.file) ∙ some.left_are;
    some = some.some;
  }

  pub given_in : (marks : List PieceMark) → w.given ≡ v.given ++ marks → 1 ≤ length marks → length marks ≤ 64 → w.afters ≡ v.afters → w.faults ≡ v.faults → GivenIsIn homes files v.seats marks v.counts w.counts w.seats → DriveRuns homes files start faults turns 0 w
  given_in marks given_on some most afters_same calm_on g = record {
    log = r.log ++ g.deeds;
    seats = seats_both start v.seats w.seats r.log g.deeds r.seats g.seats;
    events = each_append (λ (deed : Deed). IsDriveEvent deed.entry.event) r.log g.deeds r.events (fill_events g.deeds g.fill);
    told_are = reads_on g.deeds g.fill;
    told_count = g.told ∙ r.told_count ∙ ap (λ (l : List PendingRecord). length l) (sym told_same);
    are_in = subst (λ (l : List PieceMark). MarksAreIn homes files l (r.log ++ g.deeds) no_counts w.counts) (sym given_on) (marks_both homes files v.given marks r.log g.deeds no_counts v.counts w.counts r.are_in g.are_in);
    asks = asks_on g.deeds g.fill;
    afters_count = ap (λ (l : List ℕ). length l) afters_same ∙ r.afters_count;
    afters_are = λ k d lt.
        ap (λ (l : List ℕ). get_or l k d) afters_same
        ∙ r.afters_are k d lt
        ∙ sym (fill_serial (serial_of 0 (entries_at k r.log)) (entries_at k g.deeds) (fill_same g.deeds g.fill k))
        ∙ sym (serial_both 0 (entries_at k r.log) (entries_at k g.deeds))
        ∙ ap (λ (l : List Entry). serial_of 0 l) (sym (entries_both k r.log g.deeds));
    takes = takes_on g.deeds g.fill;
    given_few = let l = given_length in let was = r.given_few in omega arith;
    few = λ k lt. let l = given_length in let here = few_on g.deeds k lt in let fewer = g.few.deeds_few in omega arith;
    claims_few = let l = given_length in let was = r.claims_few in let fewer = g.few.claims_few in let both = claimed_both r.log g.deeds in omega arith;
    nothings = r.nothings;
    turns_few = let l = given_length in let was = r.turns_few in omega arith;
    idle_is = let was = r.idle_is in omega arith;
    calm = calm_on ∙ r.calm;
  }
    where
      given_length : length w.given ≡ length v.given + length marks
      given_length = ap (λ (l : List PieceMark). length l) given_on ∙ length-append v.given marks

  -- nothing was given for now
  pub none_given : w.given ≡ v.given → w.seats ≡ v.seats → w.counts ≡ v.counts → w.afters ≡ v.afters → w.faults ≡ v.faults → Rose v.idle w.idle → DriveRuns homes files start faults turns 0 w
  none_given given_same seats_same counts_same afters_same calm_on rose = record {
    log = r.log;
    seats = subst (λ (l : List (Seat CellFooting)). SeatsAdd start l r.log) (sym seats_same) r.seats;
    events = r.events;
    told_are = told_same ∙ r.told_are;
    told_count = ap (λ (c : DriveCounts). c.told) counts_same ∙ r.told_count ∙ ap (λ (l : List PendingRecord). length l) (sym told_same);
    are_in = subst (λ (c : DriveCounts). MarksAreIn homes files w.given r.log no_counts c) (sym counts_same) (subst (λ (l : List PieceMark). MarksAreIn homes files l r.log no_counts v.counts) (sym given_same) r.are_in);
    asks = r.asks;
    afters_count = ap (λ (l : List ℕ). length l) afters_same ∙ r.afters_count;
    afters_are = λ k d lt. ap (λ (l : List ℕ). get_or l k d) afters_same ∙ r.afters_are k d lt;
    takes = r.takes;
    given_few = let l = ap (λ (l : List PieceMark). length l) given_same in let was = r.given_few in omega arith;
    few = λ k lt. let l = ap (λ (l : List PieceMark). length l) given_same in let was = r.few k lt in omega arith;
    claims_few = let l = ap (λ (l : List PieceMark). length l) given_same in let was = r.claims_few in omega arith;
    nothings = r.nothings + 1;
    turns_few = let l = ap (λ (l : List PieceMark). length l) given_same in let was = r.turns_few in omega arith;
    idle_is = let was = r.idle_is in omega (arith, rose);
    calm = calm_on ∙ r.calm;
  }

  -- ---- it ends among the pieces that were given

  pub given_ends : (marks : List PieceMark) (ended : Bool) (refused : Option FrameFault) (how : DriveEnd) → w.given ≡ v.given ++ marks → length marks ≤ 64 → w.faults ≡ v.faults → HasReaders (length homes) r.log → GivenStops homes files v.seats marks v.counts w.counts how w.seats
      → DriveEnds homes files start faults w ended refused how
  given_ends marks ended refused how given_on most calm_on some g = record {
    counted = r.log ++ g.counted;
    rest = g.rest;
    seats = subst (λ (l : List Deed). SeatsAdd start w.seats l) joined (seats_both start v.seats w.seats r.log (g.counted ++ g.rest) r.seats g.seats);
    events = subst (λ (l : List Deed). EachOf (λ (deed : Deed). IsDriveEvent deed.entry.event) l) joined (each_append (λ (deed : Deed). IsDriveEvent deed.entry.event) r.log (g.counted ++ g.rest) r.events (fill_events (g.counted ++ g.rest) g.fill));
    unsaid = [];
    told_are = append-nil w.told ∙ reads_on (g.counted ++ g.rest) g.fill ∙ ap (λ (l : List Deed). reads_taken l) joined;
    all_told = λ calm. refl;
    told_count = g.told ∙ r.told_count ∙ ap (λ (l : List PendingRecord). length l) (sym told_same);
    front = v.given ++ g.front;
    later = g.later;
    given_are = given_on ∙ ap (λ (l : List PieceMark). v.given ++ l) g.marks_are ∙ sym (append_assoc v.given g.front g.later);
    are_in = marks_both homes files v.given g.front r.log g.counted no_counts v.counts w.counts r.are_in g.are_in;
    begun = g.begun;
    puts = g.puts;
    asks = λ k lt. subst (λ (l : List Deed). AsksOnward 0 (entries_at k l)) joined (asks_on (g.counted ++ g.rest) g.fill k lt);
    given_few = λ k lt.
        let l = given_length in
        let few = most in
        let was = r.given_few in
        let taken : takes_in (entries_at k ((r.log ++ g.counted) ++ g.rest)) ≡ turns = ap (λ (l : List Deed). takes_in (entries_at k l)) (sym joined) ∙ takes_on (g.counted ++ g.rest) g.fill k lt in
        omega arith;
    turns = turns;
    few = λ k lt.
        let l = given_length in
        let here = few_on (g.counted ++ g.rest) k lt in
        let fewer = g.few.deeds_few in
        let same : length (entries_at k ((r.log ++ g.counted) ++ g.rest)) ≡ length (entries_at k (r.log ++ (g.counted ++ g.rest))) = ap (λ (l : List Deed). length (entries_at k l)) (sym joined) in
        omega arith;
    claims_few =
        let l = given_length in
        let was = r.claims_few in
        let fewer = g.few.claims_few in
        let both = claimed_both r.log (g.counted ++ g.rest) in
        let same : claimed_in ((r.log ++ g.counted) ++ g.rest) ≡ claimed_in (r.log ++ (g.counted ++ g.rest)) = ap (λ (l : List Deed). claimed_in l) (sym joined) in
        omega arith;
    nothings = r.nothings;
    turns_few = let l = given_length in let was = r.turns_few in omega arith;
    idle_is = let was = r.idle_is in omega arith;
    cause = cause_by how g.cause;
    calm = λ calm. calm_on ∙ r.calm;
    later_faults = let a = calm_on in let b = r.calm in omega arith;
  }
    where
      joined : r.log ++ (g.counted ++ g.rest) ≡ (r.log ++ g.counted) ++ g.rest
      joined = sym (append_assoc r.log g.counted g.rest)

      given_length : length w.given ≡ length v.given + length marks
      given_length = ap (λ (l : List PieceMark). length l) given_on ∙ length-append v.given marks

      some_now : HasReaders (length homes) ((r.log ++ g.counted) ++ g.rest)
      some_now = subst (λ (l : List Deed). HasReaders (length homes) l) joined (readers_on (g.counted ++ g.rest) g.fill some)

      cause_by : (stop : DriveEnd) → StopsAt homes files g.later g.rest w.seats stop → EndsBy homes files g.later g.rest ((r.log ++ g.counted) ++ g.rest) w.seats ended refused faults w.faults stop
      cause_by end.UnknownFile c = (c, some_now)
      cause_by (end.Refused error) c = (c, some_now)
      cause_by end.Fault c = inr c
      cause_by end.Failed c = (c, some_now)
      cause_by end.HistoryFull c = c
      cause_by end.OutOfMemory c = tt
      cause_by end.Done c = absurd c
      cause_by end.Stopped c = absurd c
      cause_by (end.Frame fault) c = absurd c

-- ---- it ends with all outcomes

module _ (homes : List HomeFile) (files : List LoaderFile) (start : List (Seat CellFooting)) (faults turns : ℕ) (v w : DriveView) (r : DriveRuns homes files start faults turns 1 v) where
  pub ends_now : (ended : Bool) (refused : Option FrameFault) (how : DriveEnd) → w.told ≡ v.told → w.given ≡ v.given → w.seats ≡ v.seats → w.counts ≡ v.counts → v.idle ≤ w.idle → v.faults ≤ w.faults → (IsCalmEnd how → w.faults ≡ v.faults)
      → EndsBy homes files [] [] (r.log ++ []) w.seats ended refused faults w.faults how → DriveEnds homes files start faults w ended refused how
  ends_now ended refused how told_same given_same seats_same counts_same idle_on faults_on calm_on cause = record {
    counted = r.log;
    rest = [];
    seats = subst (λ (l : List Deed). SeatsAdd start w.seats l) (sym (append-nil r.log)) (subst (λ (l : List (Seat CellFooting)). SeatsAdd start l r.log) (sym seats_same) r.seats);
    events = subst (λ (l : List Deed). EachOf (λ (deed : Deed). IsDriveEvent deed.entry.event) l) (sym (append-nil r.log)) r.events;
    unsaid = [];
    told_are = append-nil w.told ∙ told_same ∙ r.told_are ∙ ap (λ (l : List Deed). reads_taken l) (sym (append-nil r.log));
    all_told = λ calm. refl;
    told_count = ap (λ (c : DriveCounts). c.told) counts_same ∙ r.told_count ∙ ap (λ (l : List PendingRecord). length l) (sym told_same);
    front = w.given;
    later = [];
    given_are = sym (append-nil w.given);
    are_in = subst (λ (c : DriveCounts). MarksAreIn homes files w.given r.log no_counts c) (sym counts_same) (subst (λ (l : List PieceMark). MarksAreIn homes files l r.log no_counts v.counts) (sym given_same) r.are_in);
    begun = 0;
    puts = refl;
    asks = λ k lt. subst (λ (l : List Deed). AsksOnward 0 (entries_at k l)) (sym (append-nil r.log)) (r.asks k lt);
    given_few = λ k lt.
        let l = ap (λ (l : List PieceMark). length l) given_same in
        let was = r.given_few in
        let taken : takes_in (entries_at k (r.log ++ [])) ≡ turns = ap (λ (l : List Deed). takes_in (entries_at k l)) (append-nil r.log) ∙ r.takes k lt in
        omega arith;
    turns = turns;
    few = λ k lt.
        let l = ap (λ (l : List PieceMark). length l) given_same in
        let was = r.few k lt in
        let same : length (entries_at k (r.log ++ [])) ≡ length (entries_at k r.log) = ap (λ (l : List Deed). length (entries_at k l)) (append-nil r.log) in
        omega arith;
    claims_few =
        let l = ap (λ (l : List PieceMark). length l) given_same in
        let was = r.claims_few in
        let same : claimed_in (r.log ++ []) ≡ claimed_in r.log = ap (λ (l : List Deed). claimed_in l) (append-nil r.log) in
        omega arith;
    nothings = r.nothings;
    turns_few = let l = ap (λ (l : List PieceMark). length l) given_same in let was = r.turns_few in omega arith;
    idle_is = let was = r.idle_is in omega arith;
    cause = cause;
    calm = λ calm. calm_on calm ∙ r.calm;
    later_faults = let b = r.calm in omega arith;
  }
