-- How a drive begins, and what stopping the loader makes of its end.
use Rattle.std.proofs.Common.{◌≡◌, ◌⊎◌, inl, inr, ℕ, zero, suc, ◌<◌, ◌≤◌, Bool, List, [], ◌++◌, length, get_or, Option, Some, None, refl, sym, ap, subst, ◌∙◌, arith}
use Rattle.std.specs.Prelude.{replicate}
use Rattle.std.proofs.lemmas.List.{length-replicate}
use Rattle.inc_io.specs.Causes.{Rose}
use Rattle.inc_frame.specs.declared.fault.FrameFault.{FrameFault}
use Rattle.inc_pending.specs.declared.pending_record.PendingRecord.{PendingRecord}
use Rattle.inc_loader.specs.Turns.{Prepares, StaysRefused, StaysTrue, TurnCause}
use Rattle.inc_loader.specs.declared.loader_file.LoaderFile.{LoaderFile}
use Rattle.inc_loader.specs.declared.mark.PieceMark.{PieceMark}
use Rattle.inc_loader.specs.declared.turn.LoaderTurn.{LoaderTurn}
use Rattle.inc_loader.specs.declared.turn.LoaderTurn.TheVariants as turn
use Rattle.inc_turn.specs.declared.seat.Seat.{Seat}
use Rattle.inc_cell.specs.declared.machine.CellFooting.{CellFooting}
use Rattle.inc_script.specs.declared.report_text.ends.DriveEnd.{DriveEnd}
use Rattle.inc_script.specs.declared.report_text.ends.DriveEnd.TheVariants as end
use Rattle.inc_session.specs.DeedFills.{tells_fault}
use Rattle.inc_session.specs.Deeds.{count_replies}
use Rattle.inc_session.specs.DriveSeats.{HomeFile}
use Rattle.inc_session.specs.Drives.{DriveEnds, DriveRuns, EndsBy, IsCalmEnd, drive_view, end_after, no_counts}
use Rattle.inc_session.specs.GivenFills.{MarksAreIn}
use Rattle.inc_session.specs.declared.driving.counts.DriveCounts.{DriveCounts}
use Rattle.inc_session.proofs.fills.GivenLemmas.{no_marks}
use Rattle.inc_session.proofs.fills.SeatSteps.{seats_none}

zeros : (n k d : ℕ) → k < n → get_or (replicate n 0) k d ≡ 0
zeros zero k d lt = absurd (omega arith)
zeros (suc n) zero d lt = refl
zeros (suc n) (suc k) d lt = zeros n k d (omega arith)

pub begins : (homes : List HomeFile) (files : List LoaderFile) (seats : List (Seat CellFooting)) (told : List PendingRecord) (given : List PieceMark) (idle faults : ℕ) (afters : List ℕ) (counts : DriveCounts) → told ≡ [] → given ≡ [] → counts ≡ no_counts
    → afters ≡ replicate (length homes) 0 → DriveRuns homes files seats faults 0 0 (drive_view seats told given idle faults afters counts)
begins homes files seats told given idle faults afters counts e f g h = record {
  log = [];
  seats = seats_none seats;
  events = tt;
  told_are = e;
  told_count = ap (λ (c : DriveCounts). c.told) g ∙ ap (λ (l : List PendingRecord). length l) (sym e);
  are_in = subst (λ (l : List PieceMark). MarksAreIn homes files l [] no_counts counts) (sym f) (subst (λ (c : DriveCounts). MarksAreIn homes files [] [] no_counts c) (sym g) (no_marks homes files no_counts));
  asks = λ k lt. tt;
  afters_count = ap (λ (l : List ℕ). length l) h ∙ length-replicate {A = ℕ} (length homes) 0;
  afters_are = λ k d lt. ap (λ (l : List ℕ). get_or l k d) h ∙ zeros (length homes) k d lt;
  takes = λ k lt. refl;
  given_few = let l = ap (λ (l : List PieceMark). length l) f in omega arith;
  few = λ k lt. omega arith;
  claims_few = omega arith;
  nothings = 0;
  turns_few = omega arith;
  idle_is = omega arith;
  calm = refl;
}

-- it ends before its first turn
pub ends_unbegun : (homes : List HomeFile) (files : List LoaderFile) (seats : List (Seat CellFooting)) (told : List PendingRecord) (given : List PieceMark) (idle before faults : ℕ) (counts : DriveCounts) (ended : Bool) (refused : Option FrameFault) (how : DriveEnd)
    → told ≡ [] → given ≡ [] → counts ≡ no_counts → before ≤ faults → (IsCalmEnd how → ⊥) → EndsBy homes files [] [] [] seats ended refused before faults how
    → DriveEnds homes files seats before (drive_view seats told given idle faults [] counts) ended refused how
ends_unbegun homes files seats told given idle before faults counts ended refused how e f g le hard cause = record {
  counted = [];
  rest = [];
  seats = seats_none seats;
  events = tt;
  unsaid = [];
  told_are = ap (λ (l : List PendingRecord). l ++ []) e;
  all_told = λ calm. refl;
  told_count = ap (λ (c : DriveCounts). c.told) g ∙ ap (λ (l : List PendingRecord). length l) (sym e);
  front = [];
  later = [];
  given_are = f;
  are_in = subst (λ (c : DriveCounts). MarksAreIn homes files [] [] no_counts c) (sym g) (no_marks homes files no_counts);
  begun = 0;
  puts = refl;
  asks = λ k lt. tt;
  given_few = λ k lt. let l = ap (λ (l : List PieceMark). length l) f in omega arith;
  turns = 0;
  few = λ k lt. omega arith;
  claims_few = omega arith;
  nothings = 0;
  turns_few = omega arith;
  idle_is = omega arith;
  cause = cause;
  calm = λ calm. absurd (hard calm);
  later_faults = le;
}

-- ---- the loader is stopped

module _ (homes : List HomeFile) (files : List LoaderFile) (start seats : List (Seat CellFooting)) (before : ℕ) (told told_now : List PendingRecord) (given given_now : List PieceMark) (idle idle_now faults faults_now : ℕ) (counts : DriveCounts) (ended ended_now : Bool)
    (refused refused_now : Option FrameFault) (how : DriveEnd) (d : DriveEnds homes files start before (drive_view seats told given idle faults [] counts) ended refused how) (told_same : told_now ≡ told) (given_same : given_now ≡ given) (idle_on : idle ≤ idle_now)
    (faults_on : faults ≤ faults_now) (ended_on : StaysTrue ended ended_now) (refused_on : StaysRefused refused refused_now) where
  stays : (now : DriveEnd) → (IsCalmEnd now → IsCalmEnd how × (faults_now ≡ faults)) → EndsBy homes files d.later d.rest (d.counted ++ d.rest) seats ended_now refused_now before faults_now now
      → DriveEnds homes files start before (drive_view seats told_now given_now idle_now faults_now [] counts) ended_now refused_now now
  stays now calm_on cause = record {
    counted = d.counted;
    rest = d.rest;
    seats = d.seats;
    events = d.events;
    unsaid = d.unsaid;
    told_are = ap (λ (l : List PendingRecord). l ++ d.unsaid) told_same ∙ d.told_are;
    all_told = λ calm. d.all_told (calm_on calm).0;
    told_count = d.told_count ∙ ap (λ (l : List PendingRecord). length l) (sym told_same);
    front = d.front;
    later = d.later;
    given_are = given_same ∙ d.given_are;
    are_in = d.are_in;
    begun = d.begun;
    puts = d.puts;
    asks = d.asks;
    given_few = λ k lt. let l = ap (λ (l : List PieceMark). length l) given_same in let was = d.given_few k lt in omega arith;
    turns = d.turns;
    few = λ k lt. let l = ap (λ (l : List PieceMark). length l) given_same in let was = d.few k lt in omega arith;
    claims_few = let l = ap (λ (l : List PieceMark). length l) given_same in let was = d.claims_few in omega arith;
    nothings = d.nothings;
    turns_few = let l = ap (λ (l : List PieceMark). length l) given_same in let was = d.turns_few in omega arith;
    idle_is = let was = d.idle_is in omega arith;
    cause = cause;
    calm = λ calm. (calm_on calm).1 ∙ d.calm (calm_on calm).0;
    later_faults = let was = d.later_faults in omega arith;
  }

  rises : Rose before faults ⊎ (0 < count_replies tells_fault d.rest) → Rose before faults_now ⊎ (0 < count_replies tells_fault d.rest)
  rises (inl rose) = inl (omega (arith, rose))
  rises (inr some) = inr some

  kept : (fault : FrameFault) (r : Option FrameFault) → r ≡ Some fault → StaysRefused r refused_now → refused_now ≡ Some fault
  kept fault None e h = absurd (cc)
  kept fault (Some other) e h = h ∙ e

  same_cause : (now : DriveEnd) → EndsBy homes files d.later d.rest (d.counted ++ d.rest) seats ended refused before faults now → EndsBy homes files d.later d.rest (d.counted ++ d.rest) seats ended_now refused_now before faults_now now
  same_cause end.Done c = (c.0, c.1, ended_on c.2, c.3)
  same_cause (end.Frame fault) c = (c.0, c.1, kept fault refused c.2 refused_on, c.3)
  same_cause end.Stopped c = c
  same_cause end.Fault c = rises c
  same_cause end.HistoryFull c = c
  same_cause end.OutOfMemory c = tt
  same_cause end.UnknownFile c = c
  same_cause (end.Refused error) c = c
  same_cause end.Failed c = c

  abbrev Ends : DriveEnd → Type 0
  Ends now = DriveEnds homes files start before (drive_view seats told_now given_now idle_now faults_now [] counts) ended_now refused_now now

  out : Ends end.OutOfMemory
  out = stays end.OutOfMemory (λ calm. absurd calm) tt

  pub stopped_ends : (stopped : LoaderTurn) → TurnCause faults faults_now stopped → Ends (end_after how stopped)
  stopped_ends stopped c = by how refl stopped c
    where
      fine : faults_now ≡ faults → Ends how
      fine e = stays how (λ calm. (calm, e)) (same_cause how d.cause)

      failed : Rose faults faults_now → Ends end.Fault
      failed rose = stays end.Fault (λ calm. absurd calm) (inl (let was = d.later_faults in omega (arith, rose)))

      by : (first : DriveEnd) → how ≡ first → (last : LoaderTurn) → TurnCause faults faults_now last → Ends (end_after first last)
      by first e turn.Fine h = subst Ends e (fine h)
      by first e turn.OutOfMemory h = out
      by end.OutOfMemory e turn.Failed h = out
      by end.Done e turn.Failed h = failed h
      by end.Stopped e turn.Failed h = failed h
      by end.UnknownFile e turn.Failed h = failed h
      by (end.Refused error) e turn.Failed h = failed h
      by (end.Frame fault) e turn.Failed h = failed h
      by end.Fault e turn.Failed h = failed h
      by end.Failed e turn.Failed h = failed h
      by end.HistoryFull e turn.Failed h = failed h

-- an end that is calm once the loader is stopped was calm before
pub calm_before : (how : DriveEnd) (stopped : LoaderTurn) → IsCalmEnd (end_after how stopped) → IsCalmEnd how
calm_before how turn.Fine calm = calm
calm_before how turn.OutOfMemory calm = absurd calm
calm_before end.OutOfMemory turn.Failed calm = absurd calm
calm_before end.Done turn.Failed calm = absurd calm
calm_before end.Stopped turn.Failed calm = absurd calm
calm_before end.UnknownFile turn.Failed calm = absurd calm
calm_before (end.Refused error) turn.Failed calm = absurd calm
calm_before (end.Frame fault) turn.Failed calm = absurd calm
calm_before end.Fault turn.Failed calm = absurd calm
calm_before end.Failed turn.Failed calm = absurd calm
calm_before end.HistoryFull turn.Failed calm = absurd calm

-- a fresh loader that was prepared has these files
pub prepared_now : (files : List LoaderFile) (before after : Option (List LoaderFile)) → before ≡ None → Prepares files turn.Fine before after → after ≡ Some files
prepared_now files before after e h = (subst (λ (o : Option (List LoaderFile)). Prepares files turn.Fine o after) e h)
