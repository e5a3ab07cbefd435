-- Reads that were taken are told, of one file.
use Rattle.std.proofs.Common.{◌≡◌, inl, inr, ℕ, ◌+◌, ◌-◌, ◌^◌, ◌<◌, ◌≤◌, Bool, true, false, List, [], ◌∷◌, ◌++◌, length, take, drop, get_or, refl, sym, ap, ◌∙◌, arith, append_assoc}
use Rattle.std.specs.Prelude.{Ok, Err}
use Rattle.std.proofs.lemmas.List.{append-nil, length-take-le, take-append-drop, take_all, take_more}
use Rattle.inc_pending.specs.declared.pending_record.PendingRecord.{PendingRecord}
use Rattle.inc_model.specs.declared.words.event.Event.TheVariants.{TakePending}
use Rattle.inc_turn.specs.Turns.{AddsOwn}
use Rattle.inc_turn.specs.declared.view.View.{View}
use Rattle.inc_cell.specs.declared.machine.CellFooting.{CellFooting}
use Rattle.inc_handle.specs.Pending.{TakesPending, TakesReads}
use Rattle.inc_handle.specs.UnderWay.{IsFullFile}
use Rattle.inc_handle.specs.declared.fill.pending.TakenReads.{TakenReads}
use Rattle.inc_model.specs.declared.words.outcomes.FillError.{FillError}
use Rattle.inc_model.specs.declared.words.outcomes.FillError.TheVariants as refusal
use Rattle.inc_script.specs.declared.report_text.ends.DriveEnd.{DriveEnd}
use Rattle.inc_script.specs.declared.report_text.ends.DriveEnd.TheVariants as end
use Rattle.inc_session.specs.Deeds.{serial_after}
use Rattle.inc_session.specs.ReadTakes.{TakesFile, TakesOnce, TakesUntold, TellStop, TellsFirst}
use Rattle.inc_session.specs.declared.driving.counts.DriveCounts.{DriveCounts}

module _ (reads : List PendingRecord) (i : ℕ) (told_before told : List PendingRecord) (old new : DriveCounts) (within : i ≤ length reads) (told_are : told ≡ told_before ++ take i reads) (counted : new ≡ record old { told = old.told + i }) where
  pub tells_some : TellsFirst reads told_before told old new (drop i reads)
  tells_some = record {
    said = take i reads;
    reads_are = sym (take-append-drop i reads);
    told_are = told_are;
    counted = counted ∙ ap (λ (n : ℕ). let c : DriveCounts = record old { told = old.told + n } in c) (sym (length-take-le i reads within));
  }

  pub tells_all : i ≡ length reads → TellsFirst reads told_before told old new []
  tells_all all = record {
    said = reads;
    reads_are = sym (append-nil reads);
    told_are = told_are ∙ ap (λ (l : List PendingRecord). told_before ++ l) (take_all i reads (omega arith));
    counted = counted ∙ ap (λ (n : ℕ). let c : DriveCounts = record old { told = old.told + n } in c) all;
  }

  pub told_more : (read : PendingRecord) (now : List PendingRecord) → i < length reads → read ≡ get_or reads i read → now ≡ told ++ read ∷ [] → now ≡ told_before ++ take (i + 1) reads
  told_more read now lt is e =
      e
      ∙ ap (λ (l : List PendingRecord). l ++ read ∷ []) told_are
      ∙ append_assoc told_before (take i reads) (read ∷ [])
      ∙ ap (λ (r : PendingRecord). told_before ++ (take i reads ++ r ∷ [])) is
      ∙ ap (λ (l : List PendingRecord). told_before ++ l) (sym (take_more reads i read lt))

-- ---- one file

module _ (file : CellFooting) (v w : View CellFooting) (after_before after : ℕ) (told_before told : List PendingRecord) (old new : DriveCounts) (faults_before faults : ℕ) where
  once : (taken : TakenReads) → TakesReads file v after_before (2 ^ 32 - 1) taken w → after ≡ serial_after after_before taken.records → TakesOnce v after_before after taken.records taken.readers w
  once taken t e = record { adds = t.adds; after_is = e }

  pub file_told : (taken : TakenReads) (some : Bool) → TakesReads file v after_before (2 ^ 32 - 1) taken w → after ≡ serial_after after_before taken.records → TellsFirst taken.records told_before told old new [] → faults ≡ faults_before → (some ≡ true → 0 < taken.readers)
      → (some ≡ false → taken.readers ≡ 0) → TakesFile file v after_before after told_before told old new faults_before faults (Ok some) w
  file_told taken some t e tells calm some_are none_are = (record { records = taken.records; readers = taken.readers; takes = once taken t e; tells = tells; some_are = some_are; none_are = none_are }, calm)

  -- not all was told
  pub file_unsaid : (taken : TakenReads) (stop : DriveEnd) → TakesReads file v after_before (2 ^ 32 - 1) taken w → after ≡ serial_after after_before taken.records → ((unsaid : List PendingRecord) × TellsFirst taken.records told_before told old new unsaid) → TellStop faults_before faults stop
      → TakesFile file v after_before after told_before told old new faults_before faults (Err stop) w
  file_unsaid taken stop t e tells cause = by stop cause
    where
      some : TakesUntold v after_before after told_before told old new w
      some = record { records = taken.records; readers = taken.readers; unsaid = tells.0; takes = once taken t e; tells = tells.1 }

      by : (how : DriveEnd) → TellStop faults_before faults how → TakesFile file v after_before after told_before told old new faults_before faults (Err how) w
      by end.Fault c = (inr some, c)
      by end.OutOfMemory c = (inr some, c)
      by end.HistoryFull c = absurd c
      by end.Done c = absurd c
      by end.Stopped c = absurd c
      by end.UnknownFile c = absurd c
      by (end.Refused error) c = absurd c
      by (end.Frame fault) c = absurd c
      by end.Failed c = absurd c

  -- nothing was taken
  pub file_full : (entries claimed : ℕ) → IsFullFile file v (TakePending after_before (2 ^ 32 - 1)) entries claimed w → told ≡ told_before → new ≡ old → faults ≡ faults_before → TakesFile file v after_before after told_before told old new faults_before faults (Err end.HistoryFull) w
  file_full entries claimed full e f calm = ((entries, claimed, full), record { adds = full.adds; told_same = e; counts_same = f }, calm)

  pub file_wants : (error : FillError) → TakesPending file v after_before (2 ^ 32 - 1) (Err error) w → ((entries claimed : ℕ) → error ≡ refusal.HistoryFull entries claimed → ⊥) → told ≡ told_before → new ≡ old → faults ≡ faults_before
      → TakesFile file v after_before after told_before told old new faults_before faults (Err end.OutOfMemory) w
  file_wants error t other e f calm = (inl (record { adds = adds error t other; told_same = e; counts_same = f }), calm)
    where
      adds : (error : FillError) → TakesPending file v after_before (2 ^ 32 - 1) (Err error) w → ((entries claimed : ℕ) → error ≡ refusal.HistoryFull entries claimed → ⊥) → AddsOwn v w []
      adds refusal.OutOfMemory t other = t
      adds (refusal.HistoryFull entries claimed) t other = absurd (other entries claimed refl)
      adds refusal.NoPermission t other = absurd t
      adds (refusal.OutOfRange piece) t other = absurd t
      adds (refusal.Compressed piece) t other = absurd t
      adds (refusal.BadLength piece) t other = absurd t
      adds (refusal.Damaged piece) t other = absurd t
      adds (refusal.Failed at) t other = absurd t
      adds (refusal.DiskFault done) t other = absurd t
