-- Deeds that took reads.
use Rattle.std.proofs.Common.{◌≡◌, ℕ, Bool, false, List, [], ◌∷◌, ◌++◌, Some, refl, sym, ap, subst, ◌∙◌, arith}
use Rattle.std.specs.Prelude.{map}
use Rattle.inc_loader.specs.declared.loader_file.LoaderFile.{LoaderFile}
use Rattle.inc_model.specs.declared.words.reply.Entry.{Entry}
use Rattle.inc_model.specs.declared.words.reply.Reply.{Reply}
use Rattle.inc_model.specs.declared.words.reply.Reply.TheVariants.{Taken}
use Rattle.inc_pending.specs.declared.pending_record.PendingRecord.{PendingRecord}
use Rattle.inc_session.specs.Deeds.{EachOf, Deed, HasOutcome, IsDriveEvent, PutTarget, claimed_in, count_replies, was_busy, was_present, was_written, places_of_claim, puts_in, put_target_in}
use Rattle.inc_session.specs.DriveSeats.{HomeFile}
use Rattle.inc_session.specs.GivenFills.{MarksAreIn}
use Rattle.inc_session.specs.ReadTakes.{IsTakeEntry}
use Rattle.inc_session.specs.declared.driving.counts.DriveCounts.{DriveCounts}

take_event : (entry : Entry) → IsTakeEntry entry → IsDriveEvent entry.event
take_event entry h = subst (λ (e : Entry). IsDriveEvent e.event) (sym h.entry_is) tt

pub take_events : (deeds : List Deed) → EachOf (λ (deed : Deed). IsTakeEntry deed.entry) deeds → EachOf (λ (deed : Deed). IsDriveEvent deed.entry.event) deeds
take_events [] h = tt
take_events (deed ∷ deeds) h = (take_event deed.entry h.0, take_events deeds h.1)

no_outcomes : (deeds : List Deed) → EachOf (λ (deed : Deed). IsTakeEntry deed.entry) deeds → EachOf (λ (deed : Deed). HasOutcome deed.entry.event deed.entry.reply) deeds
no_outcomes [] h = tt
no_outcomes (deed ∷ deeds) h = (subst (λ (e : Entry). HasOutcome e.event e.reply) (sym h.0.entry_is) tt, no_outcomes deeds h.1)

pub no_puts : (deeds : List Deed) → EachOf (λ (deed : Deed). IsTakeEntry deed.entry) deeds → puts_in deeds ≡ []
no_puts [] h = refl
no_puts (deed ∷ deeds) h = ap (λ (e : Entry). put_target_in deed.file e.event ++ puts_in deeds) h.0.entry_is ∙ no_puts deeds h.1

no_counts_of : (test : Reply → Bool) → ((records : List PendingRecord) (readers : ℕ) → test (Taken records readers) ≡ false) → (deeds : List Deed) → EachOf (λ (deed : Deed). IsTakeEntry deed.entry) deeds → count_replies test deeds ≡ 0
no_counts_of test other [] h = refl
no_counts_of test other (deed ∷ deeds) h =
    let no : test deed.entry.reply ≡ false = ap (λ (e : Entry). test e.reply) h.0.entry_is ∙ other h.0.records h.0.readers in
    rw no (no_counts_of test other deeds h.1)

pub no_claims : (deeds : List Deed) → EachOf (λ (deed : Deed). IsTakeEntry deed.entry) deeds → claimed_in deeds ≡ 0
no_claims [] h = refl
no_claims (deed ∷ deeds) h =
    let none : places_of_claim deed.entry.event ≡ 0 = ap (λ (e : Entry). places_of_claim e.event) h.0.entry_is in
    let rest = no_claims deeds h.1 in
    omega arith

pub take_marks : (homes : List HomeFile) (files : List LoaderFile) (deeds : List Deed) (old new : DriveCounts) → EachOf (λ (deed : Deed). IsTakeEntry deed.entry) deeds → (told : ℕ) → new ≡ record old { told = told } → MarksAreIn homes files [] deeds old new
take_marks homes files deeds old new h told e = record {
  taken = tt;
  puts = ap (λ (l : List PutTarget). map Some l) (no_puts deeds h);
  outcomes = no_outcomes deeds h;
  written = let n = no_counts_of was_written (λ r k. refl) deeds h in let w = ap (λ (c : DriveCounts). c.written) e in omega arith;
  present = let n = no_counts_of was_present (λ r k. refl) deeds h in let w = ap (λ (c : DriveCounts). c.present) e in omega arith;
  busy = let n = no_counts_of was_busy (λ r k. refl) deeds h in let w = ap (λ (c : DriveCounts). c.busy) e in omega arith;
}
