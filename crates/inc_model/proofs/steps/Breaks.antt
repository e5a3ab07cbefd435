-- The first write or sync that failed is the one that `failed` names, and the faults are counted.
use Rattle.std.proofs.Common.{◌≡◌, ℕ, ◌+◌, ◌-◌, ◌^◌, ◌<◌, ◌≤◌, ◌⊎◌, Bool, true, false, not, ◌&&◌, cond, List, [], ◌∷◌, ◌++◌, length, Option, Some, None, refl, sym, ap, subst, ◌∙◌, arith, inl, inr}
use Rattle.std.specs.Prelude.{is_some, count_by}
use Rattle.std.specs.List.{list_all}
use Rattle.std.proofs.lemmas.Bool.{and_parts}
use Rattle.std.proofs.lemmas.List.Recursion.{is_count_by}
use Rattle.inc_pending.specs.Polling.{waits_on}
use Rattle.inc_model.specs.declared.words.event.Event.{Event}
use Rattle.inc_model.specs.declared.words.event.Event.TheVariants.{Ask, Poll, Cancel, Claim, PutData, PutPlace, Settle, Gate, Release, TakePending, SetTimes, Ranges, Count, Leave}
use Rattle.inc_model.specs.declared.words.file_state.FileState.{FileState}
use Rattle.inc_model.specs.declared.words.file_state.FlightRow.{FlightRow}
use Rattle.inc_model.specs.declared.words.reply.Entry.{Entry}
use Rattle.inc_model.specs.declared.words.reply.Reply.{Reply}
use Rattle.inc_model.specs.declared.words.reply.Reply.TheVariants.{Fault}
use Rattle.inc_model.specs.relation.State.{flight_row}
use Rattle.inc_model.specs.relation.Stages.{is_at, is_settled}
use Rattle.inc_model.specs.relation.Table.{reply_of}
use Rattle.inc_model.specs.relation.Changes.{first_failure, gate_change, rest_change, change}
use Rattle.inc_model.specs.relation.Step.{Fits, Step, IsLegal, after_entry, state_after}
use Rattle.inc_model.specs.laws.StageLaws.{IsFault}
use Rattle.inc_model.specs.laws.FaultLaws.{is_written_by, is_fault, is_break, IsFirstBreak}
use Rattle.inc_model.proofs.facts_kept.Fill.{at_stage, may_gate}
use Rattle.inc_model.proofs.steps.Faults.{faults_seen, faults_stay}

-- ---- one step

-- a reply is a fault or not
fault_or : (reply : Reply) → ((count : ℕ) × (reply ≡ Fault count)) ⊎ ((IsFault reply → ⊥) × (is_fault reply ≡ false))
fault_or (Fault count) = inl (count, refl)
fault_or reply = inr ((λ h. h), refl)

never_broken : (b f : Bool) → f ≡ false → (b && f) ≡ false
never_broken true f e = e
never_broken false f e = refl

module _ (s : FileState) (at who count : ℕ) where
  gate_failed : (index : ℕ) (found : Option FlightRow) → is_some found ≡ true → (gate_change at s index found (Fault count)).failed ≡ first_failure s.failed at
  gate_failed index None e = absurd (cc)
  gate_failed index (Some row) e = refl

  fault_failed : (told : Bool) (event : Event) → Fits told s.faults (reply_of s who event) (Fault count) → (rest_change at s who event (Fault count)).failed ≡ cond (is_written_by event) (first_failure s.failed at) s.failed
  fault_failed told (Ask block uid moment) h = refl
  fault_failed told (Poll serial moment) h = refl
  fault_failed told (Cancel serial) h = refl
  fault_failed told (Claim window places) h = refl
  fault_failed told (PutData window index digest) h = refl
  fault_failed told (PutPlace window index) h = refl
  fault_failed told (Settle window) h = refl
  fault_failed told (Gate window index) h =
      let mine = at_stage is_settled window (flight_row index s.flight) (may_gate s.failed (is_at is_settled window (flight_row index s.flight)) (count_by (waits_on index) s.reads) h.0) in
      gate_failed index (flight_row index s.flight) (ap (λ (o : Option FlightRow). is_some o) mine.is)
  fault_failed told (Release window) h = refl
  fault_failed told (TakePending after most) h = refl
  fault_failed told (SetTimes uid times) h = refl
  fault_failed told (Ranges start end room) h = refl
  fault_failed told Count h = refl
  fault_failed told Leave h = refl

is_break_of : (event : Event) (b : Bool) → b ≡ true → (is_written_by event && b) ≡ is_written_by event
is_break_of event true e = go (is_written_by event)
  where
    go : (w : Bool) → (w && true) ≡ w
    go true = refl
    go false = refl
is_break_of event false e = absurd (cc)

pub failed_after : (old new : FileState) (told : Bool) (at who : ℕ) (event : Event) (reply : Reply) → Step at told old who event reply new → new.failed ≡ cond (is_written_by event && is_fault reply) (first_failure old.failed at) old.failed
failed_after old new told at who event reply step = elim (fault_or reply) [
  | inl is ↦
      let fits : Fits told old.faults (reply_of old who event) (Fault is.0) = subst (λ (r : Reply). Fits told old.faults (reply_of old who event) r) is.1 step.allowed.fits in
      let broken = is_break_of event (is_fault reply) (ap is_fault is.1) in
      ap (λ (s : FileState). s.failed) step.after
      ∙ ap (λ (r : Reply). (change at old who event r).failed) is.1
      ∙ fault_failed old at who is.0 told event fits
      ∙ ap (λ b. cond b (first_failure old.failed at) old.failed) (sym broken)
  | inr works ↦
      let quiet = faults_stay old new told at who event reply step works.0 in
      quiet.1 ∙ ap (λ b. cond b (first_failure old.failed at) old.failed) (sym (never_broken (is_written_by event) (is_fault reply) works.1))
]

pub poll_leaves_failed : (old new : FileState) (told : Bool) (at who serial now : ℕ) (reply : Reply) → Step at told old who (Poll serial now) reply new → new.failed ≡ old.failed
poll_leaves_failed old new told at who serial now reply step = failed_after old new told at who (Poll serial now) reply step

-- ---- histories

-- the position of the first that failed
abbrev first_break : ℕ → List Entry → Option ℕ
first_break at [] = None
first_break at (entry ∷ entries) = cond (is_break entry) (Some at) (first_break (at + 1) entries)

failed_next : (told : Bool) (at : ℕ) (s : FileState) (entry : Entry) (rest : List Entry) → IsLegal at told s (entry ∷ rest) → (after_entry at s entry).failed ≡ cond (is_break entry) (first_failure s.failed at) s.failed
failed_next told at s entry rest legal = failed_after s (after_entry at s entry) told at entry.who entry.event entry.reply (record { allowed = legal.0.allowed; after = refl })

stays_failed : (s : FileState) (told : Bool) (at position : ℕ) (entries : List Entry) → s.failed ≡ Some position → IsLegal at told s entries → (state_after at s entries).failed ≡ Some position
stays_failed s told at position [] e legal = e
stays_failed s told at position (entry ∷ entries) e legal =
    stays_failed (after_entry at s entry) told (at + 1) position entries (failed_next told at s entry entries legal ∙ ap (λ (o : Option ℕ). cond (is_break entry) (first_failure o at) o) e ∙ same (is_break entry)) legal.1
  where
    same : (b : Bool) → cond b (Some position) (Some position) ≡ Some position
    same true = refl
    same false = refl

failed_is : (s : FileState) (told : Bool) (at : ℕ) (entries : List Entry) → s.failed ≡ None → IsLegal at told s entries → (state_after at s entries).failed ≡ first_break at entries
failed_is s told at [] e legal = e
failed_is s told at (entry ∷ entries) e legal =
    step (is_break entry) (failed_next told at s entry entries legal ∙ ap (λ (o : Option ℕ). cond (is_break entry) (first_failure o at) o) e) (λ now. failed_is (after_entry at s entry) told (at + 1) entries now legal.1)
  where
    step : (b : Bool) → (after_entry at s entry).failed ≡ cond b (Some at) None → ((after_entry at s entry).failed ≡ None → (state_after (at + 1) (after_entry at s entry) entries).failed ≡ first_break (at + 1) entries)
        → (state_after (at + 1) (after_entry at s entry) entries).failed ≡ cond b (Some at) (first_break (at + 1) entries)
    step true now rest = stays_failed (after_entry at s entry) told (at + 1) at entries now legal.1
    step false now rest = rest now

-- a break so many entries after the first
record BreaksAt (at : ℕ) (entries : List Entry) (position : ℕ) : Type 0 where
  before : List Entry
  entry : Entry
  after : List Entry
  cut : entries ≡ before ++ entry ∷ after
  place : position ≡ at + length before
  failed : is_break entry ≡ true
  first : list_all (λ earlier. not (is_break earlier)) before ≡ true

break_found : (at : ℕ) (entries : List Entry) (position : ℕ) → first_break at entries ≡ Some position → BreaksAt at entries position
break_found at [] position e = absurd (cc)
break_found at (entry ∷ entries) position e = step (is_break entry) refl e (λ rest. break_found (at + 1) entries position rest)
  where
    step : (b : Bool) → is_break entry ≡ b → cond b (Some at) (first_break (at + 1) entries) ≡ Some position → (first_break (at + 1) entries ≡ Some position → BreaksAt (at + 1) entries position) → BreaksAt at (entry ∷ entries) position
    step true t now rest =
        let same : at ≡ position = cc in
        record { before = []; entry = entry; after = entries; cut = refl; place = omega arith; failed = t; first = refl }
    step false t now rest =
        let h = rest now in
        let place = h.place in
        record {
          before = entry ∷ h.before;
          entry = h.entry;
          after = h.after;
          cut = ap (λ (l : List Entry). entry ∷ l) h.cut;
          place = omega arith;
          failed = h.failed;
          first = ap (λ b. not b && list_all (λ earlier. not (is_break earlier)) h.before) t ∙ h.first;
        }

break_named : (at : ℕ) (before after : List Entry) (entry : Entry) → is_break entry ≡ true → list_all (λ earlier. not (is_break earlier)) before ≡ true → first_break at (before ++ entry ∷ after) ≡ Some (at + length before)
break_named at [] after entry failed first = ap (λ b. cond b (Some at) (first_break (at + 1) after)) failed ∙ ap (λ k. Some k) (omega arith)
break_named at (earlier ∷ before) after entry failed first =
    let parts = and_parts (not (is_break earlier)) (list_all (λ other. not (is_break other)) before) first in
    step (is_break earlier) parts.0 ∙ break_named (at + 1) before after entry failed parts.1 ∙ ap (λ k. Some k) (omega arith)
  where
    step : (b : Bool) → not b ≡ true → cond b (Some at) (first_break (at + 1) (before ++ entry ∷ after)) ≡ first_break (at + 1) (before ++ entry ∷ after)
    step true e = absurd (cc)
    step false e = refl

none_broken : (at : ℕ) (entries : List Entry) → first_break at entries ≡ None → list_all (λ entry. not (is_break entry)) entries ≡ true
none_broken at [] e = refl
none_broken at (entry ∷ entries) e = step (is_break entry) e (none_broken (at + 1) entries)
  where
    step : (b : Bool) → cond b (Some at) (first_break (at + 1) entries) ≡ None → (first_break (at + 1) entries ≡ None → list_all (λ other. not (is_break other)) entries ≡ true) → (not b && list_all (λ other. not (is_break other)) entries) ≡ true
    step true now rest = absurd (cc)
    step false now rest = rest now

pub failed_is_first : (start : FileState) (told : Bool) (entries : List Entry) (position : ℕ) → start.failed ≡ None → IsLegal 0 told start entries → (state_after 0 start entries).failed ≡ Some position → IsFirstBreak entries position
failed_is_first start told entries position none legal e =
    let h = break_found 0 entries position (sym (failed_is start told 0 entries none legal) ∙ e) in
    let place = h.place in
    record { before = h.before; entry = h.entry; after = h.after; cut = h.cut; place = omega arith; failed = h.failed; first = h.first }

pub first_is_failed : (start : FileState) (told : Bool) (entries : List Entry) (position : ℕ) → start.failed ≡ None → IsLegal 0 told start entries → IsFirstBreak entries position → (state_after 0 start entries).failed ≡ Some position
first_is_failed start told entries position none legal h =
    let place = h.place in
    failed_is start told 0 entries none legal ∙ ap (λ (l : List Entry). first_break 0 l) h.cut ∙ break_named 0 h.before h.after h.entry h.failed h.first ∙ ap (λ k. Some k) (omega arith)

pub none_has_failed : (start : FileState) (told : Bool) (entries : List Entry) → start.failed ≡ None → IsLegal 0 told start entries → (state_after 0 start entries).failed ≡ None → list_all (λ entry. not (is_break entry)) entries ≡ true
none_has_failed start told entries none legal e = none_broken 0 entries (sym (failed_is start told 0 entries none legal) ∙ e)

-- ---- the count

-- so many faults more, or the count stands at its end
abbrev Rises : ℕ → ℕ → ℕ → Type 0
Rises from more to = (from + more ≤ to) ⊎ (2 ^ 64 - 1 ≤ to)

rises_both : (a b c m n : ℕ) → Rises a m b → Rises b n c → Rises a (m + n) c
rises_both a b c m n (inl first) (inl second) = inl (omega arith)
rises_both a b c m n (inl first) (inr end) = inr end
rises_both a b c m n (inr high) (inl second) = inr (omega arith)
rises_both a b c m n (inr high) (inr end) = inr end

rises_one : (a b count : ℕ) → b ≡ count → (a < count) ⊎ (count ≡ 2 ^ 64 - 1) → Rises a 1 b
rises_one a b count e (inl lt) = inl (omega arith)
rises_one a b count e (inr end) = inr (omega arith)

-- one for a fault
abbrev ones : Bool → ℕ
ones b = cond b 1 0

ones_more : (b : Bool) (rest : ℕ) → cond b (1 + rest) rest ≡ ones b + rest
ones_more true rest = omega arith
ones_more false rest = omega arith

fault_counted : (told : Bool) (at : ℕ) (s : FileState) (entry : Entry) (rest : List Entry) → IsLegal at told s (entry ∷ rest) → Rises s.faults (ones (is_fault entry.reply)) (after_entry at s entry).faults
fault_counted told at s entry rest legal =
    let new = after_entry at s entry in
    let step : Step at told s entry.who entry.event entry.reply new = record { allowed = legal.0.allowed; after = refl } in
    elim (fault_or entry.reply) [
      | inl is ↦
          let seen = faults_seen s new told at entry.who entry.event is.0 (subst (λ (r : Reply). Step at told s entry.who entry.event r new) is.1 step) in
          subst (λ k. Rises s.faults k new.faults) (sym (ap (λ (r : Reply). ones (is_fault r)) is.1)) (rises_one s.faults new.faults is.0 seen.counted seen.rose)
      | inr works ↦
          let quiet = faults_stay s new told at entry.who entry.event entry.reply step works.0 in
          let same = quiet.0 in
          subst (λ k. Rises s.faults k new.faults) (sym (ap ones works.1)) (inl (omega arith))
    ]

abbrev number_of_faults : List Entry → ℕ
number_of_faults [] = 0
number_of_faults (entry ∷ entries) = cond (is_fault entry.reply) (1 + number_of_faults entries) (number_of_faults entries)

all_counted : (s : FileState) (told : Bool) (at : ℕ) (entries : List Entry) → IsLegal at told s entries → Rises s.faults (number_of_faults entries) (state_after at s entries).faults
all_counted s told at [] legal = inl (omega arith)
all_counted s told at (entry ∷ entries) legal =
    let new = after_entry at s entry in
    let end = (state_after (at + 1) new entries).faults in
    subst (λ k. Rises s.faults k end) (sym (ones_more (is_fault entry.reply) (number_of_faults entries)))
    (rises_both s.faults new.faults end (ones (is_fault entry.reply)) (number_of_faults entries) (fault_counted told at s entry entries legal) (all_counted new told (at + 1) entries legal.1))

pub faults_counted : (s : FileState) (told : Bool) (at : ℕ) (entries : List Entry) → IsLegal at told s entries → Rises s.faults (count_by (λ entry. is_fault entry.reply) entries) (state_after at s entries).faults
faults_counted s told at entries legal =
    subst (λ k. Rises s.faults k (state_after at s entries).faults) (is_count_by number_of_faults (λ (e : Entry). is_fault e.reply) refl (λ e es. refl) entries) (all_counted s told at entries legal)
