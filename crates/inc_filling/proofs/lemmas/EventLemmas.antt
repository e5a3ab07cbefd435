-- What one event of a window makes of where its group stands.
use Rattle.std.proofs.Common.{◌≡◌, ◌⊎◌, inl, inr, ℕ, ◌+◌, ◌-◌, ◌<◌, ◌≤◌, Bool, true, cond, List, [], ◌∷◌, ◌++◌, length, Option, Some, refl, sym, ap, subst, ◌∙◌, arith, append_assoc, length-append}
use Rattle.std.specs.Prelude.{◌&&◌}
use Rattle.std.proofs.lemmas.Bool.{ne_eqb}
use Rattle.std.proofs.lemmas.List.{map-append}
use Rattle.std.proofs.lemmas.List.Sums.{sum_by-cons}
use Rattle.inc_io.specs.Causes.{Rose}
use Rattle.inc_model.specs.executed.EntriesLeft.{entry_left}
use Rattle.inc_model.specs.relation.Facts.{FileFacts}
use Rattle.inc_model.specs.relation.Stages.{is_at}
use Rattle.inc_model.specs.relation.State.{Claims, IsSameFile, all_places, is_same, places_left, spend}
use Rattle.inc_model.specs.relation.Step.{Fits, HasRoom, IsHanded, IsPut, needs, needs_beside}
use Rattle.inc_model.specs.declared.words.event.Event.{Event}
use Rattle.inc_model.specs.declared.words.event.Window.{Window}
use Rattle.inc_model.specs.declared.words.file_state.FileState.{FileState}
use Rattle.inc_model.specs.declared.words.file_state.FlightRow.{FlightRow}
use Rattle.inc_model.specs.declared.words.file_state.Stage.{Stage}
use Rattle.inc_model.specs.declared.words.reply.Entry.{Entry}
use Rattle.inc_model.specs.declared.words.reply.Reply.{Reply}
use Rattle.inc_model.specs.declared.words.reply.Reply.TheVariants as reply
use Rattle.inc_model.proofs.runs.Histories.{step_stays}
use Rattle.inc_model.proofs.steps.Syncs.{map_stays}
use Rattle.inc_cell.specs.events.Answers.{CellReplies}
use Rattle.inc_cell.specs.laws.Runs.{CellRuns}
use Rattle.inc_cell.specs.seen.Seen.{Seen, state_now, tells}
use Rattle.inc_cell.specs.events.Steps.{ReplyDoes}
use Rattle.inc_cell.specs.declared.words.answer.CellReply.{CellReply}
use Rattle.inc_cell.specs.declared.words.answer.CellReply.TheVariants.{Done, HistoryFull, OutOfMemory}
use Rattle.inc_cell.proofs.openings.RunLemmas.{runs_by_one, runs_join}
use Rattle.inc_filling.specs.Stands.{BreaksOff, HasLeft, HasTaken, RunsFrom, StandsAt, events_of}
use Rattle.inc_filling.specs.declared.stop.FillStop.TheVariants as stop
use Rattle.inc_filling.proofs.lemmas.StageLemmas.{same_window}

-- ---- what was done

pub same_file : (a b c : FileState) → IsSameFile a b → IsSameFile b c → IsSameFile a c
same_file a b c h k = (k.0 ∙ h.0, k.1 ∙ h.1, k.2 ∙ h.2, k.3 ∙ h.3, k.4 ∙ h.4, k.5 ∙ h.5)

runs_on : (start old new : Seen) → RunsFrom start old → CellRuns old new → RunsFrom start new
runs_on start old new (inl e) run = inr (subst (λ (s : Seen). CellRuns s new) e run)
runs_on start old new (inr first) run = inr (runs_join start old new first run)

abbrev pub entry_of : ℕ → Event → Reply → Entry
entry_of who event reply = record { who = who; event = event; reply = reply }

pub takes_on : (start old new : Seen) (events : List Event) (who : ℕ) (event : Event) (block : List ℕ) (reply : Reply) → HasTaken start events old → ReplyDoes old who event block reply new
    → entry_left who event reply ≡ entry_of who event reply ∷ [] → IsSameFile (state_now old) (state_now new) → HasTaken start (events ++ event ∷ []) new
takes_on start old new events who event block reply h r left same = record {
  runs = runs_on start old new h.runs (runs_by_one old new (entry_of who event reply ∷ []) r.opened r.opening grew r.moments);
  taken = ap events_of grew ∙ map-append (λ (entry : Entry). entry.event) old.history (entry_of who event reply ∷ []) ∙ ap (λ (before : List Event). before ++ event ∷ []) h.taken
      ∙ append_assoc (events_of start.history) events (event ∷ []);
  opened = r.opened ∙ h.opened;
  opening = r.opening ∙ h.opening;
  facts = subst (λ (first : FileState). FileFacts first (state_now new)) (sym r.opening) (step_stays old.opening (state_now old) (state_now new) (tells old.states) (length old.history) who event reply r.step h.facts);
  same = same_file (state_now start) (state_now old) (state_now new) h.same same;
  stays = λ i digest there. map_stays old.opening (state_now old) (state_now new) (tells old.states) (length old.history) who event reply i digest h.facts r.step (h.stays i digest there);
}
  where
    grew : new.history ≡ old.history ++ entry_of who event reply ∷ []
    grew = r.history ∙ ap (λ (entries : List Entry). old.history ++ entries) left

-- ---- claimed places

pub places_of : (window : Window) (places : ℕ) → places_left window ((window, places) ∷ []) ≡ places
places_of window places = ap (λ b. cond b places 0) (same_window window)

pub all_of : (window : Window) (places : ℕ) → all_places ((window, places) ∷ []) ≡ places
all_of window places = omega (arith, sum_by-cons (λ (row : Window × ℕ). row.1) (window, places) [])

pub spent : (window : Window) (places : ℕ) → spend window ((window, places) ∷ []) ≡ (window, places - 1) ∷ []
spent window places = ap (λ b. cond b ((window, places - 1) ∷ []) ((window, places) ∷ [])) (same_window window)

pub left_on : (window : Window) (left : ℕ) (old new : Seen) (entry : Entry) → HasLeft window left old → 0 < left → (state_now new).claimed ≡ spend window (state_now old).claimed → new.history ≡ old.history ++ entry ∷ [] → HasLeft window (left - 1) new
left_on window left old new entry h some claimed grew =
    let more : length new.history ≡ length old.history + 1 = ap length grew ∙ length-append old.history (entry ∷ []) in
    let most = h.within in
    let enough = h.enough in
    record {
      places = h.places - 1;
      claimed = claimed ∙ ap (spend window) h.claimed ∙ spent window h.places;
      enough = omega arith;
      within = omega arith;
    }

pub left_less : (window : Window) (left less : ℕ) (seen : Seen) → less ≤ left → HasLeft window left seen → HasLeft window less seen
left_less window left less seen le h = let enough = h.enough in record { places = h.places; claimed = h.claimed; enough = omega arith; within = h.within }

needs_none : (claimed : Claims) (window : Window) → 0 < places_left window claimed → needs_beside claimed (Some window) ≡ 0
needs_none claimed window some = ap (λ b. cond b 1 0) (ne_eqb (places_left window claimed) 0 (λ z. absurd (omega arith)))

-- an event of a window that has places left is done
pub is_done : (old new : Seen) (who : ℕ) (event : Event) (block : List ℕ) (answer : CellReply) (window : Window) (left : ℕ) → HasLeft window left old → 0 < left
    → needs (state_now old).claimed event ≡ needs_beside (state_now old).claimed (Some window) → CellReplies old who event block answer new
    → (given : Reply) × (answer ≡ Done given) × ReplyDoes old who event block given new
is_done old new who event block (Done given) window left h some own r = (given, refl, r)
is_done old new who event block (HistoryFull entries claimed) window left h some own r = absurd (r.no_room room)
  where
    none : needs (state_now old).claimed event ≡ 0
    none =
        let enough = h.enough in
        let places : places_left window (state_now old).claimed ≡ h.places = ap (places_left window) h.claimed ∙ places_of window h.places in
        own ∙ needs_none (state_now old).claimed window (omega arith)

    room : HasRoom (length old.history) (state_now old) event
    room =
        let within = h.within in
        let all : all_places (state_now old).claimed ≡ h.places = ap all_places h.claimed ∙ all_of window h.places in
        let no = none in
        omega arith
is_done old new who event block OutOfMemory window left h some own r =
    let enough = h.enough in
    let places : places_left window (state_now old).claimed ≡ h.places = ap (places_left window) h.claimed ∙ places_of window h.places in
    let none : needs (state_now old).claimed event ≡ 0 = own ∙ needs_none (state_now old).claimed window (omega arith) in
    let wanted = r.unclaimed in
    absurd (omega arith)

-- ---- the reply that comes

-- a reply of the table that no disk changes but by a fault
abbrev pub IsPlainReply : Reply → Type 0
IsPlainReply (reply.Put place digest) = ⊥
IsPlainReply (reply.Handed digest) = ⊥
IsPlainReply wanted = Unit {0}

pub no_put : (digest : List ℕ) (wanted : Reply) → IsPlainReply wanted → IsPut digest wanted → ⊥
no_put digest (reply.Put place own) plain h = plain
no_put digest wanted plain h = h

pub no_handed : (told : Bool) (digest : List ℕ) (wanted : Reply) → IsPlainReply wanted → IsHanded told digest wanted → ⊥
no_handed told digest (reply.Handed own) plain h = plain
no_handed told digest wanted plain h = h

pub came : (told : Bool) (faults : ℕ) (wanted given : Reply) → IsPlainReply wanted → Fits told faults wanted given → (given ≡ wanted) ⊎ ((count : ℕ) × (given ≡ reply.Fault count))
came told faults wanted (reply.Fault count) plain h = inr (count, refl)
came told faults wanted (reply.Put place digest) plain h = absurd (no_put digest wanted plain h)
came told faults wanted (reply.Handed digest) plain h = absurd (no_handed told digest wanted plain h)
came told faults wanted given plain h = inl (sym h)

-- ---- a write or sync that failed

pub breaks_off : (start old new : Seen) (window : Window) (left : ℕ) (stages : ℕ → Option Stage) (events : List Event) (event : Event) (block : List ℕ) (count : ℕ) → StandsAt start window left stages events old → 0 < left
    → ReplyDoes old window.who event block (reply.Fault count) new → IsSameFile (state_now old) (state_now new) → (state_now new).claimed ≡ spend window (state_now old).claimed
    → BreaksOff start window (left - 1) (events ++ event ∷ []) stop.DiskFault new
breaks_off start old new window left stages events event block count h some r same claimed = record {
  taken = takes_on start old new events window.who event block (reply.Fault count) h.taken r refl same;
  left_is = left_on window left old new (entry_of window.who event (reply.Fault count)) h.left_is some claimed r.history;
  is_fault = refl;
  rose = subst (λ before. Rose before new.count) h.count r.cause.3;
}

-- ---- whose row it is

pub mine : (test : Stage → Bool) (window : Window) (found : Option FlightRow) (row : FlightRow) (at : Stage) → found ≡ Some row → row.window ≡ window → row.stage ≡ at → test at ≡ true → is_at test window found ≡ true
mine test window found row at e w s t =
    ap (is_at test window) e ∙ ap (λ (other : Window). is_same window other && test row.stage) w ∙ ap (λ b. b && test row.stage) (same_window window) ∙ ap test s ∙ t
