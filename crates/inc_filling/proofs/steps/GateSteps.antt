-- What a gate makes of where a group stands.
use Rattle.std.proofs.Common.{◌≡◌, ◌⊎◌, inl, inr, ℕ, ◌+◌, ◌-◌, ◌<◌, Bool, true, false, cond, eqb, List, [], ◌∷◌, ◌++◌, length, Option, Some, refl, sym, ap, subst, ◌∙◌}
use Rattle.inc_pending.specs.Polling.{waits_on}
use Rattle.std.specs.Prelude.{count_by, is_some, OnOk}
use Rattle.inc_model.specs.relation.Changes.{gate_change}
use Rattle.inc_model.specs.relation.Stages.{is_at, is_settled}
use Rattle.inc_model.specs.relation.State.{IsSameFile, flight_row, has, is_in, spend}
use Rattle.inc_model.specs.relation.Step.{Fits}
use Rattle.inc_model.specs.relation.Table.{gate_reply, reply_of, unless_failed}
use Rattle.inc_model.specs.declared.words.event.Event.{Event}
use Rattle.inc_model.specs.declared.words.event.Event.TheVariants.{Gate}
use Rattle.inc_model.specs.declared.words.event.Window.{Window}
use Rattle.inc_model.specs.declared.words.file_state.FileState.{FileState}
use Rattle.inc_model.specs.declared.words.file_state.FlightRow.{FlightRow}
use Rattle.inc_model.specs.declared.words.file_state.Stage.{Stage}
use Rattle.inc_model.specs.declared.words.file_state.Stage.TheVariants as stage
use Rattle.inc_model.specs.declared.words.reply.Reply.{Reply}
use Rattle.inc_model.specs.declared.words.reply.Reply.TheVariants as reply
use Rattle.inc_pending.specs.Keyed.{insert}
use Rattle.inc_model.proofs.lists.Sets.{lookup_other}
use Rattle.inc_cell.specs.events.Answers.{CellReplies}
use Rattle.inc_cell.specs.seen.Seen.{Seen, state_now, tells}
use Rattle.inc_cell.specs.events.Steps.{ReplyDoes}
use Rattle.inc_cell.specs.declared.words.answer.CellReply.{CellReply}
use Rattle.inc_filling.specs.Stands.{BreaksOff, FliesAs, StandsAt, StepsTo, staged_then}
use Rattle.inc_filling.specs.Stops.{going_on, goes_on}
use Rattle.inc_filling.specs.declared.stop.FillStop.TheVariants as stop
use Rattle.inc_filling.proofs.lemmas.EventLemmas.{breaks_off, came, entry_of, is_done, left_on, mine, takes_on}
use Rattle.inc_filling.proofs.lemmas.StageLemmas.{flying_row, gate_flies}
use Rattle.inc_entry.specs.Entry.{area_places, entry_at}
use Rattle.inc_filling.specs.Shown.{ShowsFile, SpottedBytes, with_gate}
use Rattle.inc_filling.proofs.shown.EventShows.{spots_stay, write_told}

module _ (start old new : Seen) (window : Window) (index left : ℕ) (stages : ℕ → Option Stage) (events : List Event) (h : StandsAt start window left stages events old) (some : 0 < left) (is : stages index ≡ Some stage.Settled) where
  abbrev event : Event
  event = Gate window index

  abbrev waiting : ℕ
  waiting = count_by (waits_on index) (state_now old).reads

  abbrev then : ℕ → Option Stage
  then = staged_then index stage.Gated stages

  at : (row : FlightRow) × (flight_row index (state_now old).flight ≡ Some row) × (row.window ≡ window) × (row.stage ≡ stage.Settled)
  at = flying_row window (stages index) stage.Settled (flight_row index (state_now old).flight) (h.flies index) is

  -- the state after a gate, by the row that is found
  abbrev gated_as : Option FlightRow → Reply → FileState
  gated_as found given = record (gate_change (length old.history) (state_now old) index found given) { claimed = spend window (state_now old).claimed }

  changed : (given : Reply) → ReplyDoes old window.who event [] given new → state_now new ≡ gated_as (Some at.0) given
  changed given r = r.step.after ∙ ap (λ (found : Option FlightRow). gated_as found given) at.1

  wanted : reply_of (state_now old) window.who event ≡ reply.Gated waiting
  wanted =
      ap (λ failed. unless_failed failed (gate_reply (is_at is_settled window (flight_row index (state_now old).flight)) waiting)) h.sound
      ∙ ap (λ b. gate_reply b waiting) (mine is_settled window (flight_row index (state_now old).flight) at.0 stage.Settled at.1 at.2 at.3 refl)

  gated_now : ReplyDoes old window.who event [] (reply.Gated waiting) new → StandsAt start window (left - 1) then (events ++ event ∷ []) new
  gated_now r =
      let after : state_now new ≡ gated_as (Some at.0) (reply.Gated waiting) = changed (reply.Gated waiting) r in
      record {
        taken = takes_on start old new events window.who event [] (reply.Gated waiting) h.taken r refl (subst (λ (s : FileState). IsSameFile (state_now old) s) (sym after) (refl, refl, refl, refl, refl, refl));
        left_is = left_on window left old new (entry_of window.who event (reply.Gated waiting)) h.left_is some (ap (λ (s : FileState). s.claimed) after) r.history;
        flies = subst (λ (s : FileState). (i : ℕ) → FliesAs window (then i) (flight_row i s.flight)) (sym after) (gate_flies window index (state_now old).flight stages h.flies is);
        kept = subst (λ (s : FileState). (i : ℕ) → is_in i s.map ≡ true → (has i s.acknowledged ≡ true) ⊎ (then i ≡ Some stage.Gated)) (sym after) kept_on;
        sound = ap (λ (s : FileState). s.failed) after ∙ h.sound;
        count = r.cause ∙ h.count;
      }
    where
      kept_on : (i : ℕ) → is_in i (insert index at.0.digest (state_now old).map) ≡ true → (has i (state_now old).acknowledged ≡ true) ⊎ (then i ≡ Some stage.Gated)
      kept_on i inside = step (eqb i index) refl
        where
          step : (b : Bool) → eqb i index ≡ b → (has i (state_now old).acknowledged ≡ true) ⊎ (cond b (Some stage.Gated) (stages i) ≡ Some stage.Gated)
          step true t = inr refl
          step false t = h.kept i (sym (ap (λ (found : Option (List ℕ)). is_some found) (lookup_other i index at.0.digest (state_now old).map t)) ∙ inside)

  gate_fits : (given : Reply) → ReplyDoes old window.who event [] given new → (given ≡ reply.Gated waiting) ⊎ ((count : ℕ) × (given ≡ reply.Fault count))
  gate_fits given r = came (tells old.states) (state_now old).faults (reply.Gated waiting) given tt (subst (λ (w : Reply). Fits (tells old.states) (state_now old).faults w given) wanted r.step.allowed.fits)

  broken_now : (count : ℕ) → ReplyDoes old window.who event [] (reply.Fault count) new → BreaksOff start window (left - 1) (events ++ event ∷ []) stop.DiskFault new
  broken_now count r =
      let after : state_now new ≡ gated_as (Some at.0) (reply.Fault count) = changed (reply.Fault count) r in
      breaks_off start old new window left stages events event [] count h some r (subst (λ (s : FileState). IsSameFile (state_now old) s) (sym after) (refl, refl, refl, refl, refl, refl)) (ap (λ (s : FileState). s.claimed) after)

  gated_or : (given : Reply) → ReplyDoes old window.who event [] given new → StepsTo start window (left - 1) then (events ++ event ∷ []) (going_on given) new
  gated_or given r = elim (gate_fits given r) [
    | inl is_gated ↦ subst (λ (g : Reply). StepsTo start window (left - 1) then (events ++ event ∷ []) (going_on g) new) (sym is_gated)
        (gated_now (subst (λ (g : Reply). ReplyDoes old window.who event [] g new) is_gated r))
    | inr fault ↦ subst (λ (g : Reply). StepsTo start window (left - 1) then (events ++ event ∷ []) (going_on g) new) (sym fault.1)
        (broken_now fault.0 (subst (λ (g : Reply). ReplyDoes old window.who event [] g new) fault.1 r))
  ]

  pub gate_steps : (answer : CellReply) → CellReplies old window.who event [] answer new → StepsTo start window (left - 1) then (events ++ event ∷ []) (goes_on answer) new
  gate_steps answer r =
      let done = is_done old new window.who event [] answer window left h.left_is some refl r in
      subst (λ (a : CellReply). StepsTo start window (left - 1) then (events ++ event ∷ []) (goes_on a) new) (sym done.1) (gated_or done.0 done.2)

  -- the bytes then

  shown_now : (file : SpottedBytes) → ShowsFile old file → ReplyDoes old window.who event [] (reply.Gated waiting) new → ShowsFile new (with_gate old.opened file index)
  shown_now file shows r = record {
    reads = write_told (entry_at (area_places old.opened.areas) index + 7) (16 ∷ []) old.states new.states file.bytes shows.reads r.device;
    spots = spots_stay old new window.who event (reply.Gated waiting) r.opened r.history (λ spot. refl) ∙ shows.spots;
  }

  pub gate_shows : (answer : CellReply) → CellReplies old window.who event [] answer new → (file : SpottedBytes) → ShowsFile old file → OnOk (goes_on answer) (ShowsFile new (with_gate old.opened file index))
  gate_shows answer r file shows =
      let done = is_done old new window.who event [] answer window left h.left_is some refl r in
      subst (λ (a : CellReply). OnOk (goes_on a) (ShowsFile new (with_gate old.opened file index))) (sym done.1) (by done.0 done.2)
    where
      by : (given : Reply) → ReplyDoes old window.who event [] given new → OnOk (going_on given) (ShowsFile new (with_gate old.opened file index))
      by given does = elim (gate_fits given does) [
        | inl is_done ↦ subst (λ (g : Reply). OnOk (going_on g) (ShowsFile new (with_gate old.opened file index))) (sym is_done) (shown_now file shows (subst (λ (g : Reply). ReplyDoes old window.who event [] g new) is_done does))
        | inr fault ↦ subst (λ (g : Reply). OnOk (going_on g) (ShowsFile new (with_gate old.opened file index))) (sym fault.1) tt
      ]
