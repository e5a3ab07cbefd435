-- What a sync makes of where a group stands.
use Rattle.std.proofs.Common.{◌≡◌, ◌⊎◌, inl, inr, ℕ, ◌-◌, ◌<◌, true, List, [], ◌∷◌, ◌++◌, length, Option, Some, refl, sym, ap, subst, ◌∙◌}
use Rattle.inc_model.specs.relation.Changes.{change}
use Rattle.inc_model.specs.relation.Stages.{is_settled}
use Rattle.inc_model.specs.relation.State.{IsSameFile, flight_row, has, is_in}
use Rattle.inc_model.specs.relation.Step.{Fits}
use Rattle.inc_model.specs.relation.Table.{unless_failed}
use Rattle.inc_model.specs.declared.words.event.Event.{Event}
use Rattle.inc_model.specs.declared.words.event.Event.TheVariants.{Settle}
use Rattle.inc_model.specs.declared.words.event.Window.{Window}
use Rattle.inc_model.specs.declared.words.file_state.FileState.{FileState}
use Rattle.inc_model.specs.declared.words.file_state.Stage.{Stage}
use Rattle.inc_model.specs.declared.words.file_state.Stage.TheVariants as stage
use Rattle.inc_model.specs.declared.words.reply.Reply.{Reply}
use Rattle.inc_model.specs.declared.words.reply.Reply.TheVariants as reply
use Rattle.inc_cell.specs.events.Answers.{CellReplies}
use Rattle.inc_cell.specs.seen.Seen.{Seen, state_now, tells}
use Rattle.inc_cell.specs.events.Steps.{ReplyDoes}
use Rattle.inc_cell.specs.declared.words.answer.CellReply.{CellReply}
use Rattle.inc_filling.specs.Stands.{BreaksOff, FliesAs, StandsAt, StepsTo, synced_stage}
use Rattle.inc_filling.specs.Stops.{going_on, goes_on}
use Rattle.inc_filling.specs.declared.stop.FillStop.TheVariants as stop
use Rattle.inc_filling.proofs.lemmas.EventLemmas.{breaks_off, came, entry_of, is_done, left_on, takes_on}
use Rattle.inc_filling.proofs.lemmas.StageLemmas.{sync_acknowledges, sync_flies}

module _ (start old new : Seen) (window : Window) (left : ℕ) (stages : ℕ → Option Stage) (events : List Event) (h : StandsAt start window left stages events old) (some : 0 < left) where
  abbrev event : Event
  event = Settle window

  abbrev then : ℕ → Option Stage
  then i = synced_stage (stages i)

  settled_now : ReplyDoes old window.who event [] reply.Settled new → StandsAt start window (left - 1) then (events ++ event ∷ []) new
  settled_now r =
      let after : state_now new ≡ change (length old.history) (state_now old) window.who event reply.Settled = r.step.after in
      record {
        taken = takes_on start old new events window.who event [] reply.Settled h.taken r refl (subst (λ (s : FileState). IsSameFile (state_now old) s) (sym after) (refl, refl, refl, refl, refl, refl));
        left_is = left_on window left old new (entry_of window.who event reply.Settled) h.left_is some (ap (λ (s : FileState). s.claimed) after) r.history;
        flies = subst (λ (s : FileState). (i : ℕ) → FliesAs window (then i) (flight_row i s.flight)) (sym after) (sync_flies window (state_now old).flight stages h.taken.facts.flying.once h.flies);
        kept = subst (λ (s : FileState). (i : ℕ) → is_in i s.map ≡ true → (has i s.acknowledged ≡ true) ⊎ (then i ≡ Some stage.Gated)) (sym after)
            (λ i inside. inl (sync_acknowledges window i (state_now old).flight (state_now old).acknowledged (stages i) h.taken.facts.flying.once (h.flies i) (h.kept i inside)));
        sound = ap (λ (s : FileState). s.failed) after ∙ h.sound;
        count = r.cause ∙ h.count;
      }

  settle_fits : (given : Reply) → ReplyDoes old window.who event [] given new → (given ≡ reply.Settled) ⊎ ((count : ℕ) × (given ≡ reply.Fault count))
  settle_fits given r = came (tells old.states) (state_now old).faults reply.Settled given tt (subst (λ (w : Reply). Fits (tells old.states) (state_now old).faults w given) (ap (λ failed. unless_failed failed reply.Settled) h.sound) r.step.allowed.fits)

  broken_now : (count : ℕ) → ReplyDoes old window.who event [] (reply.Fault count) new → BreaksOff start window (left - 1) (events ++ event ∷ []) stop.DiskFault new
  broken_now count r =
      let after : state_now new ≡ change (length old.history) (state_now old) window.who event (reply.Fault count) = r.step.after in
      breaks_off start old new window left stages events event [] count h some r (subst (λ (s : FileState). IsSameFile (state_now old) s) (sym after) (refl, refl, refl, refl, refl, refl)) (ap (λ (s : FileState). s.claimed) after)

  settled_or : (given : Reply) → ReplyDoes old window.who event [] given new → StepsTo start window (left - 1) then (events ++ event ∷ []) (going_on given) new
  settled_or given r = elim (settle_fits given r) [
    | inl is_settled ↦ subst (λ (g : Reply). StepsTo start window (left - 1) then (events ++ event ∷ []) (going_on g) new) (sym is_settled)
        (settled_now (subst (λ (g : Reply). ReplyDoes old window.who event [] g new) is_settled r))
    | inr fault ↦ subst (λ (g : Reply). StepsTo start window (left - 1) then (events ++ event ∷ []) (going_on g) new) (sym fault.1)
        (broken_now fault.0 (subst (λ (g : Reply). ReplyDoes old window.who event [] g new) fault.1 r))
  ]

  pub settle_steps : (answer : CellReply) → CellReplies old window.who event [] answer new → StepsTo start window (left - 1) then (events ++ event ∷ []) (goes_on answer) new
  settle_steps answer r =
      let done = is_done old new window.who event [] answer window left h.left_is some refl r in
      subst (λ (a : CellReply). StepsTo start window (left - 1) then (events ++ event ∷ []) (goes_on a) new) (sym done.1) (settled_or done.0 done.2)
