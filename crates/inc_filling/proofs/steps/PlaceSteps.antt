-- What a place makes of where a group stands.
use Rattle.std.proofs.Common.{◌≡◌, ◌⊎◌, inl, inr, ℕ, ◌-◌, ◌<◌, Bool, true, false, cond, eqb, List, [], ◌∷◌, ◌++◌, length, Option, Some, refl, sym, ap, subst, ◌∙◌}
use Rattle.std.proofs.lemmas.Bool.{eqb-true}
use Rattle.inc_model.specs.relation.Changes.{change}
use Rattle.inc_model.specs.relation.Stages.{is_at, is_written}
use Rattle.inc_model.specs.relation.State.{IsSameFile, flight_row, has, is_in}
use Rattle.inc_model.specs.relation.Step.{Fits}
use Rattle.inc_model.specs.relation.Table.{place_reply, reply_of, unless_failed}
use Rattle.inc_model.specs.declared.words.event.Event.{Event}
use Rattle.inc_model.specs.declared.words.event.Event.TheVariants.{PutPlace}
use Rattle.inc_model.specs.declared.words.event.Window.{Window}
use Rattle.inc_model.specs.declared.words.file_state.FileState.{FileState}
use Rattle.inc_model.specs.declared.words.file_state.Stage.{Stage}
use Rattle.inc_model.specs.declared.words.file_state.Stage.TheVariants as stage
use Rattle.inc_model.specs.declared.words.reply.Reply.{Reply}
use Rattle.inc_model.specs.declared.words.reply.Reply.TheVariants as reply
use Rattle.inc_cell.specs.events.Answers.{CellReplies}
use Rattle.inc_cell.specs.seen.Seen.{Seen, spots_now, state_now, tells}
use Rattle.inc_cell.specs.events.Steps.{ReplyDoes}
use Rattle.inc_cell.specs.declared.words.answer.CellReply.{CellReply}
use Rattle.inc_filling.specs.Stands.{BreaksOff, FliesAs, StandsAt, StepsTo, staged_then}
use Rattle.inc_filling.specs.Stops.{going_on, goes_on}
use Rattle.inc_filling.specs.declared.stop.FillStop.TheVariants as stop
use Rattle.inc_filling.proofs.lemmas.EventLemmas.{breaks_off, came, entry_of, is_done, left_on, mine, takes_on}
use Rattle.inc_filling.proofs.lemmas.StageLemmas.{flying_row, place_flies}
use Rattle.std.specs.Prelude.{OnOk}
use Rattle.inc_entry.specs.Entry.{area_places, entry_at}
use Rattle.inc_filling.specs.Shown.{ShowsFile, SpottedBytes, with_place_of}
use Rattle.inc_filling.proofs.shown.EventShows.{spots_stay, write_told}
use Rattle.inc_bytes.specs.Fields.{le_bytes}
use Rattle.inc_disk.specs.Disk.{overwritten}

module _ (start old new : Seen) (window : Window) (index left : ℕ) (stages : ℕ → Option Stage) (events : List Event) (h : StandsAt start window left stages events old) (some : 0 < left) (is : stages index ≡ Some stage.Written) where
  abbrev event : Event
  event = PutPlace window index

  wanted : reply_of (state_now old) window.who event ≡ reply.Placed
  wanted =
      let at = flying_row window (stages index) stage.Written (flight_row index (state_now old).flight) (h.flies index) is in
      ap (λ failed. unless_failed failed (place_reply (is_at is_written window (flight_row index (state_now old).flight)))) h.sound
      ∙ ap place_reply (mine is_written window (flight_row index (state_now old).flight) at.0 stage.Written at.1 at.2 at.3 refl)

  placed_now : ReplyDoes old window.who event [] reply.Placed new → StandsAt start window (left - 1) (staged_then index stage.Placed stages) (events ++ event ∷ []) new
  placed_now r =
      let after : state_now new ≡ change (length old.history) (state_now old) window.who event reply.Placed = r.step.after in
      record {
        taken = takes_on start old new events window.who event [] reply.Placed h.taken r refl (subst (λ (s : FileState). IsSameFile (state_now old) s) (sym after) (refl, refl, refl, refl, refl, refl));
        left_is = left_on window left old new (entry_of window.who event reply.Placed) h.left_is some (ap (λ (s : FileState). s.claimed) after) r.history;
        flies = subst (λ (s : FileState). (i : ℕ) → FliesAs window (staged_then index stage.Placed stages i) (flight_row i s.flight)) (sym after) (place_flies window index (state_now old).flight stages h.flies is);
        kept = subst (λ (s : FileState). (i : ℕ) → is_in i s.map ≡ true → (has i s.acknowledged ≡ true) ⊎ (staged_then index stage.Placed stages i ≡ Some stage.Gated)) (sym after) kept_on;
        sound = ap (λ (s : FileState). s.failed) after ∙ h.sound;
        count = r.cause ∙ h.count;
      }
    where
      kept_on : (i : ℕ) → is_in i (state_now old).map ≡ true → (has i (state_now old).acknowledged ≡ true) ⊎ (staged_then index stage.Placed stages i ≡ Some stage.Gated)
      kept_on i inside = elim (h.kept i inside) [
        | inl acked ↦ inl acked
        | inr gated ↦ inr (step (eqb i index) refl gated)
      ]
        where
          step : (b : Bool) → eqb i index ≡ b → stages i ≡ Some stage.Gated → cond b (Some stage.Placed) (stages i) ≡ Some stage.Gated
          step true t g = absurd (let e : stages index ≡ Some stage.Gated = ap stages (sym (eqb-true i index t)) ∙ g in cc)
          step false t g = g

  place_fits : (given : Reply) → ReplyDoes old window.who event [] given new → (given ≡ reply.Placed) ⊎ ((count : ℕ) × (given ≡ reply.Fault count))
  place_fits given r = came (tells old.states) (state_now old).faults reply.Placed given tt (subst (λ (w : Reply). Fits (tells old.states) (state_now old).faults w given) wanted r.step.allowed.fits)

  broken_now : (count : ℕ) → ReplyDoes old window.who event [] (reply.Fault count) new → BreaksOff start window (left - 1) (events ++ event ∷ []) stop.DiskFault new
  broken_now count r =
      let after : state_now new ≡ change (length old.history) (state_now old) window.who event (reply.Fault count) = r.step.after in
      breaks_off start old new window left stages events event [] count h some r (subst (λ (s : FileState). IsSameFile (state_now old) s) (sym after) (refl, refl, refl, refl, refl, refl)) (ap (λ (s : FileState). s.claimed) after)

  placed_or : (given : Reply) → ReplyDoes old window.who event [] given new → StepsTo start window (left - 1) (staged_then index stage.Placed stages) (events ++ event ∷ []) (going_on given) new
  placed_or given r = elim (place_fits given r) [
    | inl is_placed ↦ subst (λ (g : Reply). StepsTo start window (left - 1) (staged_then index stage.Placed stages) (events ++ event ∷ []) (going_on g) new) (sym is_placed)
        (placed_now (subst (λ (g : Reply). ReplyDoes old window.who event [] g new) is_placed r))
    | inr fault ↦ subst (λ (g : Reply). StepsTo start window (left - 1) (staged_then index stage.Placed stages) (events ++ event ∷ []) (going_on g) new) (sym fault.1)
        (broken_now fault.0 (subst (λ (g : Reply). ReplyDoes old window.who event [] g new) fault.1 r))
  ]

  pub place_steps : (answer : CellReply) → CellReplies old window.who event [] answer new → StepsTo start window (left - 1) (staged_then index stage.Placed stages) (events ++ event ∷ []) (goes_on answer) new
  place_steps answer r =
      let done = is_done old new window.who event [] answer window left h.left_is some refl r in
      subst (λ (a : CellReply). StepsTo start window (left - 1) (staged_then index stage.Placed stages) (events ++ event ∷ []) (goes_on a) new) (sym done.1) (placed_or done.0 done.2)

  -- the bytes then

  shown_now : (file : SpottedBytes) → ShowsFile old file → ReplyDoes old window.who event [] reply.Placed new → ShowsFile new (with_place_of old.opened file index)
  shown_now file shows r = record {
    reads = write_told (entry_at (area_places old.opened.areas) index) (le_bytes 6 (spots_now old index)) old.states new.states file.bytes shows.reads r.device
        ∙ ap (λ (spot : ℕ → ℕ). Some (overwritten (entry_at (area_places old.opened.areas) index) (le_bytes 6 (spot index)) file.bytes)) shows.spots;
    spots = spots_stay old new window.who event reply.Placed r.opened r.history (λ spot. refl) ∙ shows.spots;
  }

  pub place_shows : (answer : CellReply) → CellReplies old window.who event [] answer new → (file : SpottedBytes) → ShowsFile old file → OnOk (goes_on answer) (ShowsFile new (with_place_of old.opened file index))
  place_shows answer r file shows =
      let done = is_done old new window.who event [] answer window left h.left_is some refl r in
      subst (λ (a : CellReply). OnOk (goes_on a) (ShowsFile new (with_place_of old.opened file index))) (sym done.1) (by done.0 done.2)
    where
      by : (given : Reply) → ReplyDoes old window.who event [] given new → OnOk (going_on given) (ShowsFile new (with_place_of old.opened file index))
      by given does = elim (place_fits given does) [
        | inl is_done ↦ subst (λ (g : Reply). OnOk (going_on g) (ShowsFile new (with_place_of old.opened file index))) (sym is_done) (shown_now file shows (subst (λ (g : Reply). ReplyDoes old window.who event [] g new) is_done does))
        | inr fault ↦ subst (λ (g : Reply). OnOk (going_on g) (ShowsFile new (with_place_of old.opened file index))) (sym fault.1) tt
      ]
