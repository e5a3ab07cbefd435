-- Each event of a window, from where its fill stands to where it stands then.
use Rattle.std.proofs.Common.{◌≡◌, ◌⊎◌, inl, inr, ℕ, ◌-◌, ◌<◌, List, [], ◌∷◌, ◌++◌, length, Option, Some, None, refl, sym, ap, subst, ◌∙◌, arith}
use Rattle.std.specs.Prelude.{Result, Ok, Err, count_by}
use Rattle.inc_pending.specs.Polling.{waits_on}
use Rattle.inc_model.specs.executed.EntriesLeft.{entry_left}
use Rattle.inc_model.specs.relation.Changes.{claims_after, gate_change}
use Rattle.inc_model.specs.relation.State.{flight_row, places_left, spend}
use Rattle.inc_model.specs.relation.Stages.{gated, is_settled, is_written}
use Rattle.inc_model.specs.relation.Step.{Fits, IsKept, needs, needs_beside}
use Rattle.inc_model.specs.relation.Table.{gate_reply, place_reply, reply_of, unless_failed}
use Rattle.inc_model.specs.declared.words.event.Event.{Event}
use Rattle.inc_model.specs.declared.words.event.Event.TheVariants.{Gate, PutPlace, Settle}
use Rattle.inc_model.specs.declared.words.event.Window.{Window}
use Rattle.inc_model.specs.declared.words.file_state.FileState.{FileState}
use Rattle.inc_model.specs.declared.words.file_state.FlightRow.{FlightRow}
use Rattle.inc_model.specs.declared.words.file_state.Stage.{Stage}
use Rattle.inc_model.specs.declared.words.file_state.Stage.TheVariants as stage
use Rattle.inc_model.specs.declared.words.reply.Entry.{Entry}
use Rattle.inc_model.specs.declared.words.reply.Reply.{Reply}
use Rattle.inc_model.specs.declared.words.reply.Reply.TheVariants as reply
use Rattle.inc_turn.specs.Views.{heard}
use Rattle.inc_turn.specs.declared.view.View.{View}
use Rattle.inc_cell.specs.events.CellEvents.{block_in, event_left, event_of}
use Rattle.inc_cell.specs.events.Steps.{ReplyDoes}
use Rattle.inc_cell.specs.seen.Seen.{state_now, tells}
use Rattle.inc_cell.specs.declared.machine.CellFooting.{CellFooting}
use Rattle.inc_cell.specs.declared.words.answer.Answer.{Answer}
use Rattle.inc_cell.specs.declared.words.answer.CellReply.{CellReply}
use Rattle.inc_cell.specs.declared.words.answer.CellReply.TheVariants.{Done}
use Rattle.inc_cell.specs.declared.words.event.CellEvent.{CellEvent}
use Rattle.inc_cell.specs.declared.words.event.CellEvent.TheVariants as cell
use Rattle.inc_filling.specs.Stands.{staged_then, synced_stage}
use Rattle.inc_filling.specs.Stops.{going_on, goes_on}
use Rattle.inc_filling.specs.declared.stop.FillStop.{FillStop}
use Rattle.inc_filling.specs.declared.stop.FillStop.TheVariants as stop
use Rattle.inc_filling.proofs.lemmas.EventLemmas.{IsPlainReply, entry_of, mine}
use Rattle.inc_handle.specs.Shared.{TakesTurn}
use Rattle.inc_handle.specs.Standing.{FliesOwn, HasRow, WindowStands}
use Rattle.inc_handle.specs.UnderWay.{EndsWith, FillRuns, FillSteps, GoesOnWith, SyncSteps, settled_at}
use Rattle.inc_handle.proofs.fills.Standing.{gate_flies_own, place_flies_own, sync_flies_own}
use Rattle.inc_handle.proofs.fills.Turns.{IsStop, enough_on, facts, goes_or_stops, is_reply, mid, own_stands, runs_on, stops_so}

-- ---- an event that uses a place of its window

module _ (file : CellFooting) (start v w : View CellFooting) (window : Window) (left : ℕ) (stages : ℕ → Option Stage) (events : List Event) (h : FillRuns file start window left stages events v) (some : 0 < left)
    (event : CellEvent) (answer : Answer) (t : TakesTurn v event answer w) (own : needs (state_now t.before).claimed (event_of t.before.opened event) ≡ needs_beside (state_now t.before).claimed (Some window))
    (spends : (given : Reply) → claims_after (state_now t.before).claimed (event_of t.before.opened event) given ≡ spend window (state_now t.before).claimed) where
  abbrev plain : Event
  plain = event_of t.before.opened event

  abbrev Does : Reply → Type 0
  Does given = ReplyDoes t.before v.number plain (block_in event) given (event_left event t.before t.after)

  pub middle : WindowStands window left stages t.before.opening (tells t.before.states) t.before.history
  middle = mid file start v w window h.mine events h.adds h.events_are h.going h.number_is h.footing_is event answer t left stages h.stands

  some_left : 0 < places_left window (state_now t.before).claimed
  some_left = let enough = middle.enough in omega arith

  pub replied : (given : Reply) × (answer.reply ≡ Done given) × Does given
  replied = is_reply file start v w window h.mine events h.adds h.events_are h.going h.number_is h.footing_is event answer t own some_left

  pub goes : (stages' : ℕ → Option Stage) (given : Reply) → Does given → entry_left v.number plain given ≡ entry_of v.number plain given ∷ [] → GoesOnWith plain given → IsKept given
      → ((i : ℕ) → FliesOwn window (stages' i) (flight_row i (state_now t.after).flight)) → FillRuns file start window (left - 1) stages' (events ++ plain ∷ []) w
  goes stages' given does one good kept flies =
      runs_on file start v w window h.mine events h.adds h.events_are h.going h.number_is h.footing_is event answer t given does one (left - 1) stages' good
      (own_stands file start v w window h.mine events h.adds h.events_are h.going h.number_is h.footing_is event answer t given does one (left - 1) stages' kept
      (enough_on file start v w window h.mine events h.adds h.events_are h.going h.number_is h.footing_is event answer t left middle.enough some spends given does) flies)

  pub stops : {T : Type 0} (stages' : ℕ → Option Stage) (given : Reply) → Does given → IsStop given → (result : Result T FillStop) → ((at : ℕ) → given ≡ reply.Failed at → result ≡ Err (stop.Failed at))
      → ((count : ℕ) → given ≡ reply.Fault count → result ≡ Err stop.DiskFault) → FillSteps file start window (left - 1) stages' (events ++ plain ∷ []) result w
  stops {T} stages' given does why result is_failed is_fault =
      stops_so file start v w window h.mine events h.adds h.events_are h.going h.number_is h.footing_is event answer t left middle.enough some spends stages' given does why result is_failed is_fault

  -- an event for which the table has one reply, unless the file has failed
  module _ (wanted : Reply) (is_plain : IsPlainReply wanted) (table : reply_of (state_now t.before) v.number plain ≡ unless_failed (state_now t.before).failed wanted)
      (one : entry_left v.number plain wanted ≡ entry_of v.number plain wanted ∷ []) (good : GoesOnWith plain wanted) (kept : IsKept wanted) (stages' : ℕ → Option Stage)
      (flies : Does wanted → (i : ℕ) → FliesOwn window (stages' i) (flight_row i (state_now t.after).flight)) where
    pub decides : (given : Reply) → Does given → (given ≡ wanted) ⊎ IsStop given
    decides given does = goes_or_stops (tells t.before.states) (state_now t.before).faults (state_now t.before).failed wanted given is_plain
        (subst (λ (r : Reply). Fits (tells t.before.states) (state_now t.before).faults r given) table does.step.allowed.fits)

    pub runs_then : (given : Reply) → Does given → given ≡ wanted → FillRuns file start window (left - 1) stages' (events ++ plain ∷ []) w
    runs_then given does e = let then : Does wanted = subst Does e does in goes stages' wanted then one good kept (flies then)

    module _ (ok : going_on wanted ≡ Ok wanted) where
      given_by : (given : Reply) → Does given → FillSteps {T = Reply} file start window (left - 1) stages' (events ++ plain ∷ []) (going_on given) w
      given_by given does = elim (decides given does) [
        | inl e ↦ subst (λ (result : Result Reply FillStop). FillSteps file start window (left - 1) stages' (events ++ plain ∷ []) result w) (sym (ap going_on e ∙ ok)) (runs_then given does e)
        | inr why ↦ stops stages' given does why (going_on given) (λ at e. ap going_on e) (λ count e. ap going_on e)
      ]

      pub steps_by : FillSteps {T = Reply} file start window (left - 1) stages' (events ++ plain ∷ []) (goes_on answer.reply) w
      steps_by = subst (λ (a : CellReply). FillSteps {T = Reply} file start window (left - 1) stages' (events ++ plain ∷ []) (goes_on a) w) (sym replied.1) (given_by replied.0 replied.2)

-- ---- a place, a sync, a gate

module _ (file : CellFooting) (start v w : View CellFooting) (window : Window) (left : ℕ) (stages : ℕ → Option Stage) (events : List Event) (h : FillRuns file start window left stages events v) (some : 0 < left) (index : ℕ) (answer : Answer) where
  module _ (is : stages index ≡ Some stage.Written) (t : TakesTurn v (cell.Plain (PutPlace window index)) answer w) where
    place_row : HasRow window (flight_row index (state_now t.before).flight) (λ s. s ≡ stage.Written)
    place_row = subst (λ (o : Option Stage). FliesOwn window o (flight_row index (state_now t.before).flight)) is ((middle file start v w window left stages events h some (cell.Plain (PutPlace window index)) answer t refl (λ given. refl)).flies index)

    pub place_steps : FillSteps {T = Reply} file start window (left - 1) (staged_then index stage.Placed stages) (events ++ PutPlace window index ∷ []) (goes_on answer.reply) w
    place_steps =
        steps_by file start v w window left stages events h some (cell.Plain (PutPlace window index)) answer t refl (λ given. refl) reply.Placed tt
        (ap (λ b. unless_failed (state_now t.before).failed (place_reply b)) (mine is_written window (flight_row index (state_now t.before).flight) place_row.row stage.Written place_row.is place_row.own place_row.stage_is refl))
        refl refl tt (staged_then index stage.Placed stages)
        (λ does. subst (λ (s : FileState). (i : ℕ) → FliesOwn window (staged_then index stage.Placed stages i) (flight_row i s.flight)) (sym does.step.after)
        (place_flies_own window index (state_now t.before).flight stages (middle file start v w window left stages events h some (cell.Plain (PutPlace window index)) answer t refl (λ given. refl)).flies is))
        refl

  module _ (is : stages index ≡ Some stage.Settled) (t : TakesTurn v (cell.Plain (Gate window index)) answer w) where
    gate_row : HasRow window (flight_row index (state_now t.before).flight) (λ s. s ≡ stage.Settled)
    gate_row = subst (λ (o : Option Stage). FliesOwn window o (flight_row index (state_now t.before).flight)) is ((middle file start v w window left stages events h some (cell.Plain (Gate window index)) answer t refl (λ given. refl)).flies index)

    abbrev waiting : ℕ
    waiting = count_by (waits_on index) (state_now t.before).reads

    gate_flight : ReplyDoes t.before v.number (Gate window index) [] (reply.Gated waiting) t.after → (state_now t.after).flight ≡ gated index (state_now t.before).flight
    gate_flight does = ap (λ (s : FileState). s.flight) does.step.after ∙ ap (λ (found : Option FlightRow). (gate_change (length t.before.history) (state_now t.before) index found (reply.Gated waiting)).flight) gate_row.is

    pub gate_steps : FillSteps {T = Reply} file start window (left - 1) (staged_then index stage.Gated stages) (events ++ Gate window index ∷ []) (goes_on answer.reply) w
    gate_steps =
        steps_by file start v w window left stages events h some (cell.Plain (Gate window index)) answer t refl (λ given. refl) (reply.Gated waiting) tt
        (ap (λ b. unless_failed (state_now t.before).failed (gate_reply b waiting)) (mine is_settled window (flight_row index (state_now t.before).flight) gate_row.row stage.Settled gate_row.is gate_row.own gate_row.stage_is refl))
        refl tt tt (staged_then index stage.Gated stages)
        (λ does. subst (λ (flight : List FlightRow). (i : ℕ) → FliesOwn window (staged_then index stage.Gated stages i) (flight_row i flight)) (sym (gate_flight does))
        (gate_flies_own window index (state_now t.before).flight stages (middle file start v w window left stages events h some (cell.Plain (Gate window index)) answer t refl (λ given. refl)).flies))
        refl

-- a reply that ends what the seat has seen
module _ (file : CellFooting) (start v w : View CellFooting) (window : Window) (left : ℕ) (stages : ℕ → Option Stage) (events : List Event) (h : FillRuns file start window left stages events v) (some : 0 < left)
    (answer : Answer) (t : TakesTurn v (cell.Plain (Settle window)) answer w) where
  abbrev settled : Entry
  settled = record { who = window.who; event = Settle window; reply = reply.Settled }

  sync_flies : ReplyDoes t.before v.number (Settle window) [] reply.Settled t.after → (i : ℕ) → FliesOwn window (synced_stage (stages i)) (flight_row i (state_now t.after).flight)
  sync_flies does =
      subst (λ (s : FileState). (i : ℕ) → FliesOwn window (synced_stage (stages i)) (flight_row i s.flight)) (sym does.step.after)
      (sync_flies_own window (state_now t.before).flight stages (facts file start v w window h.mine events h.adds h.events_are h.going h.number_is h.footing_is (cell.Plain (Settle window)) answer t).flying.once
      (middle file start v w window left stages events h some (cell.Plain (Settle window)) answer t refl (λ given. refl)).flies)

  sync_ends : ReplyDoes t.before v.number (Settle window) [] reply.Settled t.after → EndsWith (heard w) answer.at settled
  sync_ends does = record {
    before = t.before.history;
    cut = sym t.all_heard ∙ does.history ∙ ap (λ (who : ℕ). t.before.history ++ record { who = who; event = Settle window; reply = reply.Settled } ∷ []) h.number_is;
    place = t.stepped.steps.at_is;
  }

  sync_given : (given : Reply) → ReplyDoes t.before v.number (Settle window) [] given t.after → SyncSteps file start window (left - 1) (λ i. synced_stage (stages i)) (events ++ Settle window ∷ []) (settled_at answer.at (going_on given)) w
  sync_given given does = elim (decides file start v w window left stages events h some (cell.Plain (Settle window)) answer t refl (λ g. refl) reply.Settled tt refl refl refl tt (λ i. synced_stage (stages i)) sync_flies given does) [
    | inl e ↦ subst (λ (g : Reply). SyncSteps file start window (left - 1) (λ i. synced_stage (stages i)) (events ++ Settle window ∷ []) (settled_at answer.at (going_on g)) w) (sym e) (
      runs_then file start v w window left stages events h some (cell.Plain (Settle window)) answer t refl (λ g. refl) reply.Settled tt refl refl refl tt (λ i. synced_stage (stages i)) sync_flies given does e,
      sync_ends (subst (λ (g : Reply). ReplyDoes t.before v.number (Settle window) [] g t.after) e does),
    )
    | inr (inl failed) ↦ subst (λ (g : Reply). SyncSteps file start window (left - 1) (λ i. synced_stage (stages i)) (events ++ Settle window ∷ []) (settled_at answer.at (going_on g)) w) (sym failed.1)
        (stops file start v w window left stages events h some (cell.Plain (Settle window)) answer t refl (λ g. refl) {T = Reply} (λ i. None) given does (inl failed) (Err (stop.Failed failed.0)) (λ at e. sym (ap going_on failed.1) ∙ ap going_on e) (λ count e. sym (ap going_on failed.1) ∙ ap going_on e))
    | inr (inr fault) ↦ subst (λ (g : Reply). SyncSteps file start window (left - 1) (λ i. synced_stage (stages i)) (events ++ Settle window ∷ []) (settled_at answer.at (going_on g)) w) (sym fault.1)
        (stops file start v w window left stages events h some (cell.Plain (Settle window)) answer t refl (λ g. refl) {T = Reply} (λ i. None) given does (inr fault) (Err stop.DiskFault) (λ at e. sym (ap going_on fault.1) ∙ ap going_on e) (λ count e. sym (ap going_on fault.1) ∙ ap going_on e))
  ]

  pub sync_steps : SyncSteps file start window (left - 1) (λ i. synced_stage (stages i)) (events ++ Settle window ∷ []) (settled_at answer.at (goes_on answer.reply)) w
  sync_steps =
      let given = replied file start v w window left stages events h some (cell.Plain (Settle window)) answer t refl (λ g. refl) in
      subst (λ (a : CellReply). SyncSteps file start window (left - 1) (λ i. synced_stage (stages i)) (events ++ Settle window ∷ []) (settled_at answer.at (goes_on a)) w) (sym given.1) (sync_given given.0 given.2)
