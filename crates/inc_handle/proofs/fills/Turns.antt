-- What one turn of a window's event makes of where its fill stands.
use Rattle.std.proofs.Common.{◌≡◌, ◌⊎◌, inl, inr, ℕ, ◌+◌, ◌-◌, ◌<◌, ◌≤◌, Bool, true, cond, List, [], ◌∷◌, ◌++◌, length, Option, Some, None, refl, sym, ap, subst, ◌∙◌, arith}
use Rattle.std.specs.Prelude.{Result, Err}
use Rattle.std.proofs.lemmas.Bool.{ne_eqb}
use Rattle.std.proofs.lemmas.List.{map-append, append_cancel_left}
use Rattle.inc_model.specs.executed.EntriesLeft.{entry_left}
use Rattle.inc_model.specs.histories.Machines.{added}
use Rattle.inc_model.specs.laws.HistoryLaws.{are_others}
use Rattle.inc_model.specs.relation.Changes.{claims_after}
use Rattle.inc_model.specs.relation.Facts.{FileFacts, MoreFacts}
use Rattle.inc_model.specs.relation.State.{Claims, IsOpening, all_places, flight_row, places_left, spend}
use Rattle.inc_model.specs.relation.Step.{Fits, IsEntry, IsKept, IsLegal, needs, needs_beside}
use Rattle.inc_model.specs.relation.Table.{unless_failed}
use Rattle.inc_model.specs.declared.words.event.Event.{Event}
use Rattle.inc_model.specs.declared.words.event.Window.{Window}
use Rattle.inc_model.specs.declared.words.file_state.FileState.{FileState}
use Rattle.inc_model.specs.declared.words.file_state.Stage.{Stage}
use Rattle.inc_model.specs.declared.words.limits.TheConstants.{MOST_ENTRIES}
use Rattle.inc_model.specs.declared.words.reply.Entry.{Entry}
use Rattle.inc_model.specs.declared.words.reply.Reply.{Reply}
use Rattle.inc_model.specs.declared.words.reply.Reply.TheVariants as reply
use Rattle.inc_model.proofs.lists.Claims.{spend_own}
use Rattle.inc_model.proofs.runs.Histories.{both_legal, legal_facts, legal_more, stays_within}
use Rattle.inc_turn.specs.Lists.{AreOthers, entries_of_turns}
use Rattle.inc_turn.specs.Turns.{AddsOwn}
use Rattle.inc_turn.specs.Views.{heard}
use Rattle.inc_turn.specs.declared.view.View.{View}
use Rattle.inc_turn.specs.Locks.{IsSameSeat, seat_view}
use Rattle.inc_turn.specs.declared.seat.Seat.{Seat}
use Rattle.inc_turn.proofs.SeatLemmas.{same_seat_twice}
use Rattle.inc_turn.proofs.TurnLemmas.{adds_both, nothing_adds, turn_adds}
use Rattle.inc_cell.specs.events.Answers.{CellReplies}
use Rattle.inc_cell.specs.events.CellEvents.{CellMoves, block_in, event_left, event_of, footing_of}
use Rattle.inc_cell.specs.events.Steps.{ReplyDoes}
use Rattle.inc_cell.specs.laws.MachineLaws.{device_tells}
use Rattle.inc_cell.specs.seen.Seen.{Seen, spots_now, state_now, tells}
use Rattle.inc_cell.specs.declared.machine.CellFooting.{CellFooting}
use Rattle.inc_cell.specs.declared.words.answer.Answer.{Answer}
use Rattle.inc_cell.specs.declared.words.answer.CellReply.{CellReply}
use Rattle.inc_cell.specs.declared.words.answer.CellReply.TheVariants.{Done, HistoryFull, OutOfMemory}
use Rattle.inc_cell.specs.declared.words.event.CellEvent.{CellEvent}
use Rattle.inc_filling.specs.Stands.{events_of}
use Rattle.inc_filling.specs.declared.stop.FillStop.{FillStop}
use Rattle.inc_filling.specs.declared.stop.FillStop.TheVariants as stop
use Rattle.inc_filling.proofs.lemmas.EventLemmas.{IsPlainReply, came, entry_of}
use Rattle.inc_handle.specs.Shared.{HasGoneOn, TakesTurn}
use Rattle.inc_handle.specs.Standing.{FliesOwn, WindowStands}
use Rattle.inc_handle.specs.UnderWay.{AllGoOn, FillRuns, FillSteps, FillStops, GoesOnWith, StopsWith}
use Rattle.inc_handle.proofs.fills.Standing.{others_stand}

-- ---- small words

pub others_told : (who : ℕ) (turns : List (Option Entry)) → AreOthers who turns → are_others who (entries_of_turns turns) ≡ true
others_told who [] h = refl
others_told who (None ∷ turns) h = others_told who turns h.1
others_told who (Some entry ∷ turns) h = rw (ne_eqb entry.who who h.0) (others_told who turns h.1)

abbrev from_some : {A : Type 0} → A → Option A → A
from_some d None = d
from_some d (Some x) = x

pub some_is : {A : Type 0} (a b : A) → Some a ≡ Some b → a ≡ b
some_is a b e = ap (from_some a) e

pub all_go : (entries : List Entry) (last : Entry) → AllGoOn entries → GoesOnWith last.event last.reply → AllGoOn (entries ++ last ∷ [])
all_go [] last h g = (g, tt)
all_go (entry ∷ entries) last h g = (h.0, all_go entries last h.1 g)

needs_none : (claimed : Claims) (window : Window) → 0 < places_left window claimed → needs_beside claimed (Some window) ≡ 0
needs_none claimed window some = ap (λ b. cond b 1 0) (ne_eqb (places_left window claimed) 0 (λ z. absurd (omega arith)))

-- the file's first failure is met, or this write or sync has failed
abbrev pub IsStop : Reply → Type 0
IsStop given = ((at : ℕ) × (given ≡ reply.Failed at)) ⊎ ((count : ℕ) × (given ≡ reply.Fault count))

pub goes_or_stops : (told : Bool) (faults : ℕ) (failed : Option ℕ) (wanted given : Reply) → IsPlainReply wanted → Fits told faults (unless_failed failed wanted) given → (given ≡ wanted) ⊎ IsStop given
goes_or_stops told faults None wanted given plain h = elim (came told faults wanted given plain h) [
  | inl e ↦ inl e
  | inr fault ↦ inr (inr fault)
]
goes_or_stops told faults (Some at) wanted given plain h = elim (came told faults (reply.Failed at) given tt h) [
  | inl e ↦ inr (inl (at, e))
  | inr fault ↦ inr (inr fault)
]

-- ---- a seat that goes on

pub gone_on : (before after : Seat CellFooting) (event : CellEvent) (answer : Answer) → IsSameSeat before after → TakesTurn (seat_view before) event answer (seat_view after) → HasGoneOn before after
gone_on before after event answer same t = record { same = same; mine = added t.turn; adds = turn_adds (λ (cell : Seen). cell.history) footing_of CellMoves (seat_view before) (seat_view after) event answer t }

pub gone_twice : (first second third : Seat CellFooting) → HasGoneOn first second → HasGoneOn second third → HasGoneOn first third
gone_twice first second third a b = record {
  same = same_seat_twice first second third a.same b.same;
  mine = a.mine ++ b.mine;
  adds = adds_both (seat_view first) (seat_view second) (seat_view third) a.mine b.mine a.adds b.adds;
}

pub gone_nowhere : (seat : Seat CellFooting) → HasGoneOn seat seat
gone_nowhere seat = record { same = record { lock_is = refl; number_is = refl; made_is = refl }; mine = []; adds = nothing_adds (seat_view seat) }

-- ---- a turn

module _ (file : CellFooting) (start v w : View CellFooting) (window : Window) (mine : List Entry) (events : List Event) (adds : AddsOwn start v mine) (events_are : events_of mine ≡ events) (going : AllGoOn mine) (number_is : v.number ≡ window.who) (footing_is : v.footing ≡ Some file)
    (event : CellEvent) (answer : Answer) (t : TakesTurn v event answer w) where
  abbrev plain : Event
  plain = event_of t.before.opened event

  abbrev Does : Reply → Type 0
  Does given = ReplyDoes t.before v.number plain (block_in event) given (event_left event t.before t.after)

  abbrev StandsIn : ℕ → (ℕ → Option Stage) → Seen → Type 0
  StandsIn left stages seen = WindowStands window left stages seen.opening (tells seen.states) seen.history

  pub floor : footing_of t.before ≡ file
  floor = some_is (footing_of t.before) file (t.floor_before ∙ footing_is)

  others : are_others window.who (entries_of_turns t.between) ≡ true
  others = others_told window.who t.between (subst (λ (k : ℕ). AreOthers k t.between) number_is t.others)

  -- the window stands as before when its turn has come
  pub mid : (left : ℕ) (stages : ℕ → Option Stage) → WindowStands window left stages file.opening file.told (heard v) → StandsIn left stages t.before
  mid left stages stands =
      let here : WindowStands window left stages t.before.opening (tells t.before.states) (heard v) = subst (λ (f : CellFooting). WindowStands window left stages f.opening f.told (heard v)) (sym floor) stands in
      let legal : IsLegal 0 (tells t.before.states) t.before.opening (heard v ++ entries_of_turns t.between) = subst (λ (entries : List Entry). IsLegal 0 (tells t.before.states) t.before.opening entries) t.told_before t.stepped.legal in
      subst (λ (entries : List Entry). WindowStands window left stages t.before.opening (tells t.before.states) entries) (sym t.told_before)
      (others_stand window left stages t.before.opening (tells t.before.states) (heard v) (entries_of_turns t.between) here legal others)

  pub facts : FileFacts t.before.opening (state_now t.before)
  facts = legal_facts t.before.opening (tells t.before.states) t.before.history t.stepped.begins.opening t.stepped.legal

  pub more : MoreFacts t.before.opening (state_now t.before)
  more = legal_more t.before.opening (tells t.before.states) t.before.history t.stepped.begins.opening t.stepped.legal

  -- entries and claimed places are within the limit
  within : length t.before.history + all_places (state_now t.before).claimed ≤ MOST_ENTRIES
  within =
      let none : all_places t.before.opening.claimed ≡ 0 = ap (λ (claimed : Claims). all_places claimed) t.stepped.begins.opening.no_claims in
      let all = stays_within t.before.opening (tells t.before.states) 0 t.before.history (omega arith) t.stepped.legal in
      omega arith

  -- an event for which a place is claimed is answered by a reply
  pub is_reply : needs (state_now t.before).claimed plain ≡ needs_beside (state_now t.before).claimed (Some window) → 0 < places_left window (state_now t.before).claimed
      → (given : Reply) × (answer.reply ≡ Done given) × Does given
  is_reply own some = by answer.reply t.stepped.steps.reply_is
    where
      none : needs (state_now t.before).claimed plain ≡ 0
      none = own ∙ needs_none (state_now t.before).claimed window some

      by : (r : CellReply) → CellReplies t.before v.number plain (block_in event) r (event_left event t.before t.after) → (given : Reply) × (r ≡ Done given) × Does given
      by (Done given) r = (given, refl, r)
      by (HistoryFull entries claimed) r = absurd (r.no_room (let no = none in let low = within in omega arith))
      by OutOfMemory r = let no = none in let wanted = r.unclaimed in absurd (omega arith)

  -- ---- its entry

  module _ (given : Reply) (does : Does given) (left_is : entry_left v.number plain given ≡ entry_of v.number plain given ∷ []) where
    abbrev entry : Entry
    entry = entry_of v.number plain given

    grew : t.after.history ≡ t.before.history ++ entry ∷ []
    grew = does.history ∙ ap (λ (es : List Entry). t.before.history ++ es) left_is

    turn_is : added t.turn ≡ entry ∷ []
    turn_is = append_cancel_left t.before.history (added t.turn) (entry ∷ []) (sym t.told_after ∙ grew)

    pub added_on : AddsOwn start w (mine ++ entry ∷ [])
    added_on = adds_both start v w mine (entry ∷ []) adds (subst (λ (es : List Entry). AddsOwn v w es) turn_is (turn_adds (λ (cell : Seen). cell.history) footing_of CellMoves v w event answer t))

    events_on : events_of (mine ++ entry ∷ []) ≡ events ++ plain ∷ []
    events_on = map-append (λ (e : Entry). e.event) mine (entry ∷ []) ∙ ap (λ (es : List Event). es ++ plain ∷ []) events_are

    number_on : w.number ≡ window.who
    number_on = ap (λ (y : View CellFooting). y.number) t.view_is ∙ number_is

    footing_on : w.footing ≡ Some file
    footing_on = ap (λ (y : View CellFooting). y.footing) t.view_is ∙ footing_is

    pub stands_on : (left : ℕ) (stages : ℕ → Option Stage) → StandsIn left stages t.after → WindowStands window left stages file.opening file.told (heard w)
    stands_on left stages stands =
        let after : footing_of t.after ≡ file = some_is (footing_of t.after) file (t.floor_after ∙ footing_is) in
        subst (λ (entries : List Entry). WindowStands window left stages file.opening file.told entries) t.all_heard
        (subst (λ (f : CellFooting). WindowStands window left stages f.opening f.told t.after.history) after stands)

    pub runs_on : (left : ℕ) (stages : ℕ → Option Stage) → GoesOnWith plain given → StandsIn left stages t.after → FillRuns file start window left stages (events ++ plain ∷ []) w
    runs_on left stages goes stands = record {
      mine = mine ++ entry ∷ [];
      adds = added_on;
      events_are = events_on;
      going = all_go mine entry going goes;
      number_is = number_on;
      footing_is = footing_on;
      stands = stands_on left stages stands;
    }

    pub stops_on : (left : ℕ) (why : FillStop) → StopsWith given why → StandsIn left (λ i. None) t.after → FillStops file start window left (events ++ plain ∷ []) why w
    stops_on left why stops stands = record {
      mine = mine;
      last = entry;
      adds = added_on;
      events_are = events_on;
      going = going;
      stopped = stops;
      number_is = number_on;
      footing_is = footing_on;
      stands = stands_on left (λ i. None) stands;
    }

    -- the window's own entry
    pub own_stands : (left : ℕ) (stages : ℕ → Option Stage) → IsKept given → left ≤ places_left window (state_now t.after).claimed → ((i : ℕ) → FliesOwn window (stages i) (flight_row i (state_now t.after).flight)) → StandsIn left stages t.after
    own_stands left stages kept enough flies =
        let told : tells t.after.states ≡ tells t.before.states = device_tells t.before.opened (spots_now t.before) (block_in event) plain given t.before.states t.after.states does.device in
        let here : IsLegal 0 (tells t.before.states) t.before.opening (t.before.history ++ entry ∷ []) =
        both_legal t.before.opening (tells t.before.states) 0 t.before.history (entry ∷ []) t.stepped.legal
        (subst (λ (n : ℕ). IsEntry n (tells t.before.states) (state_now t.before) entry) (omega arith) (record { allowed = does.step.allowed; kept = kept }), tt) in
        record {
          begins = subst IsOpening (sym does.opening) t.stepped.begins.opening;
          legal = subst (λ (entries : List Entry). IsLegal 0 (tells t.after.states) t.after.opening entries) (sym grew)
              (subst (λ (s : FileState). IsLegal 0 (tells t.after.states) s (t.before.history ++ entry ∷ [])) (sym does.opening)
              (subst (λ (b : Bool). IsLegal 0 b t.before.opening (t.before.history ++ entry ∷ [])) (sym told) here));
          enough = enough;
          flies = flies;
        }

  -- ---- an event that uses a place

  module _ (left : ℕ) (enough : left ≤ places_left window (state_now t.before).claimed) (some : 0 < left) (spends : (given : Reply) → claims_after (state_now t.before).claimed plain given ≡ spend window (state_now t.before).claimed) where
    pub enough_on : (given : Reply) → Does given → left - 1 ≤ places_left window (state_now t.after).claimed
    enough_on given does =
        let claimed : (state_now t.after).claimed ≡ spend window (state_now t.before).claimed = ap (λ (s : FileState). s.claimed) does.step.after ∙ spends given in
        let places : places_left window (state_now t.after).claimed ≡ places_left window (state_now t.before).claimed - 1 = ap (places_left window) claimed ∙ spend_own window (state_now t.before).claimed in
        omega arith

    -- the reply with which it stops
    pub stops_so : {T : Type 0} (stages : ℕ → Option Stage) (given : Reply) → Does given → IsStop given → (result : Result T FillStop) → ((at : ℕ) → given ≡ reply.Failed at → result ≡ Err (stop.Failed at))
        → ((count : ℕ) → given ≡ reply.Fault count → result ≡ Err stop.DiskFault) → FillSteps file start window (left - 1) stages (events ++ plain ∷ []) result w
    stops_so {T} stages given does (inl failed) result is_failed is_fault =
        let then : Does (reply.Failed failed.0) = subst Does failed.1 does in
        subst (λ (r : Result T FillStop). FillSteps file start window (left - 1) stages (events ++ plain ∷ []) r w) (sym (is_failed failed.0 failed.1))
        (stops_on (reply.Failed failed.0) then refl (left - 1) (stop.Failed failed.0) refl (own_stands (reply.Failed failed.0) then refl (left - 1) (λ i. None) tt (enough_on (reply.Failed failed.0) then) (λ i. tt)))
    stops_so {T} stages given does (inr fault) result is_failed is_fault =
        let then : Does (reply.Fault fault.0) = subst Does fault.1 does in
        subst (λ (r : Result T FillStop). FillSteps file start window (left - 1) stages (events ++ plain ∷ []) r w) (sym (is_fault fault.0 fault.1))
        (stops_on (reply.Fault fault.0) then refl (left - 1) stop.DiskFault tt (own_stands (reply.Fault fault.0) then refl (left - 1) (λ i. None) tt (enough_on (reply.Fault fault.0) then) (λ i. tt)))
