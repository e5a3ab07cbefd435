-- A put, from where its fill stands to where it stands then, and what became of its block.
use Rattle.std.proofs.Common.{◌≡◌, ◌⊎◌, inl, inr, ℕ, ◌+◌, ◌-◌, ◌<◌, Bool, true, false, List, [], ◌∷◌, ◌++◌, length, Option, Some, None, refl, sym, ap, subst, ◌∙◌, arith, append_assoc, length-append}
use Rattle.std.specs.Prelude.{Result, Err, nat_le}
use Rattle.std.proofs.lemmas.Bool.{lt-leb}
use Rattle.inc_model.specs.executed.EntriesLeft.{entry_left}
use Rattle.inc_model.specs.relation.State.{flight_row, has, is_in}
use Rattle.inc_model.specs.relation.Step.{Fits}
use Rattle.inc_model.specs.relation.Table.{flight_reply, put_reply, reply_of, unless_failed}
use Rattle.inc_model.specs.declared.words.event.Event.{Event}
use Rattle.inc_model.specs.declared.words.event.Event.TheVariants.{PutData}
use Rattle.inc_model.specs.declared.words.event.Window.{Window}
use Rattle.inc_model.specs.declared.words.file_state.FileState.{FileState}
use Rattle.inc_model.specs.declared.words.file_state.FlightRow.{FlightRow}
use Rattle.inc_model.specs.declared.words.file_state.Stage.{Stage}
use Rattle.inc_model.specs.declared.words.file_state.Stage.TheVariants as stage
use Rattle.inc_model.specs.declared.words.reply.Entry.{Entry}
use Rattle.inc_model.specs.declared.words.reply.Reply.{Reply}
use Rattle.inc_model.specs.declared.words.reply.Reply.TheVariants as reply
use Rattle.inc_turn.specs.Lists.{entries_of_turns}
use Rattle.inc_turn.specs.Turns.{AddsOwn}
use Rattle.inc_turn.specs.Views.{heard}
use Rattle.inc_turn.specs.declared.view.View.{View}
use Rattle.inc_turn.proofs.ListLemmas.{entries_of_turns-append}
use Rattle.inc_cell.specs.device.Puts.{digest_for}
use Rattle.inc_cell.specs.events.CellEvents.{footing_of}
use Rattle.inc_cell.specs.events.Steps.{ReplyDoes}
use Rattle.inc_cell.specs.seen.Seen.{state_now, tells}
use Rattle.inc_cell.specs.declared.machine.CellFooting.{CellFooting}
use Rattle.inc_cell.specs.declared.words.answer.Answer.{Answer}
use Rattle.inc_cell.specs.declared.words.answer.CellReply.{CellReply}
use Rattle.inc_cell.specs.declared.words.event.CellEvent.{CellEvent}
use Rattle.inc_cell.specs.declared.words.event.CellEvent.TheVariants as cell
use Rattle.inc_layout.specs.declared.opened.Opened.{Opened}
use Rattle.inc_filling.specs.Grouped.{put_of}
use Rattle.inc_filling.specs.Stands.{MayBeFilled, staged_then}
use Rattle.inc_filling.specs.Stops.{going_on, goes_on}
use Rattle.inc_filling.specs.declared.filling.Filling.{Filling}
use Rattle.inc_filling.specs.declared.stop.FillStop.{FillStop}
use Rattle.inc_filling.specs.declared.stop.FillStop.TheVariants as stop
use Rattle.inc_filling.proofs.lemmas.EventLemmas.{came, entry_of}
use Rattle.inc_filling.proofs.steps.PutLoop.{may_stay}
use Rattle.inc_handle.specs.Shared.{TakesTurn}
use Rattle.inc_filling.proofs.lemmas.NewLemmas.{of_file}
use Rattle.inc_handle.specs.Standing.{FliesOwn, MayFill, WindowStands}
use Rattle.inc_handle.specs.UnderWay.{FillRuns, HasOwnEntry, PutSteps, put_end}
use Rattle.inc_handle.proofs.fills.Standing.{put_flies_own}
use Rattle.inc_handle.proofs.fills.Turns.{IsStop, floor, more}
use Rattle.inc_handle.proofs.fills.Steps.{goes, middle, replied, stops}

-- ---- what a seat has seen since

pub heard_since : (start v : View CellFooting) (mine : List Entry) (a : AddsOwn start v mine) → heard v ≡ heard start ++ entries_of_turns a.since
heard_since start v mine a =
    ap (λ (y : View CellFooting). heard y) a.view_is ∙ ap (λ (es : List Entry). start.base ++ es) (entries_of_turns-append start.seen a.since) ∙ sym (append_assoc start.base (entries_of_turns start.seen) (entries_of_turns a.since))

pub heard_grew : (start v : View CellFooting) (mine : List Entry) → AddsOwn start v mine → (rest : List Entry) × (heard v ≡ heard start ++ rest)
heard_grew start v mine a = (entries_of_turns a.since, heard_since start v mine a)

-- ---- which reply a put has

-- a put stores a block only where its index isn't in flight
abbrev pub PutFits : Option FlightRow → Reply → Type 0
PutFits found (reply.Put place own) = found ≡ None
PutFits found reply.Present = Unit {0}
PutFits found (reply.Busy window) = Unit {0}
PutFits found given = ⊥

put_new : (told : Bool) (faults : ℕ) (digest : List ℕ) (given : Reply) → Fits told faults (reply.Put 0 digest) given → IsStop given ⊎ PutFits None given
put_new told faults digest (reply.Fault count) h = inl (inr (count, refl))
put_new told faults digest (reply.Put place own) h = inr refl
put_new told faults digest (reply.Handed own) h = absurd h
put_new told faults digest given h = absurd (let e : reply.Put 0 digest ≡ given = h in cc)

put_which : (told : Bool) (faults : ℕ) (failed : Option ℕ) (found : Option FlightRow) (present : Bool) (digest : List ℕ) (given : Reply) → Fits told faults (unless_failed failed (flight_reply found present digest)) given → IsStop given ⊎ PutFits found given
put_which told faults (Some at) found present digest given h = elim (came told faults (reply.Failed at) given tt h) [
  | inl e ↦ inl (inl (at, e))
  | inr fault ↦ inl (inr fault)
]
put_which told faults None (Some row) present digest given h = elim (came told faults (reply.Busy row.window) given tt h) [
  | inl e ↦ inr (subst (PutFits (Some row)) (sym e) tt)
  | inr fault ↦ inl (inr fault)
]
put_which told faults None None true digest given h = elim (came told faults reply.Present given tt h) [
  | inl e ↦ inr (subst (PutFits None) (sym e) tt)
  | inr fault ↦ inl (inr fault)
]
put_which told faults None None false digest given h = put_new told faults digest given h

-- ---- a put

module _ (file : CellFooting) (start v w : View CellFooting) (window : Window) (left : ℕ) (stages : ℕ → Option Stage) (events : List Event) (h : FillRuns file start window left stages events v) (some : 0 < left)
    (filling : Filling) (may : MayFill file.opened filling.index) (answer : Answer) (t : TakesTurn v (cell.Put window filling.index filling.block) answer w) where
  abbrev event : CellEvent
  event = cell.Put window filling.index filling.block

  abbrev digest : List ℕ
  digest = digest_for t.before.opened filling.index filling.block.bytes

  abbrev plain : Event
  plain = PutData window filling.index digest

  abbrev Does : Reply → Type 0
  Does given = ReplyDoes t.before v.number plain filling.block.bytes given t.after

  abbrev found : Option FlightRow
  found = flight_row filling.index (state_now t.before).flight

  here : footing_of t.before ≡ file
  here = floor file start v w window h.mine events h.adds h.events_are h.going h.number_is h.footing_is event answer t

  stands : WindowStands window left stages t.before.opening (tells t.before.states) t.before.history
  stands = middle file start v w window left stages events h some event answer t refl (λ given. refl)

  may_here : MayBeFilled (state_now t.before) filling.index
  may_here =
      may_stay t.before.opening (state_now t.before) filling.index (more file start v w window h.mine events h.adds h.events_are h.going h.number_is h.footing_is event answer t).same
      (subst (λ (o : Opened). MayFill o filling.index) (ap (λ (f : CellFooting). f.opened) (sym here)) may t.before.opening (of_file t.before.opened t.before.opening t.stepped.begins))

  table : reply_of (state_now t.before) v.number plain ≡ unless_failed (state_now t.before).failed (flight_reply found (is_in filling.index (state_now t.before).map) digest)
  table =
      let s = state_now t.before in
      let inside = may_here.within in
      let past : nat_le (s.n + s.m) filling.index ≡ false = lt-leb (s.n + s.m) filling.index inside in
      ap (λ x. unless_failed s.failed (put_reply x (has filling.index s.damaged) (has filling.index s.compressed) (flight_reply found (is_in filling.index s.map) digest))) past
      ∙ ap (λ x. unless_failed s.failed (put_reply false x (has filling.index s.compressed) (flight_reply found (is_in filling.index s.map) digest))) may_here.undamaged
      ∙ ap (λ x. unless_failed s.failed (put_reply false false x (flight_reply found (is_in filling.index s.map) digest))) may_here.uncompressed

  -- its entry, where the position says
  own_entry : (given : Reply) → Does given → entry_left v.number plain given ≡ entry_of v.number plain given ∷ [] → HasOwnEntry (heard w) (length (heard start)) window.who plain given answer.at
  own_entry given does one =
      let at = t.stepped.steps.at_is in
      let grew = heard_grew start v h.mine h.adds in
      let first : length (heard v) ≡ length (heard start) + length grew.0 = ap length grew.1 ∙ length-append (heard start) grew.0 in
      let then : length t.before.history ≡ length (heard v) + length (entries_of_turns t.between) = ap length t.told_before ∙ length-append (heard v) (entries_of_turns t.between) in
      record {
        later = omega arith;
        here = record {
          before = t.before.history;
          after = [];
          cut = sym t.all_heard ∙ does.history ∙ ap (λ (es : List Entry). t.before.history ++ es) one ∙ ap (λ (who : ℕ). t.before.history ++ record { who = who; event = plain; reply = given } ∷ []) h.number_is;
          place = at;
        };
      }

  abbrev Steps : Result Reply FillStop → Type 0
  Steps result = PutSteps file start window (left - 1) stages events plain filling.index (put_end answer.at result) w

  put_given : (given : Reply) → Does given → PutFits found given → Steps (going_on given)
  put_given (reply.Put place own) does none = record {
    runs = goes file start v w window left stages events h some event answer t refl (λ g. refl) (staged_then filling.index stage.Written stages) (reply.Put place own) does refl tt tt
        (subst (λ (s : FileState). (i : ℕ) → FliesOwn window (staged_then filling.index stage.Written stages i) (flight_row i s.flight)) (sym does.step.after) (put_flies_own window filling.index digest (state_now t.before).flight stages stands.flies none));
    end_is = (answer.at, place, own, own_entry (reply.Put place own) does refl);
  }
  put_given reply.Present does fits = record {
    runs = goes file start v w window left stages events h some event answer t refl (λ g. refl) stages reply.Present does refl tt tt (subst (λ (s : FileState). (i : ℕ) → FliesOwn window (stages i) (flight_row i s.flight)) (sym does.step.after) stands.flies);
    end_is = own_entry reply.Present does refl;
  }
  put_given (reply.Busy other) does fits = record {
    runs = goes file start v w window left stages events h some event answer t refl (λ g. refl) stages (reply.Busy other) does refl tt tt (subst (λ (s : FileState). (i : ℕ) → FliesOwn window (stages i) (flight_row i s.flight)) (sym does.step.after) stands.flies);
    end_is = own_entry (reply.Busy other) does refl;
  }
  put_given given does fits = absurd fits

  put_stops : (given : Reply) → Does given → IsStop given → Steps (going_on given)
  put_stops given does (inl failed) =
      subst (λ (g : Reply). Steps (going_on g)) (sym failed.1)
      (stops file start v w window left stages events h some event answer t refl (λ g. refl) {T = Reply} (λ i. None) given does (inl failed) (Err (stop.Failed failed.0)) (λ at e. sym (ap going_on failed.1) ∙ ap going_on e) (λ count e. sym (ap going_on failed.1) ∙ ap going_on e))
  put_stops given does (inr fault) =
      subst (λ (g : Reply). Steps (going_on g)) (sym fault.1)
      (stops file start v w window left stages events h some event answer t refl (λ g. refl) {T = Reply} (λ i. None) given does (inr fault) (Err stop.DiskFault) (λ at e. sym (ap going_on fault.1) ∙ ap going_on e) (λ count e. sym (ap going_on fault.1) ∙ ap going_on e))

  put_by : (given : Reply) → Does given → Steps (going_on given)
  put_by given does = elim (put_which (tells t.before.states) (state_now t.before).faults (state_now t.before).failed found (is_in filling.index (state_now t.before).map) digest given (subst (λ (r : Reply). Fits (tells t.before.states) (state_now t.before).faults r given) table does.step.allowed.fits)) [
    | inl why ↦ put_stops given does why
    | inr fits ↦ put_given given does fits
  ]

  pub put_steps : PutSteps file start window (left - 1) stages events (put_of file.opened window filling) filling.index (put_end answer.at (goes_on answer.reply)) w
  put_steps =
      let given = replied file start v w window left stages events h some event answer t refl (λ g. refl) in
      subst (λ (o : Opened). PutSteps file start window (left - 1) stages events (put_of o window filling) filling.index (put_end answer.at (goes_on answer.reply)) w) (ap (λ (f : CellFooting). f.opened) here)
      (subst (λ (a : CellReply). Steps (goes_on a)) (sym given.1) (put_by given.0 given.2))
