-- What a put makes of where a group stands.
use Rattle.std.proofs.Common.{◌≡◌, ◌⊎◌, inl, inr, ℕ, ◌+◌, ◌-◌, ◌<◌, Bool, true, false, not, cond, eqb, List, [], ◌∷◌, ◌++◌, length, Option, Some, None, refl, sym, ap, subst, ◌∙◌}
use Rattle.std.specs.Prelude.{Result}
use Rattle.std.proofs.lemmas.Bool.{eqb-true, lt-leb}
use Rattle.std.specs.Prelude.{nat_le}
use Rattle.inc_model.specs.relation.Changes.{change}
use Rattle.inc_model.specs.relation.State.{IsSameFile, flight_row, has, is_in}
use Rattle.inc_model.specs.relation.Step.{Fits}
use Rattle.inc_model.specs.relation.Table.{flight_reply, put_reply, reply_of, unless_failed}
use Rattle.inc_model.specs.declared.words.event.Event.{Event}
use Rattle.inc_model.specs.declared.words.event.Event.TheVariants.{PutData}
use Rattle.inc_model.specs.declared.words.event.Window.{Window}
use Rattle.inc_model.specs.declared.words.file_state.FileState.{FileState}
use Rattle.inc_model.specs.declared.words.file_state.Stage.{Stage}
use Rattle.inc_model.specs.declared.words.file_state.Stage.TheVariants as stage
use Rattle.inc_model.specs.declared.words.reply.Reply.{Reply}
use Rattle.inc_model.specs.declared.words.reply.Reply.TheVariants as reply
use Rattle.inc_cell.specs.events.Answers.{CellReplies}
use Rattle.inc_cell.specs.seen.Seen.{Seen, state_now, tells}
use Rattle.inc_cell.specs.events.Steps.{ReplyDoes}
use Rattle.inc_cell.specs.declared.words.answer.CellReply.{CellReply}
use Rattle.inc_filling.specs.Stands.{FliesAs, MayBeFilled, PutsTo, StandsAt, staged_then}
use Rattle.inc_filling.specs.Stops.{going_on, goes_on, was_put}
use Rattle.inc_filling.specs.declared.stop.FillStop.{FillStop}
use Rattle.inc_filling.proofs.lemmas.EventLemmas.{breaks_off, came, entry_of, is_done, left_on, takes_on}
use Rattle.inc_filling.proofs.lemmas.StageLemmas.{put_flies}

put_or : (told : Bool) (faults : ℕ) (digest : List ℕ) (given : Reply) → Fits told faults (reply.Put 0 digest) given → ((place : ℕ) × (own : List ℕ) × (given ≡ reply.Put place own)) ⊎ ((count : ℕ) × (given ≡ reply.Fault count))
put_or told faults digest (reply.Fault count) h = inr (count, refl)
put_or told faults digest (reply.Put place own) h = inl (place, own, refl)
put_or told faults digest (reply.Handed own) h = absurd h
put_or told faults digest given h = absurd (let e : reply.Put 0 digest ≡ given = h in cc)

module _ (start old new : Seen) (window : Window) (index left : ℕ) (digest block : List ℕ) (stages : ℕ → Option Stage) (events : List Event) (h : StandsAt start window left stages events old) (some : 0 < left) (is : stages index ≡ None)
    (may : MayBeFilled (state_now old) index) where
  abbrev event : Event
  event = PutData window index digest

  abbrev PutsAs : Result Reply FillStop → Type 0
  PutsAs result = PutsTo start window (left - 1) index stages (events ++ event ∷ []) old (was_put result) new

  none : flight_row index (state_now old).flight ≡ None
  none = subst (λ (o : Option Stage). FliesAs window o (flight_row index (state_now old).flight)) is (h.flies index)

  wanted : (b : Bool) → is_in index (state_now old).map ≡ b → reply_of (state_now old) window.who event ≡ flight_reply None b digest
  wanted b t =
      let within = may.within in
      let s = state_now old in
      let past : nat_le (s.n + s.m) index ≡ false = lt-leb (s.n + s.m) index within in
      ap (λ failed. unless_failed failed (put_reply (nat_le (s.n + s.m) index) (has index s.damaged) (has index s.compressed) (flight_reply (flight_row index s.flight) (is_in index s.map) digest))) h.sound
      ∙ ap (λ x. put_reply x (has index s.damaged) (has index s.compressed) (flight_reply (flight_row index s.flight) (is_in index s.map) digest)) past
      ∙ ap (λ x. put_reply false x (has index s.compressed) (flight_reply (flight_row index s.flight) (is_in index s.map) digest)) may.undamaged
      ∙ ap (λ x. put_reply false false x (flight_reply (flight_row index s.flight) (is_in index s.map) digest)) may.uncompressed
      ∙ ap (λ found. flight_reply found (is_in index s.map) digest) none
      ∙ ap (λ x. flight_reply None x digest) t

  put_now : (place : ℕ) (own : List ℕ) → is_in index (state_now old).map ≡ false → ReplyDoes old window.who event block (reply.Put place own) new → PutsAs (going_on (reply.Put place own))
  put_now place own absent r =
      let after : state_now new ≡ change (length old.history) (state_now old) window.who event (reply.Put place own) = r.step.after in
      record {
        stands = record {
          taken = takes_on start old new events window.who event block (reply.Put place own) h.taken r refl (subst (λ (s : FileState). IsSameFile (state_now old) s) (sym after) (refl, refl, refl, refl, refl, refl));
          left_is = left_on window left old new (entry_of window.who event (reply.Put place own)) h.left_is some (ap (λ (s : FileState). s.claimed) after) r.history;
          flies = subst (λ (s : FileState). (i : ℕ) → FliesAs window (staged_then index stage.Written stages i) (flight_row i s.flight)) (sym after) (put_flies window index digest (state_now old).flight stages h.flies none);
          kept = subst (λ (s : FileState). (i : ℕ) → is_in i s.map ≡ true → (has i s.acknowledged ≡ true) ⊎ (staged_then index stage.Written stages i ≡ Some stage.Gated)) (sym after) kept_on;
          sound = ap (λ (s : FileState). s.failed) after ∙ h.sound;
          count = r.cause ∙ h.count;
        };
        absent = sym (ap not absent);
        same_map = ap (λ (s : FileState). s.map) after;
      }
    where
      kept_on : (i : ℕ) → is_in i (state_now old).map ≡ true → (has i (state_now old).acknowledged ≡ true) ⊎ (staged_then index stage.Written stages i ≡ Some stage.Gated)
      kept_on i inside = elim (h.kept i inside) [
        | inl acked ↦ inl acked
        | inr gated ↦ inr (step (eqb i index) refl gated)
      ]
        where
          step : (b : Bool) → eqb i index ≡ b → stages i ≡ Some stage.Gated → cond b (Some stage.Written) (stages i) ≡ Some stage.Gated
          step true t g = absurd (let e : stages index ≡ Some stage.Gated = ap stages (sym (eqb-true i index t)) ∙ g in cc)
          step false t g = g

  present_now : is_in index (state_now old).map ≡ true → ReplyDoes old window.who event block reply.Present new → PutsAs (going_on reply.Present)
  present_now inside r =
      let after : state_now new ≡ change (length old.history) (state_now old) window.who event reply.Present = r.step.after in
      record {
        stands = record {
          taken = takes_on start old new events window.who event block reply.Present h.taken r refl (subst (λ (s : FileState). IsSameFile (state_now old) s) (sym after) (refl, refl, refl, refl, refl, refl));
          left_is = left_on window left old new (entry_of window.who event reply.Present) h.left_is some (ap (λ (s : FileState). s.claimed) after) r.history;
          flies = subst (λ (s : FileState). (i : ℕ) → FliesAs window (stages i) (flight_row i s.flight)) (sym after) h.flies;
          kept = subst (λ (s : FileState). (i : ℕ) → is_in i s.map ≡ true → (has i s.acknowledged ≡ true) ⊎ (stages i ≡ Some stage.Gated)) (sym after) h.kept;
          sound = ap (λ (s : FileState). s.failed) after ∙ h.sound;
          count = r.cause ∙ h.count;
        };
        absent = sym (ap not inside);
        same_map = ap (λ (s : FileState). s.map) after;
      }

  broken_now : (count : ℕ) → ReplyDoes old window.who event block (reply.Fault count) new → PutsAs (going_on (reply.Fault count))
  broken_now count r =
      let after : state_now new ≡ change (length old.history) (state_now old) window.who event (reply.Fault count) = r.step.after in
      breaks_off start old new window left stages events event block count h some r (subst (λ (s : FileState). IsSameFile (state_now old) s) (sym after) (refl, refl, refl, refl, refl, refl)) (ap (λ (s : FileState). s.claimed) after)

  put_by : (b : Bool) → is_in index (state_now old).map ≡ b → (given : Reply) → ReplyDoes old window.who event block given new → PutsAs (going_on given)
  put_by true t given r = elim (came (tells old.states) (state_now old).faults reply.Present given tt (subst (λ (w : Reply). Fits (tells old.states) (state_now old).faults w given) (wanted true t) r.step.allowed.fits)) [
    | inl is_present ↦ subst (λ (g : Reply). PutsAs (going_on g)) (sym is_present) (present_now t (subst (λ (g : Reply). ReplyDoes old window.who event block g new) is_present r))
    | inr fault ↦ subst (λ (g : Reply). PutsAs (going_on g)) (sym fault.1) (broken_now fault.0 (subst (λ (g : Reply). ReplyDoes old window.who event block g new) fault.1 r))
  ]
  put_by false t given r = elim (put_or (tells old.states) (state_now old).faults digest given (subst (λ (w : Reply). Fits (tells old.states) (state_now old).faults w given) (wanted false t) r.step.allowed.fits)) [
    | inl is_new ↦ subst (λ (g : Reply). PutsAs (going_on g)) (sym is_new.2) (put_now is_new.0 is_new.1 t (subst (λ (g : Reply). ReplyDoes old window.who event block g new) is_new.2 r))
    | inr fault ↦ subst (λ (g : Reply). PutsAs (going_on g)) (sym fault.1) (broken_now fault.0 (subst (λ (g : Reply). ReplyDoes old window.who event block g new) fault.1 r))
  ]

  pub put_steps : (answer : CellReply) → CellReplies old window.who event block answer new → PutsAs (goes_on answer)
  put_steps answer r =
      let done = is_done old new window.who event block answer window left h.left_is some refl r in
      subst (λ (a : CellReply). PutsAs (goes_on a)) (sym done.1) (put_by (is_in index (state_now old).map) refl done.0 done.2)
