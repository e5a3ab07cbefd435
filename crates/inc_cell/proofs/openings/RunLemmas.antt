-- Events of one cell go together.
use Rattle.std.proofs.Common.{◌≡◌, ◌⊎◌, inl, inr, ℕ, List, [], ◌∷◌, ◌++◌, length, refl, sym, ap, subst, ◌∙◌, arith, append_assoc, length-append}
use Rattle.inc_disk.specs.Disk.{Now}
use Rattle.inc_disk.specs.Laws.{EachImage, HoldsSince}
use Rattle.inc_disk.proofs.Moments.{joined, started, weaker}
use Rattle.inc_layout.specs.state.Preserves.{Preserves}
use Rattle.inc_model.specs.executed.EntriesLeft.{entry_left}
use Rattle.inc_model.specs.relation.State.{IsOpening}
use Rattle.inc_model.specs.relation.Step.{IsLegal, state_after}
use Rattle.inc_model.specs.declared.words.event.Event.{Event}
use Rattle.inc_model.specs.declared.words.file_state.FileState.{FileState}
use Rattle.inc_model.specs.declared.words.reply.Entry.{Entry}
use Rattle.inc_model.proofs.runs.Histories.{front_legal, legal_facts, legal_more}
use Rattle.inc_cell.specs.events.Answers.{CellReplies, CellSteps}
use Rattle.inc_cell.specs.device.Moves.{LeavesEither}
use Rattle.inc_cell.specs.seen.Parts.{parts_of}
use Rattle.inc_cell.specs.laws.Runs.{CellRuns, KeepsFront, ReopensFront}
use Rattle.inc_cell.specs.seen.Seen.{Seen, state_now, tells}
use Rattle.inc_cell.specs.declared.words.answer.Answer.{Answer}
use Rattle.inc_cell.specs.declared.words.answer.CellReply.{CellReply}
use Rattle.inc_cell.specs.declared.words.answer.CellReply.TheVariants.{Done, HistoryFull, OutOfMemory}
use Rattle.inc_cell.proofs.openings.ReopenLemmas.{apart_in, parts_reopen}

right : (xs : List Entry) → xs ++ [] ≡ xs
right [] = refl
right (x ∷ xs) = ap (λ rest. x ∷ rest) (right xs)

pub runs_from_now : (seen : Seen) → Now seen.states (λ disk. EachImage disk (λ image. Preserves image (parts_of (state_now seen)))) → CellRuns seen seen
runs_from_now seen now = record {
  opened = refl;
  opening = refl;
  grew = ([], sym (right seen.history));
  images = weaker seen.states seen.states (λ image. Preserves image (parts_of (state_now seen))) (KeepsFront seen.opening (length seen.history) seen.history)
      (started seen.states (λ image. Preserves image (parts_of (state_now seen))) now)
      (λ image keeps. record { front = seen.history; rest = []; cut = sym (right seen.history); later = omega arith; keeps = keeps });
}

pub runs_by_one : (old new : Seen) (entries : List Entry) → new.opened ≡ old.opened → new.opening ≡ old.opening → new.history ≡ old.history ++ entries
    → LeavesEither old.states new.states (state_now old) (state_now new) → CellRuns old new
runs_by_one old new entries opened opening history moments = record {
  opened = opened;
  opening = opening;
  grew = (entries, history);
  images = weaker old.states new.states (λ image. Preserves image (parts_of (state_now old)) ⊎ Preserves image (parts_of (state_now new))) (KeepsFront old.opening (length old.history) new.history) moments kept;
}
  where
    kept : (image : List ℕ) → Preserves image (parts_of (state_now old)) ⊎ Preserves image (parts_of (state_now new)) → KeepsFront old.opening (length old.history) new.history image
    kept image (inl before) = record { front = old.history; rest = entries; cut = history; later = omega arith; keeps = before }
    kept image (inr after) = record {
      front = new.history;
      rest = [];
      cut = sym (right new.history);
      later = omega (arith, ap length history, length-append old.history entries);
      keeps = subst (λ (opening : FileState). Preserves image (parts_of (state_after 0 opening new.history))) opening after;
    }

pub runs_join : (old mid new : Seen) → CellRuns old mid → CellRuns mid new → CellRuns old new
runs_join old mid new first second = record {
  opened = second.opened ∙ first.opened;
  opening = second.opening ∙ first.opening;
  grew = (
    first.grew.0 ++ second.grew.0,
    second.grew.1 ∙ ap (λ (entries : List Entry). entries ++ second.grew.0) first.grew.1 ∙ append_assoc old.history first.grew.0 second.grew.0,
  );
  images = joined old.states mid.states new.states (KeepsFront old.opening (length old.history) new.history)
      (weaker old.states mid.states (KeepsFront old.opening (length old.history) mid.history) (KeepsFront old.opening (length old.history) new.history) first.images longer)
      (weaker mid.states new.states (KeepsFront mid.opening (length mid.history) new.history) (KeepsFront old.opening (length old.history) new.history) second.images sooner);
}
  where
    longer : (image : List ℕ) → KeepsFront old.opening (length old.history) mid.history image → KeepsFront old.opening (length old.history) new.history image
    longer image k = record {
      front = k.front;
      rest = k.rest ++ second.grew.0;
      cut = second.grew.1 ∙ ap (λ (entries : List Entry). entries ++ second.grew.0) k.cut ∙ append_assoc k.front k.rest second.grew.0;
      later = k.later;
      keeps = k.keeps;
    }

    sooner : (image : List ℕ) → KeepsFront mid.opening (length mid.history) new.history image → KeepsFront old.opening (length old.history) new.history image
    sooner image k = record {
      front = k.front;
      rest = k.rest;
      cut = k.cut;
      later = omega (arith, k.later, ap length first.grew.1, length-append old.history first.grew.0);
      keeps = subst (λ (opening : FileState). Preserves image (parts_of (state_after 0 opening k.front))) first.opening k.keeps;
    }

-- ---- one event more

replies_go_on : (first old new : Seen) (who : ℕ) (event : Event) (block : List ℕ) (reply : CellReply) → CellRuns first old → CellReplies old who event block reply new → CellRuns first new
replies_go_on first old new who event block (Done reply) runs replies = runs_join first old new runs (runs_by_one old new (entry_left who event reply) replies.opened replies.opening replies.history replies.moments)
replies_go_on first old new who event block (HistoryFull entries claimed) runs full = subst (CellRuns first) (sym full.same) runs
replies_go_on first old new who event block OutOfMemory runs wants = subst (CellRuns first) (sym wants.same) runs

pub runs_go_on : (first old new : Seen) (who : ℕ) (event : Event) (block : List ℕ) (answer : Answer) → CellRuns first old → CellSteps old who event block answer new → CellRuns first new
runs_go_on first old new who event block answer runs steps = replies_go_on first old new who event block answer.reply runs steps.reply_is

-- ---- after a crash

pub crashes_reopen : (old new : Seen) → IsOpening new.opening → IsLegal 0 (tells new.states) new.opening new.history → CellRuns old new
    → HoldsSince (length old.states) new.states (ReopensFront old.opening (length old.history) new.history)
crashes_reopen old new opening legal runs = λ image left. by_front image (runs.images.each image left)
  where
    by_front : (image : List ℕ) → KeepsFront old.opening (length old.history) new.history image → ReopensFront old.opening (length old.history) new.history image
    by_front image passed =
        let told = tells new.states in
        let begins : IsOpening old.opening = subst IsOpening runs.opening opening in
        let all : IsLegal 0 told old.opening (passed.front ++ passed.rest) =
        subst (λ (h : List Entry). IsLegal 0 told old.opening h) passed.cut (subst (λ (s : FileState). IsLegal 0 told s new.history) runs.opening legal) in
        let so : IsLegal 0 told old.opening passed.front = front_legal old.opening told 0 passed.front passed.rest all in
        let facts = legal_facts old.opening told passed.front begins so in
        let more = legal_more old.opening told passed.front begins so in
        record {
          passed = passed;
          apart = apart_in old.opening (state_after 0 old.opening passed.front) facts more;
          reopens = λ opened faults readers sound may. parts_reopen old.opening (state_after 0 old.opening passed.front) facts more opened faults readers sound may;
        }
