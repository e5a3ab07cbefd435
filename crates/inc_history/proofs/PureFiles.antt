-- A file without a device: its own replies are right, and each step keeps its history legal.
use Rattle.std.proofs.Common.{◌≡◌, ℕ, ◌<◌, true, List, [], ◌∷◌, ◌++◌, length, refl, sym, ap, subst, ◌∙◌, arith}
use Rattle.std.proofs.lemmas.List.{length-append}
use Rattle.inc_model.specs.declared.words.event.Event.{Event}
use Rattle.inc_model.specs.declared.words.file_state.FileState.{FileState}
use Rattle.inc_model.specs.declared.words.reply.Entry.{Entry}
use Rattle.inc_model.specs.declared.words.reply.Reply.{Reply}
use Rattle.inc_model.specs.declared.words.reply.Reply.TheVariants.{NotYet}
use Rattle.inc_model.specs.relation.Table.{reply_of}
use Rattle.inc_model.specs.relation.Changes.{change}
use Rattle.inc_model.specs.relation.Step.{needs, IsAllowed, IsKept, IsEntry, after_entry, state_after}
use Rattle.inc_model.specs.relation.Facts.{IsStart}
use Rattle.inc_model.specs.executed.CoreFacts.{IsHeld}
use Rattle.inc_model.specs.executed.EntriesLeft.{IsWithoutDevice, entry_left}
use Rattle.inc_history.specs.PureStep.{Replies}
use Rattle.inc_model.proofs.executed.OwnReplies.{plain_own}
use Rattle.inc_model.proofs.executed.Start.{start_held}
use Rattle.inc_history.specs.PureState.{Pure, IsPure}
use Rattle.inc_model.proofs.facts_kept.Core.{held_after}
use Rattle.inc_model.proofs.runs.Histories.{both_legal, after_one}

kept_entry : (who : ℕ) (event : Event) (reply : Reply) → IsKept reply → entry_left who event reply ≡ record { who = who; event = event; reply = reply } ∷ []
kept_entry who event NotYet kept = absurd kept
kept_entry who event reply kept = refl

pub pure_more : (first now new : FileState) (history : List Entry) (entry : Entry) → IsPure first now history → IsAllowed (length history) true now entry.who entry.event entry.reply → IsKept entry.reply → new ≡ after_entry (length history) now entry → IsPure first new (history ++ entry ∷ [])
pure_more first now new history entry pure allowed kept is =
    let step : IsEntry (length history) true now entry = record { allowed = allowed; kept = kept } in
    let from : IsEntry (length history) true (state_after 0 first history) entry = subst (λ (s : FileState). IsEntry (length history) true s entry) pure.after step in
    let held = held_after true (length history) now entry.who entry.event entry.reply allowed pure.held in
    record {
      legal = both_legal first true 0 history (entry ∷ []) pure.legal (subst (λ k. IsEntry k true (state_after 0 first history) entry) (omega arith) from, tt);
      after =
          is
          ∙ ap (λ (s : FileState). after_entry (length history) s entry) pure.after
          ∙ ap (λ k. after_entry k (state_after 0 first history) entry) (omega arith)
          ∙ sym (after_one first 0 history entry);
      held = subst (λ (s : FileState). IsHeld (length (history ++ entry ∷ [])) s) (sym is) (subst (λ k. IsHeld k (after_entry (length history) now entry)) (omega (arith, length-append history (entry ∷ []))) held);
    }

pub pure_replies : (old new : Pure) (who : ℕ) (event : Event) (reply : Reply) → IsAllowed (length old.history) true old.now who event reply → IsKept reply → reply ≡ reply_of old.now who event → new.now ≡ change (length old.history) old.now who event reply → new.history ≡ old.history ++ record { who = who; event = event; reply = reply } ∷ [] → new.first ≡ old.first → (old.ready ≡ true → new.ready ≡ true) → (IsKept reply → 0 < needs old.now.claimed event → new.ready ≡ true) → Replies old who event reply new
pure_replies old new who event reply allowed kept is now-is history-is first-is ready made = record {
  step = record { allowed = allowed; after = now-is };
  plain = subst IsWithoutDevice (sym is) (plain_own old.now who event);
  history = history-is ∙ ap (λ (l : List Entry). old.history ++ l) (sym (kept_entry who event reply kept));
  first = first-is;
  ready = ready;
  made = made;
}

pub start_pure : (s : FileState) → IsStart s → IsPure s s []
start_pure s h = record { legal = tt; after = refl; held = start_held s h }
