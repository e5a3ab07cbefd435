-- Histories in two parts.
use Rattle.std.proofs.Common.{◌≡◌, ℕ, suc, ◌+◌, ◌≤◌, Bool, true, false, not, cond, eqb, List, [], ◌∷◌, ◌++◌, length, refl, sym, ap, subst, ◌∙◌, arith, append-nil}
use Rattle.std.proofs.lemmas.Bool.{and_parts}
use Rattle.std.proofs.lemmas.List.Elements.{filter-append}
use Rattle.inc_model.specs.declared.words.limits.TheConstants.{MOST_ENTRIES}
use Rattle.inc_model.specs.declared.words.event.Event.{Event}
use Rattle.inc_model.specs.declared.words.file_state.FileState.{FileState}
use Rattle.inc_model.specs.declared.words.reply.Entry.{Entry}
use Rattle.inc_model.specs.declared.words.reply.Reply.{Reply}
use Rattle.inc_model.specs.relation.State.{all_places, IsOpening}
use Rattle.inc_model.specs.relation.Changes.{window_of}
use Rattle.inc_model.specs.relation.Step.{IsOwn, IsEntry, IsLegal, Step, after_entry, state_after}
use Rattle.inc_model.specs.relation.Facts.{FileFacts, MoreFacts}
use Rattle.inc_model.specs.laws.HistoryLaws.{own_entries, are_others}
use Rattle.inc_model.proofs.facts_kept.Step.{stays, more_stays, opening_facts, opening_more, limit_stays}

-- ---- facts

pub step_stays : (first old new : FileState) (told : Bool) (at who : ℕ) (event : Event) (reply : Reply) → Step at told old who event reply new → FileFacts first old → FileFacts first new
step_stays first old new told at who event reply step f = subst (λ (s : FileState). FileFacts first s) (sym step.after) (stays first old told at who event reply step.allowed f)

pub step_more : (first old new : FileState) (told : Bool) (at who : ℕ) (event : Event) (reply : Reply) → Step at told old who event reply new → FileFacts first old → MoreFacts first old → MoreFacts first new
step_more first old new told at who event reply step f m = subst (λ (s : FileState). MoreFacts first s) (sym step.after) (more_stays first old told at who event reply step.allowed f m)

run_stays : (first s : FileState) (told : Bool) (at : ℕ) (entries : List Entry) → FileFacts first s → MoreFacts first s → IsLegal at told s entries → FileFacts first (state_after at s entries) × MoreFacts first (state_after at s entries)
run_stays first s told at [] f m legal = (f, m)
run_stays first s told at (entry ∷ entries) f m legal =
    let allowed = legal.0.allowed in
    run_stays first (after_entry at s entry) told (at + 1) entries (stays first s told at entry.who entry.event entry.reply allowed f) (more_stays first s told at entry.who entry.event entry.reply allowed f m) legal.1

pub legal_facts : (start : FileState) (told : Bool) (entries : List Entry) → IsOpening start → IsLegal 0 told start entries → FileFacts start (state_after 0 start entries)
legal_facts start told entries opening legal = (run_stays start start told 0 entries (opening_facts start opening) (opening_more start opening) legal).0

pub legal_more : (start : FileState) (told : Bool) (entries : List Entry) → IsOpening start → IsLegal 0 told start entries → MoreFacts start (state_after 0 start entries)
legal_more start told entries opening legal = (run_stays start start told 0 entries (opening_facts start opening) (opening_more start opening) legal).1

-- ---- cuts

pub front_legal : (s : FileState) (told : Bool) (at : ℕ) (before after : List Entry) → IsLegal at told s (before ++ after) → IsLegal at told s before
front_legal s told at [] after legal = tt
front_legal s told at (entry ∷ before) after legal = (legal.0, front_legal (after_entry at s entry) told (at + 1) before after legal.1)

further : (at n : ℕ) → (at + 1) + n ≡ at + suc n
further at n = omega arith

pub rest_legal : (s : FileState) (told : Bool) (at : ℕ) (before after : List Entry) → IsLegal at told s (before ++ after) → IsLegal (at + length before) told (state_after at s before) after
rest_legal s told at [] after legal = subst (λ k. IsLegal k told s after) (omega arith) legal
rest_legal s told at (entry ∷ before) after legal =
    subst (λ k. IsLegal k told (state_after (at + 1) (after_entry at s entry) before) after) (further at (length before)) (rest_legal (after_entry at s entry) told (at + 1) before after legal.1)

pub both_legal : (s : FileState) (told : Bool) (at : ℕ) (before after : List Entry) → IsLegal at told s before → IsLegal (at + length before) told (state_after at s before) after → IsLegal at told s (before ++ after)
both_legal s told at [] after front rest = subst (λ k. IsLegal k told s after) (omega arith) rest
both_legal s told at (entry ∷ before) after front rest =
    (front.0, both_legal (after_entry at s entry) told (at + 1) before after front.1 (subst (λ k. IsLegal k told (state_after (at + 1) (after_entry at s entry) before) after) (sym (further at (length before))) rest))

pub after_both : (s : FileState) (at : ℕ) (before after : List Entry) → state_after at s (before ++ after) ≡ state_after (at + length before) (state_after at s before) after
after_both s at [] after = ap (λ k. state_after k s after) (omega arith)
after_both s at (entry ∷ before) after =
    after_both (after_entry at s entry) (at + 1) before after ∙ ap (λ k. state_after k (state_after (at + 1) (after_entry at s entry) before) after) (further at (length before))

pub after_one : (s : FileState) (at : ℕ) (before : List Entry) (entry : Entry) → state_after at s (before ++ entry ∷ []) ≡ after_entry (at + length before) (state_after at s before) entry
after_one s at before entry = after_both s at before (entry ∷ [])

pub entry_at : (s : FileState) (told : Bool) (at : ℕ) (before : List Entry) (entry : Entry) (after : List Entry) → IsLegal at told s (before ++ entry ∷ after) → IsEntry (at + length before) told (state_after at s before) entry
entry_at s told at before entry after legal = (rest_legal s told at before (entry ∷ after) legal).0

-- ---- the limit

pub stays_within : (s : FileState) (told : Bool) (at : ℕ) (entries : List Entry) → at + all_places s.claimed ≤ MOST_ENTRIES → IsLegal at told s entries → at + length entries + all_places (state_after at s entries).claimed ≤ MOST_ENTRIES
stays_within s told at [] within legal = omega arith
stays_within s told at (entry ∷ entries) within legal =
    let next = limit_stays at s entry.who entry.event entry.reply legal.0.allowed.room in
    let rest = stays_within (after_entry at s entry) told (at + 1) entries next legal.1 in
    let same = further at (length entries) in
    omega arith

-- ---- whose entries they are

pub windows_own : (s : FileState) (told : Bool) (at : ℕ) (before : List Entry) (entry : Entry) (after : List Entry) → IsLegal at told s (before ++ entry ∷ after) → IsOwn entry.who (window_of entry.event)
windows_own s told at before entry after legal = (entry_at s told at before entry after legal).allowed.own

pub own_join : (who : ℕ) (before after : List Entry) → own_entries who (before ++ after) ≡ own_entries who before ++ own_entries who after
own_join who before after = filter-append (λ (entry : Entry). eqb entry.who who) before after

none_own : (who : ℕ) (entries : List Entry) → are_others who entries ≡ true → own_entries who entries ≡ []
none_own who [] e = refl
none_own who (entry ∷ entries) e = let parts = and_parts (not (eqb entry.who who)) (are_others who entries) e in step (eqb entry.who who) parts.0 (none_own who entries parts.1)
  where
    step : (b : Bool) → not b ≡ true → own_entries who entries ≡ [] → cond b (entry ∷ own_entries who entries) (own_entries who entries) ≡ []
    step true t rest = absurd (cc)
    step false t rest = rest

pub others_keep : (who : ℕ) (before after : List Entry) → are_others who after ≡ true → own_entries who (before ++ after) ≡ own_entries who before
others_keep who before after e = own_join who before after ∙ ap (λ rest. own_entries who before ++ rest) (none_own who after e) ∙ append-nil (own_entries who before)
