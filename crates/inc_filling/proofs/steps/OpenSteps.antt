-- What a group stored is open at its end.
use Rattle.std.proofs.Common.{◌≡◌, ℕ, Bool, true, false, not, ◌||◌, cond, eqb, List, [], ◌∷◌, Option, Some, None, refl, sym, ap, ◌∙◌}
use Rattle.std.specs.Prelude.{is_some}
use Rattle.std.proofs.lemmas.Bool.{eqb-true}
use Rattle.inc_pending.specs.Keyed.{lookup}
use Rattle.inc_model.specs.relation.Facts.{RowFacts}
use Rattle.inc_model.specs.relation.Stages.{is_gated}
use Rattle.inc_model.specs.relation.State.{Digests, flight_row, has, is_in}
use Rattle.inc_model.specs.declared.words.event.Event.{Event}
use Rattle.inc_model.specs.declared.words.event.Window.{Window}
use Rattle.inc_model.specs.declared.words.file_state.Stage.{Stage}
use Rattle.inc_model.specs.declared.words.file_state.Stage.TheVariants.{Gated}
use Rattle.inc_model.proofs.lists.Flight.{row_found}
use Rattle.inc_cell.specs.seen.Seen.{Seen, state_now}
use Rattle.inc_filling.specs.Grouped.{AllOpen, stored_of}
use Rattle.inc_filling.specs.Stands.{KeepsOpen, StandsAt, stage_among}
use Rattle.inc_filling.proofs.lemmas.StageLemmas.{flying_row}
use Rattle.inc_filling.proofs.steps.ClaimSteps.{nothing_taken}

pub gated_open : (start : Seen) (window : Window) (left : ℕ) (stored : List ℕ) (events : List Event) (seen : Seen) → StandsAt start window left (stage_among stored Gated) events seen → AllOpen (state_now seen).map stored
gated_open start window left stored events seen h i inside =
    let s = state_now seen in
    let at = flying_row window (stage_among stored Gated i) Gated (flight_row i s.flight) (h.flies i) (ap (λ b. cond b (Some Gated) None) inside) in
    let found = row_found (RowFacts s.map s.damaged s.compressed) i s.flight at.0 at.1 h.taken.facts.flying.rows in
    ap (λ (n : ℕ). is_in n s.map) (sym found.0) ∙ sym found.1.gated ∙ ap is_gated at.3

-- a group on its way, seen from now on
pub stands_from_now : (start : Seen) (window : Window) (left : ℕ) (stages : ℕ → Option Stage) (events : List Event) (seen : Seen) → StandsAt start window left stages events seen → StandsAt seen window left stages [] seen
stands_from_now start window left stages events seen h = record {
  taken = nothing_taken seen h.taken.facts;
  left_is = h.left_is;
  flies = h.flies;
  kept = h.kept;
  sound = h.sound;
  count = refl;
}

pub still_in : (before after : Digests) → KeepsOpen before after → (i : ℕ) → is_in i before ≡ true → is_in i after ≡ true
still_in before after keeps i inside = step (lookup i before) refl
  where
    step : (found : Option (List ℕ)) → lookup i before ≡ found → is_in i after ≡ true
    step None e = absurd (let out = ap (λ (f : Option (List ℕ)). is_some f) (sym e) ∙ inside in cc)
    step (Some digest) e = ap (λ (f : Option (List ℕ)). is_some f) (keeps i digest e)

pub still_all : (before after : Digests) (indices : List ℕ) → KeepsOpen before after → AllOpen before indices → AllOpen after indices
still_all before after indices keeps all i inside = still_in before after keeps i (all i inside)

-- what isn't open is stored
has_stored : (open_before : Digests) (indices : List ℕ) (i : ℕ) → has i indices ≡ true → is_in i open_before ≡ false → has i (stored_of open_before indices) ≡ true
has_stored open_before [] i inside absent = absurd (cc)
has_stored open_before (x ∷ xs) i inside absent = step (λ there. has_stored open_before xs i there absent) (eqb i x) refl inside
  where
    or_later : (c : Bool) → has i (stored_of open_before xs) ≡ true → (c || has i (stored_of open_before xs)) ≡ true
    or_later true e = refl
    or_later false e = e

    rest : (b : Bool) → has i (stored_of open_before xs) ≡ true → has i (cond b (x ∷ stored_of open_before xs) (stored_of open_before xs)) ≡ true
    rest true there = or_later (eqb i x) there
    rest false there = there

    step : (has i xs ≡ true → has i (stored_of open_before xs) ≡ true) → (b : Bool) → eqb i x ≡ b → (b || has i xs) ≡ true → has i (cond (not (is_in x open_before)) (x ∷ stored_of open_before xs) (stored_of open_before xs)) ≡ true
    step later true e there =
        let own : is_in x open_before ≡ false = ap (λ (n : ℕ). is_in n open_before) (sym (eqb-true i x e)) ∙ absent in
        ap (λ b. has i (cond (not b) (x ∷ stored_of open_before xs) (stored_of open_before xs))) own ∙ ap (λ b. b || has i (stored_of open_before xs)) e
    step later false e there = rest (not (is_in x open_before)) (later there)

-- each index of a group is open: it was so before, or it was stored
pub all_open : (before after : Digests) (indices : List ℕ) → KeepsOpen before after → AllOpen after (stored_of before indices) → AllOpen after indices
all_open before after indices keeps stored i inside = step (is_in i before) refl
  where
    step : (b : Bool) → is_in i before ≡ b → is_in i after ≡ true
    step true e = still_in before after keeps i e
    step false e = stored i (has_stored before indices i inside e)
