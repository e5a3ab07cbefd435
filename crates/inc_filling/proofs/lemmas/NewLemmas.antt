-- A new cell may be filled, and so may one after each group that came to its end.
use Rattle.std.proofs.Common.{◌≡◌, ℕ, Bool, true, false, ◌||◌, cond, eqb, List, [], ◌∷◌, Some, refl, sym, ap, subst, ◌∙◌}
use Rattle.std.specs.Prelude.{is_some}
use Rattle.inc_pending.specs.Keyed.{lookup}
use Rattle.inc_disk.specs.Disk.{DiskState}
use Rattle.inc_layout.specs.opening.Opening.{IsSoundOpened}
use Rattle.inc_layout.specs.declared.opened.Opened.{Opened}
use Rattle.inc_model.specs.relation.State.{Digests, IsSameFile, flight_row, has, is_in, keys_of}
use Rattle.inc_model.specs.declared.words.file_state.FileState.{FileState}
use Rattle.inc_model.proofs.facts_kept.Step.{opening_facts}
use Rattle.inc_cell.specs.laws.Laws.{BeginsAs}
use Rattle.inc_cell.specs.seen.Opens.{cell_on}
use Rattle.inc_cell.specs.seen.Parts.{opening_of}
use Rattle.inc_cell.specs.seen.Seen.{Seen, state_now}
use Rattle.inc_cell.proofs.standing.KindLemmas.{same_index}
use Rattle.inc_cell.proofs.openings.OpeningLemmas.{begins_as}
use Rattle.inc_filling.specs.Fillable.{IsFillable}
use Rattle.inc_filling.specs.Refusals.{IsStateOfFile}
use Rattle.inc_filling.specs.Stands.{IsReleased}
use Rattle.inc_model.specs.declared.words.event.Event.{Event}

key_of : (i : ℕ) (rows : Digests) → is_in i rows ≡ true → has i (keys_of rows) ≡ true
key_of i [] e = e
key_of i (row ∷ rows) e = step (eqb i row.0) (λ rest. key_of i rows rest) e
  where
    step : (b : Bool) → (is_in i rows ≡ true → has i (keys_of rows) ≡ true) → is_some (cond b (Some row.1) (lookup i rows)) ≡ true → (b || has i (keys_of rows)) ≡ true
    step true rest t = refl
    step false rest t = rest t

pub of_file : (opened : Opened) (s : FileState) → BeginsAs opened s → IsStateOfFile opened s
of_file opened s h = record {
  data_is = sym h.told.state.data_is;
  hash_is = sym h.told.state.hash_is;
  damaged_is = λ i. sym (same_index s.damaged i) ∙ h.told.damaged_is i;
  compressed_is = λ i. sym (same_index s.compressed i) ∙ h.told.compressed_is i;
}

pub new_fillable : (states : List DiskState) (faults readers : ℕ) (opened : Opened) → IsSoundOpened opened → IsFillable (cell_on states faults opened readers)
new_fillable states faults readers opened sound =
    let s = opening_of opened faults readers in
    let begins = begins_as opened sound faults readers in
    record {
      idle = record {
        facts = opening_facts s begins.opening;
        none_flies = λ i. ap (flight_row i) begins.opening.no_flight;
        none_claimed = begins.opening.no_claims;
        acknowledged = λ i inside. ap (has i) begins.opening.acknowledged ∙ key_of i s.map inside;
      };
      of_file = of_file opened s begins;
    }

stays_of_file : (opened : Opened) (s t : FileState) → IsSameFile s t → IsStateOfFile opened s → IsStateOfFile opened t
stays_of_file opened s t same h = record {
  data_is = same.1 ∙ h.data_is;
  hash_is = same.2 ∙ h.hash_is;
  damaged_is = λ i. ap (has i) same.4 ∙ h.damaged_is i;
  compressed_is = λ i. ap (has i) same.5 ∙ h.compressed_is i;
}

pub still_fillable : (old new : Seen) (events : List Event) → IsFillable old → IsReleased old events new → IsFillable new
still_fillable old new events h released = record {
  idle = released.idle;
  of_file = subst (λ (o : Opened). IsStateOfFile o (state_now new)) (sym released.taken.opened) (stays_of_file old.opened (state_now old) (state_now new) released.taken.same h.of_file);
}
