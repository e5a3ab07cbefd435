-- What a sync acknowledges, row by row.
use Rattle.std.proofs.Common.{◌≡◌, ℕ, ◌+◌, ◌<◌, ◌≤◌, cond, List, [], ◌∷◌, ◌++◌, length, get_or, take, refl, sym, ap, ◌∙◌, arith}
use Rattle.std.specs.Prelude.{count_by}
use Rattle.std.proofs.lemmas.List.{take_more}
use Rattle.std.proofs.lemmas.List.Sums.{sum_by-append, count_by-le-length}
use Rattle.inc_model.specs.declared.words.file_state.FlightRow.{FlightRow}
use Rattle.inc_model.specs.relation.State.{with_index}
use Rattle.inc_model.specs.executed.IndexLists.{IndexLists}
use Rattle.inc_model.specs.relation.Stages.{is_gated, acknowledge}

acknowledge_both : (rows more : List FlightRow) (indices : List ℕ) → acknowledge (rows ++ more) indices ≡ acknowledge more (acknowledge rows indices)
acknowledge_both [] more indices = refl
acknowledge_both (row ∷ rows) more indices = acknowledge_both rows more (cond (is_gated row.stage) (with_index row.index indices) indices)

pub acknowledge_take : (rows : List FlightRow) (i : ℕ) (d : FlightRow) (indices : List ℕ) → i < length rows → acknowledge (take (i + 1) rows) indices ≡ acknowledge (get_or rows i d ∷ []) (acknowledge (take i rows) indices)
acknowledge_take rows i d indices lt = ap (λ l. acknowledge l indices) (take_more rows i d lt) ∙ acknowledge_both (take i rows) (get_or rows i d ∷ []) indices

pub gated_take : (rows : List FlightRow) (i : ℕ) (d : FlightRow) → i < length rows → count_by (λ (row : FlightRow). is_gated row.stage) (take (i + 1) rows) ≡ count_by (λ (row : FlightRow). is_gated row.stage) (take i rows) + count_by (λ (row : FlightRow). is_gated row.stage) (get_or rows i d ∷ [])
gated_take rows i d lt =
    ap (λ l. count_by (λ (row : FlightRow). is_gated row.stage) l) (take_more rows i d lt) ∙ sum_by-append (λ (row : FlightRow). cond (is_gated row.stage) 1 0) (take i rows) (get_or rows i d ∷ [])

pub acknowledged_step : (old now new : IndexLists) (rows : List FlightRow) (i : ℕ) (d : FlightRow) → i < length rows → now ≡ record old { acknowledged = acknowledge (take i rows) old.acknowledged } → new ≡ record now { acknowledged = acknowledge (get_or rows i d ∷ []) now.acknowledged } → new ≡ record old { acknowledged = acknowledge (take (i + 1) rows) old.acknowledged }
acknowledged_step old now new rows i d lt now-is new-is =
    new-is
    ∙ ap (λ (l : IndexLists). record l { acknowledged = acknowledge (get_or rows i d ∷ []) l.acknowledged }) now-is
    ∙ ap (λ (indices : List ℕ). record old { acknowledged = indices }) (sym (acknowledge_take rows i d old.acknowledged lt))

-- room is spent row by row, and enough is left for the others
module _ (rows : List FlightRow) (i : ℕ) (d : FlightRow) (now new : ℕ) (lt : i < length rows) (less : now ≤ new + count_by (λ (row : FlightRow). is_gated row.stage) (get_or rows i d ∷ [])) where
  pub spent_step : (old : ℕ) → old ≤ now + count_by (λ (row : FlightRow). is_gated row.stage) (take i rows) → old ≤ new + count_by (λ (row : FlightRow). is_gated row.stage) (take (i + 1) rows)
  spent_step old le = omega (arith, gated_take rows i d lt)

  pub left_step : length rows ≤ now + i → length rows ≤ new + (i + 1)
  left_step le = omega (arith, count_by-le-length (λ (row : FlightRow). is_gated row.stage) (get_or rows i d ∷ []))
