-- Who may go on: what the table's replies that want the disk say of the state.
use Rattle.std.proofs.Common.{◌≡◌, ℕ, ◌<◌, Bool, true, false, cond, eqb, List, [], ◌∷◌, Option, Some, None, refl, arith}
use Rattle.std.specs.Prelude.{All}
use Rattle.std.proofs.lemmas.Bool.{eqb-true}
use Rattle.std.proofs.lemmas.List.Elements.{All-head, All-tail}
use Rattle.inc_pending.specs.Keyed.{lookup}
use Rattle.inc_model.specs.relation.Stages.{is_settled, is_written}
use Rattle.inc_model.specs.relation.State.{Digests}
use Rattle.inc_model.specs.relation.Step.{may_fail}
use Rattle.inc_model.specs.relation.Table.{flight_reply, place_reply, put_reply, unless_failed}
use Rattle.inc_model.specs.declared.words.file_state.FlightRow.{FlightRow}
use Rattle.inc_model.specs.declared.words.file_state.Stage.{Stage}
use Rattle.inc_model.specs.declared.words.file_state.Stage.TheVariants.{Written as written_stage, Placed as placed_stage, Settled as settled_stage, Gated as gated_stage}

pub written_is : (stage : Stage) → is_written stage ≡ true → stage ≡ written_stage
written_is written_stage e = refl
written_is placed_stage e = absurd (cc)
written_is settled_stage e = absurd (cc)
written_is gated_stage e = absurd (cc)

pub settled_is : (stage : Stage) → is_settled stage ≡ true → stage ≡ settled_stage
settled_is written_stage e = absurd (cc)
settled_is placed_stage e = absurd (cc)
settled_is settled_stage e = refl
settled_is gated_stage e = absurd (cc)

pub may_place : (failed : Option ℕ) (mine : Bool) → may_fail (unless_failed failed (place_reply mine)) ≡ true → mine ≡ true
may_place (Some at) mine e = absurd (cc)
may_place None true e = refl
may_place None false e = absurd (cc)

pub may_put : (failed : Option ℕ) (past damaged compressed : Bool) (row : Option FlightRow) (present : Bool) (digest : List ℕ) → may_fail (unless_failed failed (put_reply past damaged compressed (flight_reply row present digest))) ≡ true
    → (failed ≡ None) × (past ≡ false) × (damaged ≡ false) × (compressed ≡ false) × (row ≡ None) × (present ≡ false)
may_put (Some at) past damaged compressed row present digest e = absurd (cc)
may_put None true damaged compressed row present digest e = absurd (cc)
may_put None false true compressed row present digest e = absurd (cc)
may_put None false false true row present digest e = absurd (cc)
may_put None false false false (Some row) present digest e = absurd (cc)
may_put None false false false None true digest e = absurd (cc)
may_put None false false false None false digest e = (refl, refl, refl, refl, refl, refl)

pub lookup_within : (most i : ℕ) (digest : List ℕ) (rows : Digests) → All (λ row. row.0 < most) rows → lookup i rows ≡ Some digest → i < most
lookup_within most i digest [] within e = absurd (cc)
lookup_within most i digest (row ∷ rows) within e = step (lookup_within most i digest rows (All-tail (λ (r : ℕ × List ℕ). r.0 < most) row rows within)) (eqb i row.0) refl e
  where
    step : (lookup i rows ≡ Some digest → i < most) → (b : Bool) → eqb i row.0 ≡ b → cond b (Some row.1) (lookup i rows) ≡ Some digest → i < most
    step rest true t e' = let same = eqb-true i row.0 t in let lt = All-head (λ (r : ℕ × List ℕ). r.0 < most) row rows within in omega arith
    step rest false t e' = rest e'
