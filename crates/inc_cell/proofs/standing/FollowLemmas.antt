-- What the bytes know of each index follows the state through every change of it.
use Rattle.std.proofs.Common.{◌≡◌, ◌⊎◌, inl, inr, ℕ, Bool, true, false, not, cond, List, Option, Some, None, refl, sym, ap, subst, ◌∙◌}
use Rattle.std.specs.Prelude.{option_map}
use Rattle.std.proofs.lemmas.Bool.{cases_eq, eq-eqb, ne_eqb}
use Rattle.inc_pending.specs.Keyed.{lookup, insert}
use Rattle.inc_pending.proofs.KeyedLemmas.{lookup_insert}
use Rattle.inc_entry.specs.Keeps.{Kind, Acknowledged, Begun}
use Rattle.inc_fill.specs.Facts.{Row, SameBut, row_at, Placed, Gated}
use Rattle.inc_fill.specs.Laws.{SaysAsMuch}
use Rattle.inc_layout.specs.state.State.{StateParts, kind_in}
use Rattle.inc_model.specs.relation.State.{Digests, FlightRises, flight_row, fly, is_same, land}
use Rattle.inc_model.specs.relation.Stages.{gated, gated_row, is_gated, placed, placed_row}
use Rattle.inc_model.specs.declared.words.event.Window.{Window}
use Rattle.inc_model.specs.declared.words.file_state.FlightRow.{FlightRow}
use Rattle.inc_model.specs.declared.words.file_state.Stage.{Stage}
use Rattle.inc_model.specs.declared.words.file_state.Stage.TheVariants.{Written as written_stage, Placed as placed_stage, Settled as settled_stage, Gated as gated_stage}
use Rattle.inc_model.proofs.lists.Flight.{row_fly}
use Rattle.inc_cell.specs.seen.Standing.{Follows, IsResting, fill_row, fill_stage}
use Rattle.inc_cell.proofs.standing.FlightLemmas.{is_others, kept_row, row_gated, row_index, row_land, row_new, row_placed}

pub no_row : {P : Type 0} (found : FlightRow) → None ≡ Some found → P
no_row found e = absurd (cc)

pub one_row : (a b : FlightRow) → Some a ≡ Some b → a ≡ b
one_row a b e = cc

-- an index that isn't in the map and not in flight has no row
pub no_rest : (found : Option (List ℕ)) (row : Option Row) → found ≡ None → IsResting found row → row ≡ None
no_rest found row none (inl is) = is
no_rest found row none (inr gated) = absurd (let there = gated.1 in cc)

-- ---- a block was put

pub put_follows : (parts : StateParts) (digests : Digests) (flight : List FlightRow) (kind : ℕ → Kind) (row row' : ℕ → Option Row) (new : FlightRow)
    → Follows parts digests flight kind row → flight_row new.index flight ≡ None → lookup new.index digests ≡ None → SameBut new.index row row' → row' new.index ≡ Some (fill_row new)
    → Follows parts digests (fly new flight) kind row'
put_follows parts digests flight kind row row' new f free absent same now = record { covers = f.covers; flying = flying; resting = resting; opens = opens }
  where
    here : flight_row new.index (fly new flight) ≡ Some new
    here = row_new new flight free

    other : (i : ℕ) → (i ≡ new.index → ⊥) → flight_row i (fly new flight) ≡ flight_row i flight
    other i ne = row_fly i new flight (ne_eqb new.index i (λ e. ne (sym e)))

    flying : (i : ℕ) (found : FlightRow) → flight_row i (fly new flight) ≡ Some found → row' i ≡ Some (fill_row found)
    flying i found e = elim (cases_eq i new.index) [
      | inl is ↦
          let at : flight_row i (fly new flight) ≡ Some new = ap (λ k. flight_row k (fly new flight)) is ∙ here in
          ap row' is ∙ now ∙ ap (λ (r : FlightRow). Some (fill_row r)) (one_row new found (sym at ∙ e))
      | inr ne ↦ same i ne ∙ f.flying i found (sym (other i ne) ∙ e)
    ]

    resting : (i : ℕ) → flight_row i (fly new flight) ≡ None → IsResting (lookup i digests) (row' i)
    resting i e = elim (cases_eq i new.index) [
      | inl is ↦ no_row new (sym e ∙ ap (λ k. flight_row k (fly new flight)) is ∙ here)
      | inr ne ↦ subst (IsResting (lookup i digests)) (sym (same i ne)) (f.resting i (sym (other i ne) ∙ e))
    ]

    opens : (i : ℕ) (digest : List ℕ) → lookup i digests ≡ Some digest → (kind i ≡ Acknowledged digest) ⊎ (row' i ≡ Some (row_at digest Gated))
    opens i digest e = elim (cases_eq i new.index) [
      | inl is ↦ absurd (let none : lookup i digests ≡ None = ap (λ k. lookup k digests) is ∙ absent in cc)
      | inr ne ↦ elim (f.opens i digest e) [ inl known ↦ inl known | inr behind ↦ inr (same i ne ∙ behind) ]
    ]

-- ---- its place was written

placed_at : (j : ℕ) (found : FlightRow) → found.index ≡ j → placed_row j found ≡ record found { stage = placed_stage }
placed_at j found e = ap (λ b. cond b (record found { stage = placed_stage }) found) (eq-eqb found.index j e)

placed_other : (j : ℕ) (found : FlightRow) → (found.index ≡ j → ⊥) → placed_row j found ≡ found
placed_other j found ne = ap (λ b. cond b (record found { stage = placed_stage }) found) (ne_eqb found.index j ne)

-- what is found after a change was found before, and what isn't wasn't
pub mapped_some : (f : FlightRow → FlightRow) (was : Option FlightRow) (found : FlightRow) → option_map f was ≡ Some found → (before : FlightRow) × (was ≡ Some before) × (found ≡ f before)
mapped_some f None found e = no_row found e
mapped_some f (Some before) found e = (before, refl, sym (one_row (f before) found e))

mapped_none : (f : FlightRow → FlightRow) (was : Option FlightRow) → option_map f was ≡ None → was ≡ None
mapped_none f None e = refl
mapped_none f (Some before) e = no_row (f before) (sym e)

-- the row of one index goes to another stage
module _ (f : FlightRow → FlightRow) (stage : Stage) (j : ℕ) (here : (found : FlightRow) → found.index ≡ j → f found ≡ record found { stage = stage }) (there : (found : FlightRow) → (found.index ≡ j → ⊥) → f found ≡ found) where
  staged_flying : (flight flight' : List FlightRow) (row row' : ℕ → Option Row) → ((i : ℕ) → flight_row i flight' ≡ option_map f (flight_row i flight))
      → ((i : ℕ) (found : FlightRow) → flight_row i flight ≡ Some found → row i ≡ Some (fill_row found))
      → (digest : List ℕ) → ((found : FlightRow) → flight_row j flight ≡ Some found → found.digest ≡ digest) → SameBut j row row' → row' j ≡ Some (row_at digest (fill_stage stage))
      → (i : ℕ) (found : FlightRow) → flight_row i flight' ≡ Some found → row' i ≡ Some (fill_row found)
  staged_flying flight flight' row row' looked flying digest own same now i found e =
      let was = mapped_some f (flight_row i flight) found (sym (looked i) ∙ e) in
      let index : was.0.index ≡ i = row_index i flight was.0 was.1 in
      elim (cases_eq i j) [
        | inl is ↦
            let to : found ≡ record (was.0) { stage = stage } = was.2 ∙ here was.0 (index ∙ is) in
            let digest_is : was.0.digest ≡ digest = own was.0 (ap (λ k. flight_row k flight) (sym is) ∙ was.1) in
            ap row' is ∙ now ∙ ap (λ d. Some (row_at d (fill_stage stage))) (sym digest_is) ∙ ap (λ (r : FlightRow). Some (fill_row r)) (sym to)
        | inr ne ↦ same i ne ∙ flying i was.0 was.1 ∙ ap (λ (r : FlightRow). Some (fill_row r)) (sym (was.2 ∙ there was.0 (λ e'. ne (sym index ∙ e'))))
      ]

pub place_follows : (parts : StateParts) (digests : Digests) (flight : List FlightRow) (kind : ℕ → Kind) (row row' : ℕ → Option Row) (j : ℕ) (found : FlightRow)
    → Follows parts digests flight kind row → flight_row j flight ≡ Some found → lookup j digests ≡ None → SameBut j row row' → row' j ≡ Some (row_at found.digest Placed)
    → Follows parts digests (placed j flight) kind row'
place_follows parts digests flight kind row row' j found f is absent same now = record {
  covers = f.covers;
  flying = staged_flying (placed_row j) placed_stage j (placed_at j) (placed_other j) flight (placed j flight) row row' (λ i. row_placed j i flight) f.flying found.digest (λ other e. ap (λ (r : FlightRow). r.digest) (one_row other found (sym e ∙ is))) same now;
  resting = resting;
  opens = opens;
}
  where
    resting : (i : ℕ) → flight_row i (placed j flight) ≡ None → IsResting (lookup i digests) (row' i)
    resting i e =
        let none = mapped_none (placed_row j) (flight_row i flight) (sym (row_placed j i flight) ∙ e) in
        elim (cases_eq i j) [
          | inl at ↦ no_row found (sym none ∙ ap (λ k. flight_row k flight) at ∙ is)
          | inr ne ↦ subst (IsResting (lookup i digests)) (sym (same i ne)) (f.resting i none)
        ]

    opens : (i : ℕ) (digest : List ℕ) → lookup i digests ≡ Some digest → (kind i ≡ Acknowledged digest) ⊎ (row' i ≡ Some (row_at digest Gated))
    opens i digest e = elim (cases_eq i j) [
      | inl at ↦ absurd (let none : lookup i digests ≡ None = ap (λ k. lookup k digests) at ∙ absent in cc)
      | inr ne ↦ elim (f.opens i digest e) [ inl known ↦ inl known | inr behind ↦ inr (same i ne ∙ behind) ]
    ]

-- ---- its gate's write began

-- of the index that is begun the bytes know just that, and of every other one what they did
pub begun_covers : (parts parts' : StateParts) (kind kind' : ℕ → Kind) (j : ℕ) (digest : List ℕ) → ((i : ℕ) → SaysAsMuch (kind i) (kind_in parts i)) → SameBut j kind kind' → kind' j ≡ Begun digest
    → kind_in parts' j ≡ Begun digest → SameBut j (kind_in parts) (kind_in parts') → (i : ℕ) → SaysAsMuch (kind' i) (kind_in parts' i)
begun_covers parts parts' kind kind' j digest covers same begun begun_now stays i = elim (cases_eq i j) [
  | inl is ↦
      subst (λ (k : Kind). SaysAsMuch (kind' i) k) (sym (ap (kind_in parts') is ∙ begun_now)) (inl (ap kind' is ∙ begun))
  | inr ne ↦
      subst (λ (k : Kind). SaysAsMuch k (kind_in parts' i)) (sym (same i ne)) (subst (λ (k : Kind). SaysAsMuch (kind i) k) (sym (stays i ne)) (covers i))
]

-- the write failed: the map and the flight stay
pub begin_follows : (parts parts' : StateParts) (digests : Digests) (flight : List FlightRow) (kind kind' : ℕ → Kind) (row : ℕ → Option Row) (j : ℕ) (digest : List ℕ)
    → Follows parts digests flight kind row → lookup j digests ≡ None → SameBut j kind kind' → kind' j ≡ Begun digest → kind_in parts' j ≡ Begun digest → SameBut j (kind_in parts) (kind_in parts')
    → Follows parts' digests flight kind' row
begin_follows parts parts' digests flight kind kind' row j digest f absent same begun begun_now stays = record {
  covers = begun_covers parts parts' kind kind' j digest f.covers same begun begun_now stays;
  flying = f.flying;
  resting = f.resting;
  opens = opens;
}
  where
    opens : (i : ℕ) (d : List ℕ) → lookup i digests ≡ Some d → (kind' i ≡ Acknowledged d) ⊎ (row i ≡ Some (row_at d Gated))
    opens i d e = elim (cases_eq i j) [
      | inl at ↦ absurd (let none : lookup i digests ≡ None = ap (λ k. lookup k digests) at ∙ absent in cc)
      | inr ne ↦ elim (f.opens i d e) [ inl known ↦ inl (same i ne ∙ known) | inr behind ↦ inr behind ]
    ]

gated_at : (j : ℕ) (found : FlightRow) → found.index ≡ j → gated_row j found ≡ record found { stage = gated_stage }
gated_at j found e = ap (λ b. cond b (record found { stage = gated_stage }) found) (eq-eqb found.index j e)

gated_other : (j : ℕ) (found : FlightRow) → (found.index ≡ j → ⊥) → gated_row j found ≡ found
gated_other j found ne = ap (λ b. cond b (record found { stage = gated_stage }) found) (ne_eqb found.index j ne)

-- the entry is open: the index is in the map
pub open_follows : (parts parts' : StateParts) (digests : Digests) (flight : List FlightRow) (kind kind' : ℕ → Kind) (row row' : ℕ → Option Row) (j : ℕ) (found : FlightRow)
    → Follows parts digests flight kind row → flight_row j flight ≡ Some found → SameBut j kind kind' → kind' j ≡ Begun found.digest → kind_in parts' j ≡ Begun found.digest → SameBut j (kind_in parts) (kind_in parts')
    → SameBut j row row' → row' j ≡ Some (row_at found.digest Gated)
    → Follows parts' (insert j found.digest digests) (gated j flight) kind' row'
open_follows parts parts' digests flight kind kind' row row' j found f is same_kind begun begun_now stays same now = record {
  covers = begun_covers parts parts' kind kind' j found.digest f.covers same_kind begun begun_now stays;
  flying = staged_flying (gated_row j) gated_stage j (gated_at j) (gated_other j) flight (gated j flight) row row' (λ i. row_gated j i flight) f.flying found.digest (λ other e. ap (λ (r : FlightRow). r.digest) (one_row other found (sym e ∙ is))) same now;
  resting = resting;
  opens = opens;
}
  where
    other : (i : ℕ) → (i ≡ j → ⊥) → lookup i (insert j found.digest digests) ≡ lookup i digests
    other i ne = lookup_insert i j found.digest digests ∙ ap (λ b. cond b (Some found.digest) (lookup i digests)) (ne_eqb i j ne)

    here : (i : ℕ) → i ≡ j → lookup i (insert j found.digest digests) ≡ Some found.digest
    here i at = lookup_insert i j found.digest digests ∙ ap (λ b. cond b (Some found.digest) (lookup i digests)) (eq-eqb i j at)

    resting : (i : ℕ) → flight_row i (gated j flight) ≡ None → IsResting (lookup i (insert j found.digest digests)) (row' i)
    resting i e =
        let none = mapped_none (gated_row j) (flight_row i flight) (sym (row_gated j i flight) ∙ e) in
        elim (cases_eq i j) [
          | inl at ↦ no_row found (sym none ∙ ap (λ k. flight_row k flight) at ∙ is)
          | inr ne ↦
              subst (λ (o : Option (List ℕ)). IsResting o (row' i)) (sym (other i ne)) (subst (IsResting (lookup i digests)) (sym (same i ne)) (f.resting i none))
        ]

    opens : (i : ℕ) (digest : List ℕ) → lookup i (insert j found.digest digests) ≡ Some digest → (kind' i ≡ Acknowledged digest) ⊎ (row' i ≡ Some (row_at digest Gated))
    opens i digest e = elim (cases_eq i j) [
      | inl at ↦
          let digest_is : found.digest ≡ digest = (let both = sym (here i at) ∙ e in cc) in
          inr (ap row' at ∙ now ∙ ap (λ d. Some (row_at d Gated)) digest_is)
      | inr ne ↦ elim (f.opens i digest (sym (other i ne) ∙ e)) [ inl known ↦ inl (same_kind i ne ∙ known) | inr behind ↦ inr (same i ne ∙ behind) ]
    ]

-- ---- a window was released

-- its rows go, but for those whose gate is written
abbrev pub gated_only : Stage → Option Row → Option Row
gated_only gated_stage row = row
gated_only stage row = None

abbrev pub released_row : Window → Option FlightRow → Option Row → Option Row
released_row window None row = row
released_row window (Some found) row = cond (is_same window found.window) (gated_only found.stage row) row

gated_some : (stage : Stage) (row : Option Row) → is_gated stage ≡ true → gated_only stage row ≡ row
gated_some written_stage row e = absurd (cc)
gated_some placed_stage row e = absurd (cc)
gated_some settled_stage row e = absurd (cc)
gated_some gated_stage row e = refl

gated_none : (stage : Stage) (row : Option Row) → is_gated stage ≡ false → gated_only stage row ≡ None
gated_none written_stage row e = refl
gated_none placed_stage row e = refl
gated_none settled_stage row e = refl
gated_none gated_stage row e = absurd (cc)

pub gated_is : (stage : Stage) → is_gated stage ≡ true → stage ≡ gated_stage
gated_is written_stage e = absurd (cc)
gated_is placed_stage e = absurd (cc)
gated_is settled_stage e = absurd (cc)
gated_is gated_stage e = refl

-- nothing new is known
pub released_less : (window : Window) (found : Option FlightRow) (row : Option Row) → (released_row window found row ≡ row) ⊎ (released_row window found row ≡ None)
released_less window None row = inl refl
released_less window (Some found) row = step (is_same window found.window) found.stage
  where
    step : (b : Bool) (stage : Stage) → (cond b (gated_only stage row) row ≡ row) ⊎ (cond b (gated_only stage row) row ≡ None)
    step false stage = inl refl
    step true gated_stage = inl refl
    step true written_stage = inr refl
    step true placed_stage = inr refl
    step true settled_stage = inr refl

pub release_follows : (parts : StateParts) (digests : Digests) (flight : List FlightRow) (kind : ℕ → Kind) (row : ℕ → Option Row) (window : Window)
    → FlightRises flight → ((i : ℕ) (found : FlightRow) → flight_row i flight ≡ Some found → is_gated found.stage ≡ true → lookup i digests ≡ Some found.digest)
    → ((i : ℕ) (found : FlightRow) → flight_row i flight ≡ Some found → is_gated found.stage ≡ false → lookup i digests ≡ None)
    → Follows parts digests flight kind row → Follows parts digests (land window flight) kind (λ i. released_row window (flight_row i flight) (row i))
release_follows parts digests flight kind row window once own out f = record { covers = f.covers; flying = flying; resting = resting; opens = opens }
  where
    -- a row of another window stays
    flying_by : (was : Option FlightRow) (known : Option Row) (found : FlightRow) → ((before : FlightRow) → was ≡ Some before → known ≡ Some (fill_row before)) → kept_row (is_others window) was ≡ Some found → released_row window was known ≡ Some (fill_row found)
    flying_by None known found said e = no_row found e
    flying_by (Some before) known found said e = step (is_same window before.window) refl e
      where
        step : (b : Bool) → is_same window before.window ≡ b → cond (not b) (Some before) None ≡ Some found → cond b (gated_only before.stage known) known ≡ Some (fill_row found)
        step true t e = no_row found e
        step false t e = said before refl ∙ ap (λ (r : FlightRow). Some (fill_row r)) (one_row before found e)

    flying : (i : ℕ) (found : FlightRow) → flight_row i (land window flight) ≡ Some found → released_row window (flight_row i flight) (row i) ≡ Some (fill_row found)
    flying i found e = flying_by (flight_row i flight) (row i) found (f.flying i) (sym (row_land window i flight once) ∙ e)

    resting_by : (i : ℕ) (was : Option FlightRow) → flight_row i flight ≡ was → kept_row (is_others window) was ≡ None → IsResting (lookup i digests) (released_row window was (row i))
    resting_by i None at e = f.resting i at
    resting_by i (Some before) at e = step (is_same window before.window) refl e (is_gated before.stage) refl
      where
        step : (b : Bool) → is_same window before.window ≡ b → cond (not b) (Some before) None ≡ None → (g : Bool) → is_gated before.stage ≡ g → IsResting (lookup i digests) (cond b (gated_only before.stage (row i)) (row i))
        step false t e g stage = no_row before (sym e)
        step true t e false stage = inl (gated_none before.stage (row i) stage)
        step true t e true stage =
            inr (before.digest, own i before at stage, gated_some before.stage (row i) stage ∙ f.flying i before at ∙ ap (λ (st : Stage). Some (row_at before.digest (fill_stage st))) (gated_is before.stage stage))

    resting : (i : ℕ) → flight_row i (land window flight) ≡ None → IsResting (lookup i digests) (released_row window (flight_row i flight) (row i))
    resting i e = resting_by i (flight_row i flight) refl (sym (row_land window i flight once) ∙ e)

    opens_by : (i : ℕ) (digest : List ℕ) (was : Option FlightRow) → flight_row i flight ≡ was → lookup i digests ≡ Some digest → row i ≡ Some (row_at digest Gated) → released_row window was (row i) ≡ Some (row_at digest Gated)
    opens_by i digest None at e behind = behind
    opens_by i digest (Some before) at e behind = step (is_same window before.window) (is_gated before.stage) refl
      where
        step : (b g : Bool) → is_gated before.stage ≡ g → cond b (gated_only before.stage (row i)) (row i) ≡ Some (row_at digest Gated)
        step false g stage = behind
        step true true stage = gated_some before.stage (row i) stage ∙ behind
        step true false stage = absurd (let none = out i before at stage in cc)

    opens : (i : ℕ) (digest : List ℕ) → lookup i digests ≡ Some digest → (kind i ≡ Acknowledged digest) ⊎ (released_row window (flight_row i flight) (row i) ≡ Some (row_at digest Gated))
    opens i digest e = elim (f.opens i digest e) [ inl known ↦ inl known | inr behind ↦ inr (opens_by i digest (flight_row i flight) refl e behind) ]
