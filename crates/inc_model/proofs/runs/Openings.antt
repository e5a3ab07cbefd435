-- Openings made of lists, and reopenings told by lists.
use Rattle.std.proofs.Common.{◌≡◌, ℕ, ◌+◌, Bool, true, false, cond, eqb, List, [], ◌∷◌, get_or, Option, Some, None, refl, sym, ap, ◌∙◌, inl, inr}
use Rattle.std.specs.Prelude.{All, filter, map}
use Rattle.std.proofs.lemmas.Bool.{eqb-true, eq-eqb, or_left, or_right}
use Rattle.std.proofs.lemmas.List.Elements.{All-nil, All-cons, All-head, All-tail}
use Rattle.inc_pending.specs.Keyed.{lookup}
use Rattle.inc_model.specs.declared.words.file_state.FileState.{FileState}
use Rattle.inc_model.specs.relation.State.{Digests, has, Rise, IsOpening}
use Rattle.inc_model.specs.histories.Worlds.{IsReopening}
use Rattle.inc_model.specs.relation.Openings.{OpenedLists, AreOpeningLists, opening_state, acknowledged_rows, IsReopenedAs}
use Rattle.inc_model.proofs.lists.Rising.{same_indices}

pub lists_open : (id : List ℕ) (n m : ℕ) (root : Option (List ℕ)) (lists : OpenedLists) (faults readers : ℕ) → AreOpeningLists (n + m) lists → IsOpening (opening_state id n m root lists faults readers)
lists_open id n m root lists faults readers h = record {
  map_rises = h.held_rises;
  map_within = h.held_within;
  damaged_rises = h.damaged_rises;
  damaged_within = h.damaged_within;
  compressed_rises = h.compressed_rises;
  compressed_within = h.compressed_within;
  sound = h.sound;
  apart = h.apart;
  acknowledged = refl;
  next = refl;
  no_reads = refl;
  no_times = refl;
  no_flight = refl;
  no_claims = refl;
  none_begun = refl;
  not_failed = refl;
}

-- ---- the acknowledged rows

rows_looked_up : (acknowledged : List ℕ) (q : ℕ) (rows : Digests) → lookup q (filter (λ row. has row.0 acknowledged) rows) ≡ cond (has q acknowledged) (lookup q rows) None
rows_looked_up acknowledged q [] = either_way (has q acknowledged) None
  where
    either_way : (b : Bool) (found : Option (List ℕ)) → found ≡ cond b found found
    either_way true found = refl
    either_way false found = refl
rows_looked_up acknowledged q (row ∷ rows) = step (has row.0 acknowledged) refl (eqb q row.0) refl (rows_looked_up acknowledged q rows)
  where
    step : (b : Bool) → has row.0 acknowledged ≡ b → (c : Bool) → eqb q row.0 ≡ c → lookup q (filter (λ (r : ℕ × List ℕ). has r.0 acknowledged) rows) ≡ cond (has q acknowledged) (lookup q rows) None
        → lookup q (cond b (row ∷ filter (λ (r : ℕ × List ℕ). has r.0 acknowledged) rows) (filter (λ (r : ℕ × List ℕ). has r.0 acknowledged) rows)) ≡ cond (has q acknowledged) (cond c (Some row.1) (lookup q rows)) None
    step true t true c rest = ap (λ x. cond x (Some row.1) (lookup q (filter (λ (r : ℕ × List ℕ). has r.0 acknowledged) rows))) c ∙ sym (ap (λ x. cond x (Some row.1) None) (ap (λ i. has i acknowledged) (eqb-true q row.0 c) ∙ t))
    step true t false c rest = ap (λ x. cond x (Some row.1) (lookup q (filter (λ (r : ℕ × List ℕ). has r.0 acknowledged) rows))) c ∙ rest
    step false t true c rest =
        let out : has q acknowledged ≡ false = ap (λ i. has i acknowledged) (eqb-true q row.0 c) ∙ t in
        rest ∙ ap (λ x. cond x (lookup q rows) None) out ∙ sym (ap (λ x. cond x (Some row.1) None) out)
    step false t false c rest = rest

pub acknowledged_found : (s : FileState) (index : ℕ) → lookup index (acknowledged_rows s) ≡ cond (has index s.acknowledged) (lookup index s.map) None
acknowledged_found s index = rows_looked_up s.acknowledged index s.map

-- a row is kept where its key is among those of a list that has it
keys_kept : (all rows : Digests) → All (λ (row : ℕ × List ℕ). has row.0 (map (λ (r : ℕ × List ℕ). r.0) all) ≡ true) rows → filter (λ (row : ℕ × List ℕ). has row.0 (map (λ (r : ℕ × List ℕ). r.0) all)) rows ≡ rows
keys_kept all [] h = refl
keys_kept all (row ∷ rows) h =
    let P : ℕ × List ℕ → Type 0 = λ r. has r.0 (map (λ (r : ℕ × List ℕ). r.0) all) ≡ true in
    let kept = filter (λ (r : ℕ × List ℕ). has r.0 (map (λ (r : ℕ × List ℕ). r.0) all)) rows in
    ap (λ b. cond b (row ∷ kept) kept) (All-head P row rows h) ∙ ap (λ (l : Digests). row ∷ l) (keys_kept all rows (All-tail P row rows h))

-- each row's key is among the keys
keys_in : (rows : Digests) → All (λ (row : ℕ × List ℕ). has row.0 (map (λ (r : ℕ × List ℕ). r.0) rows) ≡ true) rows
keys_in [] = All-nil (λ (row : ℕ × List ℕ). has row.0 [] ≡ true)
keys_in (row ∷ rows) =
    let keys = map (λ (r : ℕ × List ℕ). r.0) rows in
    All-cons (λ (r : ℕ × List ℕ). has r.0 (row.0 ∷ keys) ≡ true) row rows (or_left (eqb row.0 row.0) (has row.0 keys) (eq-eqb row.0 row.0 refl))
    (λ k d lt. or_right (eqb (get_or rows k d).0 row.0) (has (get_or rows k d).0 keys) (keys_in rows k d lt))

pub opened_acknowledged : (s : FileState) → IsOpening s → acknowledged_rows s ≡ s.map
opened_acknowledged s o = ap (λ (l : List ℕ). filter (λ (row : ℕ × List ℕ). has row.0 l) s.map) o.acknowledged ∙ keys_kept s.map s.map (keys_in s.map)

-- ---- a reopening

some_of : (b : Bool) (found : Option (List ℕ)) (digest : List ℕ) → cond b found None ≡ Some digest → (b ≡ true) × (found ≡ Some digest)
some_of true found digest e = (refl, e)
some_of false found digest e = absurd (cc)

pub reopens_as : (s t : FileState) → Rise s.damaged → Rise s.compressed → IsReopenedAs s t → IsReopening s t
reopens_as s t rd rc h =
    let open_is = opened_acknowledged t h.opening in
    record {
      opening = h.opening;
      same = (h.id, h.data_blocks, h.hash_blocks, h.root, same_indices t.damaged s.damaged h.opening.damaged_rises rd h.damaged, same_indices t.compressed s.compressed h.opening.compressed_rises rc h.compressed);
      kept = λ index digest acked there.
          sym (ap (λ (l : Digests). lookup index l) open_is) ∙ h.at_least index digest (acknowledged_found s index ∙ ap (λ b. cond b (lookup index s.map) None) acked ∙ there);
      only = λ index digest there. elim (h.at_most index digest (ap (λ (l : Digests). lookup index l) open_is ∙ there)) [
        | inl acked ↦ inl (some_of (has index s.acknowledged) (lookup index s.map) digest (sym (acknowledged_found s index) ∙ acked))
        | inr begun ↦ inr begun
      ];
    }
