-- A group's writes one after another: the bytes after so many of them.
use Rattle.std.proofs.Common.{◌≡◌, ℕ, ◌+◌, ◌<◌, Bool, not, List, [], ◌∷◌, ◌++◌, length, get_or, take, refl, sym, ap, subst, ◌∙◌}
use Rattle.std.specs.Prelude.{slice_index, Result, Ok, Err, OnOk}
use Rattle.std.proofs.lemmas.List.{take_more}
use Rattle.inc_layout.specs.declared.opened.Opened.{Opened}
use Rattle.inc_model.specs.relation.State.{Digests, is_in}
use Rattle.inc_cell.specs.seen.Seen.{Seen}
use Rattle.inc_filling.specs.Grouped.{group_indices, stored_of}
use Rattle.inc_filling.specs.Shown.{ShowsFile, SpottedBytes, with_blocks, with_gate, with_gates, with_group, with_place_of, with_places, with_stored}
use Rattle.inc_filling.specs.declared.filling.Filling.{Filling}

pub on_err : {T E : Type 0} (result : Result T E) (P : Type 0) (error : E) → result ≡ Err error → OnOk result P
on_err {T} {E} result P error e = subst (λ (r : Result T E). OnOk r P) (sym e) tt

pub on_ok : {T E : Type 0} (result : Result T E) (P Q : Type 0) → (P → Q) → OnOk result P → OnOk result Q
on_ok (Ok done) P Q f h = f h
on_ok (Err error) P Q f h = tt

-- ---- one more at the end

places_last : (opened : Opened) (file : SpottedBytes) (xs : List ℕ) (x : ℕ) → with_places opened file (xs ++ x ∷ []) ≡ with_place_of opened (with_places opened file xs) x
places_last opened file [] x = refl
places_last opened file (y ∷ ys) x = places_last opened (with_place_of opened file y) ys x

gates_last : (opened : Opened) (file : SpottedBytes) (xs : List ℕ) (x : ℕ) → with_gates opened file (xs ++ x ∷ []) ≡ with_gate opened (with_gates opened file xs) x
gates_last opened file [] x = refl
gates_last opened file (y ∷ ys) x = gates_last opened (with_gate opened file y) ys x

blocks_last : (opened : Opened) (open_ones : Digests) (file : SpottedBytes) (group : List Filling) (next : Filling)
    → with_blocks opened open_ones file (group ++ next ∷ []) ≡ with_stored opened (with_blocks opened open_ones file group) next (not (is_in next.index open_ones))
blocks_last opened open_ones file [] next = refl
blocks_last opened open_ones file (f ∷ fs) next = blocks_last opened open_ones (with_stored opened file f (not (is_in f.index open_ones))) fs next

-- ---- the next one of a list

module _ (opened now : Opened) (same : now ≡ opened) (file : SpottedBytes) (seen : Seen) where
  pub places_next : (stored : List ℕ) (k : ℕ) → k < length stored → ShowsFile seen (with_place_of now (with_places opened file (take k stored)) (slice_index stored k)) → ShowsFile seen (with_places opened file (take (k + 1) stored))
  places_next stored k lt h =
      subst (λ (f : SpottedBytes). ShowsFile seen f)
      (ap (λ (o : Opened). with_place_of o (with_places opened file (take k stored)) (slice_index stored k)) same ∙ sym (places_last opened file (take k stored) (slice_index stored k)) ∙ ap (with_places opened file) (sym (take_more stored k 0 lt))) h

  pub gates_next : (stored : List ℕ) (k : ℕ) → k < length stored → ShowsFile seen (with_gate now (with_gates opened file (take k stored)) (slice_index stored k)) → ShowsFile seen (with_gates opened file (take (k + 1) stored))
  gates_next stored k lt h =
      subst (λ (f : SpottedBytes). ShowsFile seen f)
      (ap (λ (o : Opened). with_gate o (with_gates opened file (take k stored)) (slice_index stored k)) same ∙ sym (gates_last opened file (take k stored) (slice_index stored k)) ∙ ap (with_gates opened file) (sym (take_more stored k 0 lt))) h

  pub blocks_next : (open_ones open_now : Digests) → open_now ≡ open_ones → (group : List Filling) (k : ℕ) (next : Filling) (put : Bool) → k < length group → next ≡ get_or group k next → put ≡ not (is_in next.index open_now)
      → ShowsFile seen (with_stored now (with_blocks opened open_ones file (take k group)) next put) → ShowsFile seen (with_blocks opened open_ones file (take (k + 1) group))
  blocks_next open_ones open_now unchanged group k next put lt is absent h =
      let so_far = with_blocks opened open_ones file (take k group) in
      let more : take (k + 1) group ≡ take k group ++ next ∷ [] = take_more group k next lt ∙ ap (λ (f : Filling). take k group ++ f ∷ []) (sym is) in
      subst (λ (f : SpottedBytes). ShowsFile seen f)
      (ap (λ (o : Opened). with_stored o so_far next put) same ∙ ap (with_stored opened so_far next) (absent ∙ ap (λ (m : Digests). not (is_in next.index m)) unchanged)
      ∙ sym (blocks_last opened open_ones file (take k group) next) ∙ ap (with_blocks opened open_ones file) (sym more)) h

-- ---- a whole group

pub shown_group : (opened : Opened) (open_ones : Digests) (file : SpottedBytes) (group : List Filling) (seen : Seen) (stored : List ℕ) → stored ≡ stored_of open_ones (group_indices group)
    → ShowsFile seen (with_gates opened (with_places opened (with_blocks opened open_ones file group) stored) stored) → ShowsFile seen (with_group opened open_ones file group)
shown_group opened open_ones file group seen stored are h = subst (λ (l : List ℕ). ShowsFile seen (with_gates opened (with_places opened (with_blocks opened open_ones file group) l) l)) are h

-- nothing was stored
pub shown_none : (opened : Opened) (open_ones : Digests) (file : SpottedBytes) (group : List Filling) (seen : Seen) (stored : List ℕ) → length stored ≡ 0 → stored ≡ stored_of open_ones (group_indices group)
    → ShowsFile seen (with_blocks opened open_ones file group) → ShowsFile seen (with_group opened open_ones file group)
shown_none opened open_ones file group seen [] none are h = shown_group opened open_ones file group seen [] are h
shown_none opened open_ones file group seen (x ∷ xs) none are h = absurd (cc)
