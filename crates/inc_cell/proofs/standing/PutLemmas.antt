-- What the write of a put asks for, of a cell's fields.
use Rattle.std.proofs.Common.{◌≡◌, inl, inr, ℕ, ◌+◌, ◌^◌, ◌<◌, ◌≤◌, Bool, true, List, [], ◌∷◌, length, None, sym, ap, subst, ◌∙◌, arith}
use Rattle.std.proofs.lemmas.Bool.{cases_lt, leb-false, lt-ltb}
use Rattle.std.specs.Prelude.{◌==◌, nat_le, if◌then◌else◌, take, slice_index}
use Rattle.inc_tree.specs.shape.Geometry.{block_len, data_blocks}
use Rattle.inc_tree.specs.read_block.Path.{block_digest}
use Rattle.inc_entry.specs.Entry.{Places, area_places, entries}
use Rattle.inc_entry.specs.Keeps.{IsLayout}
use Rattle.inc_disk.specs.Disk.{DiskState, Now}
use Rattle.inc_fill.specs.Steps.{HasLen, IsFreePlace}
use Rattle.inc_fill.proofs.Areas.{hash_in_tree, tree_inside}
use Rattle.inc_layout.specs.Backing.{fixed_in}
use Rattle.inc_layout.specs.fixed.SameFixed.{is_fixed_byte}
use Rattle.inc_layout.specs.declared.opened.Opened.{Opened}
use Rattle.inc_model.specs.relation.State.{flight_row, has, is_in}
use Rattle.inc_model.specs.relation.Step.{HasRoom, may_fail}
use Rattle.inc_model.specs.relation.Table.{reply_of}
use Rattle.inc_model.specs.declared.words.event.Event.TheVariants.{PutData}
use Rattle.inc_model.specs.declared.words.event.Window.{Window}
use Rattle.inc_model.specs.declared.words.file_state.FileState.{FileState}
use Rattle.inc_model.specs.declared.words.reply.Reply.{Reply}
use Rattle.inc_model.specs.declared.words.reply.Reply.TheVariants.{Put}
use Rattle.inc_cell.specs.seen.Cells.{KeepsCell}
use Rattle.inc_cell.specs.device.Device.{IsPlaceOf}
use Rattle.inc_cell.specs.device.Moves.{BringsBlock}
use Rattle.inc_cell.specs.seen.Parts.{parts_of}
use Rattle.inc_cell.specs.device.Puts.{digest_for}
use Rattle.inc_cell.specs.seen.Seen.{Seen, spots_now, state_now}
use Rattle.inc_cell.specs.seen.Spots.{put_spot, spot_then}
use Rattle.inc_cell.specs.events.Wanted.{ComesOf, IfPut}
use Rattle.inc_cell.proofs.steps.AskLemmas.{all_blocks, put_if}
use Rattle.inc_cell.proofs.steps.MayLemmas.{may_put}
use Rattle.inc_cell.proofs.standing.MoveLemmas.{now_inside}

-- what is free at the file's end as it was counted is free at the end of what is there
free_now : (places : Places) (index place end : ℕ) (states : List DiskState) → HasLen states end → IsFreePlace places end index place → Now states (λ disk. IsFreePlace places (length disk.reads) index place)
free_now places index place end [] has free = tt
free_now places index place end (disk ∷ past) has free = subst (λ (len : ℕ). IsFreePlace places len index place) (sym has) free

at_end : (end place : ℕ) (states : List DiskState) → place ≡ end → HasLen states end → Now states (λ disk. place ≤ length disk.reads)
at_end end place [] e has = tt
at_end end place (disk ∷ past) e has = let said : length disk.reads ≡ end = has in omega arith

-- a put is answered where the table wants one
pub if_put : (wanted reply : Reply) (P : Type 0) → ComesOf wanted reply → IfPut wanted P → IfPut reply P
if_put (Put place digest) (Put at given) P comes h = h
if_put wanted (Put at given) P comes h = absurd comes
if_put wanted reply P comes h = tt

put_same : (index : ℕ) (reply : Reply) (one other : ℕ → ℕ) (i : ℕ) → one i ≡ other i → put_spot index reply one i ≡ put_spot index reply other i
put_same index (Put place digest) one other i e = ap (λ (n : ℕ). if i == index then place else n) e
put_same index reply one other i e = e

pub put_brings : (opened : Opened) (index : ℕ) (digest block : List ℕ) → length block ≡ 4096 → digest ≡ digest_for opened index block → BringsBlock opened index digest block
put_brings opened index digest block whole hashed = record {
  whole = whole;
  hashed = λ lt. hashed ∙ ap (λ (b : Bool). block_digest (take (if b then block_len opened.areas.geometry index else 4096) block)) (lt-ltb index (entries (area_places opened.areas)) lt);
}

module _ (old : Seen) (state : FileState) (spots : List ℕ) (end : ℕ) (keeps : KeepsCell old state spots end) (who : ℕ) (window : Window) (index : ℕ) (digest : List ℕ)
    (room : HasRoom (length old.history) state (PutData window index digest)) where
  -- a put that writes is of an index of the file, on a file where nothing failed
  pub put_here : may_fail (reply_of state who (PutData window index digest)) ≡ true → (state.failed ≡ None) × (index < entries (area_places old.opened.areas))
  put_here e =
      let by = may_put state.failed (nat_le (state.n + state.m) index) (has index state.damaged) (has index state.compressed) (flight_row index state.flight) (is_in index state.map) digest e in
      let all = all_blocks old state spots end keeps in
      let low = leb-false (state.n + state.m) index by.1 in
      (by.0, omega arith)

  pub end_small : end + 4096 < 2 ^ 64
  end_small =
      let grown = keeps.holds.grown in
      let short = keeps.holds.short in
      let few = room in
      omega arith

  pub spots_kept : (reply : Reply) (spots' : List ℕ) → ((i : ℕ) → i < length spots → slice_index spots' i ≡ put_spot index reply (λ k. slice_index spots k) i)
      → (i : ℕ) → i < entries (area_places old.opened.areas) → slice_index spots' i ≡ spot_then (PutData window index digest) reply (spots_now old) i
  spots_kept reply spots' shown i lt = let each = keeps.each in shown i (omega arith) ∙ put_same index reply (λ k. slice_index spots k) (spots_now old) i (keeps.shown i lt)

  ends_now : state.failed ≡ None → HasLen old.states end
  ends_now well = keeps.holds.standing.ends (ap (λ (s : FileState). s.failed) (sym keeps.state_is) ∙ well)

  below : (place : ℕ) → index < entries (area_places old.opened.areas) → IsFreePlace (area_places old.opened.areas) end index place → place + 4096 ≤ 2 ^ 47
  below place lt free = elim (cases_lt index (data_blocks old.opened.areas.geometry)) [
    | inl content ↦
        let here = free.of_content content in
        let grown = keeps.holds.grown in
        let short = keeps.holds.short in
        let few = room in
        omega arith
    | inr hash ↦
        let here = free.of_tree hash in
        let short = keeps.holds.short in
        let inside = keeps.holds.sound.layout.tree_inside (omega arith) in
        omega arith
  ]

  there : (place : ℕ) → state.failed ≡ None → index < entries (area_places old.opened.areas) → IsFreePlace (area_places old.opened.areas) end index place → Now old.states (λ disk. place ≤ length disk.reads)
  there place well lt free = elim (cases_lt index (data_blocks old.opened.areas.geometry)) [
    | inl content ↦ at_end end place old.states (free.of_content content) (ends_now well)
    | inr hash ↦
        now_inside old.opened (parts_of (state_now old)) (state_now old).map (state_now old).flight (spots_now old) old.states place
        (λ (base : ℕ) (layout : IsLayout (area_places old.opened.areas) (is_fixed_byte (fixed_in old.opened)) base).
        let here = free.of_tree hash in
        let first = tree_inside (area_places old.opened.areas) (is_fixed_byte (fixed_in old.opened)) base _ layout (hash_in_tree (area_places old.opened.areas) index 0 hash lt (omega arith)) in
        omega arith) keeps.holds.standing.stands
  ]

  module _ (state1 : FileState) (wanted : Reply) (same : state1 ≡ state) (is : wanted ≡ reply_of state1 who (PutData window index digest)) where
    put_can : (P : Type 0) → ((state.failed ≡ None) × (index < entries (area_places old.opened.areas)) → P) → IfPut wanted P
    put_can P so = put_if wanted P (λ place given e. so (put_here (ap (λ (s : FileState). may_fail (reply_of s who (PutData window index digest))) (sym same) ∙ ap may_fail (sym is ∙ e))))

    pub put_place_is : (place : ℕ) → (index < entries (area_places old.opened.areas) → IsFreePlace (area_places old.opened.areas) end index place) → IfPut wanted (IsPlaceOf (area_places old.opened.areas) old.states index place)
    put_place_is place free = put_can (IsPlaceOf (area_places old.opened.areas) old.states index place) (λ h. record {
      free = free_now (area_places old.opened.areas) index place end old.states (ends_now h.0) (free h.1);
      below = below place h.1 (free h.1);
    })

    pub put_inside : (place : ℕ) → (index < entries (area_places old.opened.areas) → IsFreePlace (area_places old.opened.areas) end index place) → IfPut wanted (Now old.states (λ disk. place ≤ length disk.reads))
    put_inside place free = put_can (Now old.states (λ disk. place ≤ length disk.reads)) (λ h. there place h.0 h.1 (free h.1))

    pub put_index : (reply : Reply) → ComesOf wanted reply → IfPut reply (index < length spots)
    put_index reply comes = if_put wanted reply (index < length spots) comes (put_can (index < length spots) (λ h. let lt = h.1 in let each = keeps.each in omega arith))
