-- What the calls of the disk ask for, of a cell's fields.
use Rattle.std.proofs.Common.{◌≡◌, ℕ, ◌+◌, ◌^◌, ◌<◌, ◌≤◌, true, false, List, length, Option, Some, None, refl, sym, ap, subst, ◌∙◌, arith}
use Rattle.std.specs.Prelude.{count_by, slice_index}
use Rattle.inc_pending.specs.Keyed.{lookup}
use Rattle.inc_pending.specs.Polling.{waits_on}
use Rattle.inc_entry.specs.Entry.{area_places, entries, entry_at}
use Rattle.inc_disk.specs.Disk.{DiskState, Now}
use Rattle.inc_model.specs.executed.CoreState.{MayBeginBy}
use Rattle.inc_model.specs.relation.Facts.{FileFacts, MoreFacts}
use Rattle.inc_model.specs.executed.IndexLists.{HasNoOther}
use Rattle.inc_model.specs.relation.Stages.{is_at, is_gated, is_settled, is_written}
use Rattle.inc_model.specs.relation.State.{flight_row}
use Rattle.inc_model.specs.relation.Step.{may_fail}
use Rattle.inc_model.specs.relation.Table.{reply_of}
use Rattle.inc_model.specs.declared.words.event.Event.TheVariants.{Gate, PutPlace}
use Rattle.inc_model.specs.declared.words.event.Window.{Window}
use Rattle.inc_model.specs.declared.words.file_state.FileState.{FileState}
use Rattle.inc_model.specs.declared.words.file_state.FlightRow.{FlightRow}
use Rattle.inc_model.specs.declared.words.file_state.Stage.{Stage}
use Rattle.inc_model.specs.declared.words.file_state.Stage.TheVariants.{Written as written_stage, Placed as placed_stage, Settled as settled_stage, Gated as gated_stage}
use Rattle.inc_model.specs.declared.words.reply.Reply.{Reply}
use Rattle.inc_model.specs.declared.words.reply.Reply.TheVariants.{Fault, Gated, Placed, Put}
use Rattle.inc_model.proofs.facts_kept.Fill.{at_stage, may_gate}
use Rattle.inc_model.proofs.runs.Histories.{legal_facts, legal_more}
use Rattle.inc_cell.specs.seen.Cells.{KeepsCell}
use Rattle.inc_cell.specs.device.Device.{PlaceDoes}
use Rattle.inc_cell.specs.seen.Parts.{parts_of}
use Rattle.inc_cell.specs.seen.Seen.{Seen, spots_now, state_now, tells}
use Rattle.inc_cell.specs.events.Wanted.{ComesOf, IfGated, IfPlaced, IfPut}
use Rattle.inc_cell.proofs.steps.MayLemmas.{may_place}
use Rattle.inc_cell.proofs.standing.MoveLemmas.{entry_end, now_inside}
use Rattle.inc_cell.proofs.standing.StateLemmas.{flight_inside, ungated_absent}

-- ---- what the calls of the disk ask for

settled_below : (stage : Stage) → is_settled stage ≡ true → is_gated stage ≡ false
settled_below written_stage e = absurd (cc)
settled_below placed_stage e = absurd (cc)
settled_below settled_stage e = refl
settled_below gated_stage e = absurd (cc)

pub placed_if : (wanted : Reply) (P : Type 0) → (wanted ≡ Placed → P) → IfPlaced wanted P
placed_if Placed P so = so refl
placed_if wanted P so = tt

pub gated_if : (wanted : Reply) (P : Type 0) → ((waiting : ℕ) → wanted ≡ Gated waiting → P) → IfGated wanted P
gated_if (Gated waiting) P so = so waiting refl
gated_if wanted P so = tt

pub put_if : (wanted : Reply) (P : Type 0) → ((place : ℕ) (digest : List ℕ) → wanted ≡ Put place digest → P) → IfPut wanted P
put_if (Put place digest) P so = so place digest refl
put_if wanted P so = tt

module _ (old : Seen) (state : FileState) (spots : List ℕ) (end : ℕ) (keeps : KeepsCell old state spots end) where
  held_facts : FileFacts old.opening state
  held_facts = subst (FileFacts old.opening) (sym keeps.state_is) (legal_facts old.opening (tells old.states) old.history keeps.holds.begins.opening keeps.holds.legal)

  pub held_more : MoreFacts old.opening state
  held_more = subst (MoreFacts old.opening) (sym keeps.state_is) (legal_more old.opening (tells old.states) old.history keeps.holds.begins.opening keeps.holds.legal)

  pub all_blocks : entries (area_places old.opened.areas) ≡ state.n + state.m
  all_blocks =
      let same = held_more.same in
      let told = keeps.holds.begins.told.state in
      let content = told.data_is in
      let tree = told.hash_is in
      let n = same.1 in
      let m = same.2 in
      omega arith

  pub row_in_file : (index : ℕ) (found : FlightRow) → flight_row index state.flight ≡ Some found → index < entries (area_places old.opened.areas)
  row_in_file index found is = let all = all_blocks in let lt = flight_inside old.opening state held_facts held_more index found is in omega arith

  pub row_low : (index : ℕ) (found : FlightRow) → flight_row index state.flight ≡ Some found → slice_index spots index < 2 ^ 48
  row_low index found is =
      let same = keeps.shown index (row_in_file index found is) in
      let low = keeps.holds.spots_fit index found (subst (λ (s : FileState). flight_row index s.flight ≡ Some found) keeps.state_is is) in
      omega arith

  pub row_absent : (index : ℕ) (found : FlightRow) → flight_row index state.flight ≡ Some found → is_gated found.stage ≡ false → lookup index state.map ≡ None
  row_absent index found is stage = ungated_absent old.opening state held_facts held_more index found is stage

  pub entry_there : (index : ℕ) → index < entries (area_places old.opened.areas) → Now old.states (λ disk. entry_at (area_places old.opened.areas) index + 10 ≤ length disk.reads)
  entry_there index lt =
      now_inside old.opened (parts_of (state_now old)) (state_now old).map (state_now old).flight (spots_now old) old.states (entry_at (area_places old.opened.areas) index + 10) (entry_end old.opened index lt) keeps.holds.standing.stands

  pub entry_low : (index : ℕ) → index < entries (area_places old.opened.areas) → entry_at (area_places old.opened.areas) index + 10 < 2 ^ 48
  entry_low index lt =
      let inside = keeps.holds.sound.layout.map_inside (omega arith) in
      let short = keeps.holds.short in
      omega arith

  -- a place is written of a written row alone, and a gate of a settled one
  pub place_row : (who : ℕ) (window : Window) (index : ℕ) → may_fail (reply_of state who (PutPlace window index)) ≡ true → (found : FlightRow) × (flight_row index state.flight ≡ Some found)
  place_row who window index e =
      let mine = at_stage is_written window (flight_row index state.flight) (may_place state.failed (is_at is_written window (flight_row index state.flight)) e) in
      (mine.row, mine.is)

  pub gate_row : (who : ℕ) (window : Window) (index : ℕ) → may_fail (reply_of state who (Gate window index)) ≡ true → (found : FlightRow) × (flight_row index state.flight ≡ Some found) × (is_gated found.stage ≡ false)
  gate_row who window index e =
      let mine = at_stage is_settled window (flight_row index state.flight) (may_gate state.failed (is_at is_settled window (flight_row index state.flight)) (count_by (waits_on index) state.reads) e) in
      (mine.row, mine.is, settled_below mine.row.stage mine.stage_is)

  pub gate_alone : (who : ℕ) (window : Window) (index : ℕ) (wanted reply : Reply) → wanted ≡ reply_of state who (Gate window index) → ComesOf wanted reply
      → MayBeginBy (λ map i digest. HasNoOther digest (lookup i map)) state.map index (flight_row index state.flight) reply
  gate_alone who window index wanted reply wanted_is comes = step (flight_row index state.flight) reply refl comes
    where
      none_other : (digest : List ℕ) (found : Option (List ℕ)) → found ≡ None → HasNoOther digest found
      none_other digest None e = tt
      none_other digest (Some other) e = absurd (cc)

      step : (found : Option FlightRow) (r : Reply) → flight_row index state.flight ≡ found → ComesOf wanted r → MayBeginBy (λ map i digest. HasNoOther digest (lookup i map)) state.map index found r
      step None r is comes = tt
      step (Some row) (Fault count) is comes =
          let may : may_fail (reply_of state who (Gate window index)) ≡ true = ap may_fail (sym wanted_is) ∙ comes in
          let mine = gate_row who window index may in
          none_other row.digest (lookup index state.map) (row_absent index mine.0 mine.1 mine.2)
      step (Some row) r is comes = tt

  pub place_can : (who : ℕ) (window : Window) (index : ℕ) (state1 : FileState) (wanted : Reply) (P : Type 0) → state1 ≡ state → wanted ≡ reply_of state1 who (PutPlace window index)
      → ((found : FlightRow) → flight_row index state.flight ≡ Some found → P) → IfPlaced wanted P
  place_can who window index state1 wanted P same is so = placed_if wanted P (λ e.
      let row = place_row who window index (ap (λ (s : FileState). may_fail (reply_of s who (PutPlace window index))) (sym same) ∙ ap may_fail (sym is ∙ e)) in
      so row.0 row.1)

  pub gate_can : (who : ℕ) (window : Window) (index : ℕ) (state1 : FileState) (wanted : Reply) (P : Type 0) → state1 ≡ state → wanted ≡ reply_of state1 who (Gate window index)
      → ((found : FlightRow) → flight_row index state.flight ≡ Some found → P) → IfGated wanted P
  gate_can who window index state1 wanted P same is so = gated_if wanted P (λ waiting e.
      let row = gate_row who window index (ap (λ (s : FileState). may_fail (reply_of s who (Gate window index))) (sym same) ∙ ap may_fail (sym is ∙ e)) in
      so row.0 row.1)

  -- the place that is written is the one where the block was put
  pub place_does : (who : ℕ) (window : Window) (index place : ℕ) (state1 : FileState) (wanted reply : Reply) (before after : List DiskState) → state1 ≡ state → wanted ≡ reply_of state1 who (PutPlace window index) → place ≡ slice_index spots index
      → ComesOf wanted reply → PlaceDoes (area_places old.opened.areas) index place reply before after → PlaceDoes (area_places old.opened.areas) index (spots_now old index) reply before after
  place_does who window index place state1 wanted reply before after same is at comes does = step reply comes does
    where
      there : may_fail wanted ≡ true → place ≡ spots_now old index
      there may =
          let row = place_row who window index (ap (λ (s : FileState). may_fail (reply_of s who (PutPlace window index))) (sym same) ∙ ap may_fail (sym is) ∙ may) in
          at ∙ keeps.shown index (row_in_file index row.0 row.1)

      step : (r : Reply) → ComesOf wanted r → PlaceDoes (area_places old.opened.areas) index place r before after → PlaceDoes (area_places old.opened.areas) index (spots_now old index) r before after
      step Placed comes does = subst (λ n. PlaceDoes (area_places old.opened.areas) index n Placed before after) (there (ap may_fail comes)) does
      step (Fault count) comes does = subst (λ n. PlaceDoes (area_places old.opened.areas) index n (Fault count) before after) (there comes) does
      step r comes does = does
