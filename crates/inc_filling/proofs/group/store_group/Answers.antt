use Rattle.std.proofs.Common.{◌≡◌, ℕ, List, [], ◌∷◌, ◌+◌, ◌-◌, ◌≤◌, ◌++◌, length, sym, ap, subst, ◌∙◌, arith}
use Rattle.std.specs.Prelude.{Result}
use Rattle.std.proofs.lemmas.Bool.{eqb-false, eqb-true}
use Rattle.std.proofs.lemmas.Result.{err_from_is_err_and}
use Rattle.inc_model.specs.declared.words.event.Event.TheVariants.{Settle}
use Rattle.inc_model.specs.declared.words.file_state.Stage.TheVariants.{Gated, Placed}
use Rattle.inc_cell.specs.seen.Seen.{state_now}
use Rattle.inc_filling.specs.Grouped.{PutsEach, PutsFront, StoresEach, StoresGroup, gates_of_each, places_of_each, puts_of}
use Rattle.inc_filling.specs.Stands.{stage_among}
use Rattle.inc_filling.specs.declared.stop.FillStop.{FillStop}
use Rattle.inc_filling.proofs.steps.GroupSteps.{end_broke, front_less, gate_broke, none_stored, place_broke, settle_broke, to_end, to_gates, to_places}
use Rattle.inc_layout.specs.declared.opened.Opened.{Opened}
use Rattle.inc_filling.specs.Shown.{ShowsFile, with_blocks, with_gates, with_places}
use Rattle.inc_filling.proofs.shown.LoopShows.{shown_group, shown_none}
use Rattle.inc_filling.proofs.steps.OpenSteps.{gated_open, stands_from_now, still_all}
use Rattle.inc_filling.proofs.group.store_group.Goals as goal

pub returns-in_err-write_blocks-clause-stores : goal.returns-in_err-write_blocks-clause-stores
returns-in_err-write_blocks-clause-stores g c = λ start left events h may distinct.
    let p = err_from_is_err_and c.from_residual.result c.from_residual.ensures.1 in
    subst (λ (result : Result (Unit {0}) FillStop). StoresGroup start c.args.window left events c.args.group.now (state_now c.args.cell.now).map result c.write_blocks.new.stored.items c.write_blocks.new.cell) (sym p.1)
    (subst (λ (stop : FillStop). PutsFront start c.args.window left events c.args.group.now stop c.write_blocks.new.cell) (sym p.2)
    (front_less start c.args.window left events c.args.group.now (length c.args.group.now + (1 + (length c.args.group.now + (1 + left)))) c.in_err-write_blocks.field-0.0 c.write_blocks.new.cell (omega arith) (c.in_err-write_blocks.ensures.puts start (length c.args.group.now + (1 + (length c.args.group.now + (1 + left)))) events h may distinct)))

pub returns-in_err-write_places-clause-stores : goal.returns-in_err-write_places-clause-stores
returns-in_err-write_places-clause-stores g c = λ start left events h may distinct.
    let p = err_from_is_err_and c.from_residual-in_err-write_places.result c.from_residual-in_err-write_places.ensures.1 in
    let e : c.as_slice-indices.result.now ≡ c.write_blocks.new.stored.items = c.as_slice-indices.ensures.value in
    let puts : PutsEach start c.args.window (length c.args.group.now + (1 + (length c.args.group.now + (1 + left)))) events c.args.group.now (state_now c.args.cell.now).map c.as_slice-indices.result.now c.write_blocks.new.cell =
    subst (λ (l : List ℕ). PutsEach start c.args.window (length c.args.group.now + (1 + (length c.args.group.now + (1 + left)))) events c.args.group.now (state_now c.args.cell.now).map l c.write_blocks.new.cell) (sym e) (c.in_ok-write_blocks.ensures.puts start (length c.args.group.now + (1 + (length c.args.group.now + (1 + left)))) events h may distinct) in
    let few : length c.as_slice-indices.result.now ≤ length c.args.group.now = omega (arith, ap (λ (l : List ℕ). length l) e, c.in_ok-write_blocks.ensures.fewer) in
    let to_place = to_places start c.args.window left events c.args.group.now (state_now c.args.cell.now).map c.as_slice-indices.result.now c.write_blocks.new.cell few puts in
    subst (λ (result : Result (Unit {0}) FillStop). StoresGroup start c.args.window left events c.args.group.now (state_now c.args.cell.now).map result c.write_blocks.new.stored.items c.write_places.new.cell) (sym p.1)
    (subst (λ (stop : FillStop). PutsFront start c.args.window left events c.args.group.now stop c.write_places.new.cell) (sym p.2)
    (place_broke start c.args.window left events c.args.group.now (state_now c.args.cell.now).map c.as_slice-indices.result.now (1 + (length c.as_slice-indices.result.now + (1 + left))) c.in_err-write_places.field-0.0 c.write_places.new.cell (omega arith) (c.in_err-write_places.ensures.moves start (1 + (length c.as_slice-indices.result.now + (1 + left))) (events ++ puts_of start.opened c.args.window c.args.group.now) to_place puts.distinct)))

pub returns-in_err-sync-clause-stores : goal.returns-in_err-sync-clause-stores
returns-in_err-sync-clause-stores g c = λ start left events h may distinct.
    let p = err_from_is_err_and c.from_residual-in_err-sync.result c.from_residual-in_err-sync.ensures.1 in
    let e : c.as_slice-indices.result.now ≡ c.write_blocks.new.stored.items = c.as_slice-indices.ensures.value in
    let puts : PutsEach start c.args.window (length c.args.group.now + (1 + (length c.args.group.now + (1 + left)))) events c.args.group.now (state_now c.args.cell.now).map c.as_slice-indices.result.now c.write_blocks.new.cell =
    subst (λ (l : List ℕ). PutsEach start c.args.window (length c.args.group.now + (1 + (length c.args.group.now + (1 + left)))) events c.args.group.now (state_now c.args.cell.now).map l c.write_blocks.new.cell) (sym e) (c.in_ok-write_blocks.ensures.puts start (length c.args.group.now + (1 + (length c.args.group.now + (1 + left)))) events h may distinct) in
    let few : length c.as_slice-indices.result.now ≤ length c.args.group.now = omega (arith, ap (λ (l : List ℕ). length l) e, c.in_ok-write_blocks.ensures.fewer) in
    let to_place = to_places start c.args.window left events c.args.group.now (state_now c.args.cell.now).map c.as_slice-indices.result.now c.write_blocks.new.cell few puts in
    let places = c.in_ok-write_places.ensures.moves start (1 + (length c.as_slice-indices.result.now + (1 + left))) (events ++ puts_of start.opened c.args.window c.args.group.now) to_place puts.distinct in
    subst (λ (result : Result (Unit {0}) FillStop). StoresGroup start c.args.window left events c.args.group.now (state_now c.args.cell.now).map result c.write_blocks.new.stored.items c.sync.new.cell) (sym p.1)
    (subst (λ (stop : FillStop). PutsFront start c.args.window left events c.args.group.now stop c.sync.new.cell) (sym p.2)
    (settle_broke start c.args.window left events c.args.group.now (state_now c.args.cell.now).map c.as_slice-indices.result.now ((1 + (length c.as_slice-indices.result.now + (1 + left))) - 1) c.in_err-sync.field-0.0 c.sync.new.cell (omega arith) (c.in_err-sync.ensures.steps start (1 + (length c.as_slice-indices.result.now + (1 + left))) (stage_among c.as_slice-indices.result.now Placed) ((events ++ puts_of start.opened c.args.window c.args.group.now) ++ places_of_each c.args.window c.as_slice-indices.result.now) places (omega arith))))

pub returns-in_err-open_entries-clause-stores : goal.returns-in_err-open_entries-clause-stores
returns-in_err-open_entries-clause-stores g c = λ start left events h may distinct.
    let p = err_from_is_err_and c.from_residual-in_err-open_entries.result c.from_residual-in_err-open_entries.ensures.1 in
    let e : c.as_slice-indices.result.now ≡ c.write_blocks.new.stored.items = c.as_slice-indices.ensures.value in
    let puts : PutsEach start c.args.window (length c.args.group.now + (1 + (length c.args.group.now + (1 + left)))) events c.args.group.now (state_now c.args.cell.now).map c.as_slice-indices.result.now c.write_blocks.new.cell =
    subst (λ (l : List ℕ). PutsEach start c.args.window (length c.args.group.now + (1 + (length c.args.group.now + (1 + left)))) events c.args.group.now (state_now c.args.cell.now).map l c.write_blocks.new.cell) (sym e) (c.in_ok-write_blocks.ensures.puts start (length c.args.group.now + (1 + (length c.args.group.now + (1 + left)))) events h may distinct) in
    let few : length c.as_slice-indices.result.now ≤ length c.args.group.now = omega (arith, ap (λ (l : List ℕ). length l) e, c.in_ok-write_blocks.ensures.fewer) in
    let to_place = to_places start c.args.window left events c.args.group.now (state_now c.args.cell.now).map c.as_slice-indices.result.now c.write_blocks.new.cell few puts in
    let places = c.in_ok-write_places.ensures.moves start (1 + (length c.as_slice-indices.result.now + (1 + left))) (events ++ puts_of start.opened c.args.window c.args.group.now) to_place puts.distinct in
    let synced = c.in_ok-sync.ensures.steps start (1 + (length c.as_slice-indices.result.now + (1 + left))) (stage_among c.as_slice-indices.result.now Placed) ((events ++ puts_of start.opened c.args.window c.args.group.now) ++ places_of_each c.args.window c.as_slice-indices.result.now) places (omega arith) in
    let to_gate = to_gates start c.args.window left events c.args.group.now (state_now c.args.cell.now).map c.as_slice-indices.result.now c.sync.new.cell synced in
    subst (λ (result : Result (Unit {0}) FillStop). StoresGroup start c.args.window left events c.args.group.now (state_now c.args.cell.now).map result c.write_blocks.new.stored.items c.open_entries.new.cell) (sym p.1)
    (subst (λ (stop : FillStop). PutsFront start c.args.window left events c.args.group.now stop c.open_entries.new.cell) (sym p.2)
    (gate_broke start c.args.window left events c.args.group.now (state_now c.args.cell.now).map c.as_slice-indices.result.now (1 + left) c.in_err-open_entries.field-0.0 c.open_entries.new.cell (omega arith) (c.in_err-open_entries.ensures.moves start (1 + left) (((events ++ puts_of start.opened c.args.window c.args.group.now) ++ places_of_each c.args.window c.as_slice-indices.result.now) ++ Settle c.args.window ∷ []) to_gate puts.distinct)))

pub returns-in_err-sync-2-clause-stores : goal.returns-in_err-sync-2-clause-stores
returns-in_err-sync-2-clause-stores g c = λ start left events h may distinct.
    let p = err_from_is_err_and c.from_residual-in_err-sync-2.result c.from_residual-in_err-sync-2.ensures.1 in
    let e : c.as_slice-indices.result.now ≡ c.write_blocks.new.stored.items = c.as_slice-indices.ensures.value in
    let puts : PutsEach start c.args.window (length c.args.group.now + (1 + (length c.args.group.now + (1 + left)))) events c.args.group.now (state_now c.args.cell.now).map c.as_slice-indices.result.now c.write_blocks.new.cell =
    subst (λ (l : List ℕ). PutsEach start c.args.window (length c.args.group.now + (1 + (length c.args.group.now + (1 + left)))) events c.args.group.now (state_now c.args.cell.now).map l c.write_blocks.new.cell) (sym e) (c.in_ok-write_blocks.ensures.puts start (length c.args.group.now + (1 + (length c.args.group.now + (1 + left)))) events h may distinct) in
    let few : length c.as_slice-indices.result.now ≤ length c.args.group.now = omega (arith, ap (λ (l : List ℕ). length l) e, c.in_ok-write_blocks.ensures.fewer) in
    let to_place = to_places start c.args.window left events c.args.group.now (state_now c.args.cell.now).map c.as_slice-indices.result.now c.write_blocks.new.cell few puts in
    let places = c.in_ok-write_places.ensures.moves start (1 + (length c.as_slice-indices.result.now + (1 + left))) (events ++ puts_of start.opened c.args.window c.args.group.now) to_place puts.distinct in
    let synced = c.in_ok-sync.ensures.steps start (1 + (length c.as_slice-indices.result.now + (1 + left))) (stage_among c.as_slice-indices.result.now Placed) ((events ++ puts_of start.opened c.args.window c.args.group.now) ++ places_of_each c.args.window c.as_slice-indices.result.now) places (omega arith) in
    let to_gate = to_gates start c.args.window left events c.args.group.now (state_now c.args.cell.now).map c.as_slice-indices.result.now c.sync.new.cell synced in
    let gates = c.in_ok-open_entries.ensures.moves start (1 + left) (((events ++ puts_of start.opened c.args.window c.args.group.now) ++ places_of_each c.args.window c.as_slice-indices.result.now) ++ Settle c.args.window ∷ []) to_gate puts.distinct in
    subst (λ (result : Result (Unit {0}) FillStop). StoresGroup start c.args.window left events c.args.group.now (state_now c.args.cell.now).map result c.write_blocks.new.stored.items c.sync-2.new.cell) (sym p.1)
    (subst (λ (stop : FillStop). PutsFront start c.args.window left events c.args.group.now stop c.sync-2.new.cell) (sym p.2)
    (end_broke start c.args.window left events c.args.group.now (state_now c.args.cell.now).map c.as_slice-indices.result.now (1 + left - 1) c.in_err-sync-2.field-0.0 c.sync-2.new.cell (omega arith) (c.in_err-sync-2.ensures.steps start (1 + left) (stage_among c.as_slice-indices.result.now Gated) ((((events ++ puts_of start.opened c.args.window c.args.group.now) ++ places_of_each c.args.window c.as_slice-indices.result.now) ++ Settle c.args.window ∷ []) ++ gates_of_each c.args.window c.as_slice-indices.result.now) gates (omega arith))))

pub returns-then-is_empty-clause-stores : goal.returns-then-is_empty-clause-stores
returns-then-is_empty-clause-stores g c = λ start left events h may distinct.
    let none : length c.write_blocks.new.stored.items ≡ 0 = ap (λ (l : List ℕ). length l) (sym c.as_slice-indices.ensures.value) ∙ eqb-true (length c.as_slice-indices.result.now) 0 (sym c.is_empty.ensures ∙ c.if-is_empty.true) in
    none_stored start c.args.window left events c.args.group.now (state_now c.args.cell.now).map c.write_blocks.new.stored.items (length c.args.group.now + (1 + (length c.args.group.now + (1 + left)))) c.write_blocks.new.cell (omega arith) none (c.in_ok-write_blocks.ensures.puts start (length c.args.group.now + (1 + (length c.args.group.now + (1 + left)))) events h may distinct)

pub returns-clause-stores : goal.returns-clause-stores
returns-clause-stores g c = λ start left events h may distinct.
    let e : c.as_slice-indices.result.now ≡ c.write_blocks.new.stored.items = c.as_slice-indices.ensures.value in
    let puts : PutsEach start c.args.window (length c.args.group.now + (1 + (length c.args.group.now + (1 + left)))) events c.args.group.now (state_now c.args.cell.now).map c.as_slice-indices.result.now c.write_blocks.new.cell =
    subst (λ (l : List ℕ). PutsEach start c.args.window (length c.args.group.now + (1 + (length c.args.group.now + (1 + left)))) events c.args.group.now (state_now c.args.cell.now).map l c.write_blocks.new.cell) (sym e) (c.in_ok-write_blocks.ensures.puts start (length c.args.group.now + (1 + (length c.args.group.now + (1 + left)))) events h may distinct) in
    let few : length c.as_slice-indices.result.now ≤ length c.args.group.now = omega (arith, ap (λ (l : List ℕ). length l) e, c.in_ok-write_blocks.ensures.fewer) in
    let to_place = to_places start c.args.window left events c.args.group.now (state_now c.args.cell.now).map c.as_slice-indices.result.now c.write_blocks.new.cell few puts in
    let places = c.in_ok-write_places.ensures.moves start (1 + (length c.as_slice-indices.result.now + (1 + left))) (events ++ puts_of start.opened c.args.window c.args.group.now) to_place puts.distinct in
    let synced = c.in_ok-sync.ensures.steps start (1 + (length c.as_slice-indices.result.now + (1 + left))) (stage_among c.as_slice-indices.result.now Placed) ((events ++ puts_of start.opened c.args.window c.args.group.now) ++ places_of_each c.args.window c.as_slice-indices.result.now) places (omega arith) in
    let to_gate = to_gates start c.args.window left events c.args.group.now (state_now c.args.cell.now).map c.as_slice-indices.result.now c.sync.new.cell synced in
    let gates = c.in_ok-open_entries.ensures.moves start (1 + left) (((events ++ puts_of start.opened c.args.window c.args.group.now) ++ places_of_each c.args.window c.as_slice-indices.result.now) ++ Settle c.args.window ∷ []) to_gate puts.distinct in
    let some : length c.as_slice-indices.result.now ≡ 0 → ⊥ = eqb-false (length c.as_slice-indices.result.now) 0 (sym c.is_empty.ensures ∙ c.if-is_empty.false) in
    let ended = to_end start c.args.window left events c.args.group.now (state_now c.args.cell.now).map c.as_slice-indices.result.now c.sync-2.new.cell some (c.in_ok-sync-2.ensures.steps start (1 + left) (stage_among c.as_slice-indices.result.now Gated) ((((events ++ puts_of start.opened c.args.window c.args.group.now) ++ places_of_each c.args.window c.as_slice-indices.result.now) ++ Settle c.args.window ∷ []) ++ gates_of_each c.args.window c.as_slice-indices.result.now) gates (omega arith)) in
    let gated_events = (((events ++ puts_of start.opened c.args.window c.args.group.now) ++ places_of_each c.args.window c.as_slice-indices.result.now) ++ Settle c.args.window ∷ []) ++ gates_of_each c.args.window c.as_slice-indices.result.now in
    let later = c.in_ok-sync-2.ensures.steps c.open_entries.new.cell (1 + left) (stage_among c.as_slice-indices.result.now Gated) [] (stands_from_now start c.args.window (1 + left) (stage_among c.as_slice-indices.result.now Gated) gated_events c.open_entries.new.cell gates) (omega arith) in
    subst (λ (l : List ℕ). StoresEach start c.args.window left events c.args.group.now (state_now c.args.cell.now).map l c.sync-2.new.cell) e
    (record {
      stands = ended;
      stored_are = puts.stored_are;
      there = still_all (state_now c.open_entries.new.cell).map (state_now c.sync-2.new.cell).map c.as_slice-indices.result.now later.taken.stays
          (gated_open start c.args.window (1 + left) c.as_slice-indices.result.now gated_events c.open_entries.new.cell gates);
    })

pub returns-then-is_empty-clause-shows : goal.returns-then-is_empty-clause-shows
returns-then-is_empty-clause-shows g c = λ start left events h may distinct file before.
    let none : length c.write_blocks.new.stored.items ≡ 0 = ap (λ (l : List ℕ). length l) (sym c.as_slice-indices.ensures.value) ∙ eqb-true (length c.as_slice-indices.result.now) 0 (sym c.is_empty.ensures ∙ c.if-is_empty.true) in
    let more = length c.args.group.now + (1 + (length c.args.group.now + (1 + left))) in
    let puts : PutsEach start c.args.window more events c.args.group.now (state_now c.args.cell.now).map c.write_blocks.new.stored.items c.write_blocks.new.cell = c.in_ok-write_blocks.ensures.puts start more events h may distinct in
    shown_none c.args.cell.now.opened (state_now c.args.cell.now).map file c.args.group.now c.write_blocks.new.cell c.write_blocks.new.stored.items none puts.stored_are (c.in_ok-write_blocks.ensures.shows start more events h may distinct file before)

pub returns-clause-shows : goal.returns-clause-shows
returns-clause-shows g c = λ start left events h may distinct file before.
    let e : c.as_slice-indices.result.now ≡ c.write_blocks.new.stored.items = c.as_slice-indices.ensures.value in
    let puts : PutsEach start c.args.window (length c.args.group.now + (1 + (length c.args.group.now + (1 + left)))) events c.args.group.now (state_now c.args.cell.now).map c.as_slice-indices.result.now c.write_blocks.new.cell =
    subst (λ (l : List ℕ). PutsEach start c.args.window (length c.args.group.now + (1 + (length c.args.group.now + (1 + left)))) events c.args.group.now (state_now c.args.cell.now).map l c.write_blocks.new.cell) (sym e) (c.in_ok-write_blocks.ensures.puts start (length c.args.group.now + (1 + (length c.args.group.now + (1 + left)))) events h may distinct) in
    let few : length c.as_slice-indices.result.now ≤ length c.args.group.now = omega (arith, ap (λ (l : List ℕ). length l) e, c.in_ok-write_blocks.ensures.fewer) in
    let to_place = to_places start c.args.window left events c.args.group.now (state_now c.args.cell.now).map c.as_slice-indices.result.now c.write_blocks.new.cell few puts in
    let places = c.in_ok-write_places.ensures.moves start (1 + (length c.as_slice-indices.result.now + (1 + left))) (events ++ puts_of start.opened c.args.window c.args.group.now) to_place puts.distinct in
    let synced = c.in_ok-sync.ensures.steps start (1 + (length c.as_slice-indices.result.now + (1 + left))) (stage_among c.as_slice-indices.result.now Placed) ((events ++ puts_of start.opened c.args.window c.args.group.now) ++ places_of_each c.args.window c.as_slice-indices.result.now) places (omega arith) in
    let to_gate = to_gates start c.args.window left events c.args.group.now (state_now c.args.cell.now).map c.as_slice-indices.result.now c.sync.new.cell synced in
    let gates = c.in_ok-open_entries.ensures.moves start (1 + left) (((events ++ puts_of start.opened c.args.window c.args.group.now) ++ places_of_each c.args.window c.as_slice-indices.result.now) ++ Settle c.args.window ∷ []) to_gate puts.distinct in
    let opened = c.args.cell.now.opened in
    let blocks_shown = c.in_ok-write_blocks.ensures.shows start (length c.args.group.now + (1 + (length c.args.group.now + (1 + left)))) events h may distinct file before in
    let blocks = with_blocks opened (state_now c.args.cell.now).map file c.args.group.now in
    let places_shown : ShowsFile c.write_places.new.cell (with_places opened blocks c.as_slice-indices.result.now) =
    subst (λ (o : Opened). ShowsFile c.write_places.new.cell (with_places o blocks c.as_slice-indices.result.now)) (puts.stands.taken.opened ∙ sym h.taken.opened)
    (c.in_ok-write_places.ensures.shows start (1 + (length c.as_slice-indices.result.now + (1 + left))) (events ++ puts_of start.opened c.args.window c.args.group.now) to_place puts.distinct blocks blocks_shown) in
    let synced_shown = c.in_ok-sync.ensures.shows (with_places opened blocks c.as_slice-indices.result.now) places_shown in
    let gates_shown : ShowsFile c.open_entries.new.cell (with_gates opened (with_places opened blocks c.as_slice-indices.result.now) c.as_slice-indices.result.now) =
    subst (λ (o : Opened). ShowsFile c.open_entries.new.cell (with_gates o (with_places opened blocks c.as_slice-indices.result.now) c.as_slice-indices.result.now)) (synced.taken.opened ∙ sym h.taken.opened)
    (c.in_ok-open_entries.ensures.shows start (1 + left) (((events ++ puts_of start.opened c.args.window c.args.group.now) ++ places_of_each c.args.window c.as_slice-indices.result.now) ++ Settle c.args.window ∷ []) to_gate puts.distinct (with_places opened blocks c.as_slice-indices.result.now) synced_shown) in
    shown_group opened (state_now c.args.cell.now).map file c.args.group.now c.sync-2.new.cell c.as_slice-indices.result.now puts.stored_are
    (c.in_ok-sync-2.ensures.shows (with_gates opened (with_places opened blocks c.as_slice-indices.result.now) c.as_slice-indices.result.now) gates_shown)
