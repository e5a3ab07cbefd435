use Rattle.std.proofs.Common.{◌≡◌, ℕ, zero, suc, List, [], ◌∷◌, refl, ◌<◌, ◌++◌, length, sym, ap, subst, ◌∙◌, arith}
use Rattle.std.specs.Prelude.{Result}
use Rattle.std.proofs.lemmas.Bool.{eqb-false, eqb-true}
use Rattle.std.proofs.lemmas.Result.{err_from_is_err_and}
use Rattle.inc_turn.specs.Locks.{seat_view}
use Rattle.inc_filling.specs.Grouped.{puts_of}
use Rattle.inc_filling.specs.declared.stop.FillStop.{FillStop}
use Rattle.inc_handle.specs.UnderWay.{PutsAll, finish_places}
use Rattle.inc_handle.specs.Fills.{StoresOwnGroup, StoresSome}
use Rattle.inc_handle.proofs.fills.Stores.{finish_stores, none_stored, puts_broke, to_finish}
use Rattle.inc_handle.proofs.fills.Turns.{gone_twice}
use Rattle.inc_handle.proofs.fill.store.store_group.Goals as goal

positive : (n : ℕ) → (n ≡ 0 → ⊥) → 0 < n
positive zero h = absurd (h refl)
positive (suc n) h = omega arith

empty_list : (l : List ℕ) → length l ≡ 0 → l ≡ []
empty_list [] e = refl
empty_list (x ∷ xs) e = absurd (omega arith)

pub returns-in_err-write_blocks-clause-stores : goal.returns-in_err-write_blocks-clause-stores
returns-in_err-write_blocks-clause-stores g c = λ known start left events h may distinct.
    let p = err_from_is_err_and c.from_residual.result c.from_residual.ensures.1 in
    let n = length c.args.group.items in
    subst (λ (result : Result ℕ FillStop). StoresOwnGroup known start c.args.window left events c.args.group.items result c.write_blocks.new.ends.items c.write_blocks.new.stored.items (seat_view c.write_blocks.new.seat)) (sym p.1)
    (subst (λ (stop : FillStop). StoresSome known start c.args.window left events c.args.group.items c.write_blocks.new.ends.items c.write_blocks.new.stored.items stop (seat_view c.write_blocks.new.seat)) (sym p.2)
    (puts_broke known start c.args.window left events c.args.group.items c.write_blocks.new.ends.items c.write_blocks.new.stored.items c.in_err-write_blocks.field-0.0 (seat_view c.write_blocks.new.seat)
    (c.in_err-write_blocks.ensures.puts known start (finish_places n left) events h may distinct)))

pub returns-then-is_empty-clause-stores : goal.returns-then-is_empty-clause-stores
returns-then-is_empty-clause-stores g c = λ known start left events h may distinct.
    let n = length c.args.group.items in
    let none : c.write_blocks.new.stored.items ≡ [] =
    empty_list c.write_blocks.new.stored.items (ap (λ (l : List ℕ). length l) (sym c.as_slice-indices.ensures.value) ∙ eqb-true (length c.as_slice-indices.result.now) 0 (sym c.is_empty.ensures ∙ c.if-is_empty.true)) in
    none_stored known start c.args.window left events c.args.group.items c.write_blocks.new.ends.items c.write_blocks.new.stored.items (seat_view c.write_blocks.new.seat) (c.in_ok-write_blocks.ensures.puts known start (finish_places n left) events h may distinct) none

pub returns-clause-stores : goal.returns-clause-stores
returns-clause-stores g c = λ known start left events h may distinct.
    let n = length c.args.group.items in
    let same : c.as_slice-indices.result.now ≡ c.write_blocks.new.stored.items = c.as_slice-indices.ensures.value in
    let filled : length c.as_slice-indices.result.now ≡ 0 → ⊥ = eqb-false (length c.as_slice-indices.result.now) 0 (sym c.is_empty.ensures ∙ c.if-is_empty.false) in
    let some : 0 < length c.as_slice-indices.result.now = positive (length c.as_slice-indices.result.now) filled in
    let puts : PutsAll known start c.args.window (finish_places n left) events c.args.group.items c.write_blocks.new.ends.items c.as_slice-indices.result.now (seat_view c.write_blocks.new.seat) =
    subst (λ (l : List ℕ). PutsAll known start c.args.window (finish_places n left) events c.args.group.items c.write_blocks.new.ends.items l (seat_view c.write_blocks.new.seat)) (sym same) (c.in_ok-write_blocks.ensures.puts known start (finish_places n left) events h may distinct) in
    subst (λ (l : List ℕ). StoresOwnGroup known start c.args.window left events c.args.group.items c.finish_blocks.result c.write_blocks.new.ends.items l (seat_view c.finish_blocks.new.seat)) same
    (finish_stores known start c.args.window left events c.args.group.items c.write_blocks.new.ends.items c.as_slice-indices.result.now (seat_view c.write_blocks.new.seat) (seat_view c.finish_blocks.new.seat) c.finish_blocks.ensures.own.mine c.finish_blocks.ensures.own.adds puts some
    c.finish_blocks.result
    (c.finish_blocks.ensures.finishes known start left (events ++ puts_of known.opened c.args.window c.args.group.items) (to_finish known start c.args.window left events c.args.group.items c.write_blocks.new.ends.items c.as_slice-indices.result.now (seat_view c.write_blocks.new.seat) puts) puts.distinct))

pub returns-clause-own : goal.returns-clause-own
returns-clause-own g c = gone_twice c.args.seat.now c.write_blocks.new.seat c.finish_blocks.new.seat c.write_blocks.ensures.own c.finish_blocks.ensures.own
