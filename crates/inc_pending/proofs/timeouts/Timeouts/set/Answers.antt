use Rattle.std.proofs.Common.{◌≡◌, length, refl, arith}
use Rattle.inc_pending.proofs.TimesLemmas.{set_is, set_map, is_there, full_is, insert_is, insert_map, insert_holds}
use Rattle.inc_pending.proofs.timeouts.Timeouts.set.Goals as goal

pub returns-in-Ok-clause-ok : goal.returns-in-Ok-clause-ok
returns-in-Ok-clause-ok c = set_is _ _ _ c.in-Ok.at c.args.uid c.self.view_is c.as_slice.ensures.value c.args.t c.in-Ok.ensures.there

pub returns-in-Ok-clause-full : goal.returns-in-Ok-clause-full
returns-in-Ok-clause-full c = (λ e. absurd (cc), λ h. absurd (is_there _ _ _ c.in-Ok.at c.args.uid c.self.view_is c.as_slice.ensures.value c.in-Ok.ensures.there h.1))

pub returns-in-Ok-clause-map : goal.returns-in-Ok-clause-map
returns-in-Ok-clause-map c = set_map _ _ _ c.in-Ok.at c.args.uid c.self.view_is c.as_slice.ensures.value c.args.t c.in-Ok.ensures.there

pub returns-then-len-eq-MOST_ROWS-clause-full : goal.returns-then-len-eq-MOST_ROWS-clause-full
returns-then-len-eq-MOST_ROWS-clause-full c =
    let len : length c.self.inside.rows.items ≡ 256 = omega (arith, c.self.inside.rows.ok.0) in
    (λ e. full_is _ _ _ c.in-Err.at c.args.uid c.self.view_is c.as_slice.ensures.value c.self.invariant c.in-Err.ensures.missing len, λ h. refl)

pub invariant_of-self-in-Err : goal.invariant_of-self-in-Err
invariant_of-self-in-Err c =
    rw c.in_ok-insert-in-Err.ensures.items
    (insert_holds _ c.args.self.now _ c.in-Err.at c.args.uid c.self.view_is c.as_slice.ensures.value c.args.t c.self.invariant c.in-Err.ensures.missing (λ len. absurd (omega (arith, c.self.inside.rows.ok.0))))

pub returns-in_ok-insert-in-Err-clause-ok : goal.returns-in_ok-insert-in-Err-clause-ok
returns-in_ok-insert-in-Err-clause-ok c =
    rw c.in_ok-insert-in-Err.ensures.items (insert_is _ _ _ c.in-Err.at c.args.uid c.self.view_is c.as_slice.ensures.value c.args.t c.in-Err.ensures.missing)

pub returns-in_ok-insert-in-Err-clause-map : goal.returns-in_ok-insert-in-Err-clause-map
returns-in_ok-insert-in-Err-clause-map c =
    rw c.in_ok-insert-in-Err.ensures.items (insert_map _ _ _ c.in-Err.at c.args.uid c.self.view_is c.as_slice.ensures.value c.args.t c.in-Err.ensures.missing)
