use Rattle.std.proofs.Common.{ap, arith, rules}
use Rattle.std.specs.Prelude.{length}
use Rattle.std.proofs.lemmas.Fn.{filter_same}
use Rattle.inc_model.proofs.lists.Flight.{gated_leave}
use Rattle.inc_model.proofs.state_lists.flight.land_gated.Goals as goal

pub returns-clause-rows : goal.returns-clause-rows
returns-clause-rows c = filter_same _ _ _ (λ x b f' k. search rules) _ _ c.retain.ensures.filtered

pub returns-clause-count : goal.returns-clause-count
returns-clause-count c =
    let few = gated_leave c.args.flight.now.items in
    let long = ap (λ l. length l) (returns-clause-rows c) in
    omega arith
