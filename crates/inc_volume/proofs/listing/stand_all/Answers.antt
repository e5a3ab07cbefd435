use Rattle.std.proofs.Common.{arith, rules}
use Rattle.std.proofs.lemmas.Grind.{common_steps}
use Rattle.inc_volume.proofs.OwnFaults.{standings_with}
use Rattle.inc_volume.proofs.listing.stand_all.Goals as goal

pub loop-rest-preserved-in_ok-push : goal.loop-rest-preserved-in_ok-push
loop-rest-preserved-in_ok-push g c = record {
  answer = grind (arith, common_steps);
  own = rw c.in_ok-push.ensures.ok (standings_with _ _ c.loop-rest.invariant.own (rw c.in-Some.is at c.in_ok-row.ensures.own));
  kept = search rules;
  back = search rules;
  quiet = search rules;
}
