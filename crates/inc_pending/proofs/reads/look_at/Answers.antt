use Rattle.std.proofs.Common.{sym, ap, ◌∙◌}
use Rattle.inc_pending.specs.Polling.{decision_of}
use Rattle.inc_pending.proofs.ReadsLemmas.{found_at}
use Rattle.inc_pending.proofs.reads.look_at.Goals as goal

pub returns-in-Some : goal.returns-in-Some
returns-in-Some c = record {
  value =
      c.decide.ensures.value
      ∙ sym (ap (λ found. decision_of found c.args.now) (found_at c.args.who c.args.serial c.args.rows.now c.in-Some.at _ (sym c.in-Some.ensures.value)));
}
