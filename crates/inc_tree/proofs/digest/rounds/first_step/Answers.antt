use Rattle.std.proofs.Common.{sym, refl}
use Rattle.sha2.proofs.Schedule256.{rounds_first}
use Rattle.inc_tree.specs.Lanes.{column, lane}
use Rattle.inc_tree.proofs.RoundLemmas.{column_at}
use Rattle.inc_tree.proofs.digest.rounds.first_step.Goals as goal

pub returns : goal.returns
returns c = record {
  value = λ j lt b h window held.
      rounds_first b h (column j c.args.words.now) (lane j c.args.v) c.args.at _ _ _ c.requires window held refl
      (sym (column_at j c.args.words.now c.args.at)) (c.round.ensures.value j lt);
}
