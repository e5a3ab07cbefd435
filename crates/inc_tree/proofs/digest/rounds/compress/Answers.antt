use Rattle.std.proofs.Common.{◌∙◌, ap}
use Rattle.sha2.specs.Sha256.{add_state, compress}
use Rattle.inc_tree.specs.Lanes.{lane}
use Rattle.inc_tree.proofs.digest.rounds.compress.Goals as goal

pub returns : goal.returns
unfolding compress
returns c = record {
  value = λ j lt b window.
      c.add_state.ensures.value j lt ∙ ap (add_state (lane j c.args.state.now)) (c.all_rounds.ensures.value j lt b window);
}
