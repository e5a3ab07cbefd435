use Rattle.std.proofs.Common.{refl}
use Rattle.sha2.specs.Sha256.{rounds}
use Rattle.inc_tree.specs.Lanes.{lane}
use Rattle.inc_tree.proofs.digest.rounds.all_rounds.Goals as goal

pub returns : goal.returns
unfolding rounds
returns c = record {
  value = λ j lt b window.
      let h = lane j c.args.state in
      let s1 = c.first_four_steps-v.ensures.value j lt b h window refl in
      let s2 = c.first_four_steps-v-2.ensures.value j lt b h window s1 in
      let s3 = c.first_four_steps-v-3.ensures.value j lt b h window s2 in
      let s4 = c.first_four_steps-v-4.ensures.value j lt b h window s3 in
      let t1 = c.sixteen_steps-v.ensures.value j lt b h (window, s4) in
      let t2 = c.sixteen_steps-v-2.ensures.value j lt b h t1 in
      (c.sixteen_steps.ensures.value j lt b h t2).1;
}
