use Rattle.std.proofs.Common.{◌∙◌, slice_index, arith}
use Rattle.std.proofs.lemmas.List.{length-map}
use Rattle.inc_tree.proofs.MessageLemmas.{window_of_words}
use Rattle.inc_tree.proofs.digest.four.words_of.Goals as goal

pub returns : goal.returns
returns c = record {
  window = λ j lt.
      window_of_words j c.loop-place.words _ (length-map c.loop-place.words (λ v. slice_index v j) ∙ c.loop-place.invariant.0)
      (λ k h. c.loop-place.invariant.1 k (omega arith) j lt);
}
