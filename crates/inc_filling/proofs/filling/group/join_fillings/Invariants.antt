use Rattle.std.proofs.Common.{◌≡◌, length, map, take, vec_len}
use Rattle.std.specs.List.{zip}
use Rattle.inc_filling.proofs.lemmas.HashLemmas.{filling_of}
use Rattle.inc_filling.proofs.filling.group.join_fillings.Given as goal

abbrev pub invariant-loop-block : goal.invariant-loop-block
invariant-loop-block l = record {
  items : l.group.items ≡ map filling_of (take (length l.yielded) (zip l.indices l.fn.blocks.items));
  count : vec_len l.group ≡ length l.yielded;
}
