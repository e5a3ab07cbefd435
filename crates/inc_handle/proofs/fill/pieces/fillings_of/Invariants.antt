use Rattle.std.proofs.Common.{◌≡◌, map, take}
use Rattle.inc_filling.specs.Contents.{block_of_piece, index_of_piece, len_of_piece}
use Rattle.inc_handle.proofs.fill.pieces.fillings_of.Given as goal

abbrev pub invariant-loop-at : goal.invariant-loop-at
invariant-loop-at l = record {
  indices : l.indices.items ≡ map (index_of_piece l.known.opened.value) (take l.at l.pieces);
  lens : l.lens.items ≡ map (len_of_piece l.known.opened.value) (take l.at l.pieces);
  blocks : l.blocks.items ≡ map (block_of_piece l.known.opened.value) (take l.at l.pieces);
}
