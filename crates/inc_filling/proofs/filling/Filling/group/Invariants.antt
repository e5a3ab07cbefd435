use Rattle.std.proofs.Common.{◌≡◌, map, take}
use Rattle.inc_filling.specs.Contents.{block_of_piece, index_of_piece, len_of_piece}
use Rattle.inc_filling.proofs.filling.Filling.group.Given as goal

abbrev pub invariant-loop-at : goal.invariant-loop-at
invariant-loop-at g l = record {
  indices : l.indices.items ≡ map (index_of_piece l.cell.opened) (take l.at l.pieces);
  lens : l.lens.items ≡ map (len_of_piece l.cell.opened) (take l.at l.pieces);
  blocks : l.blocks.items ≡ map (block_of_piece l.cell.opened) (take l.at l.pieces);
}
