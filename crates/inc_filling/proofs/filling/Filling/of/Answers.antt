use Rattle.std.proofs.Common.{ℕ, List, take, ap, ◌∙◌}
use Rattle.inc_tree.specs.read_block.Path.{padded}
use Rattle.inc_cell.specs.device.Digested.{DigestedBlock}
use Rattle.inc_filling.specs.Contents.{len_of_piece}
use Rattle.inc_filling.proofs.lemmas.TakenLemmas.{content_again, taken_long}
use Rattle.inc_filling.proofs.filling.Filling.of.Goals as goal

pub returns : goal.returns
returns g c =
    let opened = c.args.cell.now.opened in
    let piece = c.args.piece.now in
    record {
      index = c.in_ok-padded.ensures.index;
      block = ap (λ (d : DigestedBlock). d.bytes) c.of-2.ensures.value
          ∙ ap (λ (n : ℕ). padded (take n c.in_ok-padded.padded.block)) c.in_ok-padded.ensures.len
          ∙ ap (λ (b : List ℕ). padded (take (len_of_piece opened piece) b)) c.in_ok-padded.ensures.block
          ∙ ap padded (content_again piece.bytes (len_of_piece opened piece) (taken_long opened piece c.requires.taken));
    }
