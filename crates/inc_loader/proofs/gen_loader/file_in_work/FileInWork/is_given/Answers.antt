use Rattle.std.proofs.Common.{◌∙◌, ap, ◌+◌}
use Rattle.inc_tree.specs.shape.Geometry.{Shape, data_blocks, hash_blocks}
use Rattle.inc_loader.proofs.PieceLemmas.{given_test}
use Rattle.inc_loader.proofs.gen_loader.file_in_work.FileInWork.is_given.Goals as goal

pub returns : goal.returns
returns c =
    let work = c.args.self.now in
    record {
      value = given_test work.file work.number work.file.size work.next c.piece_count.result
          (c.piece_count.ensures.value ∙ ap (λ (shape : Shape). hash_blocks shape + data_blocks shape) work.shape);
    }
