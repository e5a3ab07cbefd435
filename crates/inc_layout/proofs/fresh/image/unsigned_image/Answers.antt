use Rattle.std.proofs.Common.{◌∙◌, arith}
use Rattle.inc_layout.proofs.fresh_file.FreshPieces.{unsigned_whole}
use Rattle.inc_layout.proofs.fresh.image.unsigned_image.Goals as goal

pub returns-clause-value : goal.returns-clause-value
returns-clause-value c =
    (unsigned_whole c.args.flat.now.size c.args.id c.from_vec.result c.size.result c.data_blocks-blocks.result _ (c.header_of-header.ensures.header).id_length c.size.ensures.value c.data_blocks-blocks.ensures.value
    (c.from_vec.ensures.value ∙ rw c.header_of-header.ensures.value at c.in_ok-front.ensures.value) (omega (arith, c.data_blocks-blocks.ensures.value))).0

pub returns-clause-fits : goal.returns-clause-fits
returns-clause-fits c =
    (unsigned_whole c.args.flat.now.size c.args.id c.from_vec.result c.size.result c.data_blocks-blocks.result _ (c.header_of-header.ensures.header).id_length c.size.ensures.value c.data_blocks-blocks.ensures.value
    (c.from_vec.ensures.value ∙ rw c.header_of-header.ensures.value at c.in_ok-front.ensures.value) (omega (arith, c.data_blocks-blocks.ensures.value))).1
