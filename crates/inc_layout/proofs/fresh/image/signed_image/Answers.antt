use Rattle.std.proofs.Common.{◌∙◌}
use Rattle.inc_layout.proofs.fresh_file.FreshPieces.{front_built, image_whole}
use Rattle.inc_layout.proofs.fresh.image.signed_image.Goals as goal

pub returns-clause-value : goal.returns-clause-value
returns-clause-value c =
    let plan = c.plan_of-plan.ensures in
    let front = front_built c.args.tree.now c.args.id c.args.blob.now c.size.result c.plan_of-plan.result.map_at c.plan_of-plan.result.entries c.plan_of-plan.result.tree_size c.plan_of-plan.result.tree_at
    c.from_vec.result c.size.ensures.value plan.map_at plan.entries plan.tree_size plan.tree_at (c.from_vec.ensures.value ∙ rw c.header_of-header.ensures.value at c.in_ok-front.ensures.value) in
    (image_whole c.args.tree.now c.args.id c.args.blob.now c.from_vec.result _ (c.header_of-header.ensures.header).id_length front plan.len).0

pub returns-clause-fits : goal.returns-clause-fits
returns-clause-fits c =
    let plan = c.plan_of-plan.ensures in
    let front = front_built c.args.tree.now c.args.id c.args.blob.now c.size.result c.plan_of-plan.result.map_at c.plan_of-plan.result.entries c.plan_of-plan.result.tree_size c.plan_of-plan.result.tree_at
    c.from_vec.result c.size.ensures.value plan.map_at plan.entries plan.tree_size plan.tree_at (c.from_vec.ensures.value ∙ rw c.header_of-header.ensures.value at c.in_ok-front.ensures.value) in
    (image_whole c.args.tree.now c.args.id c.args.blob.now c.from_vec.result _ (c.header_of-header.ensures.header).id_length front plan.len).1
