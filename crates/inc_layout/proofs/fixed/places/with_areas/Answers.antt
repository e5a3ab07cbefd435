use Rattle.std.proofs.Common.{◌∙◌, rules}
use Rattle.inc_layout.proofs.fixed_part.Placed.{placed_from, record_shape}
use Rattle.inc_layout.proofs.fixed.places.with_areas.Goals as goal

pub returns-clause-placed : goal.returns-clause-placed
returns-clause-placed c =
    let shape = c.shape_for.ensures.value ∙ record_shape c.args.records.signature c.args.plain.tree c.args.plain.flat c.args.plain.header.size c.args.plain.tree_is c.args.plain.flat_is in
    placed_from _ _ _ c.args.plain.first c.args.plain.plain shape c.requires.signed c.requires.inside (search rules) (search rules) (search rules) c.in_ok-check_areas.ensures.value
