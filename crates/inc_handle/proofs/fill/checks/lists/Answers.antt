use Rattle.std.proofs.Common.{◌∙◌}
use Rattle.inc_model.proofs.lists.Searched.{held_by}
use Rattle.inc_handle.proofs.fill.checks.lists.Goals as goal

pub returns : goal.returns
returns c = record { value = c.is_ok.ensures.value ∙ held_by c.args.index c.args.indices.now c.binary_search.result c.requires.rise c.binary_search.ensures.position }
