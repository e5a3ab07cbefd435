use Rattle.inc_model.proofs.lists.Rising.{same_indices, same_rows}
use Rattle.inc_model.proofs.runs.Openings.{lists_open, acknowledged_found, opened_acknowledged, reopens_as}
use Rattle.inc_model.proofs.laws.openings_are_lists.Goals as goal

pub returns-clause-made : goal.returns-clause-made
returns-clause-made c = lists_open

pub returns-clause-found : goal.returns-clause-found
returns-clause-found c = acknowledged_found

pub returns-clause-opened : goal.returns-clause-opened
returns-clause-opened c = opened_acknowledged

pub returns-clause-indices : goal.returns-clause-indices
returns-clause-indices c = same_indices

pub returns-clause-rows : goal.returns-clause-rows
returns-clause-rows c = λ a b ra rb same. same_rows a b ra rb same

pub returns-clause-reopened : goal.returns-clause-reopened
returns-clause-reopened c = reopens_as
