use Rattle.inc_model.proofs.runs.Histories.{front_legal, rest_legal, both_legal, after_both, after_one, entry_at}
use Rattle.inc_model.proofs.laws.histories_join.Goals as goal

pub returns-clause-front : goal.returns-clause-front
returns-clause-front c = front_legal

pub returns-clause-rest : goal.returns-clause-rest
returns-clause-rest c = rest_legal

pub returns-clause-both : goal.returns-clause-both
returns-clause-both c = both_legal

pub returns-clause-state : goal.returns-clause-state
returns-clause-state c = after_both

pub returns-clause-one_more : goal.returns-clause-one_more
returns-clause-one_more c = after_one

pub returns-clause-position : goal.returns-clause-position
returns-clause-position c = entry_at
