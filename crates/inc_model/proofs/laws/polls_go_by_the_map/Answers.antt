use Rattle.inc_model.proofs.steps.Paths.{lacks_no_path}
use Rattle.inc_model.proofs.steps.Polls.{times_out, waits_absent, waits_floor, names_lowest, hands_out}
use Rattle.inc_model.proofs.laws.polls_go_by_the_map.Goals as goal

pub returns-clause-late : goal.returns-clause-late
returns-clause-late c = λ first s who serial now row f. times_out first s who serial now row f

pub returns-clause-early : goal.returns-clause-early
returns-clause-early c = λ first s who serial now row f. waits_absent first s who serial now row f

pub returns-clause-floor : goal.returns-clause-floor
returns-clause-floor c = λ first s who serial now row f. waits_floor first s who serial now row f

pub returns-clause-path : goal.returns-clause-path
returns-clause-path c = λ first s who serial now hash row f. names_lowest first s who serial now row f hash

pub returns-clause-handed : goal.returns-clause-handed
returns-clause-handed c = λ first s who serial now row digest f. hands_out first s who serial now row f digest

pub returns-clause-no_tree : goal.returns-clause-no_tree
returns-clause-no_tree c = lacks_no_path
