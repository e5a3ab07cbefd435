use Rattle.inc_cell.proofs.openings.ReopenLemmas.{apart_in, ends_reopen, parts_reopen}
use Rattle.inc_cell.proofs.openings.RunLemmas.{crashes_reopen}
use Rattle.inc_cell.proofs.laws.kept_states_reopen.Goals as goal

pub returns-clause-reopened : goal.returns-clause-reopened
returns-clause-reopened c = λ first s opened faults readers f m sound may. parts_reopen first s f m opened faults readers sound may

pub returns-clause-apart : goal.returns-clause-apart
returns-clause-apart c = λ first s f m. apart_in first s f m

pub returns-clause-crashed : goal.returns-clause-crashed
returns-clause-crashed c = crashes_reopen

pub returns-clause-ended : goal.returns-clause-ended
returns-clause-ended c = λ first s opened next bytes faults readers f m reads sound stands may. ends_reopen first s f m opened next bytes faults readers reads sound stands may
