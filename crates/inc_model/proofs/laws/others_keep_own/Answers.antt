use Rattle.inc_model.proofs.runs.OtherRows.{others_keep_rows, own_put_placed}
use Rattle.inc_model.proofs.runs.Others.{others_keep_reads, others_keep_places}
use Rattle.inc_model.proofs.laws.others_keep_own.Goals as goal

pub returns-clause-reads : goal.returns-clause-reads
returns-clause-reads c = others_keep_reads

pub returns-clause-places : goal.returns-clause-places
returns-clause-places c = others_keep_places

pub returns-clause-rows : goal.returns-clause-rows
returns-clause-rows c = others_keep_rows

pub returns-clause-placed : goal.returns-clause-placed
returns-clause-placed c = own_put_placed
