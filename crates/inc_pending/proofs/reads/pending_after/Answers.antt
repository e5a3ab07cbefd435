use Rattle.inc_pending.proofs.TableLemmas.{records_rise}
use Rattle.inc_pending.proofs.reads.pending_after.Goals as goal

pub returns-clause-rising : goal.returns-clause-rising
returns-clause-rising c = rw (c.from_vec.ensures.value, c.in_ok-records.ensures.value) (records_rise c.args.id.now c.args.serial c.args.max c.args.rows.now c.requires.rising)
