use Rattle.std.proofs.Common.{◌+◌, true, rules}
use Rattle.inc_history.specs.Runs.{TakesEntry}
use Rattle.inc_history.proofs.Rounds.{ran_more}
use Rattle.inc_history.proofs.history_run.run_entries.Goals as goal

pub loop-done-preserved : goal.loop-done-preserved
loop-done-preserved c =
    let took : TakesEntry (c.args.at + c.loop-done.done) c.loop-done.core.state c.index-entries-done.result true c.take_entry.new.core.state = search rules in
    ran_more c.args.at c.args.core.now.state c.args.entries.now c.loop-done.done c.loop-done.core.state c.take_entry.new.core.state c.index-entries-done.result c.loop-done-test.true c.index-entries-done.is c.loop-done.invariant took.0 took.1
