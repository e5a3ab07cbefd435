use Rattle.inc_fill.proofs.Going.{length-count_bytes}
use Rattle.inc_fill.specs.Steps.{count_bytes}
use Rattle.std.proofs.lemmas.Result.{err_from_is_err_and}
use Rattle.inc_recover.proofs.CountWrites.{counts_go, write_fails}
use Rattle.inc_recover.proofs.mounting.write_counts.Goals as goal

pub returns-in_err-write_status-clause-counts : goal.returns-in_err-write_status-clause-counts
returns-in_err-write_status-clause-counts g c bytes fits has =
    let p = err_from_is_err_and c.from_residual.result c.from_residual.ensures.1 in
    rw p.1 (write_fails c.args.status.at (count_bytes c.args.status.data_written c.args.status.hash_written) bytes _ _ _
    (length-count_bytes c.args.status.data_written c.args.status.hash_written) fits has c.in_err-write_status.ensures.written)

pub returns-clause-counts : goal.returns-clause-counts
returns-clause-counts g c bytes fits has =
    counts_go c.args.status.at (count_bytes c.args.status.data_written c.args.status.hash_written) bytes _ _ _ _
    (length-count_bytes c.args.status.data_written c.args.status.hash_written) fits (g.met.D.Disk.sound c.write_status.new.disk) has c.in_ok-write_status.ensures.written c.sync.ensures.synced
