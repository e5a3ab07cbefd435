use Rattle.std.proofs.Common.{ap, ◌∙◌, Err}
use Rattle.std.proofs.lemmas.Result.{err_from_is_err_and}
use Rattle.inc_recover.proofs.MountLemmas.{open_fails, opened_len, mend_fails, mounted, own_mount, sync_fails}
use Rattle.inc_recover.proofs.mounting.mount.Goals as goal

pub returns-in_err-sync-clause-mounts : goal.returns-in_err-sync-clause-mounts
returns-in_err-sync-clause-mounts g c =
    let p = err_from_is_err_and c.from_residual.result c.from_residual.ensures.1 in
    rw (p.1 ∙ ap Err p.2) (sync_fails _ _ _ _ (g.met.D.Disk.sound c.args.disk.now) c.in_err-sync.ensures.synced)

pub returns-in_err-opened-clause-mounts : goal.returns-in_err-opened-clause-mounts
returns-in_err-opened-clause-mounts g c =
    let p = err_from_is_err_and c.from_residual-in_err-opened.result c.from_residual-in_err-opened.ensures.1 in
    rw (p.1 ∙ ap Err p.2) (open_fails _ _ _ _ _ _ (g.met.D.Disk.sound c.args.disk.now) c.in_ok-sync.ensures.synced (ap g.D.Disk.states c.in_err-opened.ensures.kept)
    (g.met.D.Disk.reads_now (g.D.Backing.kept c.sync.new.self)) c.in_err-opened.ensures.answer)

pub mend_counts-requires-clause-len : goal.mend_counts-requires-clause-len
mend_counts-requires-clause-len g c =
    rw c.in_ok-opened.ensures.kept (opened_len _ c.in_ok-opened.opened c.in_ok-opened.ensures.answer)

pub returns-in_err-mend_counts-clause-mounts : goal.returns-in_err-mend_counts-clause-mounts
returns-in_err-mend_counts-clause-mounts g c =
    let p = err_from_is_err_and c.from_residual-in_err-mend_counts.result c.from_residual-in_err-mend_counts.ensures.1 in
    rw (p.1 ∙ ap Err p.2) (mend_fails _ _ _ _ _ c.in_ok-opened.opened _ (g.met.D.Disk.sound c.args.disk.now) c.in_ok-sync.ensures.synced (ap g.D.Disk.states c.in_ok-opened.ensures.kept)
    (g.met.D.Disk.reads_now (g.D.Backing.kept c.sync.new.self)) c.in_ok-opened.ensures.answer c.in_err-mend_counts.ensures.mends c.in_err-mend_counts.ensures.needed)

pub returns-clause-mounts : goal.returns-clause-mounts
returns-clause-mounts g c =
    mounted _ _ _ _ _ c.mend_counts.new.opened c.in_ok-opened.opened (g.met.D.Disk.sound c.args.disk.now) c.in_ok-sync.ensures.synced (ap g.D.Disk.states c.in_ok-opened.ensures.kept)
    (g.met.D.Disk.reads_now (g.D.Backing.kept c.sync.new.self)) c.in_ok-opened.ensures.answer c.in_ok-mend_counts.ensures.value c.in_ok-mend_counts.ensures.mends
    (λ right. ap g.D.Disk.states (c.in_ok-mend_counts.ensures.unwritten right))

pub returns-in_err-opened-clause-own : goal.returns-in_err-opened-clause-own
returns-in_err-opened-clause-own g c =
    let p = err_from_is_err_and c.from_residual-in_err-opened.result c.from_residual-in_err-opened.ensures.1 in
    rw (p.1 ∙ ap Err p.2) (own_mount _ c.in_err-opened.ensures.own)
