use Rattle.std.proofs.Common.{◌++◌, [], refl}
use Rattle.std.specs.Prelude.{replicate}
use Rattle.inc_disk.proofs.Moments.{joined}
use Rattle.inc_recover.specs.Making.{MayBeLeft}
use Rattle.inc_recover.proofs.Made.{begins_unmarked, grows, rest_settles, unmarked_told}
use Rattle.inc_recover.proofs.making.put_rest.Goals as goal

pub returns-in_err-write_at-clause-moments : goal.returns-in_err-write_at-clause-moments
returns-in_err-write_at-clause-moments g c image = (grows 8 c.args.rest.now [] image _ _ _ refl c.write_at.ensures.written (begins_unmarked _ c.requires.blank)).moments

pub put_zeros-requires-clause-place : goal.put_zeros-requires-clause-place
put_zeros-requires-clause-place g c =
    let first = grows 8 c.args.rest.now [] [] _ _ _ refl c.in_ok-write_at.ensures.written (begins_unmarked _ c.requires.blank) in
    rw (g.met.D.Disk.reads_now (g.D.Backing.kept c.write_at.new.self)) (unmarked_told _ c.args.rest.now _ refl first.ok)

pub returns-in_err-put_zeros-clause-moments : goal.returns-in_err-put_zeros-clause-moments
returns-in_err-put_zeros-clause-moments g c image =
    let first = grows 8 c.args.rest.now [] image _ _ _ refl c.in_ok-write_at.ensures.written (begins_unmarked _ c.requires.blank) in
    joined _ _ _ (MayBeLeft image) first.moments (c.put_zeros.ensures.moments c.args.rest.now image refl first.ok)

pub returns-clause-made : goal.returns-clause-made
returns-clause-made g c =
    let first = grows 8 c.args.rest.now [] [] _ _ _ refl c.in_ok-write_at.ensures.written (begins_unmarked _ c.requires.blank) in
    (rest_settles (c.args.rest.now ++ replicate c.args.zeros 0) [] _ _ _ c.sync.ensures.synced (g.met.D.Disk.sound c.put_zeros.new.disk) (c.in_ok-put_zeros.ensures.made c.args.rest.now refl first.ok)).ok

pub returns-clause-moments : goal.returns-clause-moments
returns-clause-moments g c image =
    let first = grows 8 c.args.rest.now [] image _ _ _ refl c.in_ok-write_at.ensures.written (begins_unmarked _ c.requires.blank) in
    joined _ _ _ (MayBeLeft image) (joined _ _ _ (MayBeLeft image) first.moments (c.put_zeros.ensures.moments c.args.rest.now image refl first.ok))
    (rest_settles (c.args.rest.now ++ replicate c.args.zeros 0) image _ _ _ c.sync.ensures.synced (g.met.D.Disk.sound c.put_zeros.new.disk) (c.in_ok-put_zeros.ensures.made c.args.rest.now refl first.ok)).moments
