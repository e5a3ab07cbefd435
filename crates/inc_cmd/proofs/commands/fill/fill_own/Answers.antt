use Rattle.std.proofs.Common.{ap}
use Rattle.inc_cmd.proofs.filling.ShelfFills.{given_answers, given_full, given_leaves, given_settled, missing_answers, same_leaves}
use Rattle.inc_cmd.proofs.commands.fill.fill_own.Goals as goal

pub returns-in_err-disk-clause-moments : goal.returns-in_err-disk-clause-moments
returns-in_err-disk-clause-moments g c = same_leaves _ _ _ _ (ap g.S.Shelf.log c.in_err-disk.ensures.kept)

pub returns-in_default-clause-answer : goal.returns-in_default-clause-answer
returns-in_default-clause-answer g c =
    missing_answers _ _ (g.S.Shelf.log (g.S.ReadShelf.kept c.args.shelf.now)) _ c.args.name.now _ (g.met.S.Shelf.contents_now _) (ap g.S.ReadShelf.contents c.in_ok-disk.ensures.kept)
    (rw c.in_default.is at c.in_ok-disk.ensures.found) (rw c.missing.ensures.value at c.refuse.ensures.outcome)

pub returns-in_default-clause-moments : goal.returns-in_default-clause-moments
returns-in_default-clause-moments g c = same_leaves _ _ _ _ (ap g.S.Shelf.log c.in_ok-disk.ensures.kept)

pub returns-clause-answer : goal.returns-clause-answer
returns-clause-answer g c =
    given_answers c.args.name.now (g.S.Shelf.log (g.S.ReadShelf.kept c.args.shelf.now)) _ _ _ _ _ _ (rw c.in-Some.is at c.in_ok-disk.ensures.found) (rw c.in-Some.is at c.in_ok-disk.ensures.states)
    (ap g.S.Shelf.log c.in_ok-disk.ensures.kept) c.close_disk.ensures.logged c.fill_disk-end.ensures.fills _ _ (g.met.S.Shelf.contents_now _) (g.met.S.Shelf.contents_now _)

pub returns-clause-full : goal.returns-clause-full
returns-clause-full g c =
    given_full c.args.name.now (g.S.Shelf.log (g.S.ReadShelf.kept c.args.shelf.now)) _ _ _ _ _ _ (rw c.in-Some.is at c.in_ok-disk.ensures.found) (rw c.in-Some.is at c.in_ok-disk.ensures.states)
    (ap g.S.Shelf.log c.in_ok-disk.ensures.kept) c.close_disk.ensures.logged c.fill_disk-end.ensures.fills _ _ (g.met.S.Shelf.contents_now _) (g.met.S.Shelf.contents_now _)

pub returns-clause-moments : goal.returns-clause-moments
returns-clause-moments g c =
    given_leaves c.args.name.now (g.S.Shelf.log (g.S.ReadShelf.kept c.args.shelf.now)) _ _ _ _ _ _ (rw c.in-Some.is at c.in_ok-disk.ensures.found) (rw c.in-Some.is at c.in_ok-disk.ensures.states)
    (ap g.S.Shelf.log c.in_ok-disk.ensures.kept) c.close_disk.ensures.logged c.fill_disk-end.ensures.fills

pub returns-clause-settled : goal.returns-clause-settled
returns-clause-settled g c =
    given_settled c.args.name.now (g.S.Shelf.log (g.S.ReadShelf.kept c.args.shelf.now)) _ _ _ _ _ _ (rw c.in-Some.is at c.in_ok-disk.ensures.found) (rw c.in-Some.is at c.in_ok-disk.ensures.states)
    (ap g.S.Shelf.log c.in_ok-disk.ensures.kept) c.close_disk.ensures.logged c.fill_disk-end.ensures.fills
