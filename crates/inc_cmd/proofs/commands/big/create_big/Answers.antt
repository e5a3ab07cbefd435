use Rattle.std.proofs.Common.{ap}
use Rattle.inc_cmd.proofs.MakeLemmas.{adds_file, lent_out}
use Rattle.inc_cmd.proofs.filling.NewShelves.{big_answers, big_exists, big_leaves, big_none, big_settles, big_shows, big_stores, settles_there}
use Rattle.inc_cmd.proofs.commands.big.create_big.Goals as goal

pub close_disk-requires : goal.close_disk-requires
close_disk-requires g c = lent_out _ _ c.args.name.now (rw c.in-Some.is at c.in_ok-disk.ensures.lends)

pub returns-in_err-disk-clause-moments : goal.returns-in_err-disk-clause-moments
returns-in_err-disk-clause-moments g c = big_none _ _ _ _ _ c.in_err-disk.ensures.created

pub returns-in-None-clause-answer : goal.returns-in-None-clause-answer
returns-in-None-clause-answer g c =
    big_exists _ _ _ c.args.name.now c.args.file.now _ _ _ (g.met.S.Shelf.contents_now _) (ap g.S.ReadShelf.contents (rw c.in-None.is at c.in_ok-disk.ensures.kept)) (rw c.in-None.is at c.in_ok-disk.ensures.found)
    (rw c.exists.ensures.value at c.refuse.ensures.outcome)

pub returns-in-None-clause-moments : goal.returns-in-None-clause-moments
returns-in-None-clause-moments g c = big_none _ _ _ _ _ (rw c.in-None.is at c.in_ok-disk.ensures.created)

pub returns-in-None-clause-settled : goal.returns-in-None-clause-settled
returns-in-None-clause-settled g c = λ five six. settles_there _ _ _ _ _ (rw c.in-None.is at c.in_ok-disk.ensures.found)

pub returns-in-Some-clause-others : goal.returns-in-Some-clause-others
returns-in-Some-clause-others g c = adds_file _ _ _ _ _ (rw c.in-Some.is at c.in_ok-disk.ensures.found) (rw c.in-Some.is at c.in_ok-disk.ensures.created) c.close_disk.ensures.logged

pub returns-in-Some-clause-moments : goal.returns-in-Some-clause-moments
returns-in-Some-clause-moments g c =
    big_leaves c.args.name.now c.args.file.now _ _ _ _ _ _ _ _ _ _ (rw c.in-Some.is at c.in_ok-disk.ensures.found) (rw c.in-Some.is at c.in_ok-disk.ensures.states) (rw c.in-Some.is at c.in_ok-disk.ensures.created)
    c.close_disk.ensures.logged c.tell_big-end.ensures.states c.fill_new-filled.ensures.fills c.tell_big-end.ensures.tells

pub returns-in-Some-clause-settled : goal.returns-in-Some-clause-settled
returns-in-Some-clause-settled g c =
    big_settles c.args.name.now c.args.file.now _ _ _ _ _ _ _ _ _ _ (rw c.in-Some.is at c.in_ok-disk.ensures.found) (rw c.in-Some.is at c.in_ok-disk.ensures.states) (rw c.in-Some.is at c.in_ok-disk.ensures.created)
    c.close_disk.ensures.logged c.tell_big-end.ensures.states c.fill_new-filled.ensures.fills c.tell_big-end.ensures.tells

pub returns-in-Some-clause-made : goal.returns-in-Some-clause-made
returns-in-Some-clause-made g c =
    big_stores c.args.name.now c.args.file.now _ _ _ _ _ _ _ _ _ _ (rw c.in-Some.is at c.in_ok-disk.ensures.found) (rw c.in-Some.is at c.in_ok-disk.ensures.states) (rw c.in-Some.is at c.in_ok-disk.ensures.created)
    c.close_disk.ensures.logged c.tell_big-end.ensures.states c.fill_new-filled.ensures.fills c.tell_big-end.ensures.tells

pub returns-in-Some-clause-answer : goal.returns-in-Some-clause-answer
returns-in-Some-clause-answer g c =
    big_answers c.args.name.now c.args.file.now _ _ _ _ _ _ _ _ _ _ (rw c.in-Some.is at c.in_ok-disk.ensures.found) (rw c.in-Some.is at c.in_ok-disk.ensures.states) (rw c.in-Some.is at c.in_ok-disk.ensures.created)
    c.close_disk.ensures.logged c.tell_big-end.ensures.states c.fill_new-filled.ensures.fills c.tell_big-end.ensures.tells _ _ (g.met.S.Shelf.contents_now _) (g.met.S.Shelf.contents_now _)

pub returns-in-Some-clause-shows : goal.returns-in-Some-clause-shows
returns-in-Some-clause-shows g c =
    big_shows c.args.name.now c.args.file.now _ _ _ _ _ _ _ _ _ _ (rw c.in-Some.is at c.in_ok-disk.ensures.found) (rw c.in-Some.is at c.in_ok-disk.ensures.states) (rw c.in-Some.is at c.in_ok-disk.ensures.created)
    c.close_disk.ensures.logged c.tell_big-end.ensures.states c.fill_new-filled.ensures.fills c.tell_big-end.ensures.tells _ (g.met.S.Shelf.contents_now _) c.tell_big-end.ensures.shows
