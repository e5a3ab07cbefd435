use Rattle.inc_entry.specs.Entry.{area_places}
use Rattle.inc_layout.proofs.opened_file.FoundSteps.{found_four}
use Rattle.inc_layout.proofs.opening.stored.read_four.Goals as goal

pub returns-clause-more : goal.returns-clause-more
returns-clause-more g c =
    found_four _ (area_places c.args.areas.now) c.args.classes.now c.args.index c.class_at.result c.class_at-2.result c.class_at-3.result c.class_at-4.result
    c.in_ok-a.a c.in_ok-b.b c.in_ok-c.c c.in_ok-d.d c.read_open.new.room c.read_open-2.new.room c.read_open-3.new.room c.read_open-4.new.room _ c.requires.here
    (c.class_at.ensures.value, c.in_ok-a.ensures.tells, c.in_ok-a.ensures.digest)
    (c.class_at-2.ensures.value, c.in_ok-b.ensures.tells, rw c.read_open.ensures.kept at c.in_ok-b.ensures.digest)
    (c.class_at-3.ensures.value, c.in_ok-c.ensures.tells, rw (c.read_open-2.ensures.kept, c.read_open.ensures.kept) at c.in_ok-c.ensures.digest)
    (c.class_at-4.ensures.value, c.in_ok-d.ensures.tells, rw (c.read_open-3.ensures.kept, c.read_open-2.ensures.kept, c.read_open.ensures.kept) at c.in_ok-d.ensures.digest)
    c.digests_of.ensures.value
