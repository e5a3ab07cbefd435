use Rattle.std.proofs.Common.{refl}
use Rattle.inc_entry.specs.Entry.{area_places}
use Rattle.inc_layout.proofs.opened_file.FoundSteps.{found_more}
use Rattle.inc_layout.proofs.opening.stored.add_one.Goals as goal

pub returns-clause-found : goal.returns-clause-found
returns-clause-found g c =
    rw c.in_ok-push.ensures.items
    (found_more _ (area_places c.args.areas.now) c.args.classes.now _ c.args.index _ c.class_at.result c.in_ok-is_open.is_open c.read_open.new.room _ c.requires.found
    refl c.class_at.ensures.value c.requires.here c.in_ok-is_open.ensures.tells c.in_ok-is_open.ensures.digest c.digest_if.ensures.value)
