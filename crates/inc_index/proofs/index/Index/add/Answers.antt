use Rattle.std.proofs.Common.{◌≡◌, false}
use Rattle.inc_index.specs.Index.{has_id}
use Rattle.inc_index.specs.Place.{place_by_id}
use Rattle.inc_index.specs.declared.indexed.Indexed.{Indexed}
use Rattle.inc_index.proofs.Order.{rising_with}
use Rattle.inc_index.proofs.index.Index.add.Goals as goal

pub invariant_of-self-2 : goal.invariant_of-self-2
invariant_of-self-2 c =
    let file : Indexed = record { id = c.args.id; name = c.args.name; complete = c.args.complete } in
    let new : has_id c.args.id c.self.inside.files.items ≡ false = cc in
    let place : c.place_of-at.result ≡ place_by_id c.args.id c.self.inside.files.items = cc in
    rw (c.in_ok-insert.ensures.items, place) (rising_with file c.self.inside.files.items new c.self.invariant)
