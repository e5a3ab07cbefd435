use Rattle.std.proofs.Common.{◌≡◌, length, rules}
use Rattle.std.specs.Prelude.{OnOk, IfErr}
use Rattle.inc_entry.specs.Entry.{area_places}
use Rattle.inc_layout.specs.opening.Opening.{HasClasses, IsPastFault}
use Rattle.inc_layout.proofs.opened_file.EntryLemmas.{piece_given}
use Rattle.inc_layout.proofs.opening.block_map.read_piece.Goals as goal

pub returns-clause-classes : goal.returns-clause-classes
returns-clause-classes g c =
    piece_given _ (area_places c.args.areas.now) c.args.first c.args.end c.entry_at.result c.args.room.now c.fill.new.room
    (λ bytes. c.args.areas.now.len ≡ length bytes → HasClasses (area_places c.args.areas.now) bytes c.args.first c.args.classes.now.items
    → OnOk c.add_classes.result (HasClasses (area_places c.args.areas.now) bytes c.args.end c.add_classes.new.classes.items))
    c.entry_at.ensures.value c.requires.some c.requires.within c.requires.sized (search rules) c.in_ok-fill.ensures.filled c.add_classes.ensures.classes

pub returns-clause-fault : goal.returns-clause-fault
returns-clause-fault g c =
    piece_given _ (area_places c.args.areas.now) c.args.first c.args.end c.entry_at.result c.args.room.now c.fill.new.room
    (λ bytes. c.args.areas.now.len ≡ length bytes → HasClasses (area_places c.args.areas.now) bytes c.args.first c.args.classes.now.items
    → IfErr c.add_classes.result (λ fault. IsPastFault (area_places c.args.areas.now) bytes fault))
    c.entry_at.ensures.value c.requires.some c.requires.within c.requires.sized (search rules) c.in_ok-fill.ensures.filled c.add_classes.ensures.fault
