use Rattle.std.proofs.Common.{sym, subst}
use Rattle.inc_entry.specs.Entry.{area_places}
use Rattle.inc_entry.specs.Table.{IsClass}
use Rattle.inc_entry.specs.declared.classes.Class.{Class}
use Rattle.inc_entry.proofs.Rows.{row_of}
use Rattle.inc_entry.proofs.judging.class.Goals as goal

pub returns-clause-row : goal.returns-clause-row
returns-clause-row c =
    let said = row_of (area_places c.args.areas.now) c.args.areas.now.len c.args.index c.entry_in.result in
    rw c.entry_in.ensures.value at (subst (λ (found : Class). IsClass (area_places c.args.areas.now) c.args.areas.now.len c.args.index c.entry_in.result found) (sym c.judged.ensures.value) said)
