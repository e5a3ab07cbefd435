use Rattle.std.proofs.Common.{◌≡◌, [], sym, subst, ap, ◌∙◌}
use Rattle.inc_readlog.specs.Log.{LoggedReads, Tells, empty_log}
use Rattle.inc_cell.specs.seen.Cells.{KeepsCell}
use Rattle.inc_cell.specs.seen.Parts.{opening_of}
use Rattle.inc_cell.specs.seen.Seen.{Seen}
use Rattle.inc_cell.proofs.steps.CellLemmas.{new_keeps}
use Rattle.inc_cell.proofs.cell.FileCell.new.Goals as goal

pub invariant_of-result : goal.invariant_of-result
invariant_of-result g c =
    let states = g.D.Disk.states (g.D.Backing.kept c.args.m.disk) in
    let count = g.D.Backing.faults c.args.m.disk in
    let opened = c.args.m.opened in
    let parts = c.in-Ok.parts in
    let faults : c.fault_count-first_faults.result ≡ g.D.Backing.faults c.args.m.disk = c.fault_count-first_faults.ensures.value in
    let state_is : c.in-Ok.parts.book.state ≡ opening_of c.args.m.opened (g.D.Backing.faults c.args.m.disk) c.args.readers = c.in-Ok.ensures.state ∙ ap (λ n. opening_of c.args.m.opened n c.args.readers) faults in
    let logged : Tells [] (empty_log 1024) = subst (λ (l : LoggedReads). Tells [] l) c.in-Ok.ensures.log c.in-Ok.ensures.told in
    let one = sym faults in
    let two = sym c.in-Ok.ensures.history in
    let three = sym c.in-Ok.ensures.log in
    subst (λ (s : Seen). KeepsCell s c.in-Ok.parts.book.state c.in-Ok.parts.spots.items c.args.m.opened.len)
    (λ k. record { states = states; count = count; opened = opened; opening = opening_of c.args.m.opened (one k) c.args.readers; history = two k; log = three k })
    (new_keeps states count opened c.args.readers c.in-Ok.parts.book.state c.in-Ok.parts.spots.items c.requires.sound c.requires.short c.requires.mounted state_is c.in-Ok.ensures.spots logged)
