use Rattle.std.proofs.Common.{rules, arith}
use Rattle.inc_turn.specs.Locks.{table_of}
use Rattle.inc_drive_tests.proofs.SeatedLemmas.{own_still}
use Rattle.inc_drive_tests.proofs.driven.driven.Goals as goal

pub invariant_of-close-clause-own : goal.invariant_of-close-clause-own
invariant_of-close-clause-own g c =
    let h = c.drive_loader-line.ensures.drives.ends.seats in
    let own = own_still _ c.drive_loader-line.new.seats _ h 0 c.args.first.seat (omega arith) (table_of c.args.first.file.lock) c.args.first.file.begun.value c.args.first.own in
    search (rules, own)

pub invariant_of-close-clause-first : goal.invariant_of-close-clause-first
invariant_of-close-clause-first g c =
    let h = c.drive_loader-line.ensures.drives.ends.seats in
    let same = (h.each 0 c.args.first.seat (omega arith)).same in
    search (rules, same)

pub invariant_of-close-clause-only : goal.invariant_of-close-clause-only
invariant_of-close-clause-only g c =
    let h = c.drive_loader-line.ensures.drives.ends.seats in
    let same = (h.each 0 c.args.first.seat (omega arith)).same in
    search (rules, same)

pub invariant_of-close-2-clause-own : goal.invariant_of-close-2-clause-own
invariant_of-close-2-clause-own g c =
    let h = c.drive_loader-line.ensures.drives.ends.seats in
    let own = own_still _ c.drive_loader-line.new.seats _ h 1 c.args.second.seat (omega arith) (table_of c.args.second.file.lock) c.args.second.file.begun.value c.args.second.own in
    search (rules, own)

pub invariant_of-close-2-clause-first : goal.invariant_of-close-2-clause-first
invariant_of-close-2-clause-first g c =
    let h = c.drive_loader-line.ensures.drives.ends.seats in
    let same = (h.each 1 c.args.second.seat (omega arith)).same in
    search (rules, same)

pub invariant_of-close-2-clause-only : goal.invariant_of-close-2-clause-only
invariant_of-close-2-clause-only g c =
    let h = c.drive_loader-line.ensures.drives.ends.seats in
    let same = (h.each 1 c.args.second.seat (omega arith)).same in
    search (rules, same)
