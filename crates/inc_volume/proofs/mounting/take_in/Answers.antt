use Rattle.std.proofs.Common.{◌≡◌, ◌∙◌, refl, sym, true, false, Ok}
use Rattle.std.specs.List.{list_any}
use Rattle.std.specs.Str.{bytes_eq}
use Rattle.inc_volume.specs.mounting.Cells.{ids_in}
use Rattle.inc_volume.proofs.volumes.MountedCells.{mounted_more, names_more, never_twice, out_last}
use Rattle.inc_volume.proofs.volumes.RunsLeft.{one_run}
use Rattle.inc_volume.proofs.mounting.take_in.Goals as goal

pub turn_away-requires : goal.turn_away-requires
turn_away-requires g c = out_last _ _ c.args.own c.requires.held.2

pub returns-then-has_id-clause-run : goal.returns-then-has_id-clause-run
returns-then-has_id-clause-run g c = one_run _ _ _ c.args.own _ (Ok c.args.mounted.opened) c.requires.cell.lent refl c.turn_away.ensures.logged

pub returns-then-has_id-clause-only : goal.returns-then-has_id-clause-only
returns-then-has_id-clause-only g c =
    let found : list_any (bytes_eq c.args.mounted.opened.header.id) (ids_in c.args.cells.now.items) ≡ true = sym (rw c.as_slice.ensures.value at c.has_id.ensures.value) ∙ c.if-has_id.true in
    never_twice _ _ c.args.mounted.opened.header.id c.args.own _ c.requires.held.1.holders c.requires.holder c.requires.new found

pub returns-then-has_id-clause-own : goal.returns-then-has_id-clause-own
returns-then-has_id-clause-own g c = rw c.turn_away.ensures.value tt

pub returns-then-has_id-clause-quiet : goal.returns-then-has_id-clause-quiet
returns-then-has_id-clause-quiet g c = c.turn_away.ensures.cause.none c.requires.cell.fresh

pub returns-clause-added : goal.returns-clause-added
returns-clause-added g c = rw c.add_cell.ensures (names_more _ _)

pub returns-clause-mounted : goal.returns-clause-mounted
returns-clause-mounted g c =
    let none : list_any (bytes_eq c.args.mounted.opened.header.id) (ids_in c.args.cells.now.items) ≡ false = sym (rw c.as_slice.ensures.value at c.has_id.ensures.value) ∙ c.if-has_id.false in
    rw c.add_cell.ensures (mounted_more _ _ _ _ _ _ (c.args.own, c.args.mounted) c.requires.held.1 c.requires.new none c.requires.held.2 c.requires.cell c.requires.holder)
