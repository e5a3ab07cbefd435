use Rattle.std.proofs.Common.{◌≡◌, ◌<◌, length, arith, ◌∙◌}
use Rattle.std.proofs.lemmas.Bool.Decides.{nat_tests}
use Rattle.inc_volume.specs.mounting.Cells.{names_in}
use Rattle.inc_volume.proofs.volumes.Differing.{differ_rest}
use Rattle.inc_volume.proofs.volumes.GivingBack.{all_joined, first_out, head_is, joined_more, logged_more, rest_out}
use Rattle.inc_volume.proofs.mounting.cells.give_back.Goals as goal

pub close_disk-requires : goal.close_disk-requires
close_disk-requires g c =
    let some : 0 < length c.loop-cells.cells.items = grind (arith, nat_tests, c.is_empty.ensures, c.loop-cells-test.true) in
    let is = head_is c.loop-cells.cells.items c.remove-name.new.self.items c.remove-name.result some c.remove-name.ensures.value c.remove-name.ensures.items in
    first_out _ c.remove-name.result.0 (names_in c.remove-name.new.self.items) (rw is at c.loop-cells.invariant.out)

pub loop-cells-preserved : goal.loop-cells-preserved
loop-cells-preserved g c =
    let some : 0 < length c.loop-cells.cells.items = grind (arith, nat_tests, c.is_empty.ensures, c.loop-cells-test.true) in
    let is = head_is c.loop-cells.cells.items c.remove-name.new.self.items c.remove-name.result some c.remove-name.ensures.value c.remove-name.ensures.items in
    record {
      distinct = differ_rest c.remove-name.result.0 (names_in c.remove-name.new.self.items) (rw is at c.loop-cells.invariant.distinct);
      out = rest_out _ _ c.remove-name.result.0 (names_in c.remove-name.new.self.items) (rw is at c.loop-cells.invariant.distinct) (rw is at c.loop-cells.invariant.out) c.close_disk.ensures.returned;
      logged = logged_more _ c.remove-name.result c.remove-name.new.self.items _ _ c.close_disk.ensures.logged ∙ (rw is at c.loop-cells.invariant.logged);
      cause = λ now joins. (rw is at c.loop-cells.invariant.cause) now (joined_more _ _ now _ _ c.close_disk.ensures.cause joins);
    }

pub returns-clause-cause : goal.returns-clause-cause
returns-clause-cause g c =
    let none : length c.loop-cells.cells.items ≡ 0 = grind (arith, nat_tests, c.is_empty.ensures, c.loop-cells-test.false) in
    all_joined g.S.Disk.Backing.faults _ _ c.args.cells.items c.loop-cells.cells.items none c.loop-cells.invariant.cause
