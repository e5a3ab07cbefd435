use Rattle.std.proofs.Common.{◌≡◌, ◌∙◌, true, arith}
use Rattle.std.specs.Prelude.{nat_eq}
use Rattle.std.specs.Cmp.Lexicographic.{pointwise}
use Rattle.inc_handle.specs.Checks.{piece_refusal}
use Rattle.inc_session.proofs.fills.CheckLemmas.{equal_lists, judged_ok, may_next}
use Rattle.inc_session.proofs.driving.checks.group_len.Goals as goal

pub loop-len-preserved : goal.loop-len-preserved
loop-len-preserved g c =
    let opened = c.args.file.now.begun.value.opened in
    let pieces = c.args.pieces.now in
    let piece = c.index-pieces-len.result in
    let own : pointwise nat_eq piece.id opened.header.id ≡ true = cc in
    record {
      same = c.check_one.ensures.same ∙ c.loop-len.invariant.same;
      some = omega arith;
      within = omega arith;
      may = may_next opened pieces c.loop-len.len piece c.loop-len-test.true c.index-pieces-len.is (equal_lists piece.id opened.header.id own)
          (judged_ok (piece_refusal opened piece) c.in-Ok.field-0 c.check_one.result c.check_one.ensures.value c.in-Ok.is) (c.repeats.ensures.others c.if-repeats.false) c.loop-len.invariant.may;
    }
