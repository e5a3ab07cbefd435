use Rattle.std.proofs.Common.{◌≤◌, arith, refl, None}
use Rattle.std.proofs.lemmas.Result.{err_from_is_err_and}
use Rattle.inc_md.proofs.Chains.{read_start, read_more, fault_given, fault_found, end_given, end_chain, end_fault}
use Rattle.inc_md.proofs.walking.walk.Goals as goal

pub loop-at-init : goal.loop-at-init
loop-at-init g c = record {
  kept = refl;
  quiet = refl;
  inside = record { status = tt; last = λ some. let none : 1 ≤ 0 = rw c.new.ensures.value at some in absurd (omega arith) };
  few = rw c.new.ensures.value (omega arith);
  read = read_start _ _ _ _ (λ i. record { map = None; signature = None; status = None; spans = c.new.ensures.value i; last = 0 });
}

pub read_record-requires : goal.read_record-requires
read_record-requires g c = rw c.loop-at.invariant.kept c.requires

pub returns-in_err-at-clause-answer : goal.returns-in_err-at-clause-answer
returns-in_err-at-clause-answer g c =
    let p = err_from_is_err_and c.from_residual.result c.from_residual.ensures.1 in
    rw (p.1, p.2) (
    fault_given _ c.args.len c.args.first c.loop-at.at c.args.need_map c.loop-at.records c.in_err-at.field-0.0 (omega arith)
    c.loop-at.invariant.read (rw c.loop-at.invariant.kept at c.in_err-at.ensures.failed))

pub returns-in_err-at-clause-fault : goal.returns-in_err-at-clause-fault
returns-in_err-at-clause-fault g c =
    let p = err_from_is_err_and c.from_residual.result c.from_residual.ensures.1 in
    rw (p.1, p.2) (
    fault_found _ c.args.len c.args.first c.loop-at.at c.args.need_map c.loop-at.records c.in_err-at.field-0.0 (omega arith)
    c.loop-at.invariant.read (rw c.loop-at.invariant.kept at c.in_err-at.ensures.failed))

pub loop-at-preserved : goal.loop-at-preserved
loop-at-preserved g c = record {
  kept = cc (c.in_ok-at.ensures.kept, c.loop-at.invariant.kept);
  quiet = cc (c.in_ok-at.ensures.cause.kept (λ e. cc), c.loop-at.invariant.quiet);
  inside = c.in_ok-at.ensures.inside c.loop-at.invariant.inside;
  few = omega (arith, c.in_ok-at.ensures.more, c.in_ok-at.ensures.few);
  read = read_more _ c.args.len c.args.first c.loop-at.at c.in_ok-at.at c.loop-at.records c.read_record.new.records (omega arith)
      c.loop-at.invariant.read (rw c.loop-at.invariant.kept at c.in_ok-at.ensures.passed)
      (rw c.loop-at.invariant.kept at c.in_ok-at.ensures.next) (rw c.loop-at.invariant.kept at c.in_ok-at.ensures.said);
}

pub returns-clause-answer : goal.returns-clause-answer
returns-clause-answer g c = end_given _ c.args.len c.args.first c.loop-at.at c.args.need_map c.loop-at.records _ c.loop-at-test.false c.check_map.ensures.value c.loop-at.invariant.read

pub returns-clause-chain : goal.returns-clause-chain
returns-clause-chain g c = end_chain _ c.args.len c.args.first c.loop-at.at c.args.need_map c.loop-at.records _ c.loop-at-test.false c.check_map.ensures.value c.loop-at.invariant.read

pub returns-clause-fault : goal.returns-clause-fault
returns-clause-fault g c = end_fault _ c.args.len c.args.first c.loop-at.at c.args.need_map c.loop-at.records _ c.loop-at-test.false c.check_map.ensures.value c.loop-at.invariant.read
