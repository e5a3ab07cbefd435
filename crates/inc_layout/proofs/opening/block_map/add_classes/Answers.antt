use Rattle.std.proofs.Common.{arith, add-one, length-append}
use Rattle.std.proofs.lemmas.Result.{err_from_is_err_and}
use Rattle.inc_entry.specs.Entry.{area_places}
use Rattle.inc_layout.proofs.opened_file.EntryLemmas.{entry_is, more_classes, past_fault}
use Rattle.inc_layout.proofs.opening.block_map.add_classes.Goals as goal

pub returns-in_err-add_class-clause-fault : goal.returns-in_err-add_class-clause-fault
returns-in_err-add_class-clause-fault c =
    let p = err_from_is_err_and c.from_residual.result c.from_residual.ensures.1 in
    λ bytes is l has. rw (p.1, p.2) (past_fault (area_places c.args.areas.now) bytes c.entry_in-entry.result c.args.areas.now.len c.loop-index.index _ _
    (entry_is (area_places c.args.areas.now) bytes c.args.piece.now c.entry_in-entry.result c.args.first c.loop-index.index is (omega arith) (omega arith) c.entry_in-entry.ensures.value) l (omega arith)
    c.in_err-add_class.ensures.failed (c.loop-index.invariant.classes bytes is l has))

pub loop-index-preserved : goal.loop-index-preserved
loop-index-preserved c = record {
  count = rw (c.in_ok-add_class.ensures.added, length-append) (let e = c.loop-index.invariant.count in omega arith);
  classes = λ bytes is l has. more_classes (area_places c.args.areas.now) bytes c.entry_in-entry.result c.args.areas.now.len c.loop-index.index _ _ _
      (entry_is (area_places c.args.areas.now) bytes c.args.piece.now c.entry_in-entry.result c.args.first c.loop-index.index is (omega arith) (omega arith) c.entry_in-entry.ensures.value) l
      c.in_ok-add_class.ensures.inside c.in_ok-add_class.ensures.added (add-one c.loop-index.index) (c.loop-index.invariant.classes bytes is l has);
}
