use Rattle.std.proofs.Common.{◌∙◌, ◌<◌, ℕ, Result, Ok, Err, ap, sym, subst, length}
use Rattle.std.specs.Result.{OnErr}
use Rattle.std.proofs.lemmas.List.{get_or_default}
use Rattle.inc_loader.specs.PiecesLeft.{pieces_left}
use Rattle.inc_loader.specs.declared.gen_loader.content_queue.ContentQueue.{ContentQueue}
use Rattle.inc_loader.proofs.QueueLemmas.{next_begun, nothing_left, some_left}
use Rattle.inc_loader.proofs.gen_loader.content_queue.ContentQueue.go_on.Goals as goal

pub returns-then-self-files-clause-none : goal.returns-then-self-files-clause-none
returns-then-self-files-clause-none c =
    let queue = c.seeking.self in
    λ e. nothing_left queue.number queue.work queue.begun c.args.files.now (sym c.is_between_files.ensures.value ∙ c.seeking-test.true) c.if-self-files.true

pub seeking-preserved : goal.seeking-preserved
seeking-preserved c =
    let queue = c.seeking.self in
    let files = c.args.files.now in
    record {
      number = c.begin.ensures.number ∙ c.seeking.invariant.number;
      left = ap (λ (n : ℕ). pieces_left n c.begin.new.self.work c.begin.new.self.begun files) c.begin.ensures.number
          ∙ next_begun queue.number queue.work c.begin.new.self.work queue.begun c.begin.new.self.begun files _ (sym c.is_between_files.ensures.value ∙ c.seeking-test.true)
          c.if-self-files.false (get_or_default files queue.begun _ _ c.if-self-files.false) c.in_ok-begin.ensures.left c.in_ok-begin.ensures.begun
          ∙ c.seeking.invariant.left;
    }

at_err : {T E P : Type 0} (result : Result T E) → P → OnErr result P
at_err (Ok value) p = tt
at_err (Err fault) p = p

pub returns-in_err-begin-clause-some : goal.returns-in_err-begin-clause-some
returns-in_err-begin-clause-some c =
    let queue = c.seeking.self in
    let files = c.args.files.now in
    at_err c.from_residual.result
    (subst (λ (q : ContentQueue). 0 < length (pieces_left q.number q.work q.begun files)) (sym c.in_err-begin.ensures.same)
    (some_left queue.number queue.work queue.begun files _ (sym c.is_between_files.ensures.value ∙ c.seeking-test.true) c.if-self-files.false
    (get_or_default files queue.begun _ _ c.if-self-files.false) c.in_err-begin.ensures.some))
