use Rattle.std.proofs.Common.{◌∙◌, ap, sym, length, arith}
use Rattle.std.proofs.lemmas.Bool.{eqb-true}
use Rattle.std.proofs.lemmas.List.{nil_from_length}
use Rattle.inc_loader.specs.PiecesLeft.{left_in}
use Rattle.inc_loader.specs.declared.gen_loader.content_queue.ContentQueue.{ContentQueue}
use Rattle.inc_loader.proofs.PieceLemmas.{of_empty}
use Rattle.inc_loader.proofs.gen_loader.content_queue.ContentQueue.begin.Goals as goal
use Rattle.inc_loader.proofs.gen_loader.content_queue.ContentQueue.begin.Goals.{then-file-gt0+in_ok-begin+in-Some-1, then-file-gt0+in_ok-begin+in-None-1, else-file-gt0}

pub returns-clause-left : goal.returns-clause-left
returns-clause-left c =
    elim c.if-file-gt0.branch [
      | then-file-gt0+in_ok-begin+in-Some-1 w ↦ ap (λ (queue : ContentQueue). left_in queue.work) w.self-is ∙ w.in_ok-begin.ensures.value
      | then-file-gt0+in_ok-begin+in-None-1 w ↦ ap (λ (queue : ContentQueue). left_in queue.work) w.self-is ∙ w.in_ok-begin.ensures.value
      | else-file-gt0 w ↦ ap (λ (queue : ContentQueue). left_in queue.work) w.self-is
          ∙ nil_from_length (left_in c.args.self.now.work) (eqb-true (length (left_in c.args.self.now.work)) 0 c.requires.between)
          ∙ sym (of_empty c.args.file c.args.self.now.number c.args.file.size (omega (arith, w.if-file-gt0.false)))
    ]
