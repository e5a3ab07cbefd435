use Rattle.std.proofs.Common.{List, ℕ, ◌++◌, ap, sym, ◌∙◌, arith}
use Rattle.std.proofs.lemmas.List.{append-nil, take_all}
use Rattle.inc_frame.specs.Fronts.{no_piece, Framing}
use Rattle.inc_frame.proofs.FrontLemmas.{head_partly, at_limit, below_limit}
use Rattle.inc_frame.proofs.stage_steps.after_sound_head.Goals as goal

pub returns-then-count-limit : goal.returns-then-count-limit
returns-then-count-limit c = record {
  value =
      head_partly c.args.limit c.args.count c.args.have c.args.head (omega arith) c.requires.most c.requires.sound
      ∙ at_limit _ _ _ c.if-count-limit.true
      ∙ ap no_piece (sym c.too_long.ensures.value);
}

pub returns-then-have-lt-HEAD_LEN : goal.returns-then-have-lt-HEAD_LEN
returns-then-have-lt-HEAD_LEN c = record {
  value =
      head_partly c.args.limit c.args.count c.args.have c.args.head (omega arith) c.requires.most c.requires.sound
      ∙ below_limit _ _ _ (omega arith);
}

pub returns : goal.returns
returns c = record {
  value =
      head_partly c.args.limit c.args.count c.args.have c.args.head (omega arith) c.requires.most c.requires.sound
      ∙ below_limit _ _ _ (omega arith)
      ∙ ap (λ (x : List ℕ). no_piece (Framing c.args.limit c.args.count x)) (take_all c.args.have c.args.head (omega arith) ∙ sym (append-nil c.args.head) ∙ ap (λ (x : List ℕ). c.args.head ++ x) (sym c.in_ok-body.ensures.items));
}
