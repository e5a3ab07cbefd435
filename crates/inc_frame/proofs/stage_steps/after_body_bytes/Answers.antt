use Rattle.std.proofs.Common.{ℕ, List, ◌+◌, ◌++◌, length, ap, sym, ◌∙◌, arith}
use Rattle.inc_frame.specs.Fronts.{no_piece, Framing}
use Rattle.inc_frame.proofs.FrontLemmas.{body_partly, at_limit, below_limit}
use Rattle.inc_frame.proofs.stage_steps.after_body_bytes.Goals as goal

pub returns-then-place-limit-clause-value : goal.returns-then-place-limit-clause-value
returns-then-place-limit-clause-value c =
    body_partly c.args.part.limit c.args.part.place c.args.part.head c.args.part.body.items c.args.bytes.now (omega arith) c.requires.some (omega arith) c.requires.limit
    ∙ at_limit _ _ _ c.if-place-limit.true
    ∙ ap no_piece (sym c.too_long.ensures.value)

pub returns-clause-value : goal.returns-clause-value
returns-clause-value c =
    body_partly c.args.part.limit c.args.part.place c.args.part.head c.args.part.body.items c.args.bytes.now (omega arith) c.requires.some (omega arith) c.requires.limit
    ∙ below_limit _ _ _ (omega arith)
    ∙ ap (λ (x : List ℕ). no_piece (Framing c.args.part.limit (c.args.part.place + length c.args.bytes.now) (c.args.part.head ++ x))) (sym c.append.ensures.items)
