use Rattle.std.proofs.Common.{◌∙◌, ◌++◌, ℕ, List, ap}
use Rattle.inc_layout.specs.Backing.{layout_in}
use Rattle.inc_cmd.proofs.CheckLemmas.{bad_more, bad_one}
use Rattle.inc_cmd.proofs.commands.check.check_block.Goals as goal

pub returns-in_ok-extend_from_slice-in-Err-clause-good : goal.returns-in_ok-extend_from_slice-in-Err-clause-good
returns-in_ok-extend_from_slice-in-Err-clause-good g c =
    bad_one _ (layout_in c.args.opened.now) c.args.part.now c.args.index c.in-Err.error c.in_ok-outcome-in-Err.outcome c.in-Err.ensures.answer c.in_ok-outcome-in-Err.ensures.outcome c.in_ok-outcome-in-Err.ensures.not_shown

pub returns-in_ok-extend_from_slice-in-Err-clause-line : goal.returns-in_ok-extend_from_slice-in-Err-clause-line
returns-in_ok-extend_from_slice-in-Err-clause-line g c =
    bad_more _ (layout_in c.args.opened.now) c.args.part.now c.args.index c.in-Err.error c.in_ok-outcome-in-Err.outcome _ _ c.in-Err.ensures.answer c.in_ok-outcome-in-Err.ensures.outcome c.in_ok-outcome-in-Err.ensures.not_shown
    (c.in_ok-extend_from_slice-in-Err.ensures.items ∙ ap (λ (xs : List ℕ). c.args.lines.now.items ++ xs) c.as_slice.ensures.value)
