use Rattle.std.proofs.Common.{◌≡◌, false, true, Some, refl}
use Rattle.inc_cmd.specs.Commands.Fill.{keeps_own_id}
use Rattle.inc_cmd.proofs.filling.ShelfFills.{same_leaves}
use Rattle.inc_cmd.proofs.filling.Verdicts.{filled_told, other_settled, refused_told}
use Rattle.inc_cmd.proofs.commands.fill.fill_judged.Goals as goal

pub returns-then-keeps_own_id-clause-answer : goal.returns-then-keeps_own_id-clause-answer
returns-then-keeps_own_id-clause-answer g c =
    let told = c.keeps_own_id.ensures.value in
    let yes = c.if-keeps_own_id.true in
    let own : keeps_own_id (Some c.args.verdict) ≡ true = cc in
    filled_told _ _ _ c.args.name.now c.args.verdict _ own c.fill_own.ensures.answer

pub returns-else-keeps_own_id-clause-answer : goal.returns-else-keeps_own_id-clause-answer
returns-else-keeps_own_id-clause-answer g c = refused_told _ _ c.args.name.now c.args.verdict _ c.refuse_verdict.ensures.answer

pub returns-else-keeps_own_id-clause-moments : goal.returns-else-keeps_own_id-clause-moments
returns-else-keeps_own_id-clause-moments g c = same_leaves _ _ _ _ refl

pub returns-else-keeps_own_id-clause-settled : goal.returns-else-keeps_own_id-clause-settled
returns-else-keeps_own_id-clause-settled g c = λ five six.
    let told = c.keeps_own_id.ensures.value in
    let no = c.if-keeps_own_id.false in
    let other : keeps_own_id (Some c.args.verdict) ≡ false = cc in
    other_settled _ _ _ c.args.name.now _ (Some c.args.verdict) (g.met.S.Shelf.contents_now _) c.requires.judged other
