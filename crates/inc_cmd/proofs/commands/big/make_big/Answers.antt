use Rattle.std.proofs.Common.{refl, rules}
use Rattle.inc_cmd.proofs.filling.NewShelves.{big_none, settles_made}
use Rattle.inc_cmd.proofs.commands.big.make_big.Goals as goal

pub returns-then-size-gt-MOST_SIZE-clause-moments : goal.returns-then-size-gt-MOST_SIZE-clause-moments
returns-then-size-gt-MOST_SIZE-clause-moments g c = big_none _ _ _ _ _ refl

pub returns-in_err-content-clause-moments : goal.returns-in_err-content-clause-moments
returns-in_err-content-clause-moments g c = big_none _ _ _ _ _ refl

pub returns-in_err-image-clause-moments : goal.returns-in_err-image-clause-moments
returns-in_err-image-clause-moments g c = big_none _ _ _ _ _ refl

pub returns-clause-settled : goal.returns-clause-settled
returns-clause-settled g c = λ five six. settles_made _ _ _ c.args.number c.args.size _ _ (search rules) (search rules) (c.create_big.ensures.settled five six)
