use Rattle.std.proofs.Common.{rules}
use Rattle.inc_model.proofs.executed.Replies.{handed_within}
use Rattle.inc_model.proofs.file_core.FileCore.poll_reply.Goals as goal

pub hand-requires-clause-here : goal.hand-requires-clause-here
hand-requires-clause-here g c = handed_within c.args.self.now.state.n c.args.who c.args.serial c.args.now c.in-Hand.block c.args.self.now.state.reads c.requires.works.within (search rules)
