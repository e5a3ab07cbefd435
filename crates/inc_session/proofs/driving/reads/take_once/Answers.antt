use Rattle.std.proofs.Common.{rules}
use Rattle.inc_session.proofs.driving.reads.take_once.Goals as goal

pub returns-clause-takes : goal.returns-clause-takes
returns-clause-takes g c =
    let h = rw (c.new-filler.ensures.file, c.new-filler.ensures.seat) at c.take_pending.ensures.takes in
    search (rules, h)
