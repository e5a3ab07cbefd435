use Rattle.std.proofs.Common.{rules}
use Rattle.inc_session.proofs.fills.CheckLemmas.{no_refusal}
use Rattle.inc_session.proofs.driving.groups.fill_once.Goals as goal

pub returns-clause-fills : goal.returns-clause-fills
returns-clause-fills g c =
    let h = rw (no_refusal c.args.file.now.begun.value.opened c.args.pieces.now c.args.pass.now.id c.args.pass.now.session c.requires.pass c.requires.may.taken) at
    (rw (c.new-filler.ensures.file, c.new-filler.ensures.session, c.new-filler.ensures.calls, c.new-filler.ensures.seat) at c.fill.ensures.fills) in
    search (rules, h)
