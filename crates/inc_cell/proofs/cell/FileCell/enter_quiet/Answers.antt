use Rattle.std.proofs.Common.{[], length, subst, ap, ◌∙◌, rules}
use Rattle.inc_model.specs.relation.Step.{HasRoom}
use Rattle.inc_cell.specs.events.Answers.{CellSteps}
use Rattle.inc_cell.specs.seen.Parts.{opening_of}
use Rattle.inc_cell.specs.seen.Seen.{Seen}
use Rattle.inc_cell.specs.declared.words.answer.Answer.{Answer}
use Rattle.inc_cell.proofs.steps.CellLemmas.{memory_steps, quiet_no_poll, quiet_steps, quiet_then, same_cell, with_history}
use Rattle.inc_cell.proofs.cell.FileCell.enter_quiet.Goals as goal
use Rattle.inc_cell.proofs.cell.FileCell.enter_quiet.Goals.{in-Ok, in-Err}

pub invariant_of-self : goal.invariant_of-self
invariant_of-self g c =
    let states = g.D.Disk.states (g.D.Backing.kept c.self.inside.disk) in
    let count = g.D.Backing.faults c.self.inside.disk in
    let opened = c.self.inside.opened in
    let opening = opening_of c.self.inside.opened c.self.inside.first_faults c.self.inside.first_readers in
    let book = c.self.inside.book in
    let room : HasRoom (length c.self.inside.book.history) c.self.inside.book.state c.args.event = search rules in
    elim c.match-take_down.branch [
      | in-Ok w ↦
          quiet_then states count opened opening c.self.inside.log book c.take_down.new.self c.self.inside.spots.items c.self.inside.end c.args.who c.args.event w.in-Ok.reply c.self.invariant c.requires.own c.requires.quiet room
          w.in-Ok.ensures.reply (g.met.D.Disk.sound c.self.inside.disk) w.in-Ok.ensures.ok
      | in-Err w ↦ same_cell states count opened opening c.self.inside.log book c.take_down.new.self c.self.inside.spots.items c.self.inside.end w.in-Err.ensures.err c.self.invariant
    ]

pub returns : goal.returns
returns g c =
    let states = g.D.Disk.states (g.D.Backing.kept c.self.inside.disk) in
    let count = g.D.Backing.faults c.self.inside.disk in
    let opened = c.self.inside.opened in
    let opening = opening_of c.self.inside.opened c.self.inside.first_faults c.self.inside.first_readers in
    let book = c.self.inside.book in
    let room : HasRoom (length c.self.inside.book.history) c.self.inside.book.state c.args.event = search rules in
    let new : Seen = with_history states count opened opening c.self.inside.log c.take_down.new.self.history in
    record {
      steps = subst (λ (o : Seen). CellSteps o c.args.who c.args.event [] c.match-take_down.result new) c.self.view_is (elim c.match-take_down.branch [
        | in-Ok w ↦
            quiet_steps states count opened opening c.self.inside.log book c.take_down.new.self c.self.inside.spots.items c.self.inside.end c.args.who c.args.event w.in-Ok.reply c.self.invariant c.requires.own c.requires.quiet room
            w.in-Ok.ensures.reply (g.met.D.Disk.sound c.self.inside.disk) w.in-Ok.ensures.ok c.match-take_down.result
            (ap (λ (a : Answer). a.at) w.result-is ∙ w.unhanded-in-Ok.ensures.at ∙ c.len-at.ensures.value) (ap (λ (a : Answer). a.reply) w.result-is ∙ w.unhanded-in-Ok.ensures.reply)
            (ap (λ (a : Answer). a.handed) w.result-is ∙ w.unhanded-in-Ok.ensures.handed)
        | in-Err w ↦
            memory_steps states count opened opening c.self.inside.log book c.take_down.new.self c.self.inside.spots.items c.self.inside.end c.args.who c.args.event [] c.match-take_down.result c.self.invariant
            (quiet_no_poll c.args.event c.requires.quiet) w.in-Err.ensures.err w.in-Err.ensures.memory
            (ap (λ (a : Answer). a.at) w.result-is ∙ w.unhanded-in-Err.ensures.at ∙ c.len-at.ensures.value) (ap (λ (a : Answer). a.reply) w.result-is ∙ w.unhanded-in-Err.ensures.reply)
            (ap (λ (a : Answer). a.handed) w.result-is ∙ w.unhanded-in-Err.ensures.handed)
      ]);
      count = ap (λ (o : Seen). o.count) c.self.view_is;
      early = elim c.match-take_down.branch [
        | in-Ok w ↦ ap (λ (a : Answer). a.early) w.result-is ∙ w.unhanded-in-Ok.ensures.early
        | in-Err w ↦ ap (λ (a : Answer). a.early) w.result-is ∙ w.unhanded-in-Err.ensures.early
      ];
    }
