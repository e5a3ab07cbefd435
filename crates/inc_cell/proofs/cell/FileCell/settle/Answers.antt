use Rattle.std.proofs.Common.{◌≡◌, [], length, refl, subst, ◌∙◌, rules}
use Rattle.inc_model.specs.relation.Step.{HasRoom}
use Rattle.inc_model.specs.relation.Table.{reply_of}
use Rattle.inc_model.specs.declared.words.event.Event.TheVariants.{Settle}
use Rattle.inc_cell.specs.events.Answers.{CellSteps}
use Rattle.inc_cell.specs.seen.Books.{IsReady}
use Rattle.inc_cell.specs.seen.Parts.{opening_of}
use Rattle.inc_cell.specs.seen.Seen.{Seen}
use Rattle.inc_cell.proofs.steps.CellLemmas.{fill_steps, fill_then}
use Rattle.inc_cell.proofs.steps.RoomLemmas.{fill_enters}
use Rattle.inc_cell.proofs.cell.FileCell.settle.Goals as goal

pub unwrap-requires : goal.unwrap-requires
unwrap-requires g c =
    let ready : IsReady c.make_room.new.self (Settle c.args.window) = search rules in
    let wanted : c.unwrap-wanted.result ≡ reply_of c.make_room.new.self.state c.args.who (Settle c.args.window) = search rules in
    fill_enters c.enter.result c.make_room.new.self c.args.who (Settle c.args.window) c.unwrap-wanted.result c.sync-reply.result tt ready wanted c.sync-reply.ensures.comes c.enter.ensures.memory

pub invariant_of-self-2 : goal.invariant_of-self-2
invariant_of-self-2 g c =
    let states = g.D.Disk.states (g.D.Backing.kept c.self.inside.disk) in
    let count = g.D.Backing.faults c.self.inside.disk in
    let opening = opening_of c.self.inside.opened c.self.inside.first_faults c.self.inside.first_readers in
    let room : HasRoom (length c.self.inside.book.history) c.self.inside.book.state (Settle c.args.window) = search rules in
    let wanted : c.unwrap-wanted.result ≡ reply_of c.make_room.new.self.state c.args.who (Settle c.args.window) = search rules in
    fill_then states count c.self.inside.opened opening c.self.inside.log (g.D.Disk.states (g.D.Backing.kept c.sync-reply.new.disk)) (g.D.Backing.faults c.sync-reply.new.disk) c.self.inside.book c.make_room.new.self c.enter.new.self
    c.self.inside.spots.items c.self.inside.end c.args.who (Settle c.args.window) c.unwrap-wanted.result c.sync-reply.result [] c.self.invariant c.requires.own tt room c.make_room.ensures.same wanted c.sync-reply.ensures.comes
    (g.met.D.Disk.sound c.self.inside.disk) tt c.sync-reply.ensures.does c.sync-reply.ensures.cause refl (search rules) c.self.inside.spots.items refl (λ i lt. c.self.invariant.shown i lt)

pub returns : goal.returns
returns g c =
    let states = g.D.Disk.states (g.D.Backing.kept c.self.inside.disk) in
    let count = g.D.Backing.faults c.self.inside.disk in
    let opening = opening_of c.self.inside.opened c.self.inside.first_faults c.self.inside.first_readers in
    let room : HasRoom (length c.self.inside.book.history) c.self.inside.book.state (Settle c.args.window) = search rules in
    let wanted : c.unwrap-wanted.result ≡ reply_of c.make_room.new.self.state c.args.who (Settle c.args.window) = search rules in
    let new : Seen = record {
      states = g.D.Disk.states (g.D.Backing.kept c.sync-reply.new.disk);
      count = g.D.Backing.faults c.sync-reply.new.disk;
      opened = c.self.inside.opened;
      opening = opening;
      history = c.enter.new.self.history;
      log = c.self.inside.log;
    } in
    record {
      steps = subst (λ (o : Seen). CellSteps o c.args.who (Settle c.args.window) [] c.unhanded-2.result new) c.self.view_is
          (fill_steps states count c.self.inside.opened opening c.self.inside.log (g.D.Disk.states (g.D.Backing.kept c.sync-reply.new.disk)) (g.D.Backing.faults c.sync-reply.new.disk) c.self.inside.book c.make_room.new.self c.enter.new.self
          c.self.inside.spots.items c.self.inside.end c.args.who (Settle c.args.window) c.unwrap-wanted.result c.sync-reply.result [] c.self.invariant c.requires.own tt room c.make_room.ensures.same wanted c.sync-reply.ensures.comes
          (g.met.D.Disk.sound c.self.inside.disk) tt c.sync-reply.ensures.does c.sync-reply.ensures.cause refl (search rules) c.unhanded-2.result (c.unhanded-2.ensures.at ∙ c.len-at.ensures.value) c.unhanded-2.ensures.reply
          c.unhanded-2.ensures.handed);
      early = c.unhanded-2.ensures.early;
    }
