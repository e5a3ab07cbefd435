use Rattle.std.proofs.Common.{◌≡◌, ◌+◌, ◌^◌, ◌<◌, ◌≤◌, [], length, refl, sym, subst, ap, ◌∙◌, rules}
use Rattle.inc_disk.specs.Disk.{Now}
use Rattle.inc_entry.specs.Entry.{area_places, entries, entry_at}
use Rattle.inc_pending.specs.Keyed.{lookup}
use Rattle.inc_model.specs.executed.CoreState.{MayBeginBy}
use Rattle.inc_model.specs.executed.IndexLists.{HasNoOther}
use Rattle.inc_model.specs.relation.State.{flight_row}
use Rattle.inc_model.specs.relation.Step.{HasRoom}
use Rattle.inc_model.specs.relation.Table.{reply_of}
use Rattle.inc_model.specs.declared.words.event.Event.TheVariants.{Gate}
use Rattle.inc_model.specs.declared.words.file_state.FileState.{FileState}
use Rattle.inc_cell.specs.events.Answers.{CellSteps}
use Rattle.inc_cell.specs.seen.Books.{IsReady}
use Rattle.inc_cell.specs.seen.Parts.{opening_of}
use Rattle.inc_cell.specs.seen.Seen.{Seen}
use Rattle.inc_cell.proofs.steps.AskLemmas.{entry_low, entry_there, gate_alone, gate_can, row_in_file}
use Rattle.inc_cell.proofs.steps.CellLemmas.{fill_steps, fill_then, with_history}
use Rattle.inc_cell.proofs.steps.RoomLemmas.{fill_enters}
use Rattle.inc_cell.proofs.cell.FileCell.gate.Goals as goal

pub put_gate-reply-requires-clause-here : goal.put_gate-reply-requires-clause-here
put_gate-reply-requires-clause-here g c =
    let wanted : c.unwrap-wanted.result ≡ reply_of c.make_room.new.self.state c.args.who (Gate c.args.window c.args.index) = search rules in
    gate_can (with_history (g.D.Disk.states (g.D.Backing.kept c.self.inside.disk)) (g.D.Backing.faults c.self.inside.disk) c.self.inside.opened (opening_of c.self.inside.opened c.self.inside.first_faults c.self.inside.first_readers) c.self.inside.log c.self.inside.book.history) c.self.inside.book.state c.self.inside.spots.items c.self.inside.end c.self.invariant c.args.who c.args.window c.args.index c.make_room.new.self.state c.unwrap-wanted.result (c.args.index < entries (area_places c.self.inside.opened.areas)) c.make_room.ensures.same.state wanted
    (λ found is. row_in_file (with_history (g.D.Disk.states (g.D.Backing.kept c.self.inside.disk)) (g.D.Backing.faults c.self.inside.disk) c.self.inside.opened (opening_of c.self.inside.opened c.self.inside.first_faults c.self.inside.first_readers) c.self.inside.log c.self.inside.book.history) c.self.inside.book.state c.self.inside.spots.items c.self.inside.end c.self.invariant c.args.index found is)

pub put_gate-reply-requires-clause-inside : goal.put_gate-reply-requires-clause-inside
put_gate-reply-requires-clause-inside g c =
    let wanted : c.unwrap-wanted.result ≡ reply_of c.make_room.new.self.state c.args.who (Gate c.args.window c.args.index) = search rules in
    gate_can (with_history (g.D.Disk.states (g.D.Backing.kept c.self.inside.disk)) (g.D.Backing.faults c.self.inside.disk) c.self.inside.opened (opening_of c.self.inside.opened c.self.inside.first_faults c.self.inside.first_readers) c.self.inside.log c.self.inside.book.history) c.self.inside.book.state c.self.inside.spots.items c.self.inside.end c.self.invariant c.args.who c.args.window c.args.index c.make_room.new.self.state c.unwrap-wanted.result (Now (g.D.Disk.states (g.D.Backing.kept c.self.inside.disk)) (λ disk. entry_at (area_places c.self.inside.opened.areas) c.args.index + 10 ≤ length disk.reads)) c.make_room.ensures.same.state wanted
    (λ found is. entry_there (with_history (g.D.Disk.states (g.D.Backing.kept c.self.inside.disk)) (g.D.Backing.faults c.self.inside.disk) c.self.inside.opened (opening_of c.self.inside.opened c.self.inside.first_faults c.self.inside.first_readers) c.self.inside.log c.self.inside.book.history) c.self.inside.book.state c.self.inside.spots.items c.self.inside.end c.self.invariant c.args.index (row_in_file (with_history (g.D.Disk.states (g.D.Backing.kept c.self.inside.disk)) (g.D.Backing.faults c.self.inside.disk) c.self.inside.opened (opening_of c.self.inside.opened c.self.inside.first_faults c.self.inside.first_readers) c.self.inside.log c.self.inside.book.history) c.self.inside.book.state c.self.inside.spots.items c.self.inside.end c.self.invariant c.args.index found is))

pub put_gate-reply-requires-clause-end : goal.put_gate-reply-requires-clause-end
put_gate-reply-requires-clause-end g c =
    let wanted : c.unwrap-wanted.result ≡ reply_of c.make_room.new.self.state c.args.who (Gate c.args.window c.args.index) = search rules in
    gate_can (with_history (g.D.Disk.states (g.D.Backing.kept c.self.inside.disk)) (g.D.Backing.faults c.self.inside.disk) c.self.inside.opened (opening_of c.self.inside.opened c.self.inside.first_faults c.self.inside.first_readers) c.self.inside.log c.self.inside.book.history) c.self.inside.book.state c.self.inside.spots.items c.self.inside.end c.self.invariant c.args.who c.args.window c.args.index c.make_room.new.self.state c.unwrap-wanted.result (entry_at (area_places c.self.inside.opened.areas) c.args.index + 10 < 2 ^ 48) c.make_room.ensures.same.state wanted
    (λ found is. entry_low (with_history (g.D.Disk.states (g.D.Backing.kept c.self.inside.disk)) (g.D.Backing.faults c.self.inside.disk) c.self.inside.opened (opening_of c.self.inside.opened c.self.inside.first_faults c.self.inside.first_readers) c.self.inside.log c.self.inside.book.history) c.self.inside.book.state c.self.inside.spots.items c.self.inside.end c.self.invariant c.args.index (row_in_file (with_history (g.D.Disk.states (g.D.Backing.kept c.self.inside.disk)) (g.D.Backing.faults c.self.inside.disk) c.self.inside.opened (opening_of c.self.inside.opened c.self.inside.first_faults c.self.inside.first_readers) c.self.inside.log c.self.inside.book.history) c.self.inside.book.state c.self.inside.spots.items c.self.inside.end c.self.invariant c.args.index found is))

pub enter-requires-clause-alone : goal.enter-requires-clause-alone
enter-requires-clause-alone g c =
    let wanted : c.unwrap-wanted.result ≡ reply_of c.make_room.new.self.state c.args.who (Gate c.args.window c.args.index) = search rules in
    let same = c.make_room.ensures.same.state in
    subst (λ (s : FileState). MayBeginBy (λ map i digest. HasNoOther digest (lookup i map)) s.map c.args.index (flight_row c.args.index s.flight) c.put_gate-reply.result) (sym same)
    (gate_alone (with_history (g.D.Disk.states (g.D.Backing.kept c.self.inside.disk)) (g.D.Backing.faults c.self.inside.disk) c.self.inside.opened (opening_of c.self.inside.opened c.self.inside.first_faults c.self.inside.first_readers) c.self.inside.log c.self.inside.book.history) c.self.inside.book.state c.self.inside.spots.items c.self.inside.end c.self.invariant c.args.who c.args.window c.args.index c.unwrap-wanted.result c.put_gate-reply.result (wanted ∙ ap (λ (s : FileState). reply_of s c.args.who (Gate c.args.window c.args.index)) same) c.put_gate-reply.ensures.comes)

pub unwrap-requires : goal.unwrap-requires
unwrap-requires g c =
    let ready : IsReady c.make_room.new.self (Gate c.args.window c.args.index) = search rules in
    let wanted : c.unwrap-wanted.result ≡ reply_of c.make_room.new.self.state c.args.who (Gate c.args.window c.args.index) = search rules in
    fill_enters c.enter.result c.make_room.new.self c.args.who (Gate c.args.window c.args.index) c.unwrap-wanted.result c.put_gate-reply.result tt ready wanted c.put_gate-reply.ensures.comes c.enter.ensures.memory

pub invariant_of-self-2 : goal.invariant_of-self-2
invariant_of-self-2 g c =
    let states = g.D.Disk.states (g.D.Backing.kept c.self.inside.disk) in
    let count = g.D.Backing.faults c.self.inside.disk in
    let opening = opening_of c.self.inside.opened c.self.inside.first_faults c.self.inside.first_readers in
    let room : HasRoom (length c.self.inside.book.history) c.self.inside.book.state (Gate c.args.window c.args.index) = search rules in
    let wanted : c.unwrap-wanted.result ≡ reply_of c.make_room.new.self.state c.args.who (Gate c.args.window c.args.index) = search rules in
    let device = c.put_gate-reply.ensures.does in
    fill_then states count c.self.inside.opened opening c.self.inside.log (g.D.Disk.states (g.D.Backing.kept c.put_gate-reply.new.disk)) (g.D.Backing.faults c.put_gate-reply.new.disk) c.self.inside.book c.make_room.new.self c.enter.new.self
    c.self.inside.spots.items c.self.inside.end c.args.who (Gate c.args.window c.args.index) c.unwrap-wanted.result c.put_gate-reply.result [] c.self.invariant c.requires.own tt room c.make_room.ensures.same wanted c.put_gate-reply.ensures.comes
    (g.met.D.Disk.sound c.self.inside.disk) tt device c.put_gate-reply.ensures.cause refl (search rules) c.self.inside.spots.items refl (λ i lt. c.self.invariant.shown i lt)

pub returns : goal.returns
returns g c =
    let states = g.D.Disk.states (g.D.Backing.kept c.self.inside.disk) in
    let count = g.D.Backing.faults c.self.inside.disk in
    let opening = opening_of c.self.inside.opened c.self.inside.first_faults c.self.inside.first_readers in
    let room : HasRoom (length c.self.inside.book.history) c.self.inside.book.state (Gate c.args.window c.args.index) = search rules in
    let wanted : c.unwrap-wanted.result ≡ reply_of c.make_room.new.self.state c.args.who (Gate c.args.window c.args.index) = search rules in
    let device = c.put_gate-reply.ensures.does in
    let new : Seen = record {
      states = g.D.Disk.states (g.D.Backing.kept c.put_gate-reply.new.disk);
      count = g.D.Backing.faults c.put_gate-reply.new.disk;
      opened = c.self.inside.opened;
      opening = opening;
      history = c.enter.new.self.history;
      log = c.self.inside.log;
    } in
    record {
      steps = subst (λ (o : Seen). CellSteps o c.args.who (Gate c.args.window c.args.index) [] c.unhanded-2.result new) c.self.view_is
          (fill_steps states count c.self.inside.opened opening c.self.inside.log (g.D.Disk.states (g.D.Backing.kept c.put_gate-reply.new.disk)) (g.D.Backing.faults c.put_gate-reply.new.disk) c.self.inside.book c.make_room.new.self c.enter.new.self
          c.self.inside.spots.items c.self.inside.end c.args.who (Gate c.args.window c.args.index) c.unwrap-wanted.result c.put_gate-reply.result [] c.self.invariant c.requires.own tt room c.make_room.ensures.same wanted c.put_gate-reply.ensures.comes
          (g.met.D.Disk.sound c.self.inside.disk) tt device c.put_gate-reply.ensures.cause refl (search rules) c.unhanded-2.result (c.unhanded-2.ensures.at ∙ c.len-at.ensures.value) c.unhanded-2.ensures.reply c.unhanded-2.ensures.handed);
      early = c.unhanded-2.ensures.early;
    }
