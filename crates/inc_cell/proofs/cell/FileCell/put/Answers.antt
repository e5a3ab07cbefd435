use Rattle.std.proofs.Common.{◌≡◌, ℕ, length, refl, sym, subst, ◌∙◌, rules}
use Rattle.inc_model.specs.relation.Step.{HasRoom}
use Rattle.inc_model.specs.relation.Table.{reply_of}
use Rattle.inc_model.specs.declared.words.event.Event.TheVariants.{PutData}
use Rattle.inc_cell.specs.events.Answers.{CellSteps}
use Rattle.inc_cell.specs.seen.Books.{IsReady}
use Rattle.inc_cell.specs.seen.Cells.{KeepsCell}
use Rattle.inc_cell.specs.seen.Parts.{opening_of}
use Rattle.inc_cell.specs.device.Puts.{digest_for}
use Rattle.inc_cell.specs.seen.Seen.{Seen}
use Rattle.inc_cell.proofs.steps.CellLemmas.{fill_steps, fill_then, with_history}
use Rattle.inc_cell.proofs.steps.RoomLemmas.{fill_enters}
use Rattle.inc_cell.proofs.standing.PutLemmas.{end_small, put_brings, put_index, put_inside, put_place_is, spots_kept}
use Rattle.inc_cell.proofs.cell.FileCell.put.Goals as goal

pub put_block-reply-requires-clause-is_place : goal.put_block-reply-requires-clause-is_place
put_block-reply-requires-clause-is_place g c =
    let room : HasRoom (length c.self.inside.book.history) c.self.inside.book.state (PutData c.args.window c.args.index c.args.digest) = search rules in
    let wanted : c.unwrap-wanted.result ≡ reply_of c.make_room.new.self.state c.args.who (PutData c.args.window c.args.index c.args.digest) = search rules in
    put_place_is (with_history (g.D.Disk.states (g.D.Backing.kept c.self.inside.disk)) (g.D.Backing.faults c.self.inside.disk) c.self.inside.opened (opening_of c.self.inside.opened c.self.inside.first_faults c.self.inside.first_readers) c.self.inside.log c.self.inside.book.history) c.self.inside.book.state c.self.inside.spots.items c.self.inside.end c.self.invariant c.args.who c.args.window c.args.index c.args.digest room c.make_room.new.self.state c.unwrap-wanted.result c.make_room.ensures.same.state wanted c.place_for-place.result c.place_for-place.ensures.free

pub put_block-reply-requires-clause-inside : goal.put_block-reply-requires-clause-inside
put_block-reply-requires-clause-inside g c =
    let room : HasRoom (length c.self.inside.book.history) c.self.inside.book.state (PutData c.args.window c.args.index c.args.digest) = search rules in
    let wanted : c.unwrap-wanted.result ≡ reply_of c.make_room.new.self.state c.args.who (PutData c.args.window c.args.index c.args.digest) = search rules in
    put_inside (with_history (g.D.Disk.states (g.D.Backing.kept c.self.inside.disk)) (g.D.Backing.faults c.self.inside.disk) c.self.inside.opened (opening_of c.self.inside.opened c.self.inside.first_faults c.self.inside.first_readers) c.self.inside.log c.self.inside.book.history) c.self.inside.book.state c.self.inside.spots.items c.self.inside.end c.self.invariant c.args.who c.args.window c.args.index c.args.digest room c.make_room.new.self.state c.unwrap-wanted.result c.make_room.ensures.same.state wanted c.place_for-place.result c.place_for-place.ensures.free

pub unwrap-requires : goal.unwrap-requires
unwrap-requires g c =
    let ready : IsReady c.make_room.new.self (PutData c.args.window c.args.index c.args.digest) = search rules in
    let room : HasRoom (length c.self.inside.book.history) c.self.inside.book.state (PutData c.args.window c.args.index c.args.digest) = search rules in
    let wanted : c.unwrap-wanted.result ≡ reply_of c.make_room.new.self.state c.args.who (PutData c.args.window c.args.index c.args.digest) = search rules in
    fill_enters c.enter.result c.make_room.new.self c.args.who (PutData c.args.window c.args.index c.args.digest) c.unwrap-wanted.result c.put_block-reply.result tt ready wanted c.put_block-reply.ensures.comes c.enter.ensures.memory

pub keep_place-next-requires-clause-here : goal.keep_place-next-requires-clause-here
keep_place-next-requires-clause-here g c =
    let room : HasRoom (length c.self.inside.book.history) c.self.inside.book.state (PutData c.args.window c.args.index c.args.digest) = search rules in
    let wanted : c.unwrap-wanted.result ≡ reply_of c.make_room.new.self.state c.args.who (PutData c.args.window c.args.index c.args.digest) = search rules in
    put_index (with_history (g.D.Disk.states (g.D.Backing.kept c.self.inside.disk)) (g.D.Backing.faults c.self.inside.disk) c.self.inside.opened (opening_of c.self.inside.opened c.self.inside.first_faults c.self.inside.first_readers) c.self.inside.log c.self.inside.book.history) c.self.inside.book.state c.self.inside.spots.items c.self.inside.end c.self.invariant c.args.who c.args.window c.args.index c.args.digest room c.make_room.new.self.state c.unwrap-wanted.result c.make_room.ensures.same.state wanted c.put_block-reply.result c.put_block-reply.ensures.comes

pub keep_place-next-requires-clause-small : goal.keep_place-next-requires-clause-small
keep_place-next-requires-clause-small g c =
    let room : HasRoom (length c.self.inside.book.history) c.self.inside.book.state (PutData c.args.window c.args.index c.args.digest) = search rules in
    let wanted : c.unwrap-wanted.result ≡ reply_of c.make_room.new.self.state c.args.who (PutData c.args.window c.args.index c.args.digest) = search rules in
    end_small (with_history (g.D.Disk.states (g.D.Backing.kept c.self.inside.disk)) (g.D.Backing.faults c.self.inside.disk) c.self.inside.opened (opening_of c.self.inside.opened c.self.inside.first_faults c.self.inside.first_readers) c.self.inside.log c.self.inside.book.history) c.self.inside.book.state c.self.inside.spots.items c.self.inside.end c.self.invariant c.args.who c.args.window c.args.index c.args.digest room

pub invariant_of-self-2 : goal.invariant_of-self-2
invariant_of-self-2 g c =
    let room : HasRoom (length c.self.inside.book.history) c.self.inside.book.state (PutData c.args.window c.args.index c.args.digest) = search rules in
    let wanted : c.unwrap-wanted.result ≡ reply_of c.make_room.new.self.state c.args.who (PutData c.args.window c.args.index c.args.digest) = search rules in
    let states = g.D.Disk.states (g.D.Backing.kept c.self.inside.disk) in
    let count = g.D.Backing.faults c.self.inside.disk in
    let opening = opening_of c.self.inside.opened c.self.inside.first_faults c.self.inside.first_readers in
    let whole : length c.args.block.now ≡ 4096 = c.requires.whole in
    let hashed : c.args.digest ≡ digest_for c.self.inside.opened c.args.index c.args.block.now = search rules in
    let brings = put_brings c.self.inside.opened c.args.index c.args.digest c.args.block.now whole hashed in
    let new : Seen = record {
      states = g.D.Disk.states (g.D.Backing.kept c.put_block-reply.new.disk);
      count = g.D.Backing.faults c.put_block-reply.new.disk;
      opened = c.self.inside.opened;
      opening = opening;
      history = c.enter.new.self.history;
      log = c.self.inside.log;
    } in
    subst (λ (e : ℕ). KeepsCell new c.enter.new.self.state c.keep_place-next.new.spots.items e) (sym c.keep_place-next.ensures.next)
    (fill_then states count c.self.inside.opened opening c.self.inside.log (g.D.Disk.states (g.D.Backing.kept c.put_block-reply.new.disk)) (g.D.Backing.faults c.put_block-reply.new.disk) c.self.inside.book c.make_room.new.self c.enter.new.self c.self.inside.spots.items c.self.inside.end c.args.who (PutData c.args.window c.args.index c.args.digest) c.unwrap-wanted.result c.put_block-reply.result c.args.block.now c.self.invariant c.requires.own tt room c.make_room.ensures.same wanted c.put_block-reply.ensures.comes (g.met.D.Disk.sound c.self.inside.disk) brings c.put_block-reply.ensures.does c.put_block-reply.ensures.cause refl (search rules) c.keep_place-next.new.spots.items c.keep_place-next.ensures.len (spots_kept (with_history (g.D.Disk.states (g.D.Backing.kept c.self.inside.disk)) (g.D.Backing.faults c.self.inside.disk) c.self.inside.opened (opening_of c.self.inside.opened c.self.inside.first_faults c.self.inside.first_readers) c.self.inside.log c.self.inside.book.history) c.self.inside.book.state c.self.inside.spots.items c.self.inside.end c.self.invariant c.args.who c.args.window c.args.index c.args.digest room c.put_block-reply.result c.keep_place-next.new.spots.items c.keep_place-next.ensures.shown))

pub returns : goal.returns
returns g c =
    let room : HasRoom (length c.self.inside.book.history) c.self.inside.book.state (PutData c.args.window c.args.index c.args.digest) = search rules in
    let wanted : c.unwrap-wanted.result ≡ reply_of c.make_room.new.self.state c.args.who (PutData c.args.window c.args.index c.args.digest) = search rules in
    let states = g.D.Disk.states (g.D.Backing.kept c.self.inside.disk) in
    let count = g.D.Backing.faults c.self.inside.disk in
    let opening = opening_of c.self.inside.opened c.self.inside.first_faults c.self.inside.first_readers in
    let whole : length c.args.block.now ≡ 4096 = c.requires.whole in
    let hashed : c.args.digest ≡ digest_for c.self.inside.opened c.args.index c.args.block.now = search rules in
    let brings = put_brings c.self.inside.opened c.args.index c.args.digest c.args.block.now whole hashed in
    let new : Seen = record {
      states = g.D.Disk.states (g.D.Backing.kept c.put_block-reply.new.disk);
      count = g.D.Backing.faults c.put_block-reply.new.disk;
      opened = c.self.inside.opened;
      opening = opening;
      history = c.enter.new.self.history;
      log = c.self.inside.log;
    } in
    record {
      steps = subst (λ (o : Seen). CellSteps o c.args.who (PutData c.args.window c.args.index c.args.digest) c.args.block.now c.unhanded-2.result new) c.self.view_is
          (fill_steps states count c.self.inside.opened opening c.self.inside.log (g.D.Disk.states (g.D.Backing.kept c.put_block-reply.new.disk)) (g.D.Backing.faults c.put_block-reply.new.disk) c.self.inside.book c.make_room.new.self c.enter.new.self c.self.inside.spots.items c.self.inside.end c.args.who (PutData c.args.window c.args.index c.args.digest) c.unwrap-wanted.result c.put_block-reply.result c.args.block.now c.self.invariant c.requires.own tt room c.make_room.ensures.same wanted c.put_block-reply.ensures.comes (g.met.D.Disk.sound c.self.inside.disk) brings c.put_block-reply.ensures.does c.put_block-reply.ensures.cause refl (search rules) c.unhanded-2.result (c.unhanded-2.ensures.at ∙ c.len-at.ensures.value) c.unhanded-2.ensures.reply c.unhanded-2.ensures.handed);
      early = c.unhanded-2.ensures.early;
    }
