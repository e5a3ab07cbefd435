use Rattle.std.proofs.Common.{◌≡◌, ℕ, List, ◌+◌, ◌^◌, ◌<◌, ◌≤◌, [], length, refl, sym, subst, ap, ◌∙◌, rules}
use Rattle.std.specs.Prelude.{slice_index}
use Rattle.inc_disk.specs.Disk.{Now}
use Rattle.inc_entry.specs.Entry.{area_places, entries, entry_at}
use Rattle.inc_model.specs.relation.Step.{HasRoom}
use Rattle.inc_model.specs.relation.Table.{reply_of}
use Rattle.inc_model.specs.declared.words.event.Event.TheVariants.{PutPlace}
use Rattle.inc_cell.specs.events.Answers.{CellSteps}
use Rattle.inc_cell.specs.seen.Parts.{opening_of}
use Rattle.inc_cell.specs.seen.Seen.{Seen}
use Rattle.inc_cell.proofs.steps.AskLemmas.{entry_low, entry_there, place_can, place_does, row_in_file, row_low}
use Rattle.inc_cell.proofs.steps.CellLemmas.{fill_steps, fill_then, with_history}
use Rattle.inc_cell.proofs.cell.FileCell.put_place.Goals as goal

pub put_place-reply-requires-clause-here : goal.put_place-reply-requires-clause-here
put_place-reply-requires-clause-here g c =
    let wanted : c.unwrap-wanted.result ≡ reply_of c.make_room.new.self.state c.args.who (PutPlace c.args.window c.args.index) = search rules in
    place_can (with_history (g.D.Disk.states (g.D.Backing.kept c.self.inside.disk)) (g.D.Backing.faults c.self.inside.disk) c.self.inside.opened (opening_of c.self.inside.opened c.self.inside.first_faults c.self.inside.first_readers) c.self.inside.log c.self.inside.book.history) c.self.inside.book.state c.self.inside.spots.items c.self.inside.end c.self.invariant c.args.who c.args.window c.args.index c.make_room.new.self.state c.unwrap-wanted.result (c.args.index < entries (area_places c.self.inside.opened.areas)) c.make_room.ensures.same.state wanted
    (λ found is. row_in_file (with_history (g.D.Disk.states (g.D.Backing.kept c.self.inside.disk)) (g.D.Backing.faults c.self.inside.disk) c.self.inside.opened (opening_of c.self.inside.opened c.self.inside.first_faults c.self.inside.first_readers) c.self.inside.log c.self.inside.book.history) c.self.inside.book.state c.self.inside.spots.items c.self.inside.end c.self.invariant c.args.index found is)

pub put_place-reply-requires-clause-low : goal.put_place-reply-requires-clause-low
put_place-reply-requires-clause-low g c =
    let there : c.as_slice.result.now ≡ c.self.inside.spots.items = search rules in
    let wanted : c.unwrap-wanted.result ≡ reply_of c.make_room.new.self.state c.args.who (PutPlace c.args.window c.args.index) = search rules in
    place_can (with_history (g.D.Disk.states (g.D.Backing.kept c.self.inside.disk)) (g.D.Backing.faults c.self.inside.disk) c.self.inside.opened (opening_of c.self.inside.opened c.self.inside.first_faults c.self.inside.first_readers) c.self.inside.log c.self.inside.book.history) c.self.inside.book.state c.self.inside.spots.items c.self.inside.end c.self.invariant c.args.who c.args.window c.args.index c.make_room.new.self.state c.unwrap-wanted.result (c.spot_at-place.result < 2 ^ 48) c.make_room.ensures.same.state wanted
    (λ found is. subst (λ n. n < 2 ^ 48) (sym (c.spot_at-place.ensures.value ∙ ap (λ (l : List ℕ). slice_index l c.args.index) there)) (row_low (with_history (g.D.Disk.states (g.D.Backing.kept c.self.inside.disk)) (g.D.Backing.faults c.self.inside.disk) c.self.inside.opened (opening_of c.self.inside.opened c.self.inside.first_faults c.self.inside.first_readers) c.self.inside.log c.self.inside.book.history) c.self.inside.book.state c.self.inside.spots.items c.self.inside.end c.self.invariant c.args.index found is))

pub put_place-reply-requires-clause-inside : goal.put_place-reply-requires-clause-inside
put_place-reply-requires-clause-inside g c =
    let wanted : c.unwrap-wanted.result ≡ reply_of c.make_room.new.self.state c.args.who (PutPlace c.args.window c.args.index) = search rules in
    place_can (with_history (g.D.Disk.states (g.D.Backing.kept c.self.inside.disk)) (g.D.Backing.faults c.self.inside.disk) c.self.inside.opened (opening_of c.self.inside.opened c.self.inside.first_faults c.self.inside.first_readers) c.self.inside.log c.self.inside.book.history) c.self.inside.book.state c.self.inside.spots.items c.self.inside.end c.self.invariant c.args.who c.args.window c.args.index c.make_room.new.self.state c.unwrap-wanted.result (Now (g.D.Disk.states (g.D.Backing.kept c.self.inside.disk)) (λ disk. entry_at (area_places c.self.inside.opened.areas) c.args.index + 10 ≤ length disk.reads)) c.make_room.ensures.same.state wanted
    (λ found is. entry_there (with_history (g.D.Disk.states (g.D.Backing.kept c.self.inside.disk)) (g.D.Backing.faults c.self.inside.disk) c.self.inside.opened (opening_of c.self.inside.opened c.self.inside.first_faults c.self.inside.first_readers) c.self.inside.log c.self.inside.book.history) c.self.inside.book.state c.self.inside.spots.items c.self.inside.end c.self.invariant c.args.index (row_in_file (with_history (g.D.Disk.states (g.D.Backing.kept c.self.inside.disk)) (g.D.Backing.faults c.self.inside.disk) c.self.inside.opened (opening_of c.self.inside.opened c.self.inside.first_faults c.self.inside.first_readers) c.self.inside.log c.self.inside.book.history) c.self.inside.book.state c.self.inside.spots.items c.self.inside.end c.self.invariant c.args.index found is))

pub put_place-reply-requires-clause-end : goal.put_place-reply-requires-clause-end
put_place-reply-requires-clause-end g c =
    let wanted : c.unwrap-wanted.result ≡ reply_of c.make_room.new.self.state c.args.who (PutPlace c.args.window c.args.index) = search rules in
    place_can (with_history (g.D.Disk.states (g.D.Backing.kept c.self.inside.disk)) (g.D.Backing.faults c.self.inside.disk) c.self.inside.opened (opening_of c.self.inside.opened c.self.inside.first_faults c.self.inside.first_readers) c.self.inside.log c.self.inside.book.history) c.self.inside.book.state c.self.inside.spots.items c.self.inside.end c.self.invariant c.args.who c.args.window c.args.index c.make_room.new.self.state c.unwrap-wanted.result (entry_at (area_places c.self.inside.opened.areas) c.args.index + 10 < 2 ^ 48) c.make_room.ensures.same.state wanted
    (λ found is. entry_low (with_history (g.D.Disk.states (g.D.Backing.kept c.self.inside.disk)) (g.D.Backing.faults c.self.inside.disk) c.self.inside.opened (opening_of c.self.inside.opened c.self.inside.first_faults c.self.inside.first_readers) c.self.inside.log c.self.inside.book.history) c.self.inside.book.state c.self.inside.spots.items c.self.inside.end c.self.invariant c.args.index (row_in_file (with_history (g.D.Disk.states (g.D.Backing.kept c.self.inside.disk)) (g.D.Backing.faults c.self.inside.disk) c.self.inside.opened (opening_of c.self.inside.opened c.self.inside.first_faults c.self.inside.first_readers) c.self.inside.log c.self.inside.book.history) c.self.inside.book.state c.self.inside.spots.items c.self.inside.end c.self.invariant c.args.index found is))

pub invariant_of-self-2 : goal.invariant_of-self-2
invariant_of-self-2 g c =
    let there : c.as_slice.result.now ≡ c.self.inside.spots.items = search rules in
    let states = g.D.Disk.states (g.D.Backing.kept c.self.inside.disk) in
    let count = g.D.Backing.faults c.self.inside.disk in
    let opening = opening_of c.self.inside.opened c.self.inside.first_faults c.self.inside.first_readers in
    let room : HasRoom (length c.self.inside.book.history) c.self.inside.book.state (PutPlace c.args.window c.args.index) = search rules in
    let wanted : c.unwrap-wanted.result ≡ reply_of c.make_room.new.self.state c.args.who (PutPlace c.args.window c.args.index) = search rules in
    let device = place_does (with_history (g.D.Disk.states (g.D.Backing.kept c.self.inside.disk)) (g.D.Backing.faults c.self.inside.disk) c.self.inside.opened (opening_of c.self.inside.opened c.self.inside.first_faults c.self.inside.first_readers) c.self.inside.log c.self.inside.book.history) c.self.inside.book.state c.self.inside.spots.items c.self.inside.end c.self.invariant c.args.who c.args.window c.args.index c.spot_at-place.result c.make_room.new.self.state c.unwrap-wanted.result c.put_place-reply.result (g.D.Disk.states (g.D.Backing.kept c.self.inside.disk)) (g.D.Disk.states (g.D.Backing.kept c.put_place-reply.new.disk)) c.make_room.ensures.same.state wanted (c.spot_at-place.ensures.value ∙ ap (λ (l : List ℕ). slice_index l c.args.index) there) c.put_place-reply.ensures.comes c.put_place-reply.ensures.does in
    fill_then states count c.self.inside.opened opening c.self.inside.log (g.D.Disk.states (g.D.Backing.kept c.put_place-reply.new.disk)) (g.D.Backing.faults c.put_place-reply.new.disk) c.self.inside.book c.make_room.new.self c.enter.new.self
    c.self.inside.spots.items c.self.inside.end c.args.who (PutPlace c.args.window c.args.index) c.unwrap-wanted.result c.put_place-reply.result [] c.self.invariant c.requires.own tt room c.make_room.ensures.same wanted c.put_place-reply.ensures.comes
    (g.met.D.Disk.sound c.self.inside.disk) tt device c.put_place-reply.ensures.cause refl (search rules) c.self.inside.spots.items refl (λ i lt. c.self.invariant.shown i lt)

pub returns : goal.returns
returns g c =
    let there : c.as_slice.result.now ≡ c.self.inside.spots.items = search rules in
    let states = g.D.Disk.states (g.D.Backing.kept c.self.inside.disk) in
    let count = g.D.Backing.faults c.self.inside.disk in
    let opening = opening_of c.self.inside.opened c.self.inside.first_faults c.self.inside.first_readers in
    let room : HasRoom (length c.self.inside.book.history) c.self.inside.book.state (PutPlace c.args.window c.args.index) = search rules in
    let wanted : c.unwrap-wanted.result ≡ reply_of c.make_room.new.self.state c.args.who (PutPlace c.args.window c.args.index) = search rules in
    let device = place_does (with_history (g.D.Disk.states (g.D.Backing.kept c.self.inside.disk)) (g.D.Backing.faults c.self.inside.disk) c.self.inside.opened (opening_of c.self.inside.opened c.self.inside.first_faults c.self.inside.first_readers) c.self.inside.log c.self.inside.book.history) c.self.inside.book.state c.self.inside.spots.items c.self.inside.end c.self.invariant c.args.who c.args.window c.args.index c.spot_at-place.result c.make_room.new.self.state c.unwrap-wanted.result c.put_place-reply.result (g.D.Disk.states (g.D.Backing.kept c.self.inside.disk)) (g.D.Disk.states (g.D.Backing.kept c.put_place-reply.new.disk)) c.make_room.ensures.same.state wanted (c.spot_at-place.ensures.value ∙ ap (λ (l : List ℕ). slice_index l c.args.index) there) c.put_place-reply.ensures.comes c.put_place-reply.ensures.does in
    let new : Seen = record {
      states = g.D.Disk.states (g.D.Backing.kept c.put_place-reply.new.disk);
      count = g.D.Backing.faults c.put_place-reply.new.disk;
      opened = c.self.inside.opened;
      opening = opening;
      history = c.enter.new.self.history;
      log = c.self.inside.log;
    } in
    record {
      steps = subst (λ (o : Seen). CellSteps o c.args.who (PutPlace c.args.window c.args.index) [] c.unhanded-2.result new) c.self.view_is
          (fill_steps states count c.self.inside.opened opening c.self.inside.log (g.D.Disk.states (g.D.Backing.kept c.put_place-reply.new.disk)) (g.D.Backing.faults c.put_place-reply.new.disk) c.self.inside.book c.make_room.new.self c.enter.new.self
          c.self.inside.spots.items c.self.inside.end c.args.who (PutPlace c.args.window c.args.index) c.unwrap-wanted.result c.put_place-reply.result [] c.self.invariant c.requires.own tt room c.make_room.ensures.same wanted c.put_place-reply.ensures.comes
          (g.met.D.Disk.sound c.self.inside.disk) tt device c.put_place-reply.ensures.cause refl (search rules) c.unhanded-2.result (c.unhanded-2.ensures.at ∙ c.len-at.ensures.value) c.unhanded-2.ensures.reply c.unhanded-2.ensures.handed);
      early = c.unhanded-2.ensures.early;
    }
