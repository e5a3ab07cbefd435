use Rattle.std.proofs.Common.{◌≡◌, true, false, List, [], ◌++◌, length, Option, None, refl, sym, subst, ap, ◌∙◌, rules}
use Rattle.std.specs.Prelude.{slice_index}
use Rattle.inc_pending.specs.Polling.{read_of}
use Rattle.inc_pending.specs.declared.reads.ReadRow.{ReadRow}
use Rattle.inc_readlog.specs.Log.{Tells}
use Rattle.inc_readlog.specs.declared.entry.LogEntry.{LogEntry}
use Rattle.inc_model.specs.relation.Step.{HasRoom, IsAllowed}
use Rattle.inc_model.specs.relation.Table.{reply_of}
use Rattle.inc_model.specs.declared.words.event.Event.TheVariants.{Poll}
use Rattle.inc_model.specs.declared.words.file_state.FileState.{FileState}
use Rattle.inc_model.specs.declared.words.reply.Entry.{Entry}
use Rattle.inc_cell.specs.events.Answers.{CellSteps}
use Rattle.inc_cell.specs.seen.Cells.{KeepsCell}
use Rattle.inc_cell.specs.events.Ended.{ended_poll}
use Rattle.inc_cell.specs.device.Handed.{IsReadFrom, MayHand, block_of, is_waiting}
use Rattle.inc_cell.specs.seen.Parts.{opening_of}
use Rattle.inc_cell.specs.seen.Seen.{Seen}
use Rattle.inc_cell.specs.events.Steps.{log_then}
use Rattle.inc_cell.specs.declared.words.answer.Answer.{Answer}
use Rattle.inc_cell.specs.declared.words.answer.CellReply.TheVariants.{Done}
use Rattle.inc_cell.proofs.steps.CellLemmas.{with_history}
use Rattle.inc_cell.proofs.handing.PollSteps.{poll_enters, poll_plain, poll_steps, poll_then, waits_steps}
use Rattle.inc_cell.proofs.handing.PollLemmas.{poll_allowed, poll_hands, poll_here}
use Rattle.inc_cell.proofs.cell.FileCell.poll_hinted.Goals as goal

pub hand_out-requires-clause-plain : goal.hand_out-requires-clause-plain
hand_out-requires-clause-plain g c =
    let wanted : c.unwrap-wanted.result ≡ reply_of c.self.inside.book.state c.args.who (Poll c.args.serial c.args.now) = search rules in
    poll_plain c.self.inside.book.state c.args.who c.args.serial c.args.now c.unwrap-wanted.result wanted

pub hand_out-requires-clause-here : goal.hand_out-requires-clause-here
hand_out-requires-clause-here g c =
    let wanted : c.unwrap-wanted.result ≡ reply_of c.self.inside.book.state c.args.who (Poll c.args.serial c.args.now) = search rules in
    let read : c.read_of-read.result ≡ read_of c.args.who c.args.serial c.self.inside.book.state.reads = c.read_of-read.ensures.value ∙ ap (λ (s : FileState). read_of c.args.who c.args.serial s.reads) c.make_room.ensures.same.state in
    let block : c.block_of-block.result ≡ block_of (read_of c.args.who c.args.serial c.self.inside.book.state.reads) = c.block_of-block.ensures.value ∙ ap block_of read in
    let place : c.spot_at-place.result ≡ slice_index c.self.inside.spots.items c.block_of-block.result = search rules in
    poll_here (with_history (g.D.Disk.states (g.D.Backing.kept c.self.inside.disk)) (g.D.Backing.faults c.self.inside.disk) c.self.inside.opened (opening_of c.self.inside.opened c.self.inside.first_faults c.self.inside.first_readers) c.self.inside.log c.self.inside.book.history) c.self.inside.book.state c.self.inside.spots.items c.self.inside.end c.self.invariant c.args.who c.args.serial c.args.now c.unwrap-wanted.result wanted c.block_of-block.result c.spot_at-place.result block place

-- a read that waits
pub returns-then-is_waiting-clause-steps : goal.returns-then-is_waiting-clause-steps
returns-then-is_waiting-clause-steps g c =
    let wanted : c.unwrap-wanted.result ≡ reply_of c.self.inside.book.state c.args.who (Poll c.args.serial c.args.now) = search rules in
    let room : HasRoom (length c.self.inside.book.history) c.self.inside.book.state (Poll c.args.serial c.args.now) = search rules in
    let waits : is_waiting c.unwrap-wanted.result ≡ true = sym c.is_waiting.ensures.value ∙ c.if-is_waiting.true in
    subst (λ (o : Seen). CellSteps o c.args.who (Poll c.args.serial c.args.now) [] c.unhanded-then-is_waiting.result o) c.self.view_is
    (waits_steps (g.D.Disk.states (g.D.Backing.kept c.self.inside.disk)) (g.D.Backing.faults c.self.inside.disk) c.self.inside.opened (opening_of c.self.inside.opened c.self.inside.first_faults c.self.inside.first_readers) c.self.inside.log c.self.inside.book c.self.inside.spots.items c.self.inside.end c.args.who c.args.serial c.args.now c.self.invariant room c.unwrap-wanted.result c.unhanded-then-is_waiting.result wanted waits
    (c.unhanded-then-is_waiting.ensures.at ∙ c.len-at.ensures.value) c.unhanded-then-is_waiting.ensures.reply c.unhanded-then-is_waiting.ensures.handed)

pub enter-requires-clause-allowed : goal.enter-requires-clause-allowed
enter-requires-clause-allowed g c =
    let wanted : c.unwrap-wanted.result ≡ reply_of c.self.inside.book.state c.args.who (Poll c.args.serial c.args.now) = search rules in
    let read : c.read_of-read.result ≡ read_of c.args.who c.args.serial c.self.inside.book.state.reads = c.read_of-read.ensures.value ∙ ap (λ (s : FileState). read_of c.args.who c.args.serial s.reads) c.make_room.ensures.same.state in
    let block : c.block_of-block.result ≡ block_of (read_of c.args.who c.args.serial c.self.inside.book.state.reads) = c.block_of-block.ensures.value ∙ ap block_of read in
    let place : c.spot_at-place.result ≡ slice_index c.self.inside.spots.items c.block_of-block.result = search rules in
    let room : HasRoom (length c.self.inside.book.history) c.self.inside.book.state (Poll c.args.serial c.args.now) = search rules in
    let same = c.make_room.ensures.same in
    subst (λ (h : List Entry). IsAllowed (length h) false c.make_room.new.self.state c.args.who (Poll c.args.serial c.args.now) c.in-Ok.handing.reply) (sym same.history)
    (subst (λ (s : FileState). IsAllowed (length c.self.inside.book.history) false s c.args.who (Poll c.args.serial c.args.now) c.in-Ok.handing.reply) (sym same.state)
    (poll_allowed (with_history (g.D.Disk.states (g.D.Backing.kept c.self.inside.disk)) (g.D.Backing.faults c.self.inside.disk) c.self.inside.opened (opening_of c.self.inside.opened c.self.inside.first_faults c.self.inside.first_readers) c.self.inside.log c.self.inside.book.history) c.self.inside.book.state c.self.inside.spots.items c.self.inside.end c.self.invariant c.args.who c.args.serial c.args.now c.unwrap-wanted.result wanted c.block_of-block.result c.spot_at-place.result block place c.args.known.now c.in-Ok.handing.reply c.in-Ok.handing.handed (g.D.Backing.faults c.hand_out.new.disk)
    c.in-Ok.ensures.hands c.in-Ok.ensures.cause room false (λ e. absurd (cc))))

pub unwrap-requires : goal.unwrap-requires
unwrap-requires g c =
    let wanted : c.unwrap-wanted.result ≡ reply_of c.self.inside.book.state c.args.who (Poll c.args.serial c.args.now) = search rules in
    poll_enters c.enter.result c.self.inside.book.state c.args.who c.args.serial c.args.now c.make_room.new.self.room
    (IsReadFrom (g.D.Disk.states (g.D.Backing.kept c.self.inside.disk)) c.self.inside.opened.areas c.block_of-block.result c.spot_at-place.result c.args.known.now) c.unwrap-wanted.result c.in-Ok.handing.reply c.in-Ok.handing.handed wanted c.in-Ok.ensures.hands c.enter.ensures.memory

pub invariant_of-self-2 : goal.invariant_of-self-2
invariant_of-self-2 g c =
    let wanted : c.unwrap-wanted.result ≡ reply_of c.self.inside.book.state c.args.who (Poll c.args.serial c.args.now) = search rules in
    let waits : is_waiting c.unwrap-wanted.result ≡ false = sym c.is_waiting.ensures.value ∙ c.if-is_waiting.false in
    let room : HasRoom (length c.self.inside.book.history) c.self.inside.book.state (Poll c.args.serial c.args.now) = search rules in
    let read : c.read_of-read.result ≡ read_of c.args.who c.args.serial c.self.inside.book.state.reads = c.read_of-read.ensures.value ∙ ap (λ (s : FileState). read_of c.args.who c.args.serial s.reads) c.make_room.ensures.same.state in
    let block : c.block_of-block.result ≡ block_of (read_of c.args.who c.args.serial c.self.inside.book.state.reads) = c.block_of-block.ensures.value ∙ ap block_of read in
    let place : c.spot_at-place.result ≡ slice_index c.self.inside.spots.items c.block_of-block.result = search rules in
    let logged : c.keep_read.new.log ≡ log_then c.self.inside.log (ended_poll (read_of c.args.who c.args.serial c.self.inside.book.state.reads) c.args.now c.in-Ok.handing.reply) =
    c.keep_read.ensures.value ∙ ap (λ (r : Option ReadRow). log_then c.self.inside.log (ended_poll r c.args.now c.in-Ok.handing.reply)) read in
    let told : (all : List LogEntry) → Tells all c.self.inside.log → Tells (all ++ ended_poll (read_of c.args.who c.args.serial c.self.inside.book.state.reads) c.args.now c.in-Ok.handing.reply) c.keep_read.new.log =
    subst (λ (r : Option ReadRow). (all : List LogEntry) → Tells all c.self.inside.log → Tells (all ++ ended_poll r c.args.now c.in-Ok.handing.reply) c.keep_read.new.log) read c.keep_read.ensures.told in
    subst (λ k. KeepsCell (record { states = g.D.Disk.states k; count = g.D.Backing.faults c.hand_out.new.disk; opened = c.self.inside.opened; opening = opening_of c.self.inside.opened c.self.inside.first_faults c.self.inside.first_readers; history = c.enter.new.self.history; log = c.keep_read.new.log }) c.enter.new.self.state c.self.inside.spots.items c.self.inside.end) (sym c.hand_out.ensures.kept)
    (poll_then (g.D.Disk.states (g.D.Backing.kept c.self.inside.disk)) (g.D.Backing.faults c.self.inside.disk) c.self.inside.opened (opening_of c.self.inside.opened c.self.inside.first_faults c.self.inside.first_readers) c.self.inside.log (g.D.Backing.faults c.hand_out.new.disk) c.keep_read.new.log c.self.inside.book c.make_room.new.self c.enter.new.self c.self.inside.spots.items c.self.inside.end c.args.who c.args.serial c.args.now c.args.known.now c.unwrap-wanted.result c.in-Ok.handing.reply c.in-Ok.handing.handed c.block_of-block.result c.spot_at-place.result c.self.invariant room c.make_room.ensures.same wanted waits block place c.in-Ok.ensures.hands c.in-Ok.ensures.cause (g.met.D.Disk.sound c.self.inside.disk) (search rules) logged told)

pub returns-clause-steps : goal.returns-clause-steps
returns-clause-steps g c =
    let wanted : c.unwrap-wanted.result ≡ reply_of c.self.inside.book.state c.args.who (Poll c.args.serial c.args.now) = search rules in
    let waits : is_waiting c.unwrap-wanted.result ≡ false = sym c.is_waiting.ensures.value ∙ c.if-is_waiting.false in
    let room : HasRoom (length c.self.inside.book.history) c.self.inside.book.state (Poll c.args.serial c.args.now) = search rules in
    let read : c.read_of-read.result ≡ read_of c.args.who c.args.serial c.self.inside.book.state.reads = c.read_of-read.ensures.value ∙ ap (λ (s : FileState). read_of c.args.who c.args.serial s.reads) c.make_room.ensures.same.state in
    let block : c.block_of-block.result ≡ block_of (read_of c.args.who c.args.serial c.self.inside.book.state.reads) = c.block_of-block.ensures.value ∙ ap block_of read in
    let place : c.spot_at-place.result ≡ slice_index c.self.inside.spots.items c.block_of-block.result = search rules in
    let logged : c.keep_read.new.log ≡ log_then c.self.inside.log (ended_poll (read_of c.args.who c.args.serial c.self.inside.book.state.reads) c.args.now c.in-Ok.handing.reply) =
    c.keep_read.ensures.value ∙ ap (λ (r : Option ReadRow). log_then c.self.inside.log (ended_poll r c.args.now c.in-Ok.handing.reply)) read in
    let told : (all : List LogEntry) → Tells all c.self.inside.log → Tells (all ++ ended_poll (read_of c.args.who c.args.serial c.self.inside.book.state.reads) c.args.now c.in-Ok.handing.reply) c.keep_read.new.log =
    subst (λ (r : Option ReadRow). (all : List LogEntry) → Tells all c.self.inside.log → Tells (all ++ ended_poll r c.args.now c.in-Ok.handing.reply) c.keep_read.new.log) read c.keep_read.ensures.told in
    let answer : Answer = record { reply = Done c.in-Ok.handing.reply; at = c.len-at.result; handed = c.in-Ok.handing.handed; early = None } in
    let new : Seen = record { states = g.D.Disk.states (g.D.Backing.kept c.hand_out.new.disk); count = g.D.Backing.faults c.hand_out.new.disk; opened = c.self.inside.opened; opening = opening_of c.self.inside.opened c.self.inside.first_faults c.self.inside.first_readers; history = c.enter.new.self.history; log = c.keep_read.new.log } in
    subst (λ (o : Seen). CellSteps o c.args.who (Poll c.args.serial c.args.now) [] answer new) c.self.view_is
    (subst (λ k. CellSteps (with_history (g.D.Disk.states (g.D.Backing.kept c.self.inside.disk)) (g.D.Backing.faults c.self.inside.disk) c.self.inside.opened (opening_of c.self.inside.opened c.self.inside.first_faults c.self.inside.first_readers) c.self.inside.log c.self.inside.book.history) c.args.who (Poll c.args.serial c.args.now) [] answer (record { states = g.D.Disk.states k; count = g.D.Backing.faults c.hand_out.new.disk; opened = c.self.inside.opened; opening = opening_of c.self.inside.opened c.self.inside.first_faults c.self.inside.first_readers; history = c.enter.new.self.history; log = c.keep_read.new.log })) (sym c.hand_out.ensures.kept)
    (poll_steps (g.D.Disk.states (g.D.Backing.kept c.self.inside.disk)) (g.D.Backing.faults c.self.inside.disk) c.self.inside.opened (opening_of c.self.inside.opened c.self.inside.first_faults c.self.inside.first_readers) c.self.inside.log (g.D.Backing.faults c.hand_out.new.disk) c.keep_read.new.log c.self.inside.book c.make_room.new.self c.enter.new.self c.self.inside.spots.items c.self.inside.end c.args.who c.args.serial c.args.now c.args.known.now c.unwrap-wanted.result c.in-Ok.handing.reply c.in-Ok.handing.handed c.block_of-block.result c.spot_at-place.result c.self.invariant room c.make_room.ensures.same wanted waits block place c.in-Ok.ensures.hands c.in-Ok.ensures.cause (g.met.D.Disk.sound c.self.inside.disk) (search rules) logged told answer c.len-at.ensures.value refl refl))

pub returns-clause-hands : goal.returns-clause-hands
returns-clause-hands g c =
    let wanted : c.unwrap-wanted.result ≡ reply_of c.self.inside.book.state c.args.who (Poll c.args.serial c.args.now) = search rules in
    let read : c.read_of-read.result ≡ read_of c.args.who c.args.serial c.self.inside.book.state.reads = c.read_of-read.ensures.value ∙ ap (λ (s : FileState). read_of c.args.who c.args.serial s.reads) c.make_room.ensures.same.state in
    let block : c.block_of-block.result ≡ block_of (read_of c.args.who c.args.serial c.self.inside.book.state.reads) = c.block_of-block.ensures.value ∙ ap block_of read in
    let place : c.spot_at-place.result ≡ slice_index c.self.inside.spots.items c.block_of-block.result = search rules in
    subst (λ (o : Seen). MayHand o c.args.who c.args.serial c.args.known.now (Done c.in-Ok.handing.reply) c.in-Ok.handing.handed) c.self.view_is
    (poll_hands (with_history (g.D.Disk.states (g.D.Backing.kept c.self.inside.disk)) (g.D.Backing.faults c.self.inside.disk) c.self.inside.opened (opening_of c.self.inside.opened c.self.inside.first_faults c.self.inside.first_readers) c.self.inside.log c.self.inside.book.history) c.self.inside.book.state c.self.inside.spots.items c.self.inside.end c.self.invariant c.args.who c.args.serial c.args.now c.unwrap-wanted.result wanted c.block_of-block.result c.spot_at-place.result block place c.args.known.now c.in-Ok.handing.reply c.in-Ok.handing.handed c.in-Ok.ensures.hands)
