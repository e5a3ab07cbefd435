-- The laws of a machine, for a cell.
use Rattle.std.specs.Prelude.{◌≡◌, ℕ, ◌+◌, List, [], ◌∷◌, ◌++◌, Some, None, Result, Ok, Err}
use Rattle.std.proofs.Common.{inl, inr, refl, sym, ap, ◌∙◌, append-nil}
use Rattle.inc_bytes.specs.Fields.{le_bytes}
use Rattle.inc_entry.specs.Entry.{Places, area_places, entry_at}
use Rattle.inc_disk.specs.Disk.{DiskState, Syncs, Writes}
use Rattle.inc_layout.specs.declared.opened.Opened.{Opened}
use Rattle.inc_model.specs.histories.Machines.{Grows}
use Rattle.inc_model.specs.executed.EntriesLeft.{entry_left}
use Rattle.inc_model.specs.declared.words.event.Event.{Event}
use Rattle.inc_model.specs.declared.words.event.Event.TheVariants.{Ask, Poll, Cancel, Claim, PutData, PutPlace, Settle, Gate, Release, TakePending, SetTimes, Ranges, Count, Leave}
use Rattle.inc_model.specs.declared.words.reply.Entry.{Entry}
use Rattle.inc_model.specs.declared.words.reply.Reply.{Reply}
use Rattle.inc_model.specs.declared.words.reply.Reply.TheVariants.{Fault, Gated, NotYet, Placed, Put, Settled}
use Rattle.inc_cell.specs.events.Answers.{CellReplies}
use Rattle.inc_cell.specs.events.CellEvents.{CellMoves, block_in, event_of, footing_of, event_left}
use Rattle.inc_cell.specs.device.Device.{DeviceDoes, GateDoes, PlaceDoes, PutDoes, SettleDoes, device_done, device_failed}
use Rattle.inc_cell.specs.seen.Seen.{Seen, spots_now, tells}
use Rattle.inc_cell.specs.declared.words.answer.Answer.{Answer}
use Rattle.inc_cell.specs.declared.words.answer.CellReply.{CellReply}
use Rattle.inc_cell.specs.declared.words.answer.CellReply.TheVariants.{Done, HistoryFull, OutOfMemory}
use Rattle.inc_cell.specs.declared.words.event.CellEvent.{CellEvent}

-- ---- the disk tells what it holds, or doesn't, as before

write_tells : {T E : Type 0} (at : ℕ) (piece : List ℕ) (old new : List DiskState) (result : Result T E) → Writes at piece old new result → tells new ≡ tells old
write_tells at piece [] new result writes = ap tells writes
write_tells at piece (disk ∷ past) new (Ok x) writes = ap tells writes
write_tells at piece (disk ∷ past) new (Err x) (inl same) = ap tells same
write_tells at piece (disk ∷ past) new (Err x) (inr torn) = ap tells torn.2

sync_tells : {T E : Type 0} (old new : List DiskState) (result : Result T E) → Syncs old new result → tells new ≡ tells old
sync_tells [] new result syncs = ap tells syncs
sync_tells (disk ∷ past) new (Ok x) syncs = ap tells syncs
sync_tells (disk ∷ past) new (Err x) (inl same) = ap tells same
sync_tells (disk ∷ past) new (Err x) (inr again) = ap tells again

put_tells : (places : Places) (index : ℕ) (block : List ℕ) (reply : Reply) (old new : List DiskState) → PutDoes places index block reply old new → tells new ≡ tells old
put_tells places index block (Put place digest) old new does = write_tells place block old new device_done does.1
put_tells places index block (Fault count) old new does = write_tells does.0 block old new device_failed does.2
put_tells places index block reply old new does = ap tells does

place_tells : (places : Places) (index place : ℕ) (reply : Reply) (old new : List DiskState) → PlaceDoes places index place reply old new → tells new ≡ tells old
place_tells places index place Placed old new does = write_tells (entry_at places index) (le_bytes 6 place) old new device_done does
place_tells places index place (Fault count) old new does = write_tells (entry_at places index) (le_bytes 6 place) old new device_failed does
place_tells places index place reply old new does = ap tells does

settle_tells : (reply : Reply) (old new : List DiskState) → SettleDoes reply old new → tells new ≡ tells old
settle_tells Settled old new does = sync_tells old new device_done does
settle_tells (Fault count) old new does = sync_tells old new device_failed does
settle_tells reply old new does = ap tells does

gate_tells : (places : Places) (index : ℕ) (reply : Reply) (old new : List DiskState) → GateDoes places index reply old new → tells new ≡ tells old
gate_tells places index (Gated waiting) old new does = write_tells (entry_at places index + 7) (16 ∷ []) old new device_done does
gate_tells places index (Fault count) old new does = write_tells (entry_at places index + 7) (16 ∷ []) old new device_failed does
gate_tells places index reply old new does = ap tells does

pub device_tells : (opened : Opened) (spot : ℕ → ℕ) (block : List ℕ) (event : Event) (reply : Reply) (old new : List DiskState) → DeviceDoes opened spot block event reply old new → tells new ≡ tells old
device_tells opened spot block (PutData window index digest) reply old new does = put_tells (area_places opened.areas) index block reply old new does
device_tells opened spot block (PutPlace window index) reply old new does = place_tells (area_places opened.areas) index (spot index) reply old new does
device_tells opened spot block (Settle window) reply old new does = settle_tells reply old new does
device_tells opened spot block (Gate window index) reply old new does = gate_tells (area_places opened.areas) index reply old new does
device_tells opened spot block (Ask index uid moment) reply old new does = ap tells does
device_tells opened spot block (Poll serial moment) reply old new does = ap tells does
device_tells opened spot block (Cancel serial) reply old new does = ap tells does
device_tells opened spot block (Claim window count) reply old new does = ap tells does
device_tells opened spot block (Release window) reply old new does = ap tells does
device_tells opened spot block (TakePending after most) reply old new does = ap tells does
device_tells opened spot block (SetTimes uid times) reply old new does = ap tells does
device_tells opened spot block (Ranges start limit room) reply old new does = ap tells does
device_tells opened spot block Count reply old new does = ap tells does
device_tells opened spot block Leave reply old new does = ap tells does

-- ---- the history grows by the asker's entry at most

nothing : (who : ℕ) (old new : Seen) → new ≡ old → Grows who old.history new.history
nothing who old new e = record { entry = None; own = tt; joined = ap (λ (seen : Seen). seen.history) e ∙ sym (append-nil old.history) }

grown_by : (who : ℕ) (event : Event) (reply : Reply) (before after : List Entry) → after ≡ before ++ entry_left who event reply → Grows who before after
grown_by who event NotYet before after e = record { entry = None; own = tt; joined = e }
grown_by who event reply before after e = record { entry = Some (record { who = who; event = event; reply = reply }); own = refl; joined = e }

replies_grow : (old : Seen) (who : ℕ) (event : Event) (block : List ℕ) (reply : CellReply) (new : Seen) → CellReplies old who event block reply new → Grows who old.history new.history
replies_grow old who event block (Done reply) new replies = grown_by who event reply old.history new.history replies.history
replies_grow old who event block (HistoryFull entries claimed) new full = nothing who old new full.same
replies_grow old who event block OutOfMemory new wants = nothing who old new wants.same

pub cell_grows : (old : Seen) (who : ℕ) (event : CellEvent) (answer : Answer) (new : Seen) → CellMoves old who event answer new → Grows who old.history new.history
cell_grows old who event answer new moves = replies_grow old who (event_of old.opened event) (block_in event) answer.reply (event_left event old new) moves.steps.reply_is

-- ---- the footing stays

footing_by : (old new : Seen) → new.opening ≡ old.opening → new.opened ≡ old.opened → tells new.states ≡ tells old.states → footing_of new ≡ footing_of old
footing_by old new opening opened told = λ i. record { opening = opening i; opened = opened i; told = told i }

replies_stay : (old : Seen) (who : ℕ) (event : Event) (block : List ℕ) (reply : CellReply) (new : Seen) → CellReplies old who event block reply new → footing_of new ≡ footing_of old
replies_stay old who event block (Done reply) new replies = footing_by old new replies.opening replies.opened (device_tells old.opened (spots_now old) block event reply old.states new.states replies.device)
replies_stay old who event block (HistoryFull entries claimed) new full = ap footing_of full.same
replies_stay old who event block OutOfMemory new wants = ap footing_of wants.same

pub cell_stays : (old : Seen) (who : ℕ) (event : CellEvent) (answer : Answer) (new : Seen) → CellMoves old who event answer new → footing_of new ≡ footing_of old
cell_stays old who event answer new moves = replies_stay old who (event_of old.opened event) (block_in event) answer.reply (event_left event old new) moves.steps.reply_is
