-- What one event of a window makes of the bytes that the disk tells, and of the places of the blocks.
use Rattle.std.proofs.Common.{◌≡◌, ◌⊎◌, inl, inr, ℕ, Bool, true, false, cond, ltb, List, [], ◌∷◌, ◌++◌, length, Some, refl, sym, ap, subst, ◌∙◌}
use Rattle.std.specs.Prelude.{IfOk, OnOk}
use Rattle.std.proofs.lemmas.Bool.{ltb-false, ltb-true}
use Rattle.inc_tree.specs.shape.Geometry.{data_blocks}
use Rattle.inc_entry.specs.Entry.{area_places, hash_place}
use Rattle.inc_disk.specs.Disk.{DiskState, Syncs, Writes, overwritten, reads_of}
use Rattle.inc_layout.specs.declared.opened.Opened.{Opened}
use Rattle.inc_model.specs.executed.EntriesLeft.{entry_left}
use Rattle.inc_model.specs.declared.words.event.Event.{Event}
use Rattle.inc_model.specs.declared.words.event.Event.TheVariants.{PutData, Settle}
use Rattle.inc_model.specs.declared.words.event.Window.{Window}
use Rattle.inc_model.specs.declared.words.reply.Entry.{Entry}
use Rattle.inc_model.specs.declared.words.reply.Reply.{Reply}
use Rattle.inc_model.specs.declared.words.reply.Reply.TheVariants as reply
use Rattle.inc_cell.specs.device.Device.{DeviceDoes, IsPlaceOf, device_done}
use Rattle.inc_cell.specs.events.Answers.{CellReplies}
use Rattle.inc_cell.specs.events.Steps.{ReplyDoes}
use Rattle.inc_cell.specs.seen.Seen.{Seen, spots_now}
use Rattle.inc_cell.specs.seen.Spots.{changed_at, opened_spot, spot_after, spot_then}
use Rattle.inc_cell.specs.declared.words.answer.CellReply.{CellReply}
use Rattle.inc_cell.specs.declared.words.answer.CellReply.TheVariants.{Done, HistoryFull, OutOfMemory}
use Rattle.inc_cell.proofs.steps.EntryLemmas.{spot_more}
use Rattle.inc_filling.specs.Contents.{place_in}
use Rattle.inc_filling.specs.Shown.{ShowsFile, SpottedBytes, with_block, with_stored}
use Rattle.inc_filling.specs.Stops.{goes_on, going_on, was_put}
use Rattle.inc_filling.specs.declared.filling.Filling.{Filling}
use Rattle.inc_filling.proofs.lemmas.EventLemmas.{entry_of}

-- ---- the bytes

some_is : (a b : List ℕ) → Some a ≡ Some b → a ≡ b
some_is a b e = cc

pub write_told : (at : ℕ) (piece : List ℕ) (old new : List DiskState) (bytes : List ℕ) → reads_of old ≡ Some bytes → Writes at piece old new device_done → reads_of new ≡ Some (overwritten at piece bytes)
write_told at piece [] new bytes e w = absurd (cc)
write_told at piece (disk ∷ past) new bytes e w = ap reads_of w ∙ ap (λ (b : List ℕ). Some (overwritten at piece b)) (some_is disk.reads bytes e)

sync_told : (old new : List DiskState) (bytes : List ℕ) → reads_of old ≡ Some bytes → Syncs old new device_done → reads_of new ≡ Some bytes
sync_told [] new bytes e s = absurd (cc)
sync_told (disk ∷ past) new bytes e s = ap reads_of s ∙ e

place_told : (opened : Opened) (index place : ℕ) (states : List DiskState) (bytes : List ℕ) → reads_of states ≡ Some bytes → IsPlaceOf (area_places opened.areas) states index place → place ≡ place_in opened bytes index
place_told opened index place [] bytes e p = absurd (cc)
place_told opened index place (disk ∷ past) bytes e p = step (ltb index (data_blocks opened.areas.geometry)) refl
  where
    step : (b : Bool) → ltb index (data_blocks opened.areas.geometry) ≡ b → place ≡ cond b (length bytes) (hash_place (area_places opened.areas) index)
    step true t = p.free.of_content (ltb-true index (data_blocks opened.areas.geometry) t) ∙ ap (λ (b : List ℕ). length b) (some_is disk.reads bytes e)
    step false f = p.free.of_tree (ltb-false index (data_blocks opened.areas.geometry) f)

-- ---- the places

left_cases : (who : ℕ) (event : Event) (reply : Reply) → (entry_left who event reply ≡ []) ⊎ (entry_left who event reply ≡ entry_of who event reply ∷ [])
left_cases who event reply.NotYet = inl refl
left_cases who event reply = inr refl

module _ (old new : Seen) (who : ℕ) (event : Event) (reply : Reply) (opened : new.opened ≡ old.opened) (history : new.history ≡ old.history ++ entry_left who event reply) where
  spots_with : (more : List Entry) → entry_left who event reply ≡ more → spots_now new ≡ spot_after (opened_spot old.opened) (old.history ++ more)
  spots_with more e = ap (λ (o : Opened). spot_after (opened_spot o) new.history) opened ∙ ap (λ (h : List Entry). spot_after (opened_spot old.opened) h) (history ∙ ap (λ (m : List Entry). old.history ++ m) e)

  pub spots_then : entry_left who event reply ≡ entry_of who event reply ∷ [] → spots_now new ≡ spot_then event reply (spots_now old)
  spots_then e = spots_with (entry_of who event reply ∷ []) e ∙ spot_more (opened_spot old.opened) old.history (entry_of who event reply)

  pub spots_stay : ((spot : ℕ → ℕ) → spot_then event reply spot ≡ spot) → spots_now new ≡ spots_now old
  spots_stay still = elim (left_cases who event reply) [
    | inl none ↦ spots_with [] none ∙ ap (λ (h : List Entry). spot_after (opened_spot old.opened) h) (right old.history)
    | inr one ↦ spots_then one ∙ still (spots_now old)
  ]
    where
      right : (xs : List Entry) → xs ++ [] ≡ xs
      right [] = refl
      right (x ∷ xs) = ap (λ (rest : List Entry). x ∷ rest) (right xs)

-- ---- an event that writes nothing

pub same_shows : (old new : Seen) (file : SpottedBytes) → reads_of new.states ≡ reads_of old.states → spots_now new ≡ spots_now old → ShowsFile old file → ShowsFile new file
same_shows old new file states spots h = record { reads = states ∙ h.reads; spots = spots ∙ h.spots }

pub quiet_shows : (old new : Seen) (who : ℕ) (event : Event) → ((reply : Reply) → DeviceDoes old.opened (spots_now old) [] event reply old.states new.states → new.states ≡ old.states)
    → ((reply : Reply) (spot : ℕ → ℕ) → spot_then event reply spot ≡ spot) → (answer : CellReply) → CellReplies old who event [] answer new → (file : SpottedBytes) → ShowsFile old file → ShowsFile new file
quiet_shows old new who event device spots (Done given) r file h =
    same_shows old new file (ap reads_of (device given r.device)) (spots_stay old new who event given r.opened r.history (spots given)) h
quiet_shows old new who event device spots (HistoryFull entries claimed) r file h = subst (λ (seen : Seen). ShowsFile seen file) (sym r.same) h
quiet_shows old new who event device spots OutOfMemory r file h = subst (λ (seen : Seen). ShowsFile seen file) (sym r.same) h

-- ---- a sync

module _ (old new : Seen) (who : ℕ) (window : Window) (file : SpottedBytes) (h : ShowsFile old file) where
  settle_by : (given : Reply) → ReplyDoes old who (Settle window) [] given new → OnOk (going_on given) (ShowsFile new file)
  settle_by reply.Settled r = record {
    reads = sync_told old.states new.states file.bytes h.reads r.device;
    spots = spots_stay old new who (Settle window) reply.Settled r.opened r.history (λ spot. refl) ∙ h.spots;
  }
  settle_by (reply.Fault count) r = tt
  settle_by (reply.Failed at) r = tt
  settle_by given r = same_shows old new file (ap reads_of r.device) (spots_stay old new who (Settle window) given r.opened r.history (λ spot. refl)) h

  pub settle_shows : (answer : CellReply) → CellReplies old who (Settle window) [] answer new → OnOk (goes_on answer) (ShowsFile new file)
  settle_shows (Done given) r = settle_by given r
  settle_shows (HistoryFull entries claimed) r = tt
  settle_shows OutOfMemory r = tt

-- ---- a put

module _ (old new : Seen) (who : ℕ) (window : Window) (filling : Filling) (digest : List ℕ) (file : SpottedBytes) (h : ShowsFile old file) where
  abbrev event : Event
  event = PutData window filling.index digest

  put_here : (place : ℕ) (own : List ℕ) → ReplyDoes old who event filling.block.bytes (reply.Put place own) new → ShowsFile new (with_block old.opened file filling)
  put_here place own r =
      let at : place ≡ place_in old.opened file.bytes filling.index = place_told old.opened filling.index place old.states file.bytes h.reads r.device.0 in
      record {
        reads = write_told place filling.block.bytes old.states new.states file.bytes h.reads r.device.1 ∙ ap (λ (p : ℕ). Some (overwritten p filling.block.bytes file.bytes)) at;
        spots = spots_then old new who event (reply.Put place own) r.opened r.history refl ∙ ap (λ (p : ℕ). changed_at filling.index p (spots_now old)) at
            ∙ ap (λ (spot : ℕ → ℕ). changed_at filling.index (place_in old.opened file.bytes filling.index) spot) h.spots;
      }

  put_by : (given : Reply) → ReplyDoes old who event filling.block.bytes given new → IfOk (was_put (going_on given)) (λ put. ShowsFile new (with_stored old.opened file filling put))
  put_by (reply.Put place own) r = put_here place own r
  put_by (reply.Fault count) r = tt
  put_by (reply.Failed at) r = tt
  put_by given r = same_shows old new file (ap reads_of r.device) (spots_stay old new who event given r.opened r.history (λ spot. refl)) h

  pub put_shows : (answer : CellReply) → CellReplies old who event filling.block.bytes answer new → IfOk (was_put (goes_on answer)) (λ put. ShowsFile new (with_stored old.opened file filling put))
  put_shows (Done given) r = put_by given r
  put_shows (HistoryFull entries claimed) r = tt
  put_shows OutOfMemory r = tt
