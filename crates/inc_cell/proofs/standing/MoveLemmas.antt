-- Each entry with its call of the disk leads from a state that stands on the disk to one that does.
use Rattle.std.proofs.Common.{◌≡◌, ◌⊎◌, inl, inr, ℕ, ◌+◌, ◌^◌, ◌<◌, ◌≤◌, max, Bool, true, false, cond, ltb, List, [], ◌∷◌, length, Option, Some, None, Result, refl, sym, ap, subst, ◌∙◌, arith}
use Rattle.std.specs.Prelude.{is_some, count_by, nat_le}
use Rattle.std.proofs.lemmas.Bool.{cases_lt, lt-ltb, le-ltb, true≢false, leb-false}
use Rattle.inc_bytes.specs.Fields.{le_bytes}
use Rattle.inc_bytes.proofs.Numbers.{length-le_bytes}
use Rattle.inc_pending.specs.Keyed.{insert, lookup}
use Rattle.inc_pending.specs.Polling.{waits_on}
use Rattle.inc_pending.specs.declared.timeouts.Times.{Times}
use Rattle.inc_tree.specs.shape.Geometry.{data_blocks}
use Rattle.inc_entry.specs.Entry.{Places, area_places, entries, entry_at}
use Rattle.inc_entry.specs.Keeps.{IsLayout}
use Rattle.inc_disk.specs.Disk.{DiskState, Now, SoundNow, Syncs, Writes}
use Rattle.inc_disk.specs.Laws.{Goes, LeavesOnly}
use Rattle.inc_disk.proofs.Moments.{started, stays, weaker}
use Rattle.inc_disk.proofs.States.{length-overwritten}
use Rattle.inc_fill.specs.Steps.{HasLen, IsFreePlace}
use Rattle.inc_fill.proofs.Areas.{entry_inside, hash_in_tree, tree_inside}
use Rattle.inc_fill.proofs.Going.{block_goes, gate_goes, place_goes, settle_goes}
use Rattle.inc_layout.specs.Backing.{fixed_in}
use Rattle.inc_layout.specs.state.Preserves.{Preserves}
use Rattle.inc_layout.specs.fixed.SameFixed.{is_fixed_byte}
use Rattle.inc_layout.specs.state.State.{IsStateOf, StateParts}
use Rattle.inc_layout.specs.declared.opened.Opened.{Opened}
use Rattle.inc_layout.proofs.fixed_part.LayoutMeaning.{layout_stands}
use Rattle.inc_model.specs.relation.Changes.{ask_change, begins, cancel_change, change, first_failure, gate_change, gate_row_change, leave_change, opens, poll_change, put_data_change, put_place_change, release_change, settle_change, synced, times_change}
use Rattle.inc_model.specs.relation.Facts.{FileFacts, MoreFacts}
use Rattle.inc_model.specs.relation.Stages.{gated, is_at, is_gated, is_settled, is_written, placed, synced_flight, written}
use Rattle.inc_model.specs.relation.State.{Digests, flight_row, fly, has, is_in, land}
use Rattle.inc_model.specs.relation.Step.{Fits}
use Rattle.inc_model.specs.relation.Table.{flight_reply, gate_reply, place_reply, put_reply, reply_of, unless_failed}
use Rattle.inc_model.specs.declared.words.event.Event.{Event}
use Rattle.inc_model.specs.declared.words.event.Event.TheVariants.{Ask, Poll, Cancel, Claim, PutData, PutPlace, Settle, Gate, Release, TakePending, SetTimes, Ranges, Count, Leave}
use Rattle.inc_model.specs.declared.words.event.Window.{Window}
use Rattle.inc_model.specs.declared.words.file_state.FileState.{FileState}
use Rattle.inc_model.specs.declared.words.file_state.FlightRow.{FlightRow}
use Rattle.inc_model.specs.declared.words.file_state.Stage.{Stage}
use Rattle.inc_model.specs.declared.words.file_state.Stage.TheVariants.{Written as written_stage, Settled as settled_stage}
use Rattle.inc_model.specs.declared.words.reply.Reply.{Reply}
use Rattle.inc_model.specs.declared.words.reply.Reply.TheVariants.{Asked, NoPath, Handed, TimedOut, Fault, Cancelled, Put, Placed, Settled, Gated, TimesSet, Left}
use Rattle.inc_model.proofs.facts_kept.Fill.{at_stage, failed_now, gated_by, may_gate, placed_by, put_by}
use Rattle.inc_model.proofs.facts_kept.Gate.{settled_found}
use Rattle.inc_model.proofs.lists.Sets.{none_found}
use Rattle.inc_cell.specs.device.Device.{DeviceDoes, GateDoes, PlaceDoes, PutDoes, SettleDoes, device_done, device_failed}
use Rattle.inc_cell.specs.device.Moves.{Brings, BringsBlock, Moves, MovesTo, end_then, end_with}
use Rattle.inc_cell.specs.seen.Parts.{parts_of}
use Rattle.inc_cell.specs.seen.Seen.{StandsIn}
use Rattle.inc_cell.specs.seen.Spots.{changed_at, put_spot, spot_then}
use Rattle.inc_cell.specs.seen.Standing.{Standing}
use Rattle.inc_cell.proofs.steps.MayLemmas.{lookup_within, may_place, may_put, settled_is, written_is}
use Rattle.inc_cell.proofs.standing.StandingLemmas.{gate_stands, now_keeps, place_stands, put_stands, release_stands, settle_stands}
use Rattle.inc_cell.proofs.standing.StateLemmas.{absent_shut, begins_else, begins_here, flight_inside, flight_unheld, gated_own, opens_else, opens_here, synced_gated, synced_same, ungated_absent}

-- ---- calls of a disk that tells nothing

write_none : {T E : Type 0} (at : ℕ) (piece : List ℕ) (old new : List DiskState) (result : Result T E) → Writes at piece old new result → old ≡ [] → new ≡ []
write_none at piece [] new result writes e = writes
write_none at piece (disk ∷ past) new result writes e = absurd (cc)

sync_none : {T E : Type 0} (old new : List DiskState) (result : Result T E) → Syncs old new result → old ≡ [] → new ≡ []
sync_none [] new result syncs e = syncs
sync_none (disk ∷ past) new result syncs e = absurd (cc)

-- ---- the length that the disk reads as

write_len : (at len : ℕ) (piece : List ℕ) (old new : List DiskState) → Writes at piece old new device_done → Now old (λ disk. at ≤ length disk.reads) → HasLen old len → HasLen new (max len (at + length piece))
write_len at len piece [] new writes inside has = subst (λ (states : List DiskState). HasLen states (max len (at + length piece))) (sym writes) tt
write_len at len piece (disk ∷ past) new writes inside has =
    let e = length-overwritten at piece disk.reads inside in
    let P : List DiskState → Type 0 = λ states. HasLen states (max len (at + length piece)) in
    subst P (sym writes) (let said : length disk.reads ≡ len = has in e ∙ ap (λ n. max n (at + length piece)) said)

sync_len : (len : ℕ) (old new : List DiskState) → Syncs old new device_done → HasLen old len → HasLen new len
sync_len len [] new syncs has = subst (λ (states : List DiskState). HasLen states len) (sym syncs) tt
sync_len len (disk ∷ past) new syncs has = subst (λ (states : List DiskState). HasLen states len) (sym syncs) has

len_is : (states : List DiskState) (len other : ℕ) → len ≡ other → HasLen states len → HasLen states other
len_is states len other e has = subst (HasLen states) e has

module _ (opened : Opened) where
  -- what the areas say of a file that stands
  pub now_inside : (parts : StateParts) (digests : Digests) (flight : List FlightRow) (spot : ℕ → ℕ) (states : List DiskState) (n : ℕ)
      → ((base : ℕ) → IsLayout (area_places opened.areas) (is_fixed_byte (fixed_in opened)) base → n ≤ base) → Now states (Standing opened parts digests flight spot) → Now states (λ disk. n ≤ length disk.reads)
  now_inside parts digests flight spot [] n inside stands = tt
  now_inside parts digests flight spot (disk ∷ past) n inside stands =
      let le = inside (length stands.base) (layout_stands stands.base (fixed_in opened) stands.fixed) in
      let longer = stands.facts.longer in
      let long = stands.facts.long in
      omega arith

  pub entry_end : (i : ℕ) → i < entries (area_places opened.areas) → (base : ℕ) → IsLayout (area_places opened.areas) (is_fixed_byte (fixed_in opened)) base → entry_at (area_places opened.areas) i + 10 ≤ base
  entry_end i lt base layout = let last = entry_inside (area_places opened.areas) (is_fixed_byte (fixed_in opened)) base i 9 layout lt (omega arith) in omega arith

-- ---- an entry that leaves the disk alone

module _ (opened : Opened) (s : FileState) (state : IsStateOf opened (parts_of s)) where
  keeps_now : (spot : ℕ → ℕ) (end : ℕ) (old : List DiskState) (parts : StateParts) → StandsIn opened s spot end old → LeavesOnly old old (λ image. Preserves image (parts_of s) ⊎ Preserves image parts)
  keeps_now spot end old parts stands =
      weaker old old (λ image. Preserves image (parts_of s)) (λ image. Preserves image (parts_of s) ⊎ Preserves image parts)
      (started old (λ image. Preserves image (parts_of s)) (now_keeps opened (parts_of s) s.map s.flight spot old state stands.stands)) (λ image keeps. inl keeps)

  quiet_moves : (parts : StateParts) (digests : Digests) (flight : List FlightRow) (failed : Option ℕ) (spot : ℕ → ℕ) (end : ℕ) (old new : List DiskState) → new ≡ old → parts ≡ parts_of s → digests ≡ s.map → flight ≡ s.flight → failed ≡ s.failed
      → StandsIn opened s spot end old → Moves opened (parts_of s) parts digests flight failed spot end old new
  quiet_moves parts digests flight failed spot end old new same parts_is digests_is flight_is failed_is stands =
      let one = subst (λ (p : StateParts). Now old (Standing opened p s.map s.flight spot)) (sym parts_is) stands.stands in
      let two = subst (λ (d : Digests). Now old (Standing opened parts d s.flight spot)) (sym digests_is) one in
      let three = subst (λ (r : List FlightRow). Now old (Standing opened parts digests r spot)) (sym flight_is) two in
      record {
        standing = record {
          stands = subst (λ (states : List DiskState). Now states (Standing opened parts digests flight spot)) (sym same) three;
          ends = λ well. subst (λ (states : List DiskState). HasLen states end) (sym same) (stands.ends (sym failed_is ∙ well));
        };
        moments = stays old old new (λ image. Preserves image (parts_of s) ⊎ Preserves image parts) (keeps_now spot end old parts stands) same;
      }

  -- nothing that is on the disk changes
  still : (spot : ℕ → ℕ) (end : ℕ) (old new : List DiskState) → new ≡ old → StandsIn opened s spot end old → MovesTo opened s s spot end old new
  still spot end old new same stands = quiet_moves (parts_of s) s.map s.flight s.failed spot end old new same refl refl refl refl stands

-- a position that failed once isn't none
not_failed : {P : Type 0} (earlier : Option ℕ) (at : ℕ) → first_failure earlier at ≡ None → P
not_failed earlier at e = absurd (true≢false (sym (failed_now earlier at) ∙ ap (λ (o : Option ℕ). is_some o) e))

-- a call that was done, and one that failed
done_moves : (opened : Opened) (before parts : StateParts) (digests : Digests) (flight : List FlightRow) (failed : Option ℕ) (spot : ℕ → ℕ) (end : ℕ) (old new : List DiskState) (Failed : DiskState → Type 0) (P : List ℕ → Type 0)
    → Goes old new device_done (Standing opened parts digests flight spot) Failed P → ((image : List ℕ) → P image → Preserves image before ⊎ Preserves image parts) → (failed ≡ None → HasLen new end)
    → Moves opened before parts digests flight failed spot end old new
done_moves opened before parts digests flight failed spot end old new Failed P goes so ends =
    record { standing = record { stands = goes.ok; ends = ends }; moments = weaker old new P (λ image. Preserves image before ⊎ Preserves image parts) goes.moments so }

failed_moves : (opened : Opened) (before parts : StateParts) (digests : Digests) (flight : List FlightRow) (earlier : Option ℕ) (at : ℕ) (spot : ℕ → ℕ) (end : ℕ) (old new : List DiskState) (Done : DiskState → Type 0) (P : List ℕ → Type 0)
    → Goes old new device_failed Done (Standing opened parts digests flight spot) P → ((image : List ℕ) → P image → Preserves image before ⊎ Preserves image parts)
    → Moves opened before parts digests flight (first_failure earlier at) spot end old new
failed_moves opened before parts digests flight earlier at spot end old new Done P goes so =
    record { standing = record { stands = goes.err; ends = λ well. not_failed earlier at well }; moments = weaker old new P (λ image. Preserves image before ⊎ Preserves image parts) goes.moments so }

-- ---- each event of a fill

module _ (opened : Opened) (first s : FileState) (f : FileFacts first s) (m : MoreFacts first s) (state : IsStateOf opened (parts_of s)) where
  abbrev places : Places
  places = area_places opened.areas

  -- the same file
  state_on : (parts : StateParts) → parts.id ≡ s.id → parts.root ≡ s.root → parts.data_count ≡ s.n → parts.hash_count ≡ s.m → IsStateOf opened parts
  state_on parts id root content tree = record { id_is = state.id_is ∙ sym id; root_is = state.root_is ∙ sym root; data_is = state.data_is ∙ sym content; hash_is = state.hash_is ∙ sym tree }

  counts : entries (area_places opened.areas) ≡ s.n + s.m
  counts = let content = state.data_is in let tree = state.hash_is in omega arith

  put_len : (index place end : ℕ) (block : List ℕ) (spot : ℕ → ℕ) (old new : List DiskState) → index < entries (area_places opened.areas) → length block ≡ 4096 → Now old (λ disk. IsFreePlace (area_places opened.areas) (length disk.reads) index place)
      → Writes place block old new device_done → Now old (Standing opened (parts_of s) s.map s.flight spot) → HasLen old end → HasLen new (cond (ltb index (data_blocks opened.areas.geometry)) (end + 4096) end)
  put_len index place end block spot [] new inside whole free writes stands has = subst (λ (states : List DiskState). HasLen states (cond (ltb index (data_blocks opened.areas.geometry)) (end + 4096) end)) (sym writes) tt
  put_len index place end block spot (disk ∷ past) new inside whole free writes stands has =
      elim (cases_lt index (data_blocks opened.areas.geometry)) [
        | inl content ↦
            let here : place ≡ length disk.reads = free.of_content content in
            let said : length disk.reads ≡ end = has in
            let e : max end (place + length block) ≡ end + 4096 = omega arith in
            rw (lt-ltb index (data_blocks opened.areas.geometry) content) (len_is new (max end (place + length block)) (end + 4096) e (write_len place end block (disk ∷ past) new writes (omega arith) has))
        | inr hash ↦
            let here = free.of_tree hash in
            let layout = layout_stands stands.base (fixed_in opened) stands.fixed in
            let last = tree_inside (area_places opened.areas) (is_fixed_byte (fixed_in opened)) (length stands.base) _ layout (hash_in_tree (area_places opened.areas) index 4095 hash inside (omega arith)) in
            let longer = stands.facts.longer in
            let long = stands.facts.long in
            let said : length disk.reads ≡ end = has in
            let e : max end (place + length block) ≡ end = omega arith in
            rw (le-ltb index (data_blocks opened.areas.geometry) hash) (len_is new (max end (place + length block)) end e (write_len place end block (disk ∷ past) new writes (omega arith) has))
      ]

  abbrev PutFits : Bool → ℕ → List ℕ → Reply → Type 0
  PutFits told index digest reply =
      Fits told s.faults (unless_failed s.failed (put_reply (nat_le (s.n + s.m) index) (has index s.damaged) (has index s.compressed) (flight_reply (flight_row index s.flight) (is_in index s.map) digest))) reply

  put_moves : (told : Bool) (at : ℕ) (window : Window) (index : ℕ) (digest block : List ℕ) (reply : Reply) (spot : ℕ → ℕ) (end : ℕ) (old new : List DiskState) → PutFits told index digest reply → BringsBlock opened index digest block
      → PutDoes (area_places opened.areas) index block reply old new → StandsIn opened s spot end old
      → MovesTo opened s (put_data_change at s window index digest reply) (put_spot index reply spot) (end_with (area_places opened.areas) end index reply) old new
  put_moves told at window index digest block (Put place given) spot end old new fits brings does stands =
      let by = put_by s.failed (nat_le (s.n + s.m) index) (has index s.damaged) (has index s.compressed) (flight_row index s.flight) (is_in index s.map) digest given fits in
      let all = counts in
      let low = leb-false (s.n + s.m) index by.1 in
      let inside : index < entries (area_places opened.areas) = omega arith in
      let row : FlightRow = written window index digest in
      let goes = put_stands opened (parts_of s) s.map s.flight spot row place block old new device_done (block_goes place block old new device_done brings.whole does.1) (write_none place block old new device_done does.1) state refl inside
      does.0.free does.0.below (brings.hashed inside) by.4 (none_found index s.map by.5) (absent_shut first s f m index by.5 by.0 by.2 by.3) stands.stands in
      done_moves opened (parts_of s) (parts_of s) s.map (fly row s.flight) s.failed (changed_at index place spot) (cond (ltb index (data_blocks opened.areas.geometry)) (end + 4096) end) old new (Standing opened (parts_of s) s.map s.flight spot) (λ image. Preserves image (parts_of s)) goes
      (λ image keeps. inl keeps) (λ well. put_len index place end block spot old new inside brings.whole does.0.free does.1 stands.stands (stands.ends well))
  put_moves told at window index digest block (Fault count) spot end old new fits brings does stands =
      let by = may_put s.failed (nat_le (s.n + s.m) index) (has index s.damaged) (has index s.compressed) (flight_row index s.flight) (is_in index s.map) digest fits.0 in
      let place : ℕ = does.0 in
      let all = counts in
      let low = leb-false (s.n + s.m) index by.1 in
      let inside : index < entries (area_places opened.areas) = omega arith in
      let row : FlightRow = written window index digest in
      let goes = put_stands opened (parts_of s) s.map s.flight spot row place block old new device_failed (block_goes place block old new device_failed brings.whole does.2) (write_none place block old new device_failed does.2) state refl inside
      does.1.free does.1.below (brings.hashed inside) by.4 (none_found index s.map by.5) (absent_shut first s f m index by.5 by.0 by.2 by.3) stands.stands in
      failed_moves opened (parts_of s) (parts_of s) s.map s.flight s.failed at spot end old new (Standing opened (parts_of s) s.map (fly row s.flight) (changed_at index place spot)) (λ image. Preserves image (parts_of s)) goes (λ image keeps. inl keeps)
  put_moves told at window index digest block reply spot end old new fits brings does stands = still opened s state spot end old new does stands

  flies : (i : ℕ) (found : FlightRow) → flight_row i s.flight ≡ Some found → i < entries (area_places opened.areas)
  flies i found is = let all = counts in let lt = flight_inside first s f m i found is in omega arith

  maps : (i : ℕ) (digest : List ℕ) → lookup i s.map ≡ Some digest → i < entries (area_places opened.areas)
  maps i digest is = let all = counts in let lt = lookup_within (s.n + s.m) i digest s.map m.indices.digests_within is in omega arith

  -- a write to the ten bytes of an entry leaves the length
  same_len : (index at end : ℕ) (piece : List ℕ) (spot : ℕ → ℕ) (old new : List DiskState) → index < entries (area_places opened.areas) → at + length piece ≤ entry_at (area_places opened.areas) index + 10 → Writes at piece old new device_done
      → Now old (Standing opened (parts_of s) s.map s.flight spot) → HasLen old end → HasLen new end
  same_len index at end piece spot [] new inside fits writes stands has = subst (λ (states : List DiskState). HasLen states end) (sym writes) tt
  same_len index at end piece spot (disk ∷ past) new inside fits writes stands has =
      let le = entry_end opened index inside (length stands.base) (layout_stands stands.base (fixed_in opened) stands.fixed) in
      let longer = stands.facts.longer in
      let long = stands.facts.long in
      let said : length disk.reads ≡ end = has in
      let e : max end (at + length piece) ≡ end = omega arith in
      len_is new (max end (at + length piece)) end e (write_len at end piece (disk ∷ past) new writes (omega arith) has)

  abbrev PlaceFits : Bool → Window → ℕ → Reply → Type 0
  PlaceFits told window index reply = Fits told s.faults (unless_failed s.failed (place_reply (is_at is_written window (flight_row index s.flight)))) reply

  written_ungated : (stage : Stage) → stage ≡ written_stage → is_gated stage ≡ false
  written_ungated stage e = ap is_gated e

  settled_ungated : (stage : Stage) → stage ≡ settled_stage → is_gated stage ≡ false
  settled_ungated stage e = ap is_gated e

  place_moves : (told : Bool) (at : ℕ) (window : Window) (index : ℕ) (reply : Reply) (spot : ℕ → ℕ) (end : ℕ) (old new : List DiskState) → PlaceFits told window index reply → ((found : FlightRow) → flight_row index s.flight ≡ Some found → spot index < 2 ^ 48)
      → PlaceDoes (area_places opened.areas) index (spot index) reply old new → StandsIn opened s spot end old → MovesTo opened s (put_place_change at s index reply) spot end old new
  place_moves told at window index Placed spot end old new fits low does stands =
      let mine = at_stage is_written window (flight_row index s.flight) (placed_by s.failed (is_at is_written window (flight_row index s.flight)) fits) in
      let found : FlightRow = mine.row in
      let stage : found.stage ≡ written_stage = written_is found.stage mine.stage_is in
      let all = counts in
      let lt = flight_inside first s f m index found mine.is in
      let inside : index < entries (area_places opened.areas) = omega arith in
      let absent = ungated_absent first s f m index found mine.is (written_ungated found.stage stage) in
      let bytes : List ℕ = le_bytes 6 (spot index) in
      let entry : ℕ = entry_at (area_places opened.areas) index in
      let goes = place_stands opened (parts_of s) s.map s.flight spot found index entry old new device_done (place_goes entry (spot index) old new device_done (low found mine.is) does) (write_none entry bytes old new device_done does) state inside refl mine.is stage absent stands.stands in
      done_moves opened (parts_of s) (parts_of s) s.map (placed index s.flight) s.failed spot end old new (Standing opened (parts_of s) s.map s.flight spot) (λ image. Preserves image (parts_of s)) goes (λ image keeps. inl keeps)
      (λ well. same_len index entry end bytes spot old new inside (omega (arith, length-le_bytes 6 (spot index))) does stands.stands (stands.ends well))
  place_moves told at window index (Fault count) spot end old new fits low does stands =
      let mine = at_stage is_written window (flight_row index s.flight) (may_place s.failed (is_at is_written window (flight_row index s.flight)) fits.0) in
      let found : FlightRow = mine.row in
      let stage : found.stage ≡ written_stage = written_is found.stage mine.stage_is in
      let all = counts in
      let lt = flight_inside first s f m index found mine.is in
      let inside : index < entries (area_places opened.areas) = omega arith in
      let absent = ungated_absent first s f m index found mine.is (written_ungated found.stage stage) in
      let bytes : List ℕ = le_bytes 6 (spot index) in
      let entry : ℕ = entry_at (area_places opened.areas) index in
      let goes = place_stands opened (parts_of s) s.map s.flight spot found index entry old new device_failed (place_goes entry (spot index) old new device_failed (low found mine.is) does) (write_none entry bytes old new device_failed does) state inside refl mine.is stage absent stands.stands in
      failed_moves opened (parts_of s) (parts_of s) s.map s.flight s.failed at spot end old new (Standing opened (parts_of s) s.map (placed index s.flight) spot) (λ image. Preserves image (parts_of s)) goes (λ image keeps. inl keeps)
  place_moves told at window index reply spot end old new fits low does stands = still opened s state spot end old new does stands

  settle_moves : (at : ℕ) (reply : Reply) (spot : ℕ → ℕ) (end : ℕ) (old new : List DiskState) → SoundNow old → SettleDoes reply old new → StandsIn opened s spot end old → MovesTo opened s (settle_change at s reply) spot end old new
  settle_moves at Settled spot end old new sound does stands =
      let goes = settle_stands opened (parts_of s) (parts_of (synced s)) s.map s.flight spot old new device_done (settle_goes old new device_done sound does) (sync_none old new device_done does) state f.flying.once flies maps (synced_gated first s f m) (synced_same first s f m) stands.stands in
      done_moves opened (parts_of s) (parts_of (synced s)) s.map (synced_flight s.flight) s.failed spot end old new (Standing opened (parts_of s) s.map s.flight spot) (λ image. Preserves image (parts_of s)) goes (λ image keeps. inl keeps)
      (λ well. sync_len end old new does (stands.ends well))
  settle_moves at (Fault count) spot end old new sound does stands =
      let goes = settle_stands opened (parts_of s) (parts_of (synced s)) s.map s.flight spot old new device_failed (settle_goes old new device_failed sound does) (sync_none old new device_failed does) state f.flying.once flies maps (synced_gated first s f m) (synced_same first s f m) stands.stands in
      failed_moves opened (parts_of s) (parts_of s) s.map s.flight s.failed at spot end old new (Standing opened (parts_of (synced s)) s.map (synced_flight s.flight) spot) (λ image. Preserves image (parts_of s)) goes (λ image keeps. inl keeps)
  settle_moves at reply spot end old new sound does stands = still opened s state spot end old new does stands

  abbrev GateFits : Bool → Window → ℕ → Reply → Type 0
  GateFits told window index reply = Fits told s.faults (unless_failed s.failed (gate_reply (is_at is_settled window (flight_row index s.flight)) (count_by (waits_on index) s.reads))) reply

  -- a gate is written of a settled row alone
  abbrev Needs : Reply → FlightRow → Type 0
  Needs (Gated waiting) found = is_settled found.stage ≡ true
  Needs (Fault count) found = is_settled found.stage ≡ true
  Needs reply found = Unit {0}

  needs_settled : (told : Bool) (window : Window) (index : ℕ) (found : FlightRow) (reply : Reply) → flight_row index s.flight ≡ Some found → GateFits told window index reply → Needs reply found
  needs_settled told window index found (Gated waiting) is fits =
      settled_found window index s.flight found is (gated_by s.failed (is_at is_settled window (flight_row index s.flight)) (count_by (waits_on index) s.reads) waiting fits).0
  needs_settled told window index found (Fault count) is fits = settled_found window index s.flight found is (may_gate s.failed (is_at is_settled window (flight_row index s.flight)) (count_by (waits_on index) s.reads) fits.0)
  needs_settled told window index found reply is fits = tt

  gate_row_moves : (at : ℕ) (window : Window) (index : ℕ) (found : FlightRow) (reply : Reply) (spot : ℕ → ℕ) (end : ℕ) (old new : List DiskState) → flight_row index s.flight ≡ Some found → Needs reply found
      → GateDoes (area_places opened.areas) index reply old new → StandsIn opened s spot end old → MovesTo opened s (gate_row_change at s index found.digest reply) spot end old new
  gate_row_moves at window index found (Gated waiting) spot end old new is needs does stands =
      let stage : found.stage ≡ settled_stage = settled_is found.stage needs in
      let all = counts in
      let lt = flight_inside first s f m index found is in
      let inside : index < entries (area_places opened.areas) = omega arith in
      let absent = ungated_absent first s f m index found is (settled_ungated found.stage stage) in
      let entry : ℕ = entry_at (area_places opened.areas) index in
      let unheld = flight_unheld first s f m index found is in
      let t : FileState = opens index found.digest s in
      let goes = gate_stands opened (parts_of s) (parts_of t) s.map s.flight spot found index entry old new device_done (gate_goes entry old new device_done does) (write_none (entry + 7) (16 ∷ []) old new device_done does) (state_on (parts_of t) refl refl refl refl) inside refl is stage absent
      (opens_here s index found.digest unheld) (opens_else s index found.digest) stands.stands in
      done_moves opened (parts_of s) (parts_of t) (insert index found.digest s.map) (gated index s.flight) s.failed spot end old new (Standing opened (parts_of t) s.map s.flight spot) (λ image. Preserves image (parts_of t)) goes (λ image keeps. inr keeps)
      (λ well. same_len index (entry + 7) end (16 ∷ []) spot old new inside (omega arith) does stands.stands (stands.ends well))
  gate_row_moves at window index found (Fault count) spot end old new is needs does stands =
      let stage : found.stage ≡ settled_stage = settled_is found.stage needs in
      let all = counts in
      let lt = flight_inside first s f m index found is in
      let inside : index < entries (area_places opened.areas) = omega arith in
      let absent = ungated_absent first s f m index found is (settled_ungated found.stage stage) in
      let entry : ℕ = entry_at (area_places opened.areas) index in
      let unheld = flight_unheld first s f m index found is in
      let t : FileState = begins index found.digest s in
      let goes = gate_stands opened (parts_of s) (parts_of t) s.map s.flight spot found index entry old new device_failed (gate_goes entry old new device_failed does) (write_none (entry + 7) (16 ∷ []) old new device_failed does) (state_on (parts_of t) refl refl refl refl) inside refl is stage absent
      (begins_here s index found.digest unheld) (begins_else s index found.digest) stands.stands in
      failed_moves opened (parts_of s) (parts_of t) s.map s.flight s.failed at spot end old new (Standing opened (parts_of t) (insert index found.digest s.map) (gated index s.flight) spot) (λ image. Preserves image (parts_of t)) goes (λ image keeps. inr keeps)
  gate_row_moves at window index found reply spot end old new is needs does stands = still opened s state spot end old new does stands

  no_gate : {P : Type 0} (window : Window) (index : ℕ) → flight_row index s.flight ≡ None → is_at is_settled window (flight_row index s.flight) ≡ true → P
  no_gate window index none mine = absurd (true≢false (sym mine ∙ ap (is_at is_settled window) none))

  gate_by : (told : Bool) (at : ℕ) (window : Window) (index : ℕ) (found : Option FlightRow) (reply : Reply) (spot : ℕ → ℕ) (end : ℕ) (old new : List DiskState) → flight_row index s.flight ≡ found → GateFits told window index reply
      → GateDoes (area_places opened.areas) index reply old new → StandsIn opened s spot end old → MovesTo opened s (gate_change at s index found reply) spot end old new
  gate_by told at window index (Some found) reply spot end old new is fits does stands = gate_row_moves at window index found reply spot end old new is (needs_settled told window index found reply is fits) does stands
  gate_by told at window index None (Gated waiting) spot end old new is fits does stands =
      no_gate window index is (gated_by s.failed (is_at is_settled window (flight_row index s.flight)) (count_by (waits_on index) s.reads) waiting fits).0
  gate_by told at window index None (Fault count) spot end old new is fits does stands = no_gate window index is (may_gate s.failed (is_at is_settled window (flight_row index s.flight)) (count_by (waits_on index) s.reads) fits.0)
  gate_by told at window index None reply spot end old new is fits does stands = still opened s state spot end old new does stands

  release_moves : (window : Window) (spot : ℕ → ℕ) (end : ℕ) (old new : List DiskState) → new ≡ old → StandsIn opened s spot end old → MovesTo opened s (release_change s window) spot end old new
  release_moves window spot end old new same stands =
      let quiet = still opened s state spot end old new same stands in
      let now = release_stands opened (parts_of s) s.map s.flight spot window old f.flying.once (gated_own first s f m) (ungated_absent first s f m) stands.stands in
      record {
        standing = record { stands = subst (λ (states : List DiskState). Now states (Standing opened (parts_of s) s.map (land window s.flight) spot)) (sym same) now; ends = quiet.standing.ends };
        moments = quiet.moments;
      }

  -- ---- the other events

  ask_moves : (who block uid moment : ℕ) (reply : Reply) (spot : ℕ → ℕ) (end : ℕ) (old new : List DiskState) → new ≡ old → StandsIn opened s spot end old → MovesTo opened s (ask_change s who block uid moment reply) spot end old new
  ask_moves who block uid moment (Asked serial) spot end old new same stands = still opened s state spot end old new same stands
  ask_moves who block uid moment reply spot end old new same stands = still opened s state spot end old new same stands

  poll_moves : (who serial : ℕ) (reply : Reply) (spot : ℕ → ℕ) (end : ℕ) (old new : List DiskState) → new ≡ old → StandsIn opened s spot end old → MovesTo opened s (poll_change s who serial reply) spot end old new
  poll_moves who serial (NoPath hash) spot end old new same stands = still opened s state spot end old new same stands
  poll_moves who serial (Handed digest) spot end old new same stands = still opened s state spot end old new same stands
  poll_moves who serial (TimedOut deadline) spot end old new same stands = still opened s state spot end old new same stands
  poll_moves who serial (Fault count) spot end old new same stands = still opened s state spot end old new same stands
  poll_moves who serial reply spot end old new same stands = still opened s state spot end old new same stands

  cancel_moves : (who serial : ℕ) (reply : Reply) (spot : ℕ → ℕ) (end : ℕ) (old new : List DiskState) → new ≡ old → StandsIn opened s spot end old → MovesTo opened s (cancel_change s who serial reply) spot end old new
  cancel_moves who serial Cancelled spot end old new same stands = still opened s state spot end old new same stands
  cancel_moves who serial reply spot end old new same stands = still opened s state spot end old new same stands

  times_moves : (uid : ℕ) (times : Times) (reply : Reply) (spot : ℕ → ℕ) (end : ℕ) (old new : List DiskState) → new ≡ old → StandsIn opened s spot end old → MovesTo opened s (times_change s uid times reply) spot end old new
  times_moves uid times TimesSet spot end old new same stands = still opened s state spot end old new same stands
  times_moves uid times reply spot end old new same stands = still opened s state spot end old new same stands

  leave_moves : (reply : Reply) (spot : ℕ → ℕ) (end : ℕ) (old new : List DiskState) → new ≡ old → StandsIn opened s spot end old → MovesTo opened s (leave_change s reply) spot end old new
  leave_moves (Left readers) spot end old new same stands = still opened s state spot end old new same stands
  leave_moves reply spot end old new same stands = still opened s state spot end old new same stands

  -- ---- all of them

  pub moves : (told : Bool) (at who : ℕ) (event : Event) (reply : Reply) (block : List ℕ) (spot : ℕ → ℕ) (end : ℕ) (old new : List DiskState) → SoundNow old → Fits told s.faults (reply_of s who event) reply → Brings opened event block
      → ((i : ℕ) (found : FlightRow) → flight_row i s.flight ≡ Some found → spot i < 2 ^ 48) → DeviceDoes opened spot block event reply old new → StandsIn opened s spot end old
      → MovesTo opened s (change at s who event reply) (spot_then event reply spot) (end_then (area_places opened.areas) end event reply) old new
  moves told at who (Ask index uid moment) reply block spot end old new sound fits brings low does stands = ask_moves who index uid moment reply spot end old new does stands
  moves told at who (Poll serial moment) reply block spot end old new sound fits brings low does stands = poll_moves who serial reply spot end old new does stands
  moves told at who (Cancel serial) reply block spot end old new sound fits brings low does stands = cancel_moves who serial reply spot end old new does stands
  moves told at who (Claim window claimed) reply block spot end old new sound fits brings low does stands = still opened s state spot end old new does stands
  moves told at who (PutData window index digest) reply block spot end old new sound fits brings low does stands = put_moves told at window index digest block reply spot end old new fits brings does stands
  moves told at who (PutPlace window index) reply block spot end old new sound fits brings low does stands = place_moves told at window index reply spot end old new fits (low index) does stands
  moves told at who (Settle window) reply block spot end old new sound fits brings low does stands = settle_moves at reply spot end old new sound does stands
  moves told at who (Gate window index) reply block spot end old new sound fits brings low does stands = gate_by told at window index (flight_row index s.flight) reply spot end old new refl fits does stands
  moves told at who (Release window) reply block spot end old new sound fits brings low does stands = release_moves window spot end old new does stands
  moves told at who (TakePending after most) reply block spot end old new sound fits brings low does stands = still opened s state spot end old new does stands
  moves told at who (SetTimes uid times) reply block spot end old new sound fits brings low does stands = times_moves uid times reply spot end old new does stands
  moves told at who (Ranges start limit room) reply block spot end old new sound fits brings low does stands = still opened s state spot end old new does stands
  moves told at who Count reply block spot end old new sound fits brings low does stands = still opened s state spot end old new does stands
  moves told at who Leave reply block spot end old new sound fits brings low does stands = leave_moves reply spot end old new does stands
