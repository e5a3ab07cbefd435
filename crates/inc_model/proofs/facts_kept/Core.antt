-- Every step keeps what the executed core needs of its state.
use Rattle.std.proofs.Common.{◌≡◌, ℕ, ◌+◌, ◌^◌, ◌<◌, ◌≤◌, Bool, true, false, not, cond, eqb, ltb, leb, List, [], ◌∷◌, ◌++◌, length, get_or, Option, Some, None, refl, arith}
use Rattle.std.specs.Prelude.{All, filter, map}
use Rattle.std.proofs.lemmas.Bool.{leb-false}
use Rattle.std.proofs.lemmas.List.{length-append, length-map}
use Rattle.std.proofs.lemmas.List.Elements.{All-push, All-filter, All-map}
use Rattle.std.proofs.lemmas.List.Quantifiers.{all_pairs_push}
use Rattle.std.proofs.lemmas.List.Kept.{AllPairs-filter}
use Rattle.std.proofs.lemmas.List.Sums.{length-filter, count_by-le-length}
use Rattle.inc_pending.specs.Keyed.{insert}
use Rattle.inc_pending.specs.Polling.{AreRising, asked_row, is_asked, waits_on, marked}
use Rattle.inc_pending.specs.Times.{times_of}
use Rattle.inc_pending.specs.declared.reads.ReadRow.{ReadRow}
use Rattle.inc_pending.specs.declared.timeouts.Times.{Times}
use Rattle.inc_pending.proofs.TableLemmas.{rising-map}
use Rattle.inc_model.specs.declared.words.event.Event.{Event}
use Rattle.inc_model.specs.declared.words.limits.TheConstants.{FIRST_SERIALS, MOST_BLOCKS, MOST_DATA_BLOCKS, MOST_ENTRIES}
use Rattle.inc_model.specs.declared.words.event.Event.TheVariants.{Ask, Poll, Cancel, Claim, PutData, PutPlace, Settle, Gate, Release, TakePending, SetTimes, Ranges, Count, Leave}
use Rattle.inc_model.specs.declared.words.event.Window.{Window}
use Rattle.inc_model.specs.declared.words.file_state.FileState.{FileState}
use Rattle.inc_model.specs.declared.words.file_state.FlightRow.{FlightRow}
use Rattle.inc_model.specs.declared.words.reply.Reply.{Reply}
use Rattle.inc_model.specs.declared.words.reply.Reply.TheVariants.{Asked, NoPath, Handed, TimedOut, Fault, Cancelled, Put, Placed, Settled, Gated, TimesSet, Left}
use Rattle.inc_model.specs.relation.State.{Digests, is_in, has, flight_row, all_places}
use Rattle.inc_model.specs.relation.Table.{ask_reply, reply_of}
use Rattle.inc_model.specs.relation.Changes.{ask_change, poll_change, cancel_change, put_data_change, put_place_change, settle_change, gate_row_change, gate_change, times_change, leave_change, rest_change, change}
use Rattle.inc_model.specs.relation.Step.{Fits, IsAllowed}
use Rattle.inc_model.specs.executed.CoreFacts.{IsHeld, IsWorkable}
use Rattle.inc_model.proofs.facts_kept.Step.{limit_stays}
use Rattle.inc_model.proofs.facts_kept.Flying.{rest_flies}

-- ---- the part that reads and gates change

record Part (at n m : ℕ) (reads : List ReadRow) (next : ℕ) (digests : Digests) : Type 0 where
  pub small : n ≤ MOST_DATA_BLOCKS
  pub total : n + m ≤ MOST_BLOCKS
  pub rising : AreRising reads
  pub within : All (λ row. row.block < n) reads
  pub below : All (λ row. row.serial < next) reads
  pub waiting : length reads ≤ next
  pub serials : next ≤ FIRST_SERIALS + at
  pub there : length digests ≤ MOST_BLOCKS + at

abbrev PartOf : ℕ → FileState → Type 0
PartOf at s = Part at s.n s.m s.reads s.next s.map

part_of : (at : ℕ) (s : FileState) → IsHeld at s → PartOf at s
part_of at s h = record { small = h.small; total = h.total; rising = h.rising; within = h.within; below = h.below; waiting = h.waiting; serials = h.serials; there = h.there }

-- ---- what a mark and one more key leave

serial_by : (b : Bool) (row : ReadRow) → (cond b (record row { done = true }) row).serial ≡ row.serial
serial_by true row = refl
serial_by false row = refl

serial_marked : (index : ℕ) (row : ReadRow) → (marked index row).serial ≡ row.serial
serial_marked index row = serial_by (waits_on index row) row

block_by : (b : Bool) (row : ReadRow) → (cond b (record row { done = true }) row).block ≡ row.block
block_by true row = refl
block_by false row = refl

block_marked : (index : ℕ) (row : ReadRow) → (marked index row).block ≡ row.block
block_marked index row = block_by (waits_on index row) row

length_insert : (index : ℕ) (digest : List ℕ) (rows : Digests) → length (insert index digest rows) ≤ length rows + 1
length_insert index digest [] = omega arith
length_insert index digest (row ∷ rows) = step (ltb index row.0) (eqb index row.0) (length_insert index digest rows)
  where
    step : (b c : Bool) → length (insert index digest rows) ≤ length rows + 1 → length (cond b ((index, digest) ∷ row ∷ rows) (cond c ((index, digest) ∷ rows) (row ∷ insert index digest rows))) ≤ length (row ∷ rows) + 1
    step true c h = omega arith
    step false true h = omega arith
    step false false h = omega arith

-- ---- one entry more

module _ {at n m : ℕ} {reads : List ReadRow} {next : ℕ} {digests : Digests} (h : Part at n m reads next digests) where
  same : Part (at + 1) n m reads next digests
  same = record {
    small = h.small;
    total = h.total;
    rising = h.rising;
    within = h.within;
    below = h.below;
    waiting = h.waiting;
    serials = let le = h.serials in omega arith;
    there = let le = h.there in omega arith;
  }

  one_more : (row : ReadRow) → row.serial ≡ next → row.block < n → Part (at + 1) n m (reads ++ row ∷ []) (next + 1) digests
  one_more row e inside = record {
    small = h.small;
    total = h.total;
    rising = all_pairs_push (λ (a : ReadRow) (b : ReadRow). a.serial < b.serial) reads row h.rising (λ k d lt. let below = h.below k d lt in omega arith);
    within = All-push (λ (r : ReadRow). r.block < n) reads row h.within inside;
    below = All-push (λ (r : ReadRow). r.serial < next + 1) reads row (λ k d lt. let below = h.below k d lt in omega arith) (omega arith);
    waiting = let few = h.waiting in omega (arith, length-append reads (row ∷ []));
    serials = let le = h.serials in omega arith;
    there = let le = h.there in omega arith;
  }

  some_fewer : (p : ReadRow → Bool) → Part (at + 1) n m (filter p reads) next digests
  some_fewer p = record {
    small = h.small;
    total = h.total;
    rising = AllPairs-filter (λ (a : ReadRow) (b : ReadRow). a.serial < b.serial) p reads h.rising;
    within = All-filter p (λ (r : ReadRow). r.block < n) reads h.within;
    below = All-filter p (λ (r : ReadRow). r.serial < next) reads h.below;
    waiting = let few = h.waiting in omega (arith, length-filter p reads, count_by-le-length p reads);
    serials = let le = h.serials in omega arith;
    there = let le = h.there in omega arith;
  }

  one_open : (index : ℕ) (digest : List ℕ) → Part (at + 1) n m (map (marked index) reads) next (insert index digest digests)
  one_open index digest = record {
    small = h.small;
    total = h.total;
    rising = rising-map (λ (row : ReadRow). row.serial) (λ (row : ReadRow). row.serial) (marked index) (serial_marked index) reads h.rising;
    within = All-map (λ (r : ReadRow). r.block < n) (marked index) reads (λ k d lt. let inside = h.within k d lt in let e = block_marked index (get_or reads k d) in omega arith);
    below = All-map (λ (r : ReadRow). r.serial < next) (marked index) reads (λ k d lt. let below = h.below k d lt in let e = serial_marked index (get_or reads k d) in omega arith);
    waiting = let few = h.waiting in omega (arith, length-map reads (marked index));
    serials = let le = h.serials in omega arith;
    there = let le = h.there in omega (arith, length_insert index digest digests);
  }

-- ---- by the reply

asked_by : (past damaged compressed : Bool) (next serial : ℕ) → ask_reply past damaged compressed next ≡ Asked serial → past ≡ false
asked_by true damaged compressed next serial e = absurd (cc)
asked_by false damaged compressed next serial e = refl

ask_part : (told : Bool) (at : ℕ) (s : FileState) (who block uid now : ℕ) (damaged compressed : Bool) (reply : Reply) → Fits told s.faults (ask_reply (leb s.n block) damaged compressed s.next) reply → PartOf at s → PartOf (at + 1) (ask_change s who block uid now reply)
ask_part told at s who block uid now damaged compressed (Asked serial) h part =
    let inside = leb-false s.n block (asked_by (leb s.n block) damaged compressed s.next serial h) in
    one_more part (asked_row s.next who block (is_in block s.map) uid now (times_of uid s.times)) refl inside
ask_part told at s who block uid now damaged compressed reply h part = same part

poll_part : (at : ℕ) (s : FileState) (who serial : ℕ) (reply : Reply) → PartOf at s → PartOf (at + 1) (poll_change s who serial reply)
poll_part at s who serial (NoPath hash) part = some_fewer part (λ row. not (is_asked who serial row))
poll_part at s who serial (Handed digest) part = some_fewer part (λ row. not (is_asked who serial row))
poll_part at s who serial (TimedOut deadline) part = some_fewer part (λ row. not (is_asked who serial row))
poll_part at s who serial (Fault count) part = same part
poll_part at s who serial reply part = same part

cancel_part : (at : ℕ) (s : FileState) (who serial : ℕ) (reply : Reply) → PartOf at s → PartOf (at + 1) (cancel_change s who serial reply)
cancel_part at s who serial Cancelled part = some_fewer part (λ row. not (is_asked who serial row))
cancel_part at s who serial reply part = same part

put_data_part : (at : ℕ) (s : FileState) (window : Window) (index : ℕ) (digest : List ℕ) (reply : Reply) → PartOf at s → PartOf (at + 1) (put_data_change at s window index digest reply)
put_data_part at s window index digest (Put place d) part = same part
put_data_part at s window index digest (Fault count) part = same part
put_data_part at s window index digest reply part = same part

put_place_part : (at : ℕ) (s : FileState) (index : ℕ) (reply : Reply) → PartOf at s → PartOf (at + 1) (put_place_change at s index reply)
put_place_part at s index Placed part = same part
put_place_part at s index (Fault count) part = same part
put_place_part at s index reply part = same part

settle_part : (at : ℕ) (s : FileState) (reply : Reply) → PartOf at s → PartOf (at + 1) (settle_change at s reply)
settle_part at s Settled part = same part
settle_part at s (Fault count) part = same part
settle_part at s reply part = same part

gate_row_part : (at : ℕ) (s : FileState) (index : ℕ) (digest : List ℕ) (reply : Reply) → PartOf at s → PartOf (at + 1) (gate_row_change at s index digest reply)
gate_row_part at s index digest (Gated count) part = one_open part index digest
gate_row_part at s index digest (Fault count) part = same part
gate_row_part at s index digest reply part = same part

gate_part : (at : ℕ) (s : FileState) (index : ℕ) (found : Option FlightRow) (reply : Reply) → PartOf at s → PartOf (at + 1) (gate_change at s index found reply)
gate_part at s index (Some row) reply part = gate_row_part at s index row.digest reply part
gate_part at s index None reply part = same part

times_part : (at : ℕ) (s : FileState) (uid : ℕ) (times : Times) (reply : Reply) → PartOf at s → PartOf (at + 1) (times_change s uid times reply)
times_part at s uid times TimesSet part = same part
times_part at s uid times reply part = same part

leave_part : (at : ℕ) (s : FileState) (reply : Reply) → PartOf at s → PartOf (at + 1) (leave_change s reply)
leave_part at s (Left readers) part = same part
leave_part at s reply part = same part

rest_part : (told : Bool) (at : ℕ) (s : FileState) (who : ℕ) (event : Event) (reply : Reply) → Fits told s.faults (reply_of s who event) reply → PartOf at s → PartOf (at + 1) (rest_change at s who event reply)
rest_part told at s who (Ask block uid moment) reply h part = ask_part told at s who block uid moment (has block s.damaged) (has block s.compressed) reply h part
rest_part told at s who (Poll serial moment) reply h part = poll_part at s who serial reply part
rest_part told at s who (Cancel serial) reply h part = cancel_part at s who serial reply part
rest_part told at s who (Claim window places) reply h part = same part
rest_part told at s who (PutData window index digest) reply h part = put_data_part at s window index digest reply part
rest_part told at s who (PutPlace window index) reply h part = put_place_part at s index reply part
rest_part told at s who (Settle window) reply h part = settle_part at s reply part
rest_part told at s who (Gate window index) reply h part = gate_part at s index (flight_row index s.flight) reply part
rest_part told at s who (Release window) reply h part = same part
rest_part told at s who (TakePending after most) reply h part = same part
rest_part told at s who (SetTimes uid times) reply h part = times_part at s uid times reply part
rest_part told at s who (Ranges start end room) reply h part = same part
rest_part told at s who Count reply h part = same part
rest_part told at s who Leave reply h part = leave_part at s reply part

-- ---- all of it

pub held_after : (told : Bool) (at : ℕ) (s : FileState) (who : ℕ) (event : Event) (reply : Reply) → IsAllowed at told s who event reply → IsHeld at s → IsHeld (at + 1) (change at s who event reply)
held_after told at s who event reply allowed h =
    let part = rest_part told at s who event reply allowed.fits (part_of at s h) in
    let bounded = rest_flies told at s who event reply allowed.fits (record { damaged_rises = h.damaged_rises; compressed_rises = h.compressed_rises; flying = h.flying }) in
    record {
      small = part.small;
      total = part.total;
      rising = part.rising;
      within = part.within;
      below = part.below;
      waiting = part.waiting;
      serials = part.serials;
      there = part.there;
      limit = limit_stays at s who event reply allowed.room;
      damaged_rises = bounded.damaged_rises;
      compressed_rises = bounded.compressed_rises;
      flying = bounded.flying;
    }

pub workable : (at : ℕ) (s : FileState) → IsHeld at s → IsWorkable s
workable at s h =
    let limit : at + all_places s.claimed ≤ MOST_ENTRIES = h.limit in
    record {
      small = h.small;
      total = h.total;
      rising = h.rising;
      within = h.within;
      waiting = let few = h.waiting in let serials = h.serials in omega arith;
      there = let few = h.there in omega arith;
      places = omega arith;
      damaged_rises = h.damaged_rises;
      compressed_rises = h.compressed_rises;
      flying = h.flying;
    }

pub serials_fit : (at : ℕ) (s : FileState) → IsHeld at s → s.next + 1 < 2 ^ 32
serials_fit at s h = let limit : at + all_places s.claimed ≤ MOST_ENTRIES = h.limit in let serials = h.serials in omega arith
