-- The definitions say what they mean: steps of one small file, and the same with one thing changed, which are none.
--
-- The file has five data blocks and one hash block. A digest is a short list here.
use Rattle.std.proofs.Common.{◌≡◌, ℕ, zero, suc, ◌-◌, true, false, List, [], ◌∷◌, ◌++◌, Some, None, refl, arith, inl, inr}
use Rattle.inc_pending.specs.Times.{default_times}
use Rattle.inc_pending.specs.declared.reads.ReadRow.{ReadRow}
use Rattle.inc_pending.specs.declared.timeouts.Times.{Times}
use Rattle.inc_model.specs.declared.words.event.Event.TheVariants.{Ask, Poll, Claim, PutData, PutPlace, Settle, Gate, Release, TakePending, SetTimes, Ranges, Count, Leave}
use Rattle.inc_model.specs.declared.words.event.Window.{Window}
use Rattle.inc_model.specs.declared.words.file_state.FileState.{FileState}
use Rattle.inc_model.specs.declared.words.file_state.FlightRow.{FlightRow}
use Rattle.inc_model.specs.declared.words.file_state.Stage.{Stage}
use Rattle.inc_model.specs.declared.words.file_state.Stage.TheVariants.{Written as written_stage, Placed as placed_stage, Settled as settled_stage, Gated as gated_stage}
use Rattle.inc_model.specs.declared.words.limits.TheConstants.{MOST_ENTRIES}
use Rattle.inc_model.specs.declared.words.reply.Reply.TheVariants.{OutOfRange, Asked, Stranger, NoPath, Handed, TimedOut, NotYet, Fault, Claimed, Busy, Present, Put, Settled, Gated, Released, Taken, TimesFull, TimesSet, BadRange, Filled, Counted, Left}
use Rattle.inc_tree.specs.shape.Geometry.{levels, level_counts}
use Rattle.inc_ranges.specs.Runs.{runs_from}
use Rattle.inc_model.specs.relation.Polling.{absent_hash, absent_from}
use Rattle.inc_model.specs.relation.Table.{reply_of, presence}
use Rattle.inc_model.specs.relation.Changes.{change}
use Rattle.inc_model.specs.relation.Step.{IsAllowed, Step}
use Rattle.inc_model.specs.relation.Facts.{MoreFacts}

abbrev file : FileState
file = record {
  id = [];
  n = 5;
  m = 1;
  root = None;
  map = [];
  damaged = [];
  compressed = [];
  reads = [];
  next = 1;
  times = [];
  flight = [];
  claimed = [];
  begun = [];
  acknowledged = [];
  faults = 0;
  failed = None;
  readers = 2;
}

abbrev window : Window
window = record { who = 3; count = 0 }

abbrev other_window : Window
other_window = record { who = 4; count = 0 }

abbrev waiting : ℕ → ℕ → ReadRow
waiting serial block = record { serial = serial; who = 1; block = block; uid = 7; asked = 1000; floor = 1000; deadline = 1001000; done = false }

abbrev eight : List ℕ
eight = 8 ∷ []

abbrev nine : List ℕ
nine = 9 ∷ []

-- two reads wait for block 4, and one for block 3
abbrev three_wait : FileState
three_wait = record file { reads = waiting 1 4 ∷ waiting 2 4 ∷ waiting 3 3 ∷ []; next = 4 }

-- ---- asking and polling

asks : Step 0 true file 1 (Ask 4 7 1000) (Asked 1) (record file { reads = waiting 1 4 ∷ []; next = 2 })
asks = record { allowed = record { own = tt; room = omega arith; fits = refl }; after = refl }

asks_another_serial : IsAllowed 0 true file 1 (Ask 4 7 1000) (Asked 2) → ⊥
asks_another_serial h = let e = h.fits in absurd (cc)

asks_a_hash_block : reply_of file 1 (Ask 5 7 1000) ≡ OutOfRange
asks_a_hash_block = refl

waits : reply_of three_wait 1 (Poll 1 1000999) ≡ NotYet
waits = refl

times_out : Step 3 true three_wait 1 (Poll 1 1001000) (TimedOut 1001000) (record three_wait { reads = waiting 2 4 ∷ waiting 3 3 ∷ [] })
times_out = record { allowed = record { own = tt; room = omega arith; fits = refl }; after = refl }

times_out_early : IsAllowed 3 true three_wait 1 (Poll 1 1000999) (TimedOut 1001000) → ⊥
times_out_early h = let e = h.fits in absurd (cc)

a_strangers_poll : reply_of three_wait 2 (Poll 1 1001000) ≡ Stranger
a_strangers_poll = refl

-- the block is there, and the one hash block, index 5, isn't; then both are
abbrev block_there : FileState
block_there = record file { map = (4, nine) ∷ []; acknowledged = 4 ∷ []; reads = (record (waiting 1 4) { done = true }) ∷ []; next = 2 }

abbrev path_there : FileState
path_there = record block_there { map = (4, nine) ∷ (5, eight) ∷ []; acknowledged = 4 ∷ 5 ∷ [] }

names_the_hash_block : reply_of block_there 1 (Poll 1 2000000) ≡ NoPath 0
unfolding absent_hash absent_from levels level_counts
names_the_hash_block = refl

hands_out_past_its_deadline : Step 7 true path_there 1 (Poll 1 2000000) (Handed nine) (record path_there { reads = [] })
unfolding absent_hash absent_from levels level_counts
hands_out_past_its_deadline = record { allowed = record { own = tt; room = omega arith; fits = λ _. refl }; after = refl }

hands_out_another_block : IsAllowed 7 true path_there 1 (Poll 1 2000000) (Handed eight) → ⊥
unfolding absent_hash absent_from levels level_counts
hands_out_another_block h = let e : eight ≡ nine = h.fits refl in absurd (cc)

-- a read of the device that failed leaves the read, and fills go on
a_read_fault : Step 7 true path_there 1 (Poll 1 2000000) (Fault 3) (record path_there { faults = 3 })
unfolding absent_hash absent_from levels level_counts
a_read_fault = record { allowed = record { own = tt; room = omega arith; fits = (refl, inl (omega arith)) }; after = refl }

-- ---- a fill

claims : Step 7 true file 3 (Claim window 6) Claimed (record file { claimed = (window, 6) ∷ [] })
claims = record { allowed = record { own = refl; room = omega arith; fits = refl }; after = refl }

claims_more_than_there_is_room : IsAllowed (MOST_ENTRIES - 6) true file 3 (Claim window 6) Claimed → ⊥
claims_more_than_there_is_room h = let room = h.room in absurd (omega arith)

claims_for_another_seat : IsAllowed 7 true file 3 (Claim other_window 6) Claimed → ⊥
claims_for_another_seat h = let own : other_window.who ≡ 3 = h.own in absurd (omega arith)

abbrev claimed : FileState
claimed = record file { claimed = (window, 6) ∷ [] }

abbrev row : Window → ℕ → Stage → FlightRow
row w index stage = record { window = w; index = index; digest = nine; stage = stage }

-- the place is free
puts : Step 8 true claimed 3 (PutData window 4 nine) (Put 8192 nine) (record file { claimed = (window, 5) ∷ []; flight = row window 4 written_stage ∷ [] })
puts = record { allowed = record { own = refl; room = omega arith; fits = refl }; after = refl }

puts_another_block : IsAllowed 8 true claimed 3 (PutData window 4 nine) (Put 8192 eight) → ⊥
puts_another_block h = let e : eight ≡ nine = h.fits in absurd (cc)

-- a place that was claimed is there also where the history is full
puts_at_the_end : IsAllowed (MOST_ENTRIES - 6) true claimed 3 (PutData window 4 nine) (Put 8192 nine)
puts_at_the_end = record { own = refl; room = omega arith; fits = refl }

asks_at_the_end : IsAllowed (MOST_ENTRIES - 6) true claimed 1 (Ask 4 7 1000) (Asked 1) → ⊥
asks_at_the_end h = let room = h.room in absurd (omega arith)

fails_and_counts : Step 8 true claimed 3 (PutData window 4 nine) (Fault 1) (record file { claimed = (window, 5) ∷ []; faults = 1; failed = Some 8 })
fails_and_counts = record { allowed = record { own = refl; room = omega arith; fits = (refl, inl (omega arith)) }; after = refl }

fails_and_counts_nothing : IsAllowed 8 true claimed 3 (PutData window 4 nine) (Fault 0) → ⊥
fails_and_counts_nothing h = elim h.fits.1 [ inl more ↦ absurd (omega arith) | inr greatest ↦ absurd (omega arith) ]

is_busy : reply_of (record file { flight = row window 4 placed_stage ∷ [] }) 4 (PutData other_window 4 nine) ≡ Busy window
is_busy = refl

is_present : reply_of path_there 4 (PutData other_window 4 nine) ≡ Present
is_present = refl

-- three windows fill: what is placed is settled and what is gated acknowledged, in all windows; what is written stays
abbrev three_fill : FileState
three_fill = record file { map = (2, nine) ∷ []; begun = (2, nine) ∷ []; flight = row window 0 written_stage ∷ row other_window 1 placed_stage ∷ row other_window 2 gated_stage ∷ [] }

settles : Step 8 true three_fill 3 (Settle window) Settled (record three_fill { flight = row window 0 written_stage ∷ row other_window 1 settled_stage ∷ []; acknowledged = 2 ∷ [] })
settles = record { allowed = record { own = refl; room = omega arith; fits = refl }; after = refl }

settles_nothing_where_it_fails : Step 8 true three_fill 3 (Settle window) (Fault 1) (record three_fill { faults = 1; failed = Some 8 })
settles_nothing_where_it_fails = record { allowed = record { own = refl; room = omega arith; fits = (refl, inl (omega arith)) }; after = refl }

-- a place can't be written for another window, nor a gate be opened before a sync
places_anothers : reply_of three_fill 3 (PutPlace window 1) ≡ Stranger
places_anothers = refl

opens_before_a_sync : reply_of three_fill 4 (Gate other_window 1) ≡ Stranger
opens_before_a_sync = refl

abbrev settled_file : FileState
settled_file = record three_wait { flight = row window 4 settled_stage ∷ [] }

opens : Step 8 true settled_file 3 (Gate window 4) (Gated 2) (record settled_file {
  map = (4, nine) ∷ [];
  begun = (4, nine) ∷ [];
  reads = (record (waiting 1 4) { done = true }) ∷ (record (waiting 2 4) { done = true }) ∷ waiting 3 3 ∷ [];
  flight = row window 4 gated_stage ∷ [];
})
opens = record { allowed = record { own = refl; room = omega arith; fits = refl }; after = refl }

opens_and_counts_all_reads : IsAllowed 8 true settled_file 3 (Gate window 4) (Gated 3) → ⊥
opens_and_counts_all_reads h = let e : Gated 2 ≡ Gated 3 = h.fits in absurd (cc)

-- a crash may leave the block
fails_to_open : Step 8 true settled_file 3 (Gate window 4) (Fault 1) (record settled_file { begun = (4, nine) ∷ []; faults = 1; failed = Some 8 })
fails_to_open = record { allowed = record { own = refl; room = omega arith; fits = (refl, inl (omega arith)) }; after = refl }

releases : change 8 (record three_fill { claimed = (window, 1) ∷ (other_window, 0) ∷ [] }) 4 (Release other_window) Released ≡ record three_fill { claimed = (window, 1) ∷ []; flight = row window 0 written_stage ∷ [] }
releases = refl

-- ---- loaders, the session, questions

takes_the_first : reply_of three_wait 4 (TakePending 1 1) ≡ Taken (record { id = []; asked = 1000; block = 4; serial = 2; uid = 7 } ∷ []) 2
takes_the_first = refl

tells_ranges : reply_of (record file { map = (0, []) ∷ (1, []) ∷ (3, []) ∷ (5, []) ∷ [] }) 4 (Ranges 0 6 2) ≡ Filled ((0, 2) ∷ (3, 4) ∷ []) 5 true
unfolding presence runs_from
tells_ranges = refl

tells_no_ranges_past_the_end : reply_of file 4 (Ranges 4 9 8) ≡ BadRange
tells_no_ranges_past_the_end = refl

counts : reply_of (record file { map = (0, []) ∷ (1, []) ∷ (5, []) ∷ [] }) 4 Count ≡ Counted 2 1
counts = refl

leaves : Step 8 true file 1 Leave (Left 1) (record file { readers = 1 })
leaves = record { allowed = record { own = tt; room = omega arith; fits = refl }; after = refl }

-- so many users have times of their own
abbrev with_times : ℕ → List (ℕ × Times)
with_times zero = []
with_times (suc count) = with_times count ++ (suc count, default_times) ∷ []

abbrev all_taken : FileState
all_taken = record file { times = with_times 256 }

refuses_one_user_more : reply_of all_taken 0 (SetTimes 300 default_times) ≡ TimesFull
refuses_one_user_more = refl

sets_a_user_who_has_a_row : reply_of all_taken 0 (SetTimes 256 default_times) ≡ TimesSet
sets_a_user_who_has_a_row = refl

-- ---- states that no file reaches

-- block 0 was open at the opening, so no gate write of it begins
abbrev opened_file : FileState
opened_file = record file { map = (0, nine) ∷ []; acknowledged = 0 ∷ [] }

begun_though_opened : MoreFacts opened_file (record opened_file { begun = (0, eight) ∷ []; acknowledged = [] }) → ⊥
begun_though_opened h = let e : true ≡ false = h.kept.fresh 0 refl in absurd (cc)

open_and_damaged : MoreFacts opened_file (record opened_file { damaged = 0 ∷ [] }) → ⊥
open_and_damaged h = let e : true ≡ false = (h.apart.open_sound 0 refl).0 in absurd (cc)
