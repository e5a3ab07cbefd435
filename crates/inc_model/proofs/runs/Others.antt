-- What the entries of other seats leave.
use Rattle.std.proofs.Common.{◌≡◌, ℕ, ◌+◌, Bool, true, false, not, ◌&&◌, cond, eqb, List, [], ◌∷◌, Option, Some, None, refl, sym, ap, subst, ◌∙◌}
use Rattle.std.specs.Prelude.{find, filter}
use Rattle.std.proofs.lemmas.Bool.{and_parts, eqb-true, eq-eqb, ne_eqb, true≢false}
use Rattle.inc_pending.specs.Polling.{read_of, is_asked, marked, waits_on, asked_row}
use Rattle.inc_pending.specs.Times.{times_of}
use Rattle.inc_pending.specs.declared.reads.ReadRow.{ReadRow}
use Rattle.inc_pending.specs.declared.timeouts.Times.{Times}
use Rattle.inc_model.specs.declared.words.event.Event.{Event}
use Rattle.inc_model.specs.declared.words.event.Event.TheVariants.{Ask, Poll, Cancel, Claim, PutData, PutPlace, Settle, Gate, Release, TakePending, SetTimes, Ranges, Count, Leave}
use Rattle.inc_model.specs.declared.words.event.Window.{Window}
use Rattle.inc_model.specs.declared.words.file_state.FileState.{FileState}
use Rattle.inc_model.specs.declared.words.file_state.FlightRow.{FlightRow}
use Rattle.inc_model.specs.declared.words.reply.Entry.{Entry}
use Rattle.inc_model.specs.declared.words.reply.Reply.{Reply}
use Rattle.inc_model.specs.declared.words.reply.Reply.TheVariants.{Asked, NoPath, Handed, TimedOut, Fault, Cancelled, Put, Placed, Settled, Gated, TimesSet, Left}
use Rattle.inc_model.specs.relation.State.{is_in, flight_row, places_left}
use Rattle.inc_model.specs.relation.Changes.{window_of, ask_change, poll_change, cancel_change, put_data_change, put_place_change, settle_change, gate_change, times_change, leave_change, rest_change, change}
use Rattle.inc_model.specs.relation.Step.{IsLegal, IsOwn, after_entry, state_after}
use Rattle.inc_model.specs.laws.HistoryLaws.{are_others}
use Rattle.inc_model.specs.laws.OthersLaws.{HasRead}
use Rattle.inc_model.proofs.lists.Finds.{find_passes, find_append, find_filter, find_map}
use Rattle.inc_model.proofs.steps.Places.{claims_of_others}

-- ---- whose entry it is

pub other_seat : (who : ℕ) (entry : Entry) (entries : List Entry) → are_others who (entry ∷ entries) ≡ true → (entry.who ≡ who → ⊥) × (are_others who entries ≡ true)
other_seat who entry entries e =
    let parts = and_parts (not (eqb entry.who who)) (are_others who entries) e in
    (λ same. true≢false (sym parts.0 ∙ ap not (eq-eqb entry.who who same)), parts.1)

-- ---- reads

asked_by_other : (row : ReadRow) (who serial other there : ℕ) → is_asked who serial row ≡ true → (other ≡ who → ⊥) → not (is_asked other there row) ≡ true
asked_by_other row who serial other there e apart =
    let parts = and_parts (eqb row.serial serial) (eqb row.who who) e in
    let ne : eqb row.who other ≡ false = ne_eqb row.who other (λ same. apart (sym same ∙ eqb-true row.who who parts.1)) in
    ap not (never (eqb row.serial there) (eqb row.who other) ne)
  where
    never : (a b : Bool) → b ≡ false → (a && b) ≡ false
    never true b f = f
    never false b f = refl

marked_asked : (who serial : ℕ) (b : Bool) (row : ReadRow) → is_asked who serial (cond b (record row { done = true }) row) ≡ is_asked who serial row
marked_asked who serial true row = refl
marked_asked who serial false row = refl

module _ (s : FileState) (w who serial : ℕ) (row : ReadRow) (apart : w ≡ who → ⊥) (is : read_of who serial s.reads ≡ Some row) where
  -- the read is found, done perhaps
  abbrev Has : FileState → Type 0
  Has t = HasRead t who serial row

  same : (t : FileState) → read_of who serial t.reads ≡ Some row → Has t
  same t e = record { now = row; is = e; same = refl; done = λ d. d }

  passes : (there : ℕ) → not (is_asked w there row) ≡ true
  passes there = asked_by_other row who serial w there (find_passes (λ r. is_asked who serial r) s.reads row is) apart

  without : (there : ℕ) → find (λ r. is_asked who serial r) (filter (λ r. not (is_asked w there r)) s.reads) ≡ Some row
  without there = find_filter (λ r. is_asked who serial r) (λ r. not (is_asked w there r)) s.reads row is (passes there)

  ask_has : (block uid at : ℕ) (reply : Reply) → Has (ask_change s w block uid at reply)
  ask_has block uid at (Asked given) =
      same (ask_change s w block uid at (Asked given)) (find_append (λ r. is_asked who serial r) s.reads (asked_row s.next w block (is_in block s.map) uid at (times_of uid s.times) ∷ []) row is)
  ask_has block uid at reply = same s is

  poll_has : (there : ℕ) (reply : Reply) → Has (poll_change s w there reply)
  poll_has there (NoPath hash) = same (poll_change s w there (NoPath hash)) (without there)
  poll_has there (Handed digest) = same (poll_change s w there (Handed digest)) (without there)
  poll_has there (TimedOut deadline) = same (poll_change s w there (TimedOut deadline)) (without there)
  poll_has there (Fault count) = same (poll_change s w there (Fault count)) is
  poll_has there reply = same s is

  cancel_has : (there : ℕ) (reply : Reply) → Has (cancel_change s w there reply)
  cancel_has there Cancelled = same (cancel_change s w there Cancelled) (without there)
  cancel_has there reply = same s is

  put_data_has : (at : ℕ) (window : Window) (index : ℕ) (digest : List ℕ) (reply : Reply) → Has (put_data_change at s window index digest reply)
  put_data_has at window index digest (Put place given) = same (put_data_change at s window index digest (Put place given)) is
  put_data_has at window index digest (Fault count) = same (put_data_change at s window index digest (Fault count)) is
  put_data_has at window index digest reply = same s is

  put_place_has : (at index : ℕ) (reply : Reply) → Has (put_place_change at s index reply)
  put_place_has at index Placed = same (put_place_change at s index Placed) is
  put_place_has at index (Fault count) = same (put_place_change at s index (Fault count)) is
  put_place_has at index reply = same s is

  settle_has : (at : ℕ) (reply : Reply) → Has (settle_change at s reply)
  settle_has at Settled = same (settle_change at s Settled) is
  settle_has at (Fault count) = same (settle_change at s (Fault count)) is
  settle_has at reply = same s is

  marked_is : (b : Bool) → (cond b (record row { done = true }) row ≡ record row { done = (cond b (record row { done = true }) row).done }) × (row.done ≡ true → (cond b (record row { done = true }) row).done ≡ true)
  marked_is true = (refl, λ d. refl)
  marked_is false = (refl, λ d. d)

  gate_has : (at index : ℕ) (found : Option FlightRow) (reply : Reply) → Has (gate_change at s index found reply)
  gate_has at index None reply = same s is
  gate_has at index (Some flying) (Gated count) =
      let still = marked_is (waits_on index row) in
      record {
        now = marked index row;
        is = find_map (λ r. is_asked who serial r) (marked index) (λ r. marked_asked who serial (waits_on index r) r) s.reads row is;
        same = still.0;
        done = still.1;
      }
  gate_has at index (Some flying) (Fault count) = same (gate_change at s index (Some flying) (Fault count)) is
  gate_has at index (Some flying) reply = same s is

  times_has : (uid : ℕ) (times : Times) (reply : Reply) → Has (times_change s uid times reply)
  times_has uid times TimesSet = same (times_change s uid times TimesSet) is
  times_has uid times reply = same s is

  leave_has : (reply : Reply) → Has (leave_change s reply)
  leave_has (Left readers) = same (leave_change s (Left readers)) is
  leave_has reply = same s is

  rest_has : (at : ℕ) (event : Event) (reply : Reply) → Has (rest_change at s w event reply)
  rest_has at (Ask block uid moment) reply = ask_has block uid moment reply
  rest_has at (Poll there moment) reply = poll_has there reply
  rest_has at (Cancel there) reply = cancel_has there reply
  rest_has at (Claim window places) reply = same s is
  rest_has at (PutData window index digest) reply = put_data_has at window index digest reply
  rest_has at (PutPlace window index) reply = put_place_has at index reply
  rest_has at (Settle window) reply = settle_has at reply
  rest_has at (Gate window index) reply = gate_has at index (flight_row index s.flight) reply
  rest_has at (Release window) reply = same (rest_change at s w (Release window) reply) is
  rest_has at (TakePending after most) reply = same s is
  rest_has at (SetTimes uid times) reply = times_has uid times reply
  rest_has at (Ranges start end room) reply = same s is
  rest_has at Count reply = same s is
  rest_has at Leave reply = leave_has reply

  step_has : (at : ℕ) (event : Event) (reply : Reply) → Has (change at s w event reply)
  step_has at event reply = let h = rest_has at event reply in record { now = h.now; is = h.is; same = h.same; done = h.done }

-- a read that another step left may become done by a later one
read_on : (t : FileState) (who serial : ℕ) (row now : ReadRow) → now ≡ record row { done = now.done } → (row.done ≡ true → now.done ≡ true) → HasRead t who serial now → HasRead t who serial row
read_on t who serial row now same done h = record {
  now = h.now;
  is = h.is;
  same = h.same ∙ ap (λ (r : ReadRow). record r { done = h.now.done }) same;
  done = λ d. h.done (done d);
}

pub others_keep_reads : (s : FileState) (told : Bool) (at who : ℕ) (entries : List Entry) (serial : ℕ) (row : ReadRow) → IsLegal at told s entries → are_others who entries ≡ true → read_of who serial s.reads ≡ Some row
    → HasRead (state_after at s entries) who serial row
others_keep_reads s told at who [] serial row legal others is = record { now = row; is = is; same = refl; done = λ d. d }
others_keep_reads s told at who (entry ∷ entries) serial row legal others is =
    let other = other_seat who entry entries others in
    let h = step_has s entry.who who serial row other.0 is at entry.event entry.reply in
    read_on (state_after at s (entry ∷ entries)) who serial row h.now h.same h.done (others_keep_reads (after_entry at s entry) told (at + 1) who entries serial h.now legal.1 other.1 h.is)

-- ---- claimed places

pub others_keep_places : (s : FileState) (told : Bool) (at : ℕ) (entries : List Entry) (window : Window) → IsLegal at told s entries → are_others window.who entries ≡ true → places_left window (state_after at s entries).claimed ≡ places_left window s.claimed
others_keep_places s told at [] window legal others = refl
others_keep_places s told at (entry ∷ entries) window legal others =
    let other = other_seat window.who entry entries others in
    let new = after_entry at s entry in
    let apart : window_of entry.event ≡ Some window → ⊥ = λ e. let own : IsOwn entry.who (Some window) = subst (IsOwn entry.who) e legal.0.allowed.own in other.0 (sym own) in
    others_keep_places new told (at + 1) entries window legal.1 other.1
    ∙ claims_of_others s new told at entry.who entry.event entry.reply window (record { allowed = legal.0.allowed; after = refl }) apart
