-- What the replies to a fill's events say of the state that they met.
use Rattle.std.proofs.Common.{◌≡◌, inl, inr, ℕ, ◌+◌, Bool, true, false, ◌&&◌, nat_le, List, [], ◌∷◌, ◌++◌, length, Option, Some, None, refl, ap, subst, ◌∙◌, append_assoc, map}
use Rattle.std.specs.Prelude.{count_by, Result, Ok, Err}
use Rattle.std.specs.List.{list_all}
use Rattle.std.proofs.lemmas.Bool.{and_parts}
use Rattle.inc_pending.specs.Polling.{waits_on}
use Rattle.inc_model.specs.laws.FaultLaws.{IsFirstBreak, is_fault, is_written_by}
use Rattle.inc_model.specs.relation.Stages.{is_at, is_settled, is_written}
use Rattle.inc_model.specs.relation.State.{IsOpening, flight_row, has, is_in}
use Rattle.inc_model.specs.relation.Step.{Fits, IsLegal, IsPut, may_fail, state_after}
use Rattle.inc_model.specs.relation.Table.{flight_reply, gate_reply, place_reply, put_reply, reply_of, unless_failed}
use Rattle.inc_model.specs.declared.words.event.Event.{Event}
use Rattle.inc_model.specs.declared.words.event.Event.TheVariants.{Claim, Gate, PutData, PutPlace, Settle}
use Rattle.inc_model.specs.declared.words.event.Window.{Window}
use Rattle.inc_model.specs.declared.words.file_state.FileState.{FileState}
use Rattle.inc_model.specs.declared.words.file_state.FlightRow.{FlightRow}
use Rattle.inc_model.specs.declared.words.reply.Entry.{Entry}
use Rattle.inc_model.specs.declared.words.reply.Reply.{Reply}
use Rattle.inc_model.specs.declared.words.reply.Reply.TheVariants as reply
use Rattle.inc_model.proofs.runs.Histories.{entry_at, front_legal}
use Rattle.inc_model.proofs.steps.Breaks.{failed_is_first}
use Rattle.inc_turn.specs.Turns.{AddsOwn}
use Rattle.inc_turn.specs.Views.{heard}
use Rattle.inc_turn.specs.declared.view.View.{View}
use Rattle.inc_cell.specs.declared.machine.CellFooting.{CellFooting}
use Rattle.inc_filling.specs.Grouped.{gates_of_each, places_of_each, put_of, puts_of, stores_of}
use Rattle.inc_filling.specs.Stands.{events_of}
use Rattle.inc_filling.specs.declared.filling.Filling.{Filling}
use Rattle.inc_filling.specs.declared.stop.FillStop.{FillStop}
use Rattle.inc_filling.specs.declared.stop.FillStop.TheVariants as stop
use Rattle.inc_handle.specs.Fills.{FillsOwn, IsBrokenOwn, claim_event, store_events}
use Rattle.inc_handle.specs.Met.{BreaksItself, EachMet, EndMet, FillMet}
use Rattle.inc_handle.specs.UnderWay.{EachEnds, EndIs, HasOwnEntry, StopsWith, release_entry}
use Rattle.inc_handle.specs.declared.fill.window.PutEnd.{PutEnd}
use Rattle.inc_handle.specs.declared.fill.window.PutEnd.TheVariants.{Busy, Present, Stored}
use Rattle.inc_handle.proofs.reads.SeenLemmas.{EntrySeen, entry_seen, entry_seen_after}

-- ---- the replies to a put

module _ (found : Option FlightRow) (present : Bool) where
  abbrev NotFlying : Bool → Type 0
  NotFlying b = (found ≡ None) × (present ≡ b)

put_free : (failed : Option ℕ) (past damaged compressed : Bool) (found : Option FlightRow) (present : Bool) (digest given : List ℕ)
    → IsPut given (unless_failed failed (put_reply past damaged compressed (flight_reply found present digest))) → NotFlying found present false
put_free (Some at) past damaged compressed found present digest given h = absurd h
put_free None true damaged compressed found present digest given h = absurd h
put_free None false true compressed found present digest given h = absurd h
put_free None false false true found present digest given h = absurd h
put_free None false false false (Some row) present digest given h = absurd h
put_free None false false false None true digest given h = absurd h
put_free None false false false None false digest given h = (refl, refl)

put_open : (failed : Option ℕ) (past damaged compressed : Bool) (found : Option FlightRow) (present : Bool) (digest : List ℕ)
    → unless_failed failed (put_reply past damaged compressed (flight_reply found present digest)) ≡ reply.Present → NotFlying found present true
put_open (Some at) past damaged compressed found present digest h = absurd (cc)
put_open None true damaged compressed found present digest h = absurd (cc)
put_open None false true compressed found present digest h = absurd (cc)
put_open None false false true found present digest h = absurd (cc)
put_open None false false false (Some row) present digest h = absurd (cc)
put_open None false false false None true digest h = (refl, refl)
put_open None false false false None false digest h = absurd (cc)

put_busy : (failed : Option ℕ) (past damaged compressed : Bool) (found : Option FlightRow) (present : Bool) (digest : List ℕ) (other : Window)
    → unless_failed failed (put_reply past damaged compressed (flight_reply found present digest)) ≡ reply.Busy other → (row : FlightRow) × (found ≡ Some row) × (row.window ≡ other)
put_busy (Some at) past damaged compressed found present digest other h = absurd (cc)
put_busy None true damaged compressed found present digest other h = absurd (cc)
put_busy None false true compressed found present digest other h = absurd (cc)
put_busy None false false true found present digest other h = absurd (cc)
put_busy None false false false (Some row) present digest other h = (row, refl, cc)
put_busy None false false false None true digest other h = absurd (cc)
put_busy None false false false None false digest other h = absurd (cc)

-- ---- each block

module _ (file : CellFooting) (history : List Entry) (legal : IsLegal 0 file.told file.opening history) where
  fits_there : (from who : ℕ) (event : Event) (given : Reply) (at : ℕ) (o : HasOwnEntry history from who event given at)
      → Fits file.told (state_after 0 file.opening o.here.before).faults (reply_of (state_after 0 file.opening o.here.before) who event) given
  fits_there from who event given at o =
      (entry_at file.opening file.told 0 o.here.before (record { who = who; event = event; reply = given }) o.here.after (subst (IsLegal 0 file.told file.opening) o.here.cut legal)).allowed.fits

  module _ (from : ℕ) (window : Window) where
    end_met : (filling : Filling) (end : PutEnd) → EndIs history from window.who (put_of file.opened window filling) end → EndMet file history from window filling end
    end_met filling Stored h =
        let o = h.3 in
        let s = state_after 0 file.opening o.here.before in
        let fits = fits_there from window.who (put_of file.opened window filling) (reply.Put h.1 h.2) h.0 o in (
          h.0,
          h.1,
          h.2,
          record {
            entry = o;
            holds = put_free s.failed (nat_le (s.n + s.m) filling.index) (has filling.index s.damaged) (has filling.index s.compressed) (flight_row filling.index s.flight) (is_in filling.index s.map) _ h.2 fits;
          },
        )
    end_met filling (Present at) o =
        let s = state_after 0 file.opening o.here.before in
        let fits = fits_there from window.who (put_of file.opened window filling) reply.Present at o in
        record {
          entry = o;
          holds = put_open s.failed (nat_le (s.n + s.m) filling.index) (has filling.index s.damaged) (has filling.index s.compressed) (flight_row filling.index s.flight) (is_in filling.index s.map) _ fits;
        }
    end_met filling (Busy other at) o =
        let s = state_after 0 file.opening o.here.before in
        let fits = fits_there from window.who (put_of file.opened window filling) (reply.Busy other) at o in
        let flying = put_busy s.failed (nat_le (s.n + s.m) filling.index) (has filling.index s.damaged) (has filling.index s.compressed) (flight_row filling.index s.flight) (is_in filling.index s.map) _ other fits in
        record { entry = o; holds = record { row = flying.0; flies = flying.1; own = flying.2 } }

    each_met : (group : List Filling) (ends : List PutEnd) → EachEnds history from window.who (puts_of file.opened window group) ends → EachMet file history from window group ends
    each_met [] [] h = tt
    each_met [] (end ∷ ends) h = h
    each_met (filling ∷ group) [] h = h
    each_met (filling ∷ group) (end ∷ ends) h = (end_met filling end h.0, each_met group ends h.1)

-- ---- a fill's events before its release

abbrev is_fill : Event → Bool
is_fill (Claim window places) = true
is_fill (PutData window index digest) = true
is_fill (PutPlace window index) = true
is_fill (Settle window) = true
is_fill (Gate window index) = true
is_fill event = false

both_true : (a b : Bool) → a ≡ true → b ≡ true → (a && b) ≡ true
both_true true b first second = second
both_true false b first second = absurd (cc)

all_both : (xs ys : List Event) → list_all is_fill xs ≡ true → list_all is_fill ys ≡ true → list_all is_fill (xs ++ ys) ≡ true
all_both [] ys first second = second
all_both (x ∷ xs) ys first second =
    let parts = and_parts (is_fill x) (list_all is_fill xs) first in
    both_true (is_fill x) (list_all is_fill (xs ++ ys)) parts.0 (all_both xs ys parts.1 second)

all_made : {A : Type 0} (f : A → Event) (xs : List A) → ((x : A) → is_fill (f x) ≡ true) → list_all is_fill (map f xs) ≡ true
all_made f [] each = refl
all_made f (x ∷ xs) each = both_true (is_fill (f x)) (list_all is_fill (map f xs)) (each x) (all_made f xs each)

stores_all : (window : Window) (stored : List ℕ) → list_all is_fill (stores_of window stored) ≡ true
stores_all window [] = refl
stores_all window (index ∷ stored) =
    let gates = all_both (gates_of_each window (index ∷ stored)) (Settle window ∷ []) (all_made (Gate window) (index ∷ stored) (λ i. refl)) refl in
    all_both (places_of_each window (index ∷ stored)) (Settle window ∷ (gates_of_each window (index ∷ stored) ++ (Settle window ∷ []))) (all_made (PutPlace window) (index ∷ stored) (λ i. refl)) gates

fill_all : (file : CellFooting) (window : Window) (count : ℕ) (group : List Filling) (stored : List ℕ) → list_all is_fill (store_events file window (claim_event window count ∷ []) group stored) ≡ true
fill_all file window count group stored =
    let puts = all_made (put_of file.opened window) group (λ filling. refl) in
    all_both ((claim_event window count ∷ []) ++ puts_of file.opened window group) (stores_of window stored) puts (stores_all window stored)

last_fills : (mine : List Entry) (last : Entry) (rest : List Event) → list_all is_fill (events_of (mine ++ last ∷ []) ++ rest) ≡ true → is_fill last.event ≡ true
last_fills [] last rest all = (and_parts (is_fill last.event) (list_all is_fill rest) all).0
last_fills (entry ∷ mine) last rest all = last_fills mine last rest (and_parts (is_fill entry.event) (list_all is_fill (events_of (mine ++ last ∷ []) ++ rest)) all).1

-- ---- a reply that ends a fill

fault_in : (given : Reply) → StopsWith given stop.DiskFault → is_fault given ≡ true
fault_in (reply.Failed at) h = absurd h
fault_in (reply.Fault count) h = refl
fault_in given h = absurd h

failed_in : (given : Reply) (at : ℕ) → StopsWith given (stop.Failed at) → given ≡ reply.Failed at
failed_in (reply.Failed here) at h = ap (λ (n : ℕ). reply.Failed n) h
failed_in (reply.Fault count) at h = absurd h
failed_in given at h = absurd h

claim_never : (failed : Option ℕ) → may_fail (unless_failed failed reply.Claimed) ≡ true → ⊥
claim_never None h = absurd (cc)
claim_never (Some at) h = absurd (cc)

faulty : (told : Bool) (faults : ℕ) (wanted given : Reply) → is_fault given ≡ true → Fits told faults wanted given → may_fail wanted ≡ true
faulty told faults wanted (reply.Fault count) e h = h.0
faulty told faults wanted given e h = absurd (cc)

writes : (s : FileState) (who : ℕ) (event : Event) → is_fill event ≡ true → may_fail (reply_of s who event) ≡ true → is_written_by event ≡ true
writes s who (Claim window places) fills h = absurd (claim_never s.failed h)
writes s who (PutData window index digest) fills h = refl
writes s who (PutPlace window index) fills h = refl
writes s who (Settle window) fills h = refl
writes s who (Gate window index) fills h = refl
writes s who event fills h = absurd (cc)

abbrev IsNoFailure : Reply → Type 0
IsNoFailure (reply.Failed at) = ⊥
IsNoFailure given = Unit {0}

failed_by : (failed : Option ℕ) (wanted : Reply) (at : ℕ) → IsNoFailure wanted → unless_failed failed wanted ≡ reply.Failed at → failed ≡ Some at
failed_by None wanted at plain e = absurd (subst IsNoFailure e plain)
failed_by (Some here) wanted at plain e = cc

put_no_failure : (past damaged compressed : Bool) (found : Option FlightRow) (present : Bool) (digest : List ℕ) → IsNoFailure (put_reply past damaged compressed (flight_reply found present digest))
put_no_failure true damaged compressed found present digest = tt
put_no_failure false true compressed found present digest = tt
put_no_failure false false true found present digest = tt
put_no_failure false false false (Some row) present digest = tt
put_no_failure false false false None true digest = tt
put_no_failure false false false None false digest = tt

place_no_failure : (mine : Bool) → IsNoFailure (place_reply mine)
place_no_failure true = tt
place_no_failure false = tt

gate_no_failure : (mine : Bool) (waiting : ℕ) → IsNoFailure (gate_reply mine waiting)
gate_no_failure true waiting = tt
gate_no_failure false waiting = tt

has_failed : (s : FileState) (who : ℕ) (event : Event) (at : ℕ) → is_fill event ≡ true → reply_of s who event ≡ reply.Failed at → s.failed ≡ Some at
has_failed s who (Claim window places) at fills e = failed_by s.failed reply.Claimed at tt e
has_failed s who (PutData window index digest) at fills e =
    failed_by s.failed _ at (put_no_failure (nat_le (s.n + s.m) index) (has index s.damaged) (has index s.compressed) (flight_row index s.flight) (is_in index s.map) digest) e
has_failed s who (PutPlace window index) at fills e = failed_by s.failed _ at (place_no_failure (is_at is_written window (flight_row index s.flight))) e
has_failed s who (Settle window) at fills e = failed_by s.failed reply.Settled at tt e
has_failed s who (Gate window index) at fills e = failed_by s.failed _ at (gate_no_failure (is_at is_settled window (flight_row index s.flight)) (count_by (waits_on index) s.reads)) e
has_failed s who event at fills e = absurd (cc)

-- ---- what ends a fill

module _ (file : CellFooting) (v w : View CellFooting) (begins : IsOpening file.opening) (legal : IsLegal 0 file.told file.opening (heard w)) (last : Entry) (seen : EntrySeen v w last) (fills : is_fill last.event ≡ true) where
  whole : IsLegal 0 file.told file.opening (seen.front ++ last ∷ seen.rest)
  whole = subst (IsLegal 0 file.told file.opening) seen.heard_is legal

  fits : Fits file.told (state_after 0 file.opening seen.front).faults (reply_of (state_after 0 file.opening seen.front) last.who last.event) last.reply
  fits = (entry_at file.opening file.told 0 seen.front last seen.rest whole).allowed.fits

  pub breaks_itself : StopsWith last.reply stop.DiskFault → BreaksItself v w
  breaks_itself stops =
      let fault = fault_in last.reply stops in
      let s = state_after 0 file.opening seen.front in
      let written = writes s last.who last.event fills (faulty file.told s.faults (reply_of s last.who last.event) last.reply fault fits) in
      record {
        front = seen.front;
        entry = last;
        rest = seen.rest;
        heard_is = seen.heard_is;
        since = seen.since;
        own = seen.own;
        failed = both_true (is_written_by last.event) (is_fault last.reply) written fault;
      }

  pub first_break : (at : ℕ) → last.reply ≡ reply.Failed at → IsFirstBreak (heard w) at
  first_break at is =
      let s = state_after 0 file.opening seen.front in
      let wanted : reply_of s last.who last.event ≡ reply.Failed at = subst (Fits file.told s.faults (reply_of s last.who last.event)) is fits in
      let first = failed_is_first file.opening file.told seen.front at begins.not_failed (front_legal file.opening file.told 0 seen.front (last ∷ seen.rest) whole) (has_failed s last.who last.event at fills wanted) in
      record {
        before = first.before;
        entry = first.entry;
        after = first.after ++ last ∷ seen.rest;
        cut = seen.heard_is ∙ (ap (λ (es : List Entry). es ++ last ∷ seen.rest) first.cut ∙ append_assoc first.before (first.entry ∷ first.after) (last ∷ seen.rest));
        place = first.place;
        failed = first.failed;
        first = first.first;
      }

module _ (file : CellFooting) (v : View CellFooting) (window : Window) (group : List Filling) (ends : List PutEnd) (stored : List ℕ) (w : View CellFooting) where
  last_seen : (why : FillStop) (b : IsBrokenOwn file v window group ends stored why w) → EntrySeen v w b.last
  last_seen why b = entry_seen_after v w b.mine b.last (release_entry window ∷ []) (subst (AddsOwn v w) (append_assoc b.mine (b.last ∷ []) (release_entry window ∷ [])) b.adds)

  last_kind : (why : FillStop) (b : IsBrokenOwn file v window group ends stored why w) → is_fill b.last.event ≡ true
  last_kind why b = last_fills b.mine b.last b.rest (ap (list_all is_fill) b.events_are ∙ fill_all file window (length group) group stored)

  pub fill_met : (end : Result ℕ FillStop) → FillsOwn file v window group end ends stored w → FillMet file v window group end ends w
  fill_met (Ok at) h = each_met file (heard w) h.legal (length (heard v)) window group ends h.each
  fill_met (Err stop.DiskFault) h = breaks_itself file v w h.begins h.legal h.last (last_seen stop.DiskFault h) (last_kind stop.DiskFault h) h.stopped
  fill_met (Err (stop.Failed at)) h = elim h [
    | inl alone ↦ first_break file v w alone.begins alone.legal _ (entry_seen v w _ [] alone.adds) refl at refl
    | inr b ↦ first_break file v w b.begins b.legal b.last (last_seen (stop.Failed at) b) (last_kind (stop.Failed at) b) at (failed_in b.last.reply at b.stopped)
  ]
  fill_met (Err (stop.HistoryFull entries claimed)) h = tt
  fill_met (Err stop.OutOfMemory) h = tt
