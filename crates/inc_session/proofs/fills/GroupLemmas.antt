-- What a fill of one group leaves of its seat's own entries.
use Rattle.std.proofs.Common.{◌≡◌, inl, inr, ℕ, zero, suc, ◌+◌, ◌-◌, ◌*◌, ◌<◌, ◌≤◌, Bool, List, [], ◌∷◌, ◌++◌, length, take, refl, sym, ap, subst, ◌∙◌, arith, length-append}
use Rattle.std.specs.Prelude.{map, Result, Ok, Err}
use Rattle.std.proofs.lemmas.List.{append-nil, length-map, length-take, map-append}
use Rattle.inc_frame.specs.declared.piece.Piece.{Piece}
use Rattle.inc_layout.specs.declared.opened.Opened.{Opened}
use Rattle.inc_model.specs.declared.words.event.Event.{Event}
use Rattle.inc_model.specs.declared.words.event.Event.TheVariants.{Claim}
use Rattle.inc_model.specs.declared.words.event.Window.{Window}
use Rattle.inc_model.specs.declared.words.outcomes.FillError.{FillError}
use Rattle.inc_model.specs.declared.words.outcomes.FillError.TheVariants as refusal
use Rattle.inc_model.specs.declared.words.outcomes.Outcome.{Outcome}
use Rattle.inc_model.specs.declared.words.reply.Entry.{Entry}
use Rattle.inc_model.specs.declared.words.reply.Reply.{Reply}
use Rattle.inc_model.specs.declared.words.reply.Reply.TheVariants as reply
use Rattle.inc_turn.specs.Turns.{AddsOwn}
use Rattle.inc_turn.specs.Views.{heard}
use Rattle.inc_turn.specs.declared.view.View.{View}
use Rattle.inc_turn.proofs.TurnLemmas.{nothing_adds}
use Rattle.inc_cell.specs.declared.machine.CellFooting.{CellFooting}
use Rattle.inc_filling.specs.Grouped.{AreDistinct, group_indices, put_of, puts_among, puts_of, stores_of}
use Rattle.inc_filling.specs.Pieces.{StorePieces, digest_of_piece, piece_puts, put_of_piece}
use Rattle.inc_filling.specs.Contents.{index_of_piece}
use Rattle.inc_filling.specs.Rounds.{MayWait}
use Rattle.inc_filling.specs.Stands.{events_of}
use Rattle.inc_filling.specs.declared.filling.Filling.{Filling}
use Rattle.inc_filling.specs.declared.stop.FillStop.{FillStop}
use Rattle.inc_filling.specs.declared.stop.FillStop.TheVariants as stop
use Rattle.inc_filling.proofs.contents.InOrder.{distinct_differ}
use Rattle.inc_filling.proofs.steps.PieceSteps.{puts_same, stored_indices, stored_length}
use Rattle.inc_handle.specs.Fills.{FillsOwn, IsBrokenOwn, IsFilledOwn, claim_event, claim_places, fill_entries, store_events}
use Rattle.inc_handle.specs.Outcomes.{FillsTaken, error_by, outcome_at, told_by}
use Rattle.inc_handle.specs.UnderWay.{AllGoOn, EachEnds, IsFullFile, IsUnclaimed, release_entry}
use Rattle.inc_handle.specs.declared.fill.window.PutEnd.{PutEnd}
use Rattle.inc_handle.proofs.fills.Turns.{all_go}
use Rattle.inc_session.proofs.fills.EachLemmas.{each_append}
use Rattle.inc_session.specs.DeedFills.{AreFew, AreFillEntries, GroupIsIn, GroupStops, IsFillEntry, StopsGroup, tells_failed, tells_fault, reply_count}
use Rattle.inc_session.specs.Deeds.{IsFillEvent, was_busy, was_present, was_written}
use Rattle.inc_session.specs.Ends.{end_by_fill}
use Rattle.inc_session.specs.Outcomes.{is_busy_outcome, is_present_outcome, is_written_outcome, outcome_count}
use Rattle.inc_session.specs.declared.driving.counts.DriveCounts.{DriveCounts}
use Rattle.inc_session.proofs.fills.CheckLemmas.{same_error}
use Rattle.inc_session.proofs.fills.EntryLemmas.{AllFillEvents, all_go_fill, all_go_outcomes, among_few, claimed_is, claims_among, claims_both, failed_counted, fault_counted, fill_all, fill_last, goes_fill, no_stores, puts_both, puts_claim, release_goes, stops_fill, stores_claim, stores_length}
use Rattle.inc_session.proofs.fills.PutLemmas.{AsCounted, all_counted, all_end_among, all_puts, busy_counts, count_puts, no_put_stores, present_counts, put_entries, put_events, put_events_both, put_events_of, written_counts}

-- the counts have grown by these outcomes
pub record HasCounted (old : DriveCounts) (outcomes : List Outcome) (new : DriveCounts) : Type 0 where
  pub told : new.told ≡ old.told
  pub written : new.written ≡ old.written + outcome_count is_written_outcome outcomes
  pub present : new.present ≡ old.present + outcome_count is_present_outcome outcomes
  pub busy : new.busy ≡ old.busy + outcome_count is_busy_outcome outcomes

puts_told : (opened : Opened) (window : Window) (pieces : List Piece) → puts_among (map (put_of_piece opened window) pieces) ≡ piece_puts opened pieces
puts_told opened window [] = refl
puts_told opened window (p ∷ ps) = ap (λ (l : List (ℕ × List ℕ)). (index_of_piece opened p, digest_of_piece opened p) ∷ l) (puts_told opened window ps)

-- a front of the puts of pieces is that of the first pieces
first_puts : (opened : Opened) (pieces : List Piece) (some rest : List (ℕ × List ℕ)) → some ++ rest ≡ piece_puts opened pieces → some ≡ piece_puts opened (take (length some) pieces)
first_puts opened pieces [] rest e = refl
first_puts opened [] (x ∷ some) rest e = absurd (cc)
first_puts opened (p ∷ ps) (x ∷ some) rest e = both (heads e) (first_puts opened ps some rest (tails e))
  where
    heads : x ∷ (some ++ rest) ≡ (index_of_piece opened p, digest_of_piece opened p) ∷ piece_puts opened ps → x ≡ (index_of_piece opened p, digest_of_piece opened p)
    heads f = cc

    tails : x ∷ (some ++ rest) ≡ (index_of_piece opened p, digest_of_piece opened p) ∷ piece_puts opened ps → some ++ rest ≡ piece_puts opened ps
    tails f = cc

    both : x ≡ (index_of_piece opened p, digest_of_piece opened p) → some ≡ piece_puts opened (take (length some) ps) → x ∷ some ≡ (index_of_piece opened p, digest_of_piece opened p) ∷ piece_puts opened (take (length some) ps)
    both f g = ap (λ (y : ℕ × List ℕ). y ∷ some) f ∙ ap (λ (l : List (ℕ × List ℕ)). (index_of_piece opened p, digest_of_piece opened p) ∷ l) g

module _ (file : CellFooting) (v w : View CellFooting) (window : Window) (who_is : window.who ≡ v.number) (pieces : List Piece) (some : 0 < length pieces) (may : MayWait file.opened pieces)
    (group : List Filling) (ends : List PutEnd) (stored : List ℕ) (stores : StorePieces file.opened group pieces) where
  abbrev opened : Opened
  opened = file.opened

  abbrev claim : Event
  claim = claim_event window (length group)

  abbrev all_events : List Event
  all_events = store_events file window (claim ∷ []) group stored

  as_many : length group ≡ length pieces
  as_many = stored_length opened group pieces stores

  puts_all : puts_among all_events ≡ piece_puts opened pieces
  puts_all =
      puts_both ((claim ∷ []) ++ puts_of opened window group) (stores_of window stored)
      ∙ ap (λ (l : List (ℕ × List ℕ)). puts_among (puts_of opened window group) ++ l) (no_stores window stored)
      ∙ append-nil (puts_among (puts_of opened window group))
      ∙ ap puts_among (puts_same opened window group pieces stores may.taken)
      ∙ puts_told opened window pieces

  claims_all : claims_among all_events ≡ claim_places (length group)
  claims_all =
      let a = claims_both ((claim ∷ []) ++ puts_of opened window group) (stores_of window stored) in
      let b = puts_claim opened window group in
      let c = stores_claim window stored in
      omega arith

  length_all : length stored ≤ length group → length all_events ≤ 3 * length pieces + 3
  length_all few =
      let many = as_many in
      omega (arith, length-append ((claim ∷ []) ++ puts_of opened window group) (stores_of window stored), length-map group (put_of opened window), stores_length window stored)

  -- ---- all of them are in

  module _ (at : ℕ) (f : IsFilledOwn file v window group at ends stored w) where
    abbrev entries : List Entry
    entries = f.mine ++ release_entry window ∷ []

    going : AllGoOn entries
    going = all_go f.mine (release_entry window) f.going (release_goes window)

    events : events_of entries ≡ all_events ++ (release_entry window).event ∷ []
    events = map-append (λ (e : Entry). e.event) f.mine (release_entry window ∷ []) ∙ ap (λ (l : List Event). l ++ (release_entry window).event ∷ []) f.events_are

    puts_alone : events_of (put_entries entries) ≡ puts_of opened window group
    puts_alone =
        put_events_of entries
        ∙ ap put_events events
        ∙ put_events_both all_events ((release_entry window).event ∷ [])
        ∙ append-nil (put_events all_events)
        ∙ put_events_both ((claim ∷ []) ++ puts_of opened window group) (stores_of window stored)
        ∙ ap (λ (l : List Event). put_events (puts_of opened window group) ++ l) (no_put_stores window stored)
        ∙ append-nil (put_events (puts_of opened window group))
        ∙ all_puts opened window group

    counted : AsCounted (put_entries entries) (map (outcome_at at) ends)
    counted =
        all_counted opened window at (put_entries entries) group ends puts_alone (distinct_differ (group_indices group) (subst AreDistinct (sym (stored_indices opened group pieces stores)) may.distinct))
        (all_end_among v w entries f.adds opened window group ends (subst (λ (n : ℕ). EachEnds (heard w) (length (heard v)) n (puts_of opened window group) ends) who_is f.each))

    few : AreFew entries (length pieces)
    few =
        let short : length stored ≤ length group = omega (arith, among_few (group_indices group) ends, ap length f.stored_are, length-map group (λ (g : Filling). g.index)) in
        let many = as_many in
        let count = f.count_is in
        record {
          entries_few = by (length stored) (omega (arith, length-append f.mine (release_entry window ∷ []), count)) (omega arith);
          claims_few = omega (arith, claimed_is entries, ap claims_among events, claims_both all_events ((release_entry window).event ∷ []), claims_all);
        }
      where
        by : (s : ℕ) → length entries ≡ fill_entries s (length group - s) → s ≤ length pieces → length entries ≤ 7 * length pieces
        by zero e le = let many = as_many in let n = some in omega arith
        by (suc s) e le = let many = as_many in let n = some in omega arith

    pub group_in : (old new : DriveCounts) → HasCounted old (map (outcome_at at) ends) new → GroupIsIn file v pieces old new w
    group_in old new h = record {
      entries = entries;
      adds = f.adds;
      fill = all_go_fill entries going;
      few = few;
      puts = ap puts_among events ∙ puts_both all_events ((release_entry window).event ∷ []) ∙ append-nil (puts_among all_events) ∙ puts_all;
      outcomes = all_go_outcomes entries going;
      told = h.told;
      written = h.written ∙ ap (λ (n : ℕ). old.written + n) (sym (count_puts was_written written_counts entries going ∙ counted.0));
      present = h.present ∙ ap (λ (n : ℕ). old.present + n) (sym (count_puts was_present present_counts entries going ∙ counted.1));
      busy = h.busy ∙ ap (λ (n : ℕ). old.busy + n) (sym (count_puts was_busy busy_counts entries going ∙ counted.2));
      legal = f.legal;
    }

  -- ---- a front of them

  module _ (why : FillStop) (b : IsBrokenOwn file v window group ends stored why w) where
    abbrev done : List Entry
    done = b.mine ++ b.last ∷ []

    abbrev broken : List Entry
    broken = done ++ release_entry window ∷ []

    broken_events : events_of broken ≡ events_of done ++ (release_entry window).event ∷ []
    broken_events = map-append (λ (e : Entry). e.event) done (release_entry window ∷ [])

    last_event : IsFillEvent b.last.event
    last_event = fill_last b.mine b.last b.rest (subst AllFillEvents (sym b.events_are) (fill_all opened window (claim_places (length group)) group stored))

    broken_fill : AreFillEntries broken
    broken_fill =
        each_append IsFillEntry done (release_entry window ∷ [])
        (each_append IsFillEntry b.mine (b.last ∷ []) (all_go_fill b.mine b.going) (stops_fill b.last why last_event b.stopped, tt))
        (goes_fill (release_entry window) (release_goes window), tt)

    broken_few : AreFew broken (length pieces)
    broken_few =
        let short : length stored ≤ length group =
        omega (arith, among_few (take (length ends) (group_indices group)) ends, ap length b.stored_are, length-take (length ends) (group_indices group), length-map group (λ (g : Filling). g.index)) in
        let many = as_many in
        let all = length_all short in
        record {
          entries_few = omega (arith, length-append done (release_entry window ∷ []), ap length b.events_are, length-append (events_of done) b.rest, length-map done (λ (e : Entry). e.event), some);
          claims_few = omega (arith, claimed_is broken, ap claims_among broken_events, claims_both (events_of done) ((release_entry window).event ∷ []), ap claims_among b.events_are, claims_both (events_of done) b.rest, claims_all, some);
        }

    broken_puts : puts_among (events_of broken) ≡ piece_puts opened (take (length (puts_among (events_of done))) pieces)
    broken_puts =
        ap puts_among broken_events
        ∙ puts_both (events_of done) ((release_entry window).event ∷ [])
        ∙ append-nil (puts_among (events_of done))
        ∙ first_puts opened pieces (puts_among (events_of done)) (puts_among b.rest) (sym (puts_both (events_of done) b.rest) ∙ ap puts_among b.events_are ∙ puts_all)

    stops : (kind : Reply → Bool) → 0 < reply_count kind broken → GroupStops file v pieces kind w
    stops kind counted = record {
      entries = broken;
      adds = b.adds;
      fill = broken_fill;
      few = broken_few;
      front = length (puts_among (events_of done));
      puts = broken_puts;
      some = counted;
      legal = b.legal;
    }

  pub stops_fault : IsBrokenOwn file v window group ends stored stop.DiskFault w → GroupStops file v pieces tells_fault w
  stops_fault b = stops stop.DiskFault b tells_fault (fault_counted b.mine b.last (release_entry window ∷ []) b.stopped)

  pub stops_failed : (at : ℕ) → IsBrokenOwn file v window group ends stored (stop.Failed at) w → GroupStops file v pieces tells_failed w
  stops_failed at b = stops (stop.Failed at) b tells_failed (failed_counted b.mine b.last (release_entry window ∷ []) at b.stopped)

  pub stops_unclaimed : (at : ℕ) → IsUnclaimed file v window claim at w → GroupStops file v pieces tells_failed w
  stops_unclaimed at u =
      let many = as_many in
      record {
        entries = record { who = window.who; event = claim; reply = reply.Failed at } ∷ [];
        adds = u.adds;
        fill = (record { event_is = tt; no_reads = refl; no_readers = λ b. refl }, tt);
        few = record { entries_few = omega (arith, some); claims_few = omega (arith, some) };
        front = 0;
        puts = refl;
        some = omega arith;
        legal = u.legal;
      }

  pub stops_group : (why : FillStop) → FillsOwn file v window group (Err why) ends stored w → StopsGroup file v pieces (end_by_fill (error_by why ends)) w
  stops_group stop.DiskFault b = stops_fault b
  stops_group (stop.Failed at) (inl u) = stops_unclaimed at u
  stops_group (stop.Failed at) (inr b) = stops_failed at b
  stops_group (stop.HistoryFull entries claimed) full = (window, entries, claimed, subst (λ (n : ℕ). IsFullFile file v (Claim window (claim_places n)) entries claimed w) as_many full)
  stops_group stop.OutOfMemory h = h

  -- ---- what is answered

  pub group_ends : (end_ : Result ℕ FillStop) → FillsOwn file v window group end_ ends stored w → (error : FillError) → Err error ≡ told_by end_ ends → StopsGroup file v pieces (end_by_fill error) w
  group_ends (Ok at) h error e = absurd (cc)
  group_ends (Err why) h error e = subst (λ (x : FillError). StopsGroup file v pieces (end_by_fill x) w) (sym (same e)) (stops_group why h)
    where
      same : Err error ≡ told_by (Err why) ends → error ≡ error_by why ends
      same f = cc

  pub group_done : (end_ : Result ℕ FillStop) → FillsOwn file v window group end_ ends stored w → (outcomes : List Outcome) → Ok outcomes ≡ told_by end_ ends → (old new : DriveCounts) → HasCounted old outcomes new → GroupIsIn file v pieces old new w
  group_done (Ok at) h outcomes e old new counted = group_in at h old new (subst (λ (l : List Outcome). HasCounted old l new) (same e) counted)
    where
      same : Ok outcomes ≡ told_by (Ok at) ends → outcomes ≡ map (outcome_at at) ends
      same f = cc
  group_done (Err why) h outcomes e old new counted = absurd (cc)

-- ---- by what the fill answers

pub fill_stops : (file : CellFooting) (v w : View CellFooting) (window : Window) (pieces : List Piece) (error : FillError) → window.who ≡ v.number → 0 < length pieces → MayWait file.opened pieces → FillsTaken file v window pieces (Err error) w
    → StopsGroup file v pieces (end_by_fill error) w
fill_stops file v w window pieces error who some may (inl none) =
    subst (λ (x : FillError). StopsGroup file v pieces (end_by_fill x) w) (sym (same_error {T = List Outcome} error refusal.OutOfMemory none.told)) (subst (λ (y : View CellFooting). AddsOwn v y []) (sym none.same) (nothing_adds v))
fill_stops file v w window pieces error who some may (inr h) = group_ends file v w window who pieces some may h.group h.ends h.stored h.stores h.end h.fills error h.told

pub fill_done : (file : CellFooting) (v w : View CellFooting) (window : Window) (pieces : List Piece) (outcomes : List Outcome) → window.who ≡ v.number → 0 < length pieces → MayWait file.opened pieces → FillsTaken file v window pieces (Ok outcomes) w
    → (old new : DriveCounts) → HasCounted old outcomes new → GroupIsIn file v pieces old new w
fill_done file v w window pieces outcomes who some may (inl none) old new counted = absurd (let e = none.told in cc)
fill_done file v w window pieces outcomes who some may (inr h) old new counted = group_done file v w window who pieces some may h.group h.ends h.stored h.stores h.end h.fills outcomes h.told old new counted
