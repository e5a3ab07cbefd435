-- One group of given pieces more, or the end.
use Rattle.std.proofs.Common.{◌≡◌, ℕ, zero, suc, ◌+◌, ◌<◌, ◌≤◌, Bool, true, false, cond, List, [], ◌∷◌, ◌++◌, length, take, drop, get_or, set, Option, Some, None, refl, sym, ap, subst, ◌∙◌, arith, length-append, append_assoc}
use Rattle.std.specs.Prelude.{map, Result, Ok, Err, nat_lt, bytes_eq}
use Rattle.std.proofs.lemmas.Bool.{le-ltb}
use Rattle.std.proofs.lemmas.List.{length-map, length-take, get_or-map, get_or-set_same}
use Rattle.inc_tree.specs.shape.Geometry.{block_len, data_blocks, tree_of}
use Rattle.inc_tree.specs.read_block.Path.{block_digest}
use Rattle.inc_frame.specs.declared.piece.Piece.{Piece}
use Rattle.inc_layout.specs.declared.opened.Opened.{Opened}
use Rattle.inc_loader.specs.Marks.{length_in, mark_length, mark_of}
use Rattle.inc_loader.specs.declared.loader_file.LoaderFile.{LoaderFile}
use Rattle.inc_loader.specs.declared.mark.PieceMark.{PieceMark}
use Rattle.inc_model.specs.declared.words.event.Event.TheVariants.{Claim}
use Rattle.inc_model.specs.declared.words.event.Window.{Window}
use Rattle.inc_model.specs.declared.words.outcomes.FillError.{FillError}
use Rattle.inc_model.specs.declared.words.reply.Entry.{Entry}
use Rattle.inc_model.specs.declared.words.reply.Reply.{Reply}
use Rattle.inc_model.specs.relation.Step.{HasRoom, state_after}
use Rattle.inc_turn.specs.Views.{heard}
use Rattle.inc_turn.specs.Locks.{IsSameSeat, seat_view}
use Rattle.inc_turn.specs.Turns.{AddsOwn}
use Rattle.inc_turn.specs.declared.seat.Seat.{Seat}
use Rattle.inc_cell.specs.declared.machine.CellFooting.{CellFooting}
use Rattle.inc_cell.specs.events.CellEvents.{footing_of}
use Rattle.inc_cell.specs.events.Pieces.{piece_index}
use Rattle.inc_filling.specs.Contents.{index_of_piece}
use Rattle.inc_filling.specs.Grouped.{puts_among}
use Rattle.inc_filling.specs.Pieces.{AreTaken, digest_of_piece, piece_puts}
use Rattle.inc_filling.specs.Refusals.{refusal_of}
use Rattle.inc_filling.specs.Rounds.{MayWait}
use Rattle.inc_filling.specs.Stands.{events_of}
use Rattle.inc_handle.specs.Checks.{piece_refusal}
use Rattle.inc_handle.specs.Fills.{claim_places}
use Rattle.inc_script.specs.declared.report_text.ends.DriveEnd.{DriveEnd}
use Rattle.inc_script.specs.declared.report_text.ends.DriveEnd.TheVariants as end
use Rattle.inc_session.proofs.fills.EachLemmas.{each_append}
use Rattle.inc_session.specs.DeedFills.{AreFew, AreFillEntries, GroupIsIn, IsFillEntry, StopsGroup, tells_failed, tells_fault, reply_count}
use Rattle.inc_session.specs.Deeds.{EachOf, Deed, HasOutcome, PutTarget, PutsAre, count_replies, deeds_of, was_busy, was_present, was_written, place_from, put_target_from, put_target_of}
use Rattle.inc_session.specs.DriveSeats.{HomeFile, SeatsAdd, file_of_home, files_of}
use Rattle.inc_session.specs.GivenFills.{AreFewDeeds, FillsGiven, GivenIsIn, GivenStops, IsFullHome, MarkIs, MarksAreIn, StopsAt, StopsFirst}
use Rattle.inc_session.specs.declared.driving.counts.DriveCounts.{DriveCounts}
use Rattle.inc_session.proofs.fills.CheckLemmas.{equal_lists, is_taken}
use Rattle.inc_session.proofs.fills.DeedLemmas.{all_deeds, claimed_both, claimed_of_deeds, count_of_deeds, counts_both, length_of_deeds, puts_are_both, puts_of_deeds, target_at}
use Rattle.inc_session.proofs.fills.SeatSteps.{seats_both, seats_none, seats_one}

-- ---- the file of a mark

pub record IsFoundAt (from : ℕ) (files : List LoaderFile) (id : List ℕ) (k : ℕ) : Type 0 where
  pub past : ℕ
  pub k_is : k ≡ from + past
  pub target_is : (mark : PieceMark) (d : LoaderFile) → mark.id ≡ id → put_target_from from files mark ≡ Some (record { file = k; index = piece_index (tree_of (get_or files past d).size) mark.hash mark.number; digest = mark.digest })
  pub length_is : (number : ℕ) (d : LoaderFile) → length_in files id number ≡ block_len (tree_of (get_or files past d).size) number

pub found_at : (from : ℕ) (files : List LoaderFile) (id : List ℕ) (k : ℕ) → place_from from files id ≡ Some k → IsFoundAt from files id k
found_at from [] id k e = absurd (cc)
found_at from (f ∷ fs) id k e = step (λ later. found_at (from + 1) fs id k later) (bytes_eq f.id id) refl e
  where
    step : (place_from (from + 1) fs id ≡ Some k → IsFoundAt (from + 1) fs id k) → (b : Bool) → bytes_eq f.id id ≡ b → cond b (Some from) (place_from (from + 1) fs id) ≡ Some k → IsFoundAt from (f ∷ fs) id k
    step rest true t e =
        let same : from ≡ k = cc in
        record {
          past = 0;
          k_is = omega arith;
          target_is = λ mark d own.
              let test : bytes_eq f.id mark.id ≡ true = ap (λ (i : List ℕ). bytes_eq f.id i) own ∙ t in
              rw test (ap (λ (n : ℕ). Some (let target : PutTarget = record { file = n; index = piece_index (tree_of f.size) mark.hash mark.number; digest = mark.digest } in target)) same);
          length_is = λ number d. rw t refl;
        }
    step rest false t e =
        let h = rest e in
        record {
          past = suc h.past;
          k_is = omega (arith, h.k_is);
          target_is = λ mark d own.
              let test : bytes_eq f.id mark.id ≡ false = ap (λ (i : List ℕ). bytes_eq f.id i) own ∙ t in
              rw test (h.target_is mark d own);
          length_is = λ number d. rw t (h.length_is number d);
        }

pub not_found : (from : ℕ) (files : List LoaderFile) (mark : PieceMark) → place_from from files mark.id ≡ None → put_target_from from files mark ≡ None
not_found from [] mark e = refl
not_found from (f ∷ fs) mark e = step (λ later. not_found (from + 1) fs mark later) (bytes_eq f.id mark.id) e
  where
    step : (place_from (from + 1) fs mark.id ≡ None → put_target_from (from + 1) fs mark ≡ None) → (b : Bool) → cond b (Some from) (place_from (from + 1) fs mark.id) ≡ None
        → cond b (Some (let target : PutTarget = record { file = from; index = piece_index (tree_of f.size) mark.hash mark.number; digest = mark.digest } in target)) (put_target_from (from + 1) fs mark) ≡ None
    step rest true e = absurd (cc)
    step rest false e = rest e

-- ---- lists

taken_again : {A : Type 0} (a b : ℕ) (xs : List A) → take (length (take a (take b xs))) xs ≡ take a (take b xs)
taken_again zero b xs = refl
taken_again (suc a) zero xs = refl
taken_again (suc a) (suc b) [] = refl
taken_again {A} (suc a) (suc b) (x ∷ xs) = ap (λ (l : List A). x ∷ l) (taken_again a b xs)

map_take : {A B : Type 0} (f : A → B) (n : ℕ) (xs : List A) → map f (take n xs) ≡ take n (map f xs)
map_take f zero xs = refl
map_take f (suc n) [] = refl
map_take {A} {B} f (suc n) (x ∷ xs) = ap (λ (l : List B). f x ∷ l) (map_take f n xs)

pub rejoined : {A : Type 0} (n : ℕ) (xs : List A) → xs ≡ take n xs ++ drop n xs
rejoined zero xs = refl
rejoined (suc n) [] = refl
rejoined {A} (suc n) (x ∷ xs) = ap (λ (l : List A). x ∷ l) (rejoined n xs)

-- ---- a piece that its file takes

pub no_marks : (homes : List HomeFile) (files : List LoaderFile) (counts : DriveCounts) → MarksAreIn homes files [] [] counts counts
no_marks homes files counts = record { taken = tt; puts = refl; outcomes = tt; written = omega arith; present = omega arith; busy = omega arith }

pub marks_both : (homes : List HomeFile) (files : List LoaderFile) (first second : List PieceMark) (a b : List Deed) (old mid new : DriveCounts) → MarksAreIn homes files first a old mid → MarksAreIn homes files second b mid new
    → MarksAreIn homes files (first ++ second) (a ++ b) old new
marks_both homes files first second a b old mid new h k = record {
  taken = each_append (λ (mark : PieceMark). MarkIs homes files mark None) first second h.taken k.taken;
  puts = puts_are_both files first second a b h.puts k.puts;
  outcomes = each_append (λ (deed : Deed). HasOutcome deed.entry.event deed.entry.reply) a b h.outcomes k.outcomes;
  written = omega (arith, h.written, k.written, counts_both was_written a b);
  present = omega (arith, h.present, k.present, counts_both was_present a b);
  busy = omega (arith, h.busy, k.busy, counts_both was_busy a b);
}

few_both : (a b : List Deed) (m n : ℕ) → AreFewDeeds a m → AreFewDeeds b n → AreFewDeeds (a ++ b) (m + n)
few_both a b m n h k = record { deeds_few = omega (arith, h.deeds_few, k.deeds_few, length-append a b); claims_few = omega (arith, h.claims_few, k.claims_few, claimed_both a b) }

few_more : (a : List Deed) (m n : ℕ) → AreFewDeeds a m → m ≤ n → AreFewDeeds a n
few_more a m n h le = record { deeds_few = omega (arith, h.deeds_few); claims_few = omega (arith, h.claims_few) }

module _ (homes : List HomeFile) (place : ℕ) (home : HomeFile) (here : place < length homes) (home_is : (h : HomeFile) → get_or homes place h ≡ home) (id_place : place_from 0 (files_of homes) home.begun.opened.header.id ≡ Some place) where
  abbrev files : List LoaderFile
  files = files_of homes

  abbrev opened : Opened
  opened = home.begun.opened

  abbrev file : CellFooting
  file = footing_of home.begun

  found : IsFoundAt 0 files opened.header.id place
  found = found_at 0 files opened.header.id place id_place

  past_is : found.past ≡ place
  past_is = let e = found.k_is in omega arith

  size_is : (d : LoaderFile) → (get_or files found.past d).size ≡ opened.areas.geometry.size
  size_is d =
      ap (λ (n : ℕ). (get_or files n d).size) past_is
      ∙ ap (λ (f : LoaderFile). f.size) (get_or-map file_of_home homes place home d here)
      ∙ ap (λ (h : HomeFile). h.begun.opened.areas.geometry.size) (home_is home)

  some_file : LoaderFile
  some_file = file_of_home home

  -- the length of the piece's block is that of the file
  mark_len : (piece : Piece) → piece.id ≡ opened.header.id → mark_length files piece ≡ block_len opened.areas.geometry (index_of_piece opened piece)
  mark_len piece own = by piece.hash
    where
      after : (n : ℕ) → nat_lt (data_blocks opened.areas.geometry + n) (data_blocks opened.areas.geometry) ≡ false
      after n = le-ltb (data_blocks opened.areas.geometry + n) (data_blocks opened.areas.geometry) (omega arith)

      by : (hash : Bool) → cond hash 4096 (length_in files piece.id piece.number) ≡ block_len opened.areas.geometry (piece_index opened.areas.geometry hash piece.number)
      by true = sym (rw (after piece.number) refl)
      by false =
          ap (λ (id : List ℕ). length_in files id piece.number) own
          ∙ found.length_is piece.number some_file
          ∙ ap (λ (size : ℕ). block_len (tree_of size) piece.number) (size_is some_file)

  -- the block that its mark names is the one that a fill puts
  target_here : (piece : Piece) → piece.id ≡ opened.header.id → put_target_of files (mark_of files piece) ≡ Some (target_at place (index_of_piece opened piece, digest_of_piece opened piece))
  target_here piece own =
      found.target_is (mark_of files piece) some_file own
      ∙ ap (λ (size : ℕ). Some (let target : PutTarget = record { file = place; index = piece_index (tree_of size) piece.hash piece.number; digest = block_digest (take (mark_length files piece) piece.bytes) } in target)) (size_is some_file)
      ∙ ap (λ (len : ℕ). Some (let target : PutTarget = record { file = place; index = index_of_piece opened piece; digest = block_digest (take len piece.bytes) } in target)) (mark_len piece own)

  own_id : (piece : Piece) → refusal_of opened piece ≡ None → piece.id ≡ opened.header.id
  own_id piece e = equal_lists piece.id opened.header.id (is_taken opened piece e).0

  pub mark_is : (piece : Piece) (refusal : Option FillError) → piece.id ≡ opened.header.id → piece_refusal opened piece ≡ refusal → MarkIs homes files (mark_of files piece) refusal
  mark_is piece refusal own e = record {
    target = target_at place (index_of_piece opened piece, digest_of_piece opened piece);
    target_is = target_here piece own;
    refusal_is = λ d. ap (λ (h : HomeFile). piece_refusal h.begun.opened piece) (home_is d) ∙ e;
  }

  all_taken : (pieces : List Piece) → AreTaken opened pieces → EachOf (λ (mark : PieceMark). MarkIs homes files mark None) (map (mark_of files) pieces)
  all_taken [] taken = tt
  all_taken (p ∷ ps) taken =
      (mark_is p None (own_id p (taken 0 p (omega arith))) (is_taken opened p (taken 0 p (omega arith))).1, all_taken ps (λ k d lt. taken (suc k) d (omega arith)))

  all_targets : (pieces : List Piece) → AreTaken opened pieces → map Some (map (target_at place) (piece_puts opened pieces)) ≡ map (put_target_of files) (map (mark_of files) pieces)
  all_targets [] taken = refl
  all_targets (p ∷ ps) taken =
      ap (λ (l : List (Option PutTarget)). Some (target_at place (index_of_piece opened p, digest_of_piece opened p)) ∷ l) (all_targets ps (λ k d lt. taken (suc k) d (omega arith)))
      ∙ ap (λ (t : Option PutTarget). t ∷ map (put_target_of files) (map (mark_of files) ps)) (sym (target_here p (own_id p (taken 0 p (omega arith)))))

  puts_are : (pieces : List Piece) (entries : List Entry) → AreTaken opened pieces → puts_among (events_of entries) ≡ piece_puts opened pieces → PutsAre files (map (mark_of files) pieces) (deeds_of place entries)
  puts_are pieces entries taken e =
      ap (map Some) (puts_of_deeds place entries) ∙ ap (λ (l : List (ℕ × List ℕ)). map Some (map (target_at place) l)) e ∙ all_targets pieces taken

  few_here : (entries : List Entry) (count : ℕ) → AreFew entries count → AreFewDeeds (deeds_of place entries) count
  few_here entries count h = record { deeds_few = omega (arith, length_of_deeds place entries, h.entries_few); claims_few = omega (arith, claimed_of_deeds place entries, h.claims_few) }

  module _ (seats : List (Seat CellFooting)) (seat now : Seat CellFooting) (within : place < length seats) (seat_is : seat ≡ get_or seats place seat) (same : IsSameSeat seat now) where
    abbrev after : List (Seat CellFooting)
    after = set seats place now

    -- ---- a group is in

    pub group_given : (pieces : List Piece) (old new : DriveCounts) → MayWait opened pieces → GroupIsIn file (seat_view seat) pieces old new (seat_view now) → GivenIsIn homes files seats (map (mark_of files) pieces) old new after
    group_given pieces old new may g = record {
      deeds = deeds_of place g.entries;
      seats = seats_one seats place now seat g.entries within seat_is same g.adds;
      fill = all_deeds IsFillEntry place g.entries g.fill;
      few = subst (λ (n : ℕ). AreFewDeeds (deeds_of place g.entries) n) (sym (length-map pieces (mark_of files))) (few_here g.entries (length pieces) g.few);
      are_in = record {
        taken = all_taken pieces may.taken;
        puts = puts_are pieces g.entries may.taken g.puts;
        outcomes = all_deeds (λ (entry : Entry). HasOutcome entry.event entry.reply) place g.entries g.outcomes;
        written = g.written ∙ ap (λ (n : ℕ). old.written + n) (sym (count_of_deeds was_written place g.entries));
        present = g.present ∙ ap (λ (n : ℕ). old.present + n) (sym (count_of_deeds was_present place g.entries));
        busy = g.busy ∙ ap (λ (n : ℕ). old.busy + n) (sym (count_of_deeds was_busy place g.entries));
      };
      told = g.told;
    }

    -- ---- a group at which it ends

    taken_front : (pieces : List Piece) (n : ℕ) → AreTaken opened pieces → AreTaken opened (take n pieces)
    taken_front pieces zero taken k d lt = absurd (omega arith)
    taken_front [] (suc n) taken k d lt = absurd (omega arith)
    taken_front (p ∷ ps) (suc n) taken zero d lt = taken 0 d (omega arith)
    taken_front (p ∷ ps) (suc n) taken (suc k) d lt = taken_front ps n (λ j e below. taken (suc j) e (omega arith)) k d (omega arith)

    stops_with : (pieces : List Piece) (len : ℕ) (counts : DriveCounts) (stop : DriveEnd) → len ≤ length pieces → MayWait opened (take len pieces) → (entries : List Entry) → AddsOwn (seat_view seat) (seat_view now) entries → AreFillEntries entries
        → AreFew entries (length (take len pieces)) → (front : ℕ) → puts_among (events_of entries) ≡ piece_puts opened (take front (take len pieces)) → StopsAt homes files (map (mark_of files) pieces) (deeds_of place entries) after stop
        → GivenStops homes files seats (map (mark_of files) pieces) counts counts stop after
    stops_with pieces len counts stop le may entries adds fill few front puts cause = record {
      counted = [];
      rest = deeds_of place entries;
      seats = seats_one seats place now seat entries within seat_is same adds;
      fill = all_deeds IsFillEntry place entries fill;
      few = few_more (deeds_of place entries) (length (take len pieces)) (length (map (mark_of files) pieces)) (few_here entries (length (take len pieces)) few)
          (omega (arith, length-map pieces (mark_of files), length-take len pieces));
      front = [];
      later = map (mark_of files) pieces;
      marks_are = refl;
      are_in = no_marks homes files counts;
      begun = length (take front (take len pieces));
      puts = subst (λ (marks : List PieceMark). PutsAre files marks (deeds_of place entries))
          (ap (map (mark_of files)) (sym (taken_again front len pieces)) ∙ map_take (mark_of files) (length (take front (take len pieces))) pieces)
          (puts_are (take front (take len pieces)) entries (taken_front (take len pieces) front may.taken) puts);
      cause = cause;
      told = refl;
    }

    some_count : (kind : Reply → Bool) (entries : List Entry) → 0 < reply_count kind entries → 0 < count_replies kind (deeds_of place entries)
    some_count kind entries h = subst (λ (n : ℕ). 0 < n) (sym (count_of_deeds kind place entries)) h

    -- its history is full
    full_home : (window : Window) (count : ℕ)
        → (HasRoom (length (heard (seat_view now))) (state_after 0 file.opening (heard (seat_view now))) (Claim window (claim_places count)) → ⊥) → IsFullHome homes after
    full_home window count none = record {
      file = place;
      here = here;
      event = Claim window (claim_places count);
      no_room = λ home_d seat_d.
          subst (λ (x : HomeFile). HasRoom (length (heard (seat_view (get_or after place seat_d)))) (state_after 0 (footing_of x.begun).opening (heard (seat_view (get_or after place seat_d)))) (Claim window (claim_places count)) → ⊥) (sym (home_is home_d))
          (subst (λ (x : Seat CellFooting). HasRoom (length (heard (seat_view x))) (state_after 0 file.opening (heard (seat_view x))) (Claim window (claim_places count)) → ⊥) (sym (get_or-set_same seats place now seat_d within)) none);
    }

    pub stops_first : (pieces : List Piece) (counts : DriveCounts) (stop : DriveEnd) → StopsFirst file (seat_view seat) pieces stop (seat_view now) → GivenStops homes files seats (map (mark_of files) pieces) counts counts stop after
    stops_first pieces counts stop h = by stop h.stops
      where
        by : (how : DriveEnd) → StopsGroup file (seat_view seat) (take h.len pieces) how (seat_view now) → GivenStops homes files seats (map (mark_of files) pieces) counts counts how after
        by end.Fault g = stops_with pieces h.len counts end.Fault h.within h.may g.entries g.adds g.fill g.few g.front g.puts (some_count tells_fault g.entries g.some)
        by end.Failed g = stops_with pieces h.len counts end.Failed h.within h.may g.entries g.adds g.fill g.few g.front g.puts (some_count tells_failed g.entries g.some)
        by end.HistoryFull g = stops_with pieces h.len counts end.HistoryFull h.within h.may [] g.3.adds tt (record { entries_few = omega arith; claims_few = omega arith }) 0 refl (full_home g.0 (length (take h.len pieces)) g.3.no_room, refl)
        by end.OutOfMemory g = stops_with pieces h.len counts end.OutOfMemory h.within h.may [] g tt (record { entries_few = omega arith; claims_few = omega arith }) 0 refl refl
        by end.Done g = absurd g
        by end.Stopped g = absurd g
        by end.UnknownFile g = absurd g
        by (end.Refused error) g = absurd g
        by (end.Frame fault) g = absurd g

-- ---- nothing was done

pub stops_at_once : (homes : List HomeFile) (files : List LoaderFile) (seats : List (Seat CellFooting)) (marks : List PieceMark) (counts : DriveCounts) (stop : DriveEnd) → StopsAt homes files marks [] seats stop
    → GivenStops homes files seats marks counts counts stop seats
stops_at_once homes files seats marks counts stop cause = record {
  counted = [];
  rest = [];
  seats = seats_none seats;
  fill = tt;
  few = record { deeds_few = omega arith; claims_few = omega arith };
  front = [];
  later = marks;
  marks_are = refl;
  are_in = no_marks homes files counts;
  begun = 0;
  puts = refl;
  cause = cause;
  told = refl;
}

pub nothing_given : (homes : List HomeFile) (files : List LoaderFile) (seats : List (Seat CellFooting)) (counts : DriveCounts) → GivenIsIn homes files seats [] counts counts seats
nothing_given homes files seats counts = record {
  deeds = [];
  seats = seats_none seats;
  fill = tt;
  few = record { deeds_few = omega arith; claims_few = omega arith };
  are_in = no_marks homes files counts;
  told = refl;
}

-- ---- a group, and then the others

pub given_both : {T : Type 0} (homes : List HomeFile) (files : List LoaderFile) (a b c : List (Seat CellFooting)) (first second : List PieceMark) (old mid new : DriveCounts) (result : Result T DriveEnd) → GivenIsIn homes files a first old mid b
    → FillsGiven homes files b second mid result new c → FillsGiven homes files a (first ++ second) old result new c
given_both homes files a b c first second old mid new (Ok done) g h = record {
  deeds = g.deeds ++ h.deeds;
  seats = seats_both a b c g.deeds h.deeds g.seats h.seats;
  fill = each_append (λ (deed : Deed). IsFillEntry deed.entry) g.deeds h.deeds g.fill h.fill;
  few = subst (λ (n : ℕ). AreFewDeeds (g.deeds ++ h.deeds) n) (sym (length-append first second)) (few_both g.deeds h.deeds (length first) (length second) g.few h.few);
  are_in = marks_both homes files first second g.deeds h.deeds old mid new g.are_in h.are_in;
  told = h.told ∙ g.told;
}
given_both homes files a b c first second old mid new (Err stop) g h = record {
  counted = g.deeds ++ h.counted;
  rest = h.rest;
  seats = subst (λ (l : List Deed). SeatsAdd a c l) (sym (append_assoc g.deeds h.counted h.rest)) (seats_both a b c g.deeds (h.counted ++ h.rest) g.seats h.seats);
  fill = subst (λ (l : List Deed). EachOf (λ (deed : Deed). IsFillEntry deed.entry) l) (sym (append_assoc g.deeds h.counted h.rest)) (each_append (λ (deed : Deed). IsFillEntry deed.entry) g.deeds (h.counted ++ h.rest) g.fill h.fill);
  few = subst (λ (l : List Deed). AreFewDeeds l (length (first ++ second))) (sym (append_assoc g.deeds h.counted h.rest))
      (subst (λ (n : ℕ). AreFewDeeds (g.deeds ++ (h.counted ++ h.rest)) n) (sym (length-append first second)) (few_both g.deeds (h.counted ++ h.rest) (length first) (length second) g.few h.few));
  front = first ++ h.front;
  later = h.later;
  marks_are = ap (λ (l : List PieceMark). first ++ l) h.marks_are ∙ sym (append_assoc first h.front h.later);
  are_in = marks_both homes files first h.front g.deeds h.counted old mid new g.are_in h.are_in;
  begun = h.begun;
  puts = h.puts;
  cause = h.cause;
  told = h.told ∙ g.told;
}
