-- The first group of given pieces, and then the others.
use Rattle.std.proofs.Common.{◌≡◌, ◌⊎◌, inl, inr, ℕ, suc, ◌+◌, ◌<◌, Bool, true, false, cond, List, [], ◌∷◌, ◌++◌, length, take, drop, get_or, set, Some, None, refl, sym, ap, subst, ◌∙◌, arith}
use Rattle.std.specs.Prelude.{map, Result, bytes_eq}
use Rattle.std.proofs.lemmas.List.{get_or-map, map-append}
use Rattle.inc_frame.specs.declared.piece.Piece.{Piece}
use Rattle.inc_loader.specs.Marks.{mark_of}
use Rattle.inc_loader.specs.declared.loader_file.LoaderFile.{LoaderFile}
use Rattle.inc_loader.specs.declared.mark.PieceMark.{PieceMark}
use Rattle.inc_turn.specs.Locks.{IsSameSeat, seat_view}
use Rattle.inc_turn.specs.declared.seat.Seat.{Seat}
use Rattle.inc_turn.specs.declared.view.View.{View}
use Rattle.inc_cell.specs.declared.machine.CellFooting.{CellFooting}
use Rattle.inc_cell.specs.events.CellEvents.{footing_of}
use Rattle.inc_handle.specs.Checks.{piece_refusal}
use Rattle.inc_script.specs.declared.report_text.ends.DriveEnd.{DriveEnd}
use Rattle.inc_script.specs.declared.report_text.ends.DriveEnd.TheVariants as end
use Rattle.inc_session.specs.Deeds.{place_from}
use Rattle.inc_session.specs.DriveSeats.{HomeFile, file_of_home, files_of}
use Rattle.inc_session.specs.GivenFills.{FillsGiven, FirstIsIn, GivenStops, RefusesFirst, StopsFirst}
use Rattle.inc_session.specs.declared.driving.counts.DriveCounts.{DriveCounts}
use Rattle.inc_session.proofs.fills.GivenLemmas.{given_both, group_given, mark_is, no_marks, not_found, rejoined, stops_at_once, stops_first}
use Rattle.inc_session.proofs.fills.SeatSteps.{seats_one}
use Rattle.inc_session.proofs.fills.CheckLemmas.{equal_lists}
use Rattle.inc_turn.specs.Turns.{AddsOwn}
use Rattle.inc_turn.proofs.TurnLemmas.{nothing_adds}

-- the file that was found has the id
pub found_id : (from : ℕ) (files : List LoaderFile) (id : List ℕ) (k : ℕ) → place_from from files id ≡ Some k → (past : ℕ) × (k ≡ from + past) × ((d : LoaderFile) → (get_or files past d).id ≡ id)
found_id from [] id k e = absurd (cc)
found_id from (f ∷ fs) id k e = step (λ later. found_id (from + 1) fs id k later) (bytes_eq f.id id) refl e
  where
    step : (place_from (from + 1) fs id ≡ Some k → (past : ℕ) × (k ≡ (from + 1) + past) × ((d : LoaderFile) → (get_or fs past d).id ≡ id)) → (b : Bool) → bytes_eq f.id id ≡ b → cond b (Some from) (place_from (from + 1) fs id) ≡ Some k → (past : ℕ) × (k ≡ from + past) × ((d : LoaderFile) → (get_or (f ∷ fs) past d).id ≡ id)
    step rest true t e = (0, let same : from ≡ k = cc in omega arith, λ d. equal_lists f.id id t)
    step rest false t e = let h = rest e in (suc h.0, omega (arith, h.1), h.2)

first_marks : (files : List LoaderFile) (pieces : List Piece) (first : Piece) → 0 < length pieces → first ≡ get_or pieces 0 first → (later : List PieceMark) × (map (mark_of files) pieces ≡ mark_of files first ∷ later)
first_marks files [] first some e = absurd (omega arith)
first_marks files (p ∷ ps) first some e = (map (mark_of files) ps, ap (λ (x : Piece). mark_of files x ∷ map (mark_of files) ps) (sym e))

-- the first piece names no file
pub names_none : (homes : List HomeFile) (files : List LoaderFile) (seats : List (Seat CellFooting)) (pieces : List Piece) (first : Piece) (counts : DriveCounts) → 0 < length pieces → first ≡ get_or pieces 0 first → place_from 0 files first.id ≡ None
    → GivenStops homes files seats (map (mark_of files) pieces) counts counts end.UnknownFile seats
names_none homes files seats pieces first counts some is none =
    let m = first_marks files pieces first some is in
    stops_at_once homes files seats (map (mark_of files) pieces) counts end.UnknownFile (record { mark = mark_of files first; later = m.0; marks_are = m.1; is = not_found 0 files (mark_of files first) none }, refl)

module _ (homes : List HomeFile) (place : ℕ) (home : HomeFile) (here : place < length homes) (home_is : (h : HomeFile) → get_or homes place h ≡ home) (first : Piece) (found : place_from 0 (files_of homes) first.id ≡ Some place) where
  pub own_id : first.id ≡ home.begun.opened.header.id
  own_id =
      let h = found_id 0 (files_of homes) first.id place found in
      let past : h.0 ≡ place = let e = h.1 in omega arith in
      sym (h.2 (file_of_home home))
      ∙ ap (λ (n : ℕ). (get_or (files_of homes) n (file_of_home home)).id) past
      ∙ ap (λ (f : LoaderFile). f.id) (get_or-map file_of_home homes place home (file_of_home home) here)
      ∙ ap (λ (x : HomeFile). x.begun.opened.header.id) (home_is home)

  id_place : place_from 0 (files_of homes) home.begun.opened.header.id ≡ Some place
  id_place = ap (λ (id : List ℕ). place_from 0 (files_of homes) id) (sym own_id) ∙ found

  module _ (seats : List (Seat CellFooting)) (seat now : Seat CellFooting) (within : place < length seats) (seat_is : seat ≡ get_or seats place seat) (same : IsSameSeat seat now) (pieces : List Piece) where
    pub first_then : {T : Type 0} (len : ℕ) (rest : List Piece) (old mid new : DriveCounts) (result : Result T DriveEnd) (last : List (Seat CellFooting)) → rest ≡ drop len pieces → FirstIsIn (footing_of home.begun) (seat_view seat) pieces len old mid (seat_view now)
        → FillsGiven homes (files_of homes) (set seats place now) (map (mark_of (files_of homes)) rest) mid result new last → FillsGiven homes (files_of homes) seats (map (mark_of (files_of homes)) pieces) old result new last
    first_then {T} len rest old mid new result last e h then =
        let marks = mark_of (files_of homes) in
        subst (λ (l : List PieceMark). FillsGiven homes (files_of homes) seats l old result new last)
        (sym (map-append marks (take len pieces) rest) ∙ ap (λ (l : List Piece). map marks (take len pieces ++ l)) e ∙ ap (λ (l : List Piece). map marks l) (sym (rejoined len pieces)))
        (given_both homes (files_of homes) seats (set seats place now) last (map marks (take len pieces)) (map marks rest) old mid new result
        (group_given homes place home here home_is id_place seats seat now within seat_is same (take len pieces) old mid h.may h.is_in) then)

    refuses_so : (counts new : DriveCounts) (stop : DriveEnd) → 0 < length pieces → first ≡ get_or pieces 0 first → (h : RefusesFirst (footing_of home.begun) (seat_view seat) pieces stop (seat_view now)) → new ≡ counts
        → GivenStops homes (files_of homes) seats (map (mark_of (files_of homes)) pieces) counts new stop (set seats place now)
    refuses_so counts new stop some is h e =
        subst (λ (c : DriveCounts). GivenStops homes (files_of homes) seats (map (mark_of (files_of homes)) pieces) counts c stop (set seats place now)) (sym e)
        (subst (λ (how : DriveEnd). GivenStops homes (files_of homes) seats (map (mark_of (files_of homes)) pieces) counts counts how (set seats place now)) (sym h.stop_is) refused)
      where
        m : (later : List PieceMark) × (map (mark_of (files_of homes)) pieces ≡ mark_of (files_of homes) first ∷ later)
        m = first_marks (files_of homes) pieces first some is

        refusal : piece_refusal home.begun.opened first ≡ Some h.error
        refusal = ap (λ (p : Piece). piece_refusal home.begun.opened p) is ∙ h.refusal_is first

        refused : GivenStops homes (files_of homes) seats (map (mark_of (files_of homes)) pieces) counts counts (end.Refused h.error) (set seats place now)
        refused = record {
          counted = [];
          rest = [];
          seats = seats_one seats place now seat [] within seat_is same (subst (λ (y : View CellFooting). AddsOwn (seat_view seat) y []) (sym h.same) (nothing_adds (seat_view seat)));
          fill = tt;
          few = record { deeds_few = omega arith; claims_few = omega arith };
          front = [];
          later = map (mark_of (files_of homes)) pieces;
          marks_are = refl;
          are_in = no_marks homes (files_of homes) counts;
          begun = 0;
          puts = refl;
          cause = (record { mark = mark_of (files_of homes) first; later = m.0; marks_are = m.1; is = mark_is homes place home here home_is id_place first (Some h.error) own_id refusal }, refl);
          told = refl;
        }

    pub first_stops : (counts new : DriveCounts) (stop : DriveEnd) → 0 < length pieces → first ≡ get_or pieces 0 first → (RefusesFirst (footing_of home.begun) (seat_view seat) pieces stop (seat_view now) ⊎ StopsFirst (footing_of home.begun) (seat_view seat) pieces stop (seat_view now)) × (new ≡ counts)
        → GivenStops homes (files_of homes) seats (map (mark_of (files_of homes)) pieces) counts new stop (set seats place now)
    first_stops counts new stop some is h = first_by h.0 h.1
      where
        stops_so : StopsFirst (footing_of home.begun) (seat_view seat) pieces stop (seat_view now) → new ≡ counts → GivenStops homes (files_of homes) seats (map (mark_of (files_of homes)) pieces) counts new stop (set seats place now)
        stops_so h e = subst (λ (c : DriveCounts). GivenStops homes (files_of homes) seats (map (mark_of (files_of homes)) pieces) counts c stop (set seats place now)) (sym e)
            (stops_first homes place home here home_is id_place seats seat now within seat_is same pieces counts stop h)

        first_by : RefusesFirst (footing_of home.begun) (seat_view seat) pieces stop (seat_view now) ⊎ StopsFirst (footing_of home.begun) (seat_view seat) pieces stop (seat_view now) → new ≡ counts
            → GivenStops homes (files_of homes) seats (map (mark_of (files_of homes)) pieces) counts new stop (set seats place now)
        first_by (inr k) e = stops_so k e
        first_by (inl k) e = refuses_so counts new stop some is k e
