-- The file that the first of given pieces names, with its seat and its pass.
use Rattle.std.proofs.Common.{◌≡◌, ℕ, zero, suc, ◌<◌, ◌≤◌, Bool, false, eqb, List, [], ◌∷◌, length, drop, get_or, set, Some, sym, ap, subst, ◌∙◌, arith}
use Rattle.std.specs.Prelude.{map, Result, Ok, Err}
use Rattle.std.proofs.lemmas.List.{length-map}
use Rattle.inc_frame.specs.declared.piece.Piece.{Piece}
use Rattle.inc_loader.specs.Marks.{mark_of}
use Rattle.inc_loader.specs.declared.loader_file.LoaderFile.{LoaderFile}
use Rattle.inc_turn.specs.Locks.{seat_view, table_of}
use Rattle.inc_turn.specs.declared.seat.Seat.{Seat}
use Rattle.inc_cell.specs.events.CellEvents.{footing_of}
use Rattle.inc_cell.specs.declared.machine.CellFooting.{CellFooting}
use Rattle.inc_handle.specs.Shared.{HasGoneOn, IsSeatOf}
use Rattle.inc_handle.specs.declared.pass.FillPass.{FillPass}
use Rattle.inc_handle.specs.declared.shared.SharedFile.{SharedFile}
use Rattle.inc_script.specs.declared.report_text.ends.DriveEnd.{DriveEnd}
use Rattle.inc_session.specs.Deeds.{deeds_of, place_from}
use Rattle.inc_session.specs.DriveSeats.{ArePassed, AreHomeSeats, HomeFile, file_of_home, files_of, home_of, homes_of}
use Rattle.inc_session.specs.GivenFills.{FillsFirst, FillsGiven, GivenIsIn, GivenStops}
use Rattle.inc_session.specs.declared.driving.counts.DriveCounts.{DriveCounts}
use Rattle.inc_session.proofs.fills.GivenLemmas.{nothing_given}
use Rattle.inc_session.proofs.fills.GivenSteps.{first_stops, first_then, own_id}
use Rattle.inc_session.proofs.fills.SeatSteps.{any_default, home_at, homes_count, seats_one, still_seated}

-- no piece is left
pub given_none : (homes : List HomeFile) (known : List LoaderFile) (seats : List (Seat CellFooting)) (pieces : List Piece) (counts : DriveCounts) → length pieces ≡ 0 → GivenIsIn homes known seats (map (mark_of known) pieces) counts counts seats
given_none homes known seats [] counts e = nothing_given homes known seats counts
given_none homes known seats (p ∷ ps) counts e = absurd (omega arith)

pub some_left : (n : ℕ) (empty : Bool) → empty ≡ eqb n 0 → empty ≡ false → 0 < n
some_left zero empty e f = absurd (let t = sym e ∙ f in cc)
some_left (suc n) empty e f = omega arith

pub fewer_left : (pieces : List Piece) (len : ℕ) → 1 ≤ len → len ≤ length pieces → length (drop len pieces) < length pieces
fewer_left [] len some within = absurd (omega arith)
fewer_left (p ∷ ps) zero some within = absurd (omega arith)
fewer_left (p ∷ ps) (suc len) some within = no_more ps len
  where
    no_more : (qs : List Piece) (n : ℕ) → length (drop n qs) < suc (length qs)
    no_more qs zero = omega arith
    no_more [] (suc n) = omega arith
    no_more (q ∷ qs) (suc n) = let h = no_more qs n in omega arith

module _ {D K : Type 0} (files : List (SharedFile D K)) (known : List LoaderFile) (known_is : known ≡ files_of (homes_of files)) where
  pub known_count : length known ≡ length files
  known_count = ap (λ (l : List LoaderFile). length l) known_is ∙ length-map (homes_of files) file_of_home ∙ homes_count files

  module _ (place : ℕ) (below : place < length known) where
    pub within_files : place < length files
    within_files = omega (arith, known_count)

    within_homes : place < length (homes_of files)
    within_homes = omega (arith, known_count, homes_count files)

    pub within_seats : (seats : List (Seat CellFooting)) → AreHomeSeats (homes_of files) seats → place < length seats
    within_seats seats seated = omega (arith, seated.count, within_homes)

    pub within_passes : (passes : List FillPass) → ArePassed (homes_of files) passes → place < length passes
    within_passes passes passed = omega (arith, passed.count, within_homes)

    module _ (file : SharedFile D K) (file_is : file ≡ get_or files place file) where
      abbrev home : HomeFile
      home = home_of (table_of file.lock) file.begun.value

      home_is : (h : HomeFile) → get_or (homes_of files) place h ≡ home
      home_is h = home_at files place file h within_files file_is

      pub pass_here : (passes : List FillPass) (pass : FillPass) → ArePassed (homes_of files) passes → pass ≡ get_or passes place pass → pass.id ≡ file.begun.value.opened.header.id
      pass_here passes pass passed is =
          ap (λ (p : FillPass). p.id) is ∙ passed.each place home pass within_homes ∙ ap (λ (h : HomeFile). h.begun.opened.header.id) (home_is home)

      module _ (seats : List (Seat CellFooting)) (seated : AreHomeSeats (homes_of files) seats) (seat : Seat CellFooting) (seat_is : seat ≡ get_or seats place seat) where
        pub seat_here : IsSeatOf (table_of file.lock) file.begun.value seat
        seat_here =
            subst (λ (x : Seat CellFooting). IsSeatOf (table_of file.lock) file.begun.value x) (sym seat_is)
            (subst (λ (h : HomeFile). IsSeatOf h.lock h.begun (get_or seats place seat)) (home_is home) (seated.each place home seat within_homes))

        pub seated_on : (now : Seat CellFooting) → HasGoneOn seat now → AreHomeSeats (homes_of files) (set seats place now)
        seated_on now gone =
            still_seated (homes_of files) seats (set seats place now) (deeds_of place gone.mine) seated (seats_one seats place now seat gone.mine (within_seats seats seated) seat_is gone.same gone.adds)

        module _ (pieces : List Piece) (some : 0 < length pieces) (first : Piece) (first_is : first ≡ get_or pieces 0 first) (found : place_from 0 known first.id ≡ Some place) where
          found_in : place_from 0 (files_of (homes_of files)) first.id ≡ Some place
          found_in = ap (λ (l : List LoaderFile). place_from 0 l first.id) (sym known_is) ∙ found

          pub first_here : (d : Piece) → (get_or pieces 0 d).id ≡ file.begun.value.opened.header.id
          first_here d =
              ap (λ (p : Piece). p.id) (any_default pieces 0 d first some ∙ sym first_is) ∙ own_id (homes_of files) place home within_homes home_is first found_in

          -- the first group is in, and then the others
          pub goes_with : {T : Type 0} (len : ℕ) (rest : List Piece) (old mid new : DriveCounts) (result : Result T DriveEnd) (now : Seat CellFooting) (last : List (Seat CellFooting)) → rest ≡ drop len pieces → HasGoneOn seat now
              → FillsFirst (footing_of file.begun.value) (seat_view seat) pieces old (Ok len) mid (seat_view now) → FillsGiven (homes_of files) known (set seats place now) (map (mark_of known) rest) mid result new last
              → FillsGiven (homes_of files) known seats (map (mark_of known) pieces) old result new last
          goes_with {T} len rest old mid new result now last e gone h then =
              subst (λ (l : List LoaderFile). FillsGiven (homes_of files) l seats (map (mark_of l) pieces) old result new last) (sym known_is)
              (first_then (homes_of files) place home within_homes home_is first found_in seats seat now (within_seats seats seated) seat_is gone.same pieces len rest old mid new result last e h
              (subst (λ (l : List LoaderFile). FillsGiven (homes_of files) l (set seats place now) (map (mark_of l) rest) mid result new last) known_is then))

          -- the first group isn't in
          pub ends_with : (old new : DriveCounts) (stop : DriveEnd) (now : Seat CellFooting) → HasGoneOn seat now → FillsFirst (footing_of file.begun.value) (seat_view seat) pieces old (Err stop) new (seat_view now)
              → GivenStops (homes_of files) known seats (map (mark_of known) pieces) old new stop (set seats place now)
          ends_with old new stop now gone h =
              subst (λ (l : List LoaderFile). GivenStops (homes_of files) l seats (map (mark_of l) pieces) old new stop (set seats place now)) (sym known_is)
              (first_stops (homes_of files) place home within_homes home_is first found_in seats seat now (within_seats seats seated) seat_is gone.same pieces old new stop some first_is h)
