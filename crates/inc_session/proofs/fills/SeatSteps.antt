-- The seats of a drive through its calls.
use Rattle.std.proofs.Common.{◌≡◌, ◌≢◌, ℕ, zero, suc, ◌<◌, Bool, true, false, eqb, List, [], ◌∷◌, ◌++◌, length, get_or, set, refl, sym, ap, subst, ◌∙◌, arith}
use Rattle.std.proofs.lemmas.Bool.{eq-eqb, eqb-true}
use Rattle.std.proofs.lemmas.List.{get_or-map, get_or-set_same, get_or-set_other, length-map, length-set}
use Rattle.inc_model.specs.declared.words.reply.Entry.{Entry}
use Rattle.inc_turn.specs.Locks.{IsSameSeat, seat_view, table_of}
use Rattle.inc_turn.specs.Turns.{AddsOwn}
use Rattle.inc_turn.specs.declared.seat.Seat.{Seat}
use Rattle.inc_turn.proofs.SeatLemmas.{same_seat_twice}
use Rattle.inc_turn.proofs.TurnLemmas.{adds_both, adds_keeps, nothing_adds}
use Rattle.inc_cell.specs.declared.machine.CellFooting.{CellFooting}
use Rattle.inc_handle.specs.declared.shared.SharedFile.{SharedFile}
use Rattle.inc_session.specs.Deeds.{Deed, deeds_of, entries_at}
use Rattle.inc_session.specs.DriveSeats.{AreHomeSeats, HomeFile, SeatAdds, SeatsAdd, home_of, homes_of}
use Rattle.inc_session.proofs.fills.DeedLemmas.{entries_both, entries_other, entries_own}

pub any_default : {A : Type 0} (xs : List A) (k : ℕ) (d e : A) → k < length xs → get_or xs k d ≡ get_or xs k e
any_default [] k d e lt = absurd (omega arith)
any_default (x ∷ xs) zero d e lt = refl
any_default (x ∷ xs) (suc k) d e lt = any_default xs k d e (omega arith)

pub home_at : {D K : Type 0} (files : List (SharedFile D K)) (place : ℕ) (file : SharedFile D K) (h : HomeFile) → place < length files → file ≡ get_or files place file → get_or (homes_of files) place h ≡ home_of (table_of file.lock) file.begun.value
home_at {D} {K} files place file h lt is =
    get_or-map (λ (f : SharedFile D K). home_of (table_of f.lock) f.begun.value) files place file h lt ∙ ap (λ (f : SharedFile D K). home_of (table_of f.lock) f.begun.value) (sym is)

pub homes_count : {D K : Type 0} (files : List (SharedFile D K)) → length (homes_of files) ≡ length files
homes_count {D} {K} files = length-map files (λ (f : SharedFile D K). home_of (table_of f.lock) f.begun.value)

pub seat_stays : (seat : Seat CellFooting) → SeatAdds seat seat []
seat_stays seat = record { same = record { lock_is = refl; number_is = refl; made_is = refl }; adds = nothing_adds (seat_view seat) }

pub seats_none : (seats : List (Seat CellFooting)) → SeatsAdd seats seats []
seats_none seats = record { count = refl; each = λ k d lt. seat_stays (get_or seats k d) }

pub seats_both : (a b c : List (Seat CellFooting)) (first second : List Deed) → SeatsAdd a b first → SeatsAdd b c second → SeatsAdd a c (first ++ second)
seats_both a b c first second h j = record {
  count = j.count ∙ h.count;
  each = λ k d lt.
      let low : k < length b = omega (arith, h.count, lt) in
      let x = h.each k d lt in
      let y = j.each k d low in
      subst (λ (l : List Entry). SeatAdds (get_or a k d) (get_or c k d) l) (sym (entries_both k first second)) (record {
        same = same_seat_twice (get_or a k d) (get_or b k d) (get_or c k d) x.same y.same;
        adds = adds_both (seat_view (get_or a k d)) (seat_view (get_or b k d)) (seat_view (get_or c k d)) (entries_at k first) (entries_at k second) x.adds y.adds;
      });
}

-- one of them has gone on
pub seats_one : (seats : List (Seat CellFooting)) (place : ℕ) (seat old : Seat CellFooting) (entries : List Entry) → place < length seats → old ≡ get_or seats place old → IsSameSeat old seat → AddsOwn (seat_view old) (seat_view seat) entries
    → SeatsAdd seats (set seats place seat) (deeds_of place entries)
seats_one seats place seat old entries here is same adds = record {
  count = length-set seats place seat;
  each = λ k d lt. step k d lt (eqb k place) refl;
}
  where
    own : (d : Seat CellFooting) → old ≡ get_or seats place d
    own d = is ∙ any_default seats place old d here

    step : (k : ℕ) (d : Seat CellFooting) → k < length seats → (b : Bool) → eqb k place ≡ b → SeatAdds (get_or seats k d) (get_or (set seats place seat) k d) (entries_at k (deeds_of place entries))
    step k d lt true e =
        let at : k ≡ place = eqb-true k place e in
        subst (λ (n : ℕ). SeatAdds (get_or seats n d) (get_or (set seats place seat) n d) (entries_at n (deeds_of place entries))) (sym at)
        (subst (λ (l : List Entry). SeatAdds (get_or seats place d) (get_or (set seats place seat) place d) l) (sym (entries_own place entries))
        (subst (λ (s : Seat CellFooting). SeatAdds (get_or seats place d) s entries) (sym (get_or-set_same seats place seat d here))
        (subst (λ (s : Seat CellFooting). SeatAdds s seat entries) (own d) (record { same = same; adds = adds }))))
    step k d lt false e =
        let other : k ≢ place = λ at. absurd (let own_test : eqb k place ≡ true = eq-eqb k place at in cc) in
        subst (λ (l : List Entry). SeatAdds (get_or seats k d) (get_or (set seats place seat) k d) l) (sym (entries_other k place entries (λ at. other (sym at))))
        (subst (λ (s : Seat CellFooting). SeatAdds (get_or seats k d) s []) (sym (get_or-set_other seats place k seat d other)) (seat_stays (get_or seats k d)))

-- they are still seats of their files
pub still_seated : (homes : List HomeFile) (before after : List (Seat CellFooting)) (deeds : List Deed) → AreHomeSeats homes before → SeatsAdd before after deeds → AreHomeSeats homes after
still_seated homes before after deeds seated h = record {
  count = h.count ∙ seated.count;
  each = λ k home s lt.
      let low : k < length before = omega (arith, seated.count, lt) in
      let x = h.each k s low in
      let was = seated.each k home s lt in
      record { lock_is = x.same.lock_is ∙ was.lock_is; footing_is = (adds_keeps (seat_view (get_or before k s)) (seat_view (get_or after k s)) (entries_at k deeds) x.adds).footing_is ∙ was.footing_is };
}
