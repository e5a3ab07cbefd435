-- The seats that are cut off the first one, and all seats of a new lock.
use Rattle.std.proofs.Common.{◌≡◌, ℕ, zero, suc, ◌+◌, ◌<◌, ⊎_elim, List, [], ◌∷◌, ◌++◌, length, get_or, refl, sym, ap, subst, ◌∙◌, arith}
use Rattle.std.proofs.Math.ListN.{get_or-append}
use Rattle.std.proofs.Math.Seq.{get_or-append_seam}
use Rattle.std.proofs.lemmas.List.{length-append}
use Rattle.std.proofs.lemmas.Bool.{cases_eq}
use Rattle.atomic_table.specs.Seated.{TableId}
use Rattle.inc_model.specs.declared.words.reply.Entry.{Entry}
use Rattle.inc_turn.specs.Views.{newcomer, the_view}
use Rattle.inc_turn.specs.Locks.{lock_of, seat_view}
use Rattle.inc_turn.specs.Opening.{IsNewSeat, IsCut, AreNewSeats, HasSplit}
use Rattle.inc_turn.specs.declared.view.View.{View}
use Rattle.inc_turn.specs.declared.seat.Seat.{Seat}

module _ {F : Type 0} where
  pub none_split : (id : TableId) (first : View F) → HasSplit id first 1 []
  none_split id first = record { count = refl; each = λ k d lt. absurd (omega arith) }

  pub split_more : (id : TableId) (first : View F) (made : ℕ) (seats : List (Seat F)) (seat : Seat F) → HasSplit id first made seats → IsCut id first made seat → HasSplit id first (made + 1) (seats ++ seat ∷ [])
  split_more id first made seats seat split cut = record {
    count = omega (arith, length-append seats (seat ∷ []), split.count);
    each = λ k d lt.
        ⊎_elim (λ (here : k ≡ length seats).
        let is : get_or (seats ++ seat ∷ []) k d ≡ seat = ap (λ (n : ℕ). get_or (seats ++ seat ∷ []) n d) here ∙ get_or-append_seam seats seat [] d in
        let number : made ≡ k + 1 = omega (arith, here, split.count) in
        subst (λ (x : ℕ × Seat F). IsCut id first x.0 x.1) (λ i. (number i, sym is i)) cut)
        (λ (other : k ≡ length seats → ⊥).
        let low : k < length seats = omega (arith, lt, other, length-append seats (seat ∷ [])) in
        subst (λ (x : Seat F). IsCut id first (k + 1) x) (sym (get_or-append seats (seat ∷ []) d k low)) (split.each k d low))
        (cases_eq k (length seats));
  }

  new_seat : (id : TableId) (base : List Entry) (footing : F) (count : ℕ) (seat : Seat F) (others : List (Seat F)) → lock_of seat ≡ id → seat.number ≡ 0 → seat_view seat ≡ record (newcomer base footing) { made = count }
      → HasSplit id (newcomer base footing) count others → (k : ℕ) (d : Seat F) → k < count → IsNewSeat id base footing k (get_or (seat ∷ others) k d)
  new_seat id base footing count seat others lock number is split zero d lt = record {
    lock_is = lock;
    number_is = number;
    base_is = ap (λ (v : View F). v.base) is;
    footing_is = ap (λ (v : View F). v.footing) is;
    unseen = ap (λ (v : View F). v.seen) is;
  }
  new_seat id base footing count seat others lock number is split (suc k) d lt =
      let cut = split.each k d (omega (arith, split.count, lt)) in
      record { lock_is = cut.lock_is; number_is = omega (arith, cut.number_is); base_is = cut.base_is; footing_is = cut.footing_is; unseen = cut.seen_is }

  -- all seats of a lock, of which the first one stands in front of those that were cut off it
  pub new_seats : (id : TableId) (base : List Entry) (footing : F) (count : ℕ) (seat : Seat F) (others : List (Seat F)) → lock_of seat ≡ id → seat.number ≡ 0 → seat.badge.views ≡ record (newcomer base footing) { made = count } ∷ []
      → HasSplit id (newcomer base footing) count others → AreNewSeats id base footing count (seat ∷ others)
  new_seats id base footing count seat others lock number views split =
      let is : seat_view seat ≡ record (newcomer base footing) { made = count } = ap (λ (vs : List (View F)). the_view vs) views in
      let len : length (seat ∷ others) ≡ count = omega (arith, split.count) in
      let fresh : (k : ℕ) (d : Seat F) → k < count → IsNewSeat id base footing k (get_or (seat ∷ others) k d) = new_seat id base footing count seat others lock number is split in
      record {
        count_is = len;
        all = record {
          each = λ k d lt. let f = fresh k d (omega (arith, len, lt)) in (f.lock_is, f.number_is);
          all = λ d. ap (λ (v : View F). v.made) is ∙ sym len;
          some = omega arith;
        };
        fresh = fresh;
      }
