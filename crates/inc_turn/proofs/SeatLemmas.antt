-- Seats through their turns, and a seat's own entries among all of a closed lock.
use Rattle.std.proofs.Common.{◌≡◌, ℕ, ◌<◌, List, [], ◌++◌, length, get_or, Option, sym, ap, ◌∙◌, arith}
use Rattle.std.proofs.lemmas.List.{append-nil}
use Rattle.atomic_table.specs.Seated.{TableId}
use Rattle.inc_model.specs.declared.words.reply.Entry.{Entry}
use Rattle.inc_turn.specs.Turns.{AddsOwn, own_of}
use Rattle.inc_turn.specs.Locks.{seat_view, IsSameSeat}
use Rattle.inc_turn.specs.Opening.{AreAllSeats}
use Rattle.inc_turn.specs.Closing.{IsClosed}
use Rattle.inc_turn.specs.declared.view.View.{View}
use Rattle.inc_turn.specs.declared.seat.Seat.{Seat}
use Rattle.inc_turn.proofs.TurnLemmas.{own_of-append, own_of-others}

pub same_seat_twice : {F : Type 0} (first second third : Seat F) → IsSameSeat first second → IsSameSeat second third → IsSameSeat first third
same_seat_twice first second third a b = record { lock_is = b.lock_is ∙ a.lock_is; number_is = b.number_is ∙ a.number_is; made_is = b.made_is ∙ a.made_is }

pub all_seats_stay : {F : Type 0} (id : TableId) (before after : List (Seat F)) → length after ≡ length before → ((k : ℕ) (d : Seat F) → k < length before → IsSameSeat (get_or before k d) (get_or after k d)) → AreAllSeats id before → AreAllSeats id after
all_seats_stay id before after len same all = record {
  each = λ k d lt.
      let low : k < length before = omega (arith, len, lt) in
      let s = same k d low in
      let a = all.each k d low in (s.lock_is ∙ a.0, s.number_is ∙ a.1);
  all = λ d. (same 0 d all.some).made_is ∙ all.all d ∙ sym len;
  some = omega (arith, len, all.some);
}

pub closed_own : {M F : Type 0} (history : M → List Entry) (footing : M → F) (seats : List (Seat F)) (machine : M) (closed : IsClosed history footing seats machine) (k : ℕ) (d : Seat F) → k < length seats
    → own_of k closed.all ≡ own_of k (seat_view (get_or seats k d)).seen
closed_own history footing seats machine closed k d lt =
    let seen = (seat_view (get_or seats k d)).seen in
    let h = (closed.each k d lt).1 in
    ap (own_of k) h.whole
    ∙ own_of-append k seen h.rest
    ∙ ap (λ (es : List Entry). own_of k seen ++ es) (own_of-others k h.rest h.others)
    ∙ append-nil (own_of k seen)

pub closed_adds : {M F : Type 0} (history : M → List Entry) (footing : M → F) (seats : List (Seat F)) (machine : M) (closed : IsClosed history footing seats machine) (k : ℕ) (d : Seat F) (v : View F) (mine : List Entry) → k < length seats
    → v.number ≡ k → v.seen ≡ [] → AddsOwn v (seat_view (get_or seats k d)) mine → own_of k closed.all ≡ mine
closed_adds {M} {F} history footing seats machine closed k d v mine lt number unseen adds =
    let seen : (seat_view (get_or seats k d)).seen ≡ adds.since = ap (λ (y : View F). y.seen) adds.view_is ∙ ap (λ (turns : List (Option Entry)). turns ++ adds.since) unseen in
    closed_own history footing seats machine closed k d lt ∙ ap (own_of k) seen ∙ ap (λ (n : ℕ). own_of n adds.since) (sym number) ∙ adds.own
