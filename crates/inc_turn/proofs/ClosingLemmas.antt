-- A lock that is closed: no seat is in turn, so the machine is at home.
use Rattle.std.proofs.Common.{◌≡◌, ℕ, zero, suc, ◌+◌, ◌-◌, ◌<◌, ◌≤◌, inl, inr, ⊎_elim, true, false, eqb, List, [], ◌∷◌, ◌++◌, length, get_or, take, drop, Option, Some, None, refl, sym, ap, subst, ◌∙◌, arith, eq-eqb, pos_of_ne-zero}
use Rattle.std.proofs.lemmas.Bool.{cases_eq}
use Rattle.std.proofs.Math.Seq.{take-length}
use Rattle.std.proofs.lemmas.List.{get_or-drop, get_or-take, get_or_default, length-drop, take-take}
use mathlib.Core.Option.{none, some, some-injective}
use mathlib.Core.Option as maybe
use lib.ListN.{get_elem?}
use Rattle.atomic_table.specs.Table.{State, Final, Seen}
use Rattle.atomic_table.specs.declared.badge.Badge.{Badge}
use Rattle.atomic_table.specs.Seated.{TableId}
use Rattle.inc_model.specs.declared.words.reply.Entry.{Entry}
use Rattle.inc_turn.specs.Lists.{entries_of_turns, AreSeated, HasSeen}
use Rattle.inc_turn.specs.Views.{IsIdle, keeping, past_of, the_view}
use Rattle.inc_turn.specs.Rules.{TurnOrder, is_busy, FitsPast, AllFitPast, FitsView, IsHome, KeepsTurns}
use Rattle.inc_turn.specs.Locks.{lock_of, seat_view}
use Rattle.inc_turn.specs.Opening.{AreAllSeats}
use Rattle.inc_turn.specs.Closing.{IsClosed, IsAmong, AreBehind}
use Rattle.inc_turn.specs.declared.view.View.{View}
use Rattle.inc_turn.specs.declared.view.PastSeat.{PastSeat}
use Rattle.inc_turn.specs.declared.seat.Seat.{Seat}

fits_in : {F : Type 0} (o : TurnOrder F) (c : PastSeat) (cs : List PastSeat) → AllFitPast o cs → IsAmong c cs → FitsPast o c
fits_in o c [] fits here = absurd here
fits_in o c (x ∷ xs) fits here = ⊎_elim (λ (e : x ≡ c). subst (λ (y : PastSeat). FitsPast o y) e fits.0) (λ (h : IsAmong c xs). fits_in o c xs fits.1 h) here

none_busy : {F : Type 0} (o : TurnOrder F) (busy : Option ℕ) (made : ℕ) → (is_busy busy 0 ≡ false) → ((k : ℕ) → 0 < k → k < made → is_busy busy k ≡ false) → ((k : ℕ) → busy ≡ Some k → k < made) → busy ≡ None
none_busy o None made first others low = refl
none_busy o (Some k) made first others low =
    let here : eqb k k ≡ true = eq-eqb k k refl in
    absurd (⊎_elim (λ (e : k ≡ 0). let free : eqb k k ≡ false = subst (λ (n : ℕ). eqb k n ≡ false) (sym e) first in cc)
    (λ (ne : k ≡ 0 → ⊥). let free : eqb k k ≡ false = others k (pos_of_ne-zero ne) (low k refl) in cc) (cases_eq k 0))

in_longer : (c d : PastSeat) (cs : List PastSeat) → IsAmong c cs → IsAmong c (cs ++ d ∷ [])
in_longer c d [] here = absurd here
in_longer c d (x ∷ cs) here = ⊎_elim (λ (e : x ≡ c). inl e) (λ (h : IsAmong c cs). inr (in_longer c d cs h)) here

in_last : (c d : PastSeat) (cs : List PastSeat) → d ≡ c → IsAmong c (cs ++ d ∷ [])
in_last c d [] e = inl e
in_last c d (x ∷ cs) e = inr (in_last c d cs e)

pub front_is : {A B : Type 0} (x : A × B) (a : A) (b : B) → x ≡ (a, b) → x.0 ≡ a
front_is {A} {B} x a b e = ap (λ (y : A × B). y.0) e

pub back_is : {A B : Type 0} (x : A × B) (a : A) (b : B) → x ≡ (a, b) → x.1 ≡ b
back_is {A} {B} x a b e = ap (λ (y : A × B). y.1) e

module _ {F : Type 0} where
  -- the first seat after some of the others were given back to it, from the last one on
  pub record HasJoined (start : View F) (all left : List (Seat F)) (view : View F) : Type 0 where
    pub view_is : view ≡ record start { past = view.past }
    pub front : left ≡ take (length left) all
    pub few : length left ≤ length all
    pub each : (k : ℕ) (d : Seat F) → length left ≤ k → k < length all → IsAmong (past_of (seat_view (get_or all k d))) view.past

  pub none_joined : (start : View F) (all : List (Seat F)) → HasJoined start all all start
  none_joined start all = record { view_is = refl; front = sym (take-length all); few = omega arith; each = λ k d low lt. absurd (omega arith) }

  -- the last one that is left, as it stands among all
  last_left : (start view : View F) (all left : List (Seat F)) (other : Seat F) (len : ℕ) → HasJoined start all left view → len ≡ length left → 0 < len → ((d : Seat F) → 0 < len → Some other ≡ Some (get_or left (len - 1) d))
      → (d : Seat F) → other ≡ get_or all (length left - 1) d
  last_left start view all left other len joined same above value d =
      let popped : other ≡ get_or left (len - 1) d = let is : Some other ≡ Some (get_or left (len - 1) d) = value d above in cc in
      popped
      ∙ ap (λ (n : ℕ). get_or left (n - 1) d) same
      ∙ ap (λ (xs : List (Seat F)). get_or xs (length left - 1) d) joined.front
      ∙ get_or-take (length left) all (length left - 1) d (omega (arith, same))

  pub lock_of-last : (start view : View F) (all left : List (Seat F)) (other : Seat F) (len : ℕ) (id : TableId) → HasJoined start all left view → len ≡ length left → 0 < len → ((d : Seat F) → 0 < len → Some other ≡ Some (get_or left (len - 1) d))
      → ((k : ℕ) (d : Seat F) → k < length all → lock_of (get_or all k d) ≡ id) → lock_of other ≡ id
  lock_of-last start view all left other len id joined same above value locks =
      ap (λ (s : Seat F). lock_of s) (last_left start view all left other len joined same above value other) ∙ locks (length left - 1) other (omega (arith, same, joined.few))

  pub view_of : (other : Seat F) (badge : Badge (View F)) (v : View F) → badge ≡ other.badge → badge.views ≡ v ∷ [] → seat_view other ≡ v
  view_of other badge v is views = sym (ap (λ (b : Badge (View F)). the_view b.views) is) ∙ ap (λ (vs : List (View F)). the_view vs) views

  pub lock_stays : (other : Seat F) (badge : Badge (View F)) (id place : TableId) → badge ≡ other.badge → place ≡ badge.table_id → lock_of other ≡ id → place ≡ id
  lock_stays other badge id place is here lock = here ∙ ap (λ (b : Badge (View F)). b.table_id) is ∙ lock

  pub joined_more : (start view after : View F) (all left next : List (Seat F)) (other : Seat F) (w : View F) (len next_len : ℕ) → HasJoined start all left view → len ≡ length left → next_len ≡ length next → next_len + 1 ≡ len
      → next ≡ take (len - 1) left → ((d : Seat F) → 0 < len → Some other ≡ Some (get_or left (len - 1) d)) → seat_view other ≡ w → after ≡ keeping view w → HasJoined start all next after
  joined_more start view after all left next other w len next_len joined same next-same popped rest value view-is is =
      let past : after.past ≡ view.past ++ past_of w ∷ [] = ap (λ (x : View F). x.past) is in
      let last = last_left start view all left other len joined same (omega (arith, popped)) value in
      record {
        view_is = is ∙ ap (λ (x : View F). keeping x w) joined.view_is ∙ ap (λ (cs : List PastSeat). record start { past = cs }) (sym past);
        front =
            rest
            ∙ ap (λ (xs : List (Seat F)). take (len - 1) xs) joined.front
            ∙ take-take (len - 1) (length left) all (omega (arith, same))
            ∙ ap (λ (n : ℕ). take n all) (omega (arith, popped, next-same));
        few = omega (arith, popped, same, next-same, joined.few);
        each = λ k d low lt.
            subst (λ (cs : List PastSeat). IsAmong (past_of (seat_view (get_or all k d))) cs) (sym past)
            (⊎_elim (λ (here : k ≡ length next).
            let seat : other ≡ get_or all k d = last d ∙ ap (λ (n : ℕ). get_or all n d) (omega (arith, here, popped, same, next-same)) in
            in_last (past_of (seat_view (get_or all k d))) (past_of w) view.past (sym (ap past_of view-is) ∙ ap (λ (x : Seat F). past_of (seat_view x)) seat))
            (λ (ne : k ≡ length next → ⊥). in_longer (past_of (seat_view (get_or all k d))) (past_of w) view.past (joined.each k d (omega (arith, low, ne, popped, same, next-same)) lt))
            (cases_eq k (length next)));
      }

  pub all_joined : (start view : View F) (all left : List (Seat F)) → HasJoined start all left view → length left ≡ 0 → AreBehind start all view
  all_joined start view all left joined empty = record { past = view.past; view_is = joined.view_is; each = λ k d lt. joined.each k d (omega (arith, empty)) lt }

module _ {M F : Type 0} (history : M → List Entry) (footing : M → F) where
  busy_low : (o : TurnOrder F) (busy : Option ℕ) (homes : List (maybe.Option M)) → IsHome o history footing busy homes → (k : ℕ) → busy ≡ Some k → k < o.made
  busy_low o None homes home k e = absurd cc
  busy_low o (Some j) homes home k e = let same : j ≡ k = cc in subst (λ (n : ℕ). n < o.made) same home.2

  -- the machine that is at home
  pub record IsHeld (s : State M (View F)) (o : TurnOrder F) (machine : M) : Type 0 where
    pub homes_are : s.homes ≡ some machine ∷ []
    pub told : history machine ≡ o.base ++ entries_of_turns o.all
    pub floor : footing machine ≡ o.footing

  pub held_at_end : (s : State M (View F)) (kept : KeepsTurns history footing s) (id : ℕ) (v : View F) → get_elem? s.views id ≡ some v → IsIdle v → v.number ≡ 0
      → ((k : ℕ) → 0 < k → k < v.made → (c : PastSeat) × (c.number ≡ k) × IsAmong c v.past) → (machine : M) × IsHeld s kept.order machine
  held_at_end s kept id v at idle first covers =
      let o = kept.order in
      let fits = kept.each id v at idle.unspent in
      let made : v.made ≡ o.made = fits.made_is first in
      let own : is_busy o.busy 0 ≡ false = ap (λ (k : ℕ). is_busy o.busy k) (sym first) ∙ sym fits.busy_is ∙ idle.no_turn in
      let others : (k : ℕ) → 0 < k → k < o.made → is_busy o.busy k ≡ false =
      λ k above low.
      let c = covers k above (omega (arith, low, made)) in
      ap (λ (n : ℕ). is_busy o.busy n) (sym c.1) ∙ (fits_in o c.0 v.past fits.past_fit c.2).idle in
      let free : o.busy ≡ None = none_busy o o.busy o.made own others (busy_low o o.busy s.homes kept.home) in
      let home : IsHome o history footing None s.homes = subst (λ (busy : Option ℕ). IsHome o history footing busy s.homes) free kept.home in
      (home.0, record { homes_are = home.1; told = home.2; floor = home.3 })

  -- what the rule knows of one seat
  record IsKnown (o : TurnOrder F) (k : ℕ) (v : View F) : Type 0 where
    base_is : v.base ≡ o.base
    seen_is : HasSeen k v.seen o.all
    full : o.fullest ≡ k → v.seen ≡ o.all

  known_past : (o : TurnOrder F) (k : ℕ) (v : View F) → v.number ≡ k → FitsPast o (past_of v) → IsKnown o k v
  known_past o k v number fits = record {
    base_is = fits.base_is;
    seen_is = subst (λ (n : ℕ). HasSeen n v.seen o.all) number fits.seen_is;
    full = λ e. fits.full (e ∙ sym number);
  }

  known_first : (o : TurnOrder F) (id : ℕ) (v : View F) (past : List PastSeat) → v.number ≡ 0 → FitsView o id (record v { past = past }) → IsKnown o 0 v
  known_first o id v past number fits = record {
    base_is = fits.base_is;
    seen_is = subst (λ (n : ℕ). HasSeen n v.seen o.all) number fits.seen_is;
    full = λ e. fits.full (e ∙ sym number);
  }

  behind_fits : (o : TurnOrder F) (id : ℕ) (v after : View F) (others : List (Seat F)) → AreBehind v others after → FitsView o id after → (past : List PastSeat) × FitsView o id (record v { past = past }) × ((k : ℕ) (d : Seat F) → k < length others → FitsPast o (past_of (seat_view (get_or others k d))))
  behind_fits o id v after others behind fits =
      let same : FitsView o id (record v { past = behind.past }) = subst (λ (x : View F). FitsView o id x) behind.view_is fits in
      (behind.past, same, λ k d lt. fits_in o (past_of (seat_view (get_or others k d))) behind.past same.past_fit (behind.each k d lt))

  known_seats : (o : TurnOrder F) (id : ℕ) (after : View F) (lock : TableId) (seats : List (Seat F)) (all : AreAllSeats lock seats) (d : Seat F) → AreBehind (seat_view (get_or seats 0 d)) (drop 1 seats) after → FitsView o id after
      → (k : ℕ) (e : Seat F) → k < length seats → IsKnown o k (seat_view (get_or seats k e))
  known_seats o id after lock seats all d behind fits zero e lt =
      let same : get_or seats 0 d ≡ get_or seats 0 e = get_or_default seats 0 d e lt in
      let b = behind_fits o id (seat_view (get_or seats 0 d)) after (drop 1 seats) behind fits in
      let number : (seat_view (get_or seats 0 d)).number ≡ 0 = (get_or seats 0 d).numbered ∙ (all.each 0 d lt).1 in
      subst (λ (x : Seat F). IsKnown o 0 (seat_view x)) same (known_first o id (seat_view (get_or seats 0 d)) b.0 number b.1)
  known_seats o id after lock seats all d behind fits (suc k) e lt =
      let b = behind_fits o id (seat_view (get_or seats 0 d)) after (drop 1 seats) behind fits in
      let there : get_or (drop 1 seats) k e ≡ get_or seats (suc k) e = get_or-drop 1 seats k e ∙ ap (λ (n : ℕ). get_or seats n e) (omega arith) in
      let low : k < length (drop 1 seats) = omega (arith, length-drop 1 seats) in
      let fit : FitsPast o (past_of (seat_view (get_or seats (suc k) e))) = subst (λ (x : Seat F). FitsPast o (past_of (seat_view x))) there (b.2 k e low) in
      let number : (seat_view (get_or seats (suc k) e)).number ≡ suc k = (get_or seats (suc k) e).numbered ∙ (all.each (suc k) e lt).1 in
      known_past o (suc k) (seat_view (get_or seats (suc k) e)) number fit

  pub closed_lock : (s : State M (View F)) (kept : KeepsTurns history footing s) (id : ℕ) (after : View F) (machine : M) (lock : TableId) (seats : List (Seat F)) (all : AreAllSeats lock seats) (d : Seat F)
      → get_elem? s.views id ≡ some after → AreBehind (seat_view (get_or seats 0 d)) (drop 1 seats) after → IsHeld s kept.order machine → IsClosed history footing seats machine
  closed_lock s kept id after machine lock seats all d at behind held =
      let o = kept.order in
      let first = get_or seats 0 d in
      let unspent : after.spent ≡ false = ap (λ (v : View F). v.spent) behind.view_is ∙ first.idle.unspent in
      let fits = kept.each id after at unspent in
      let number : after.number ≡ 0 = ap (λ (v : View F). v.number) behind.view_is ∙ first.numbered ∙ (all.each 0 d all.some).1 in
      let made : o.made ≡ length seats = sym (fits.made_is number) ∙ ap (λ (v : View F). v.made) behind.view_is ∙ all.all d in
      let known = known_seats o id after lock seats all d behind fits in
      record {
        base = o.base;
        all = o.all;
        told = held.told;
        seated = subst (λ (n : ℕ). AreSeated n o.all) made kept.seated;
        each = λ k e lt. let one = known k e lt in (one.base_is, one.seen_is);
        whole = (o.fullest, omega (arith, kept.fullest_low, made), λ e. (known o.fullest e (omega (arith, kept.fullest_low, made))).full refl);
        floor = λ e.
            ap (λ (x : Seat F). (seat_view x).footing) (get_or_default seats 0 e d all.some)
            ∙ sym (ap (λ (v : View F). v.footing) behind.view_is)
            ∙ fits.footing_is
            ∙ ap (λ (f : F). Some f) (sym held.floor);
      }

  pub covers_seats : (after : View F) (lock : TableId) (seats : List (Seat F)) (all : AreAllSeats lock seats) (d : Seat F) → AreBehind (seat_view (get_or seats 0 d)) (drop 1 seats) after
      → (k : ℕ) → 0 < k → k < after.made → (c : PastSeat) × (c.number ≡ k) × IsAmong c after.past
  covers_seats after lock seats all d behind zero above lt = absurd (omega arith)
  covers_seats after lock seats all d behind (suc k) above lt =
      let made : after.made ≡ length seats = ap (λ (v : View F). v.made) behind.view_is ∙ all.all d in
      let low : k < length (drop 1 seats) = omega (arith, length-drop 1 seats, made) in
      let there : get_or (drop 1 seats) k d ≡ get_or seats (suc k) d = get_or-drop 1 seats k d ∙ ap (λ (n : ℕ). get_or seats n d) (omega arith) in
      let seat = get_or (drop 1 seats) k d in
      let number : (seat_view seat).number ≡ suc k = seat.numbered ∙ ap (λ (x : Seat F). x.number) there ∙ (all.each (suc k) d (omega (arith, made))).1 in
      let past : behind.past ≡ after.past = sym (ap (λ (v : View F). v.past) behind.view_is) in
      (past_of (seat_view seat), number, subst (λ (cs : List PastSeat). IsAmong (past_of (seat_view seat)) cs) past (behind.each k d low))

  -- what is known once the table is taken apart
  pub closed_by : (id : ℕ) (first after : View F) (lock : TableId) (seats others : List (Seat F)) (all : AreAllSeats lock seats) (d : Seat F) (words : List ℕ) (slots : List M) (machine : M)
      → Final (Seen (KeepsTurns history footing) id after) words slots → seat_view (get_or seats 0 d) ≡ first → others ≡ drop 1 seats → AreBehind first others after → get_elem? slots 0 ≡ some machine → IsClosed history footing seats machine
  closed_by id first after lock seats others all d words slots machine end first-is others-are joined taken =
      let s = end.0 in
      let kept = end.1.0 in
      let at = end.1.1 in
      let seat = get_or seats 0 d in
      let behind : AreBehind (seat_view seat) (drop 1 seats) after = subst (λ (x : View F × List (Seat F)). AreBehind x.0 x.1 after) (λ i. (sym first-is i, others-are i)) joined in
      let number : after.number ≡ 0 = ap (λ (v : View F). v.number) behind.view_is ∙ seat.numbered ∙ (all.each 0 d all.some).1 in
      let idle : IsIdle (record (seat_view seat) { past = behind.past }) = record { unspent = seat.idle.unspent; no_ticket = seat.idle.no_ticket; no_turn = seat.idle.no_turn } in
      let held = held_at_end s kept id after at (subst (λ (v : View F). IsIdle v) (sym behind.view_is) idle) number (covers_seats after lock seats all d behind) in
      let home : get_elem? slots 0 ≡ some held.0 = end.4 0 held.0 (ap (λ (homes : List (maybe.Option M)). get_elem? homes 0) held.1.homes_are) in
      let is : held.0 ≡ machine = some-injective held.0 machine (sym home ∙ taken) in
      subst (λ (m : M). IsClosed history footing seats m) is (closed_lock s kept id after held.0 lock seats all d at behind held.1)
