-- A group's blocks that are put one after another: where the fill stands after so many of them, and what became of each.
use Rattle.std.proofs.Common.{◌≡◌, ℕ, zero, suc, ◌+◌, ◌-◌, ◌<◌, ◌≤◌, Bool, true, false, ◌||◌, cond, eqb, List, [], ◌∷◌, ◌++◌, length, get_or, take, Some, None, refl, sym, ap, subst, ◌∙◌, arith, append_assoc, append-nil, length-append}
use Rattle.std.specs.Prelude.{slice_index}
use Rattle.std.proofs.lemmas.List.{map-append, take_all, take_more}
use Rattle.inc_model.specs.relation.State.{has}
use Rattle.inc_model.specs.declared.words.event.Event.{Event}
use Rattle.inc_model.specs.declared.words.event.Window.{Window}
use Rattle.inc_model.specs.declared.words.file_state.Stage.TheVariants.{Written}
use Rattle.inc_model.specs.declared.words.reply.Entry.{Entry}
use Rattle.inc_model.specs.declared.words.reply.Reply.{Reply}
use Rattle.inc_turn.specs.Turns.{AddsOwn}
use Rattle.inc_turn.specs.Views.{heard}
use Rattle.inc_turn.specs.declared.view.View.{View}
use Rattle.inc_cell.specs.declared.machine.CellFooting.{CellFooting}
use Rattle.inc_filling.specs.Grouped.{AreDistinct, group_indices, put_of, puts_of}
use Rattle.inc_filling.specs.Stands.{MayBeFilled, put_stages, stage_among}
use Rattle.inc_filling.specs.declared.filling.Filling.{Filling}
use Rattle.inc_filling.specs.declared.stop.FillStop.{FillStop}
use Rattle.inc_filling.proofs.lemmas.ListLemmas.{distinct_last, has_last}
use Rattle.inc_filling.proofs.steps.PutLoop.{length_indices, slice_map}
use Rattle.inc_handle.specs.UnderWay.{EachEnds, EndIs, FillRuns, FillStops, HasOwnEntry, PutsAll, PutsFirst, PutsOwnBlock, PutsSome, is_stored, stored_among}
use Rattle.inc_handle.specs.Standing.{AllMayFill, MayFill}
use Rattle.inc_handle.specs.declared.fill.window.PutEnd.{PutEnd}
use Rattle.inc_handle.specs.declared.fill.window.PutEnd.TheVariants.{Busy, Present, Stored}
use Rattle.inc_handle.proofs.fills.Loops.{runs_as, stops_as}
use Rattle.inc_handle.proofs.fills.Puts.{heard_grew}

-- ---- what became of each, as the history goes on

own_later : (history rest : List Entry) (from who : ℕ) (event : Event) (given : Reply) (at : ℕ) → HasOwnEntry history from who event given at → HasOwnEntry (history ++ rest) from who event given at
own_later history rest from who event given at h = record {
  later = h.later;
  here = record {
    before = h.here.before;
    after = h.here.after ++ rest;
    cut = ap (λ (es : List Entry). es ++ rest) h.here.cut ∙ append_assoc h.here.before (record { who = who; event = event; reply = given } ∷ h.here.after) rest;
    place = h.here.place;
  };
}

end_later : (history rest : List Entry) (from who : ℕ) (event : Event) (end : PutEnd) → EndIs history from who event end → EndIs (history ++ rest) from who event end
end_later history rest from who event Stored h = (h.0, h.1, h.2, own_later history rest from who event _ h.0 h.3)
end_later history rest from who event (Present at) h = own_later history rest from who event _ at h
end_later history rest from who event (Busy window at) h = own_later history rest from who event _ at h

pub each_later : (history rest : List Entry) (from who : ℕ) (events : List Event) (ends : List PutEnd) → EachEnds history from who events ends → EachEnds (history ++ rest) from who events ends
each_later history rest from who [] [] h = tt
each_later history rest from who [] (end ∷ ends) h = absurd h
each_later history rest from who (event ∷ events) [] h = absurd h
each_later history rest from who (event ∷ events) (end ∷ ends) h = (end_later history rest from who event end h.0, each_later history rest from who events ends h.1)

each_more : (history : List Entry) (from who : ℕ) (events : List Event) (ends : List PutEnd) (event : Event) (end : PutEnd) → EachEnds history from who events ends → EndIs history from who event end → EachEnds history from who (events ++ event ∷ []) (ends ++ end ∷ [])
each_more history from who [] [] event end h last = (last, tt)
each_more history from who [] (x ∷ xs) event end h last = absurd h
each_more history from who (e ∷ es) [] event end h last = absurd h
each_more history from who (e ∷ es) (x ∷ xs) event end h last = (h.0, each_more history from who es xs event end h.1 last)

-- by what the seat has added since
pub each_since : (v w : View CellFooting) (mine : List Entry) (from who : ℕ) (events : List Event) (ends : List PutEnd) → AddsOwn v w mine → EachEnds (heard v) from who events ends → EachEnds (heard w) from who events ends
each_since v w mine from who events ends adds h =
    let grew = heard_grew v w mine adds in
    subst (λ (history : List Entry). EachEnds history from who events ends) (sym grew.1) (each_later (heard v) grew.0 from who events ends h)

-- ---- the indices that were stored

stored_more : (indices : List ℕ) (ends : List PutEnd) (index : ℕ) (end : PutEnd) → length indices ≡ length ends → stored_among (indices ++ index ∷ []) (ends ++ end ∷ []) ≡ cond (is_stored end) (stored_among indices ends ++ index ∷ []) (stored_among indices ends)
stored_more [] [] index end e = refl
stored_more [] (x ∷ xs) index end e = absurd (omega arith)
stored_more (i ∷ is) [] index end e = absurd (omega arith)
stored_more (i ∷ is) (x ∷ xs) index end e = step (is_stored x) (is_stored end) (stored_more is xs index end (omega arith))
  where
    step : (a b : Bool) → stored_among (is ++ index ∷ []) (xs ++ end ∷ []) ≡ cond b (stored_among is xs ++ index ∷ []) (stored_among is xs)
        → cond a (i ∷ stored_among (is ++ index ∷ []) (xs ++ end ∷ [])) (stored_among (is ++ index ∷ []) (xs ++ end ∷ []))
        ≡ cond b (cond a (i ∷ stored_among is xs) (stored_among is xs) ++ index ∷ []) (cond a (i ∷ stored_among is xs) (stored_among is xs))
    step true true h = ap (λ (l : List ℕ). i ∷ l) h
    step true false h = ap (λ (l : List ℕ). i ∷ l) h
    step false true h = h
    step false false h = h

or_parts : (a b : Bool) → (a || b) ≡ false → (a ≡ false) × (b ≡ false)
or_parts true b e = absurd (cc)
or_parts false b e = (refl, e)

stored_has : (i : ℕ) (indices : List ℕ) (ends : List PutEnd) → has i indices ≡ false → has i (stored_among indices ends) ≡ false
stored_has i [] ends h = refl
stored_has i (x ∷ xs) [] h = refl
stored_has i (x ∷ xs) (end ∷ ends) h = let both = or_parts (eqb i x) (has i xs) h in step (is_stored end) both.0 (stored_has i xs ends both.1)
  where
    step : (a : Bool) → eqb i x ≡ false → has i (stored_among xs ends) ≡ false → has i (cond a (x ∷ stored_among xs ends) (stored_among xs ends)) ≡ false
    step true first rest = ap (λ b. b || has i (stored_among xs ends)) first ∙ rest
    step false first rest = rest

take_indices : (k : ℕ) (group : List Filling) → k ≤ length group → length (take k (group_indices group)) ≡ k
take_indices zero group le = refl
take_indices (suc k) [] le = absurd (omega arith)
take_indices (suc k) (f ∷ fs) le = ap suc (take_indices k fs (omega arith))

-- ---- after so many blocks

module _ (file : CellFooting) (start : View CellFooting) (window : Window) (left : ℕ) (events : List Event) (group : List Filling) (may : AllMayFill file.opened (group_indices group)) (distinct : AreDistinct (group_indices group)) where
  pub put_none : (v : View CellFooting) → FillRuns file start window (length group + left) (λ i. None) events v → PutsFirst file start window left events group 0 [] [] v
  put_none v h = record {
    runs = runs_as file start window (length group + left) (length group - 0 + left) (λ i. None) (stage_among [] Written) events (events ++ []) v (omega arith) (λ i. refl) (sym (append-nil events)) h;
    count = refl;
    each = tt;
    stored_are = refl;
    distinct = λ j lt. absurd (omega arith);
  }

  module _ (k : ℕ) (next : Filling) (is : next ≡ get_or group k next) (lt : k < length group) (ends : List PutEnd) (stored : List ℕ) (v : View CellFooting) (f : PutsFirst file start window left events group k ends stored v) where
    index_is : slice_index (group_indices group) k ≡ next.index
    index_is = slice_map group k next lt ∙ ap (λ (filling : Filling). filling.index) (sym is)

    pub may_next : MayFill file.opened next.index
    may_next = λ s of. subst (λ (i : ℕ). MayBeFilled s i) index_is (may s of k (omega (arith, length_indices group)))

    blocks_more : take (k + 1) group ≡ take k group ++ next ∷ []
    blocks_more = take_more group k next lt ∙ ap (λ (filling : Filling). take k group ++ filling ∷ []) (sym is)

    puts_more : puts_of file.opened window (take k group) ++ put_of file.opened window next ∷ [] ≡ puts_of file.opened window (take (k + 1) group)
    puts_more = sym (map-append (put_of file.opened window) (take k group) (next ∷ [])) ∙ ap (puts_of file.opened window) (sym blocks_more)

    events_more : (events ++ puts_of file.opened window (take k group)) ++ put_of file.opened window next ∷ [] ≡ events ++ puts_of file.opened window (take (k + 1) group)
    events_more = append_assoc events (puts_of file.opened window (take k group)) (put_of file.opened window next ∷ []) ∙ ap (λ (es : List Event). events ++ es) puts_more

    indices_more : take (k + 1) (group_indices group) ≡ take k (group_indices group) ++ next.index ∷ []
    indices_more = take_more (group_indices group) k 0 (omega (arith, length_indices group)) ∙ ap (λ (i : ℕ). take k (group_indices group) ++ i ∷ []) index_is

    new_here : has next.index stored ≡ false
    new_here =
        let new : has next.index (take k (group_indices group)) ≡ false = subst (λ (i : ℕ). has i (take k (group_indices group)) ≡ false) index_is (distinct k (omega (arith, length_indices group))) in
        ap (has next.index) f.stored_are ∙ stored_has next.index (take k (group_indices group)) ends new

    module _ (end : PutEnd) (w : View CellFooting) (mine : List Entry) (adds : AddsOwn v w mine)
        (put : PutsOwnBlock file start window (length group - k + left - 1) (stage_among stored Written) (events ++ puts_of file.opened window (take k group)) (put_of file.opened window next) next.index end w) where
      each_then : EachEnds (heard w) (length (heard start)) window.who (puts_of file.opened window (take (k + 1) group)) (ends ++ end ∷ [])
      each_then =
          subst (λ (es : List Event). EachEnds (heard w) (length (heard start)) window.who es (ends ++ end ∷ [])) puts_more
          (each_more (heard w) (length (heard start)) window.who (puts_of file.opened window (take k group)) ends (put_of file.opened window next) end
          (each_since v w mine (length (heard start)) window.who (puts_of file.opened window (take k group)) ends adds f.each) put.end_is)

      stored_then : stored_among (take (k + 1) (group_indices group)) (ends ++ end ∷ []) ≡ cond (is_stored end) (stored ++ next.index ∷ []) stored
      stored_then =
          ap (λ (l : List ℕ). stored_among l (ends ++ end ∷ [])) indices_more
          ∙ stored_more (take k (group_indices group)) ends next.index end (take_indices k group (omega arith) ∙ sym f.count)
          ∙ ap (λ (l : List ℕ). cond (is_stored end) (l ++ next.index ∷ []) l) (sym f.stored_are)

      runs_then : (then : List ℕ) → ((i : ℕ) → put_stages (is_stored end) next.index (stage_among stored Written) i ≡ stage_among then Written i)
          → FillRuns file start window (length group - (k + 1) + left) (stage_among then Written) (events ++ puts_of file.opened window (take (k + 1) group)) w
      runs_then then same =
          runs_as file start window (length group - k + left - 1) (length group - (k + 1) + left) (put_stages (is_stored end) next.index (stage_among stored Written)) (stage_among then Written)
          ((events ++ puts_of file.opened window (take k group)) ++ put_of file.opened window next ∷ []) (events ++ puts_of file.opened window (take (k + 1) group)) w (omega arith) same events_more put.runs

      -- a block that was stored
      pub put_stored : is_stored end ≡ true → PutsFirst file start window left events group (k + 1) (ends ++ end ∷ []) (stored ++ next.index ∷ []) w
      put_stored e = record {
        runs = runs_then (stored ++ next.index ∷ []) (λ i. ap (λ b. put_stages b next.index (stage_among stored Written) i) e ∙ step (eqb i next.index) (has i stored) ∙ ap (λ b. cond b (Some Written) None) (sym (has_last i next.index stored)));
        count = length-append ends (end ∷ []) ∙ ap (λ (n : ℕ). n + 1) f.count;
        each = each_then;
        stored_are = sym (stored_then ∙ ap (λ b. cond b (stored ++ next.index ∷ []) stored) e);
        distinct = distinct_last stored next.index f.distinct new_here;
      }
        where
          step : (b c : Bool) → cond b (Some Written) (cond c (Some Written) None) ≡ cond (c || b) (Some Written) None
          step true true = refl
          step true false = refl
          step false true = refl
          step false false = refl

      -- one that wasn't
      pub put_other : is_stored end ≡ false → PutsFirst file start window left events group (k + 1) (ends ++ end ∷ []) stored w
      put_other e = record {
        runs = runs_then stored (λ i. ap (λ b. put_stages b next.index (stage_among stored Written) i) e);
        count = length-append ends (end ∷ []) ∙ ap (λ (n : ℕ). n + 1) f.count;
        each = each_then;
        stored_are = sym (stored_then ∙ ap (λ b. cond b (stored ++ next.index ∷ []) stored) e);
        distinct = f.distinct;
      }

      pub put_more : PutsFirst file start window left events group (k + 1) (ends ++ end ∷ []) (cond (is_stored end) (stored ++ next.index ∷ []) stored) w
      put_more = step (is_stored end) refl
        where
          step : (b : Bool) → is_stored end ≡ b → PutsFirst file start window left events group (k + 1) (ends ++ end ∷ []) (cond b (stored ++ next.index ∷ []) stored) w
          step true e = put_stored e
          step false e = put_other e

    -- a put that breaks off
    pub put_broke : (stop : FillStop) (w : View CellFooting) (mine : List Entry) → AddsOwn v w mine
        → FillStops file start window (length group - k + left - 1) ((events ++ puts_of file.opened window (take k group)) ++ put_of file.opened window next ∷ []) stop w → PutsSome file start window left events group ends stored stop w
    put_broke stop w mine adds h = record {
      within = let n = f.count in omega arith;
      stops = stops_as file start window (length group - k + left - 1) left ((events ++ puts_of file.opened window (take k group)) ++ put_of file.opened window next ∷ []) (events ++ puts_of file.opened window (take (length ends + 1) group)) stop w (omega arith)
          (events_more ∙ ap (λ (n : ℕ). events ++ puts_of file.opened window (take (n + 1) group)) (sym f.count)) h;
      each = subst (λ (n : ℕ). EachEnds (heard w) (length (heard start)) window.who (puts_of file.opened window (take n group)) ends) (sym f.count)
          (each_since v w mine (length (heard start)) window.who (puts_of file.opened window (take k group)) ends adds f.each);
      stored_are = f.stored_are ∙ ap (λ (n : ℕ). stored_among (take n (group_indices group)) ends) (sym f.count);
    }

  -- all of them
  pub put_all : (k : ℕ) (ends : List PutEnd) (stored : List ℕ) (v : View CellFooting) → k ≡ length group → PutsFirst file start window left events group k ends stored v → PutsAll file start window left events group ends stored v
  put_all k ends stored v e f =
      let whole : take k group ≡ group = take_all k group (omega arith) in
      let indices : take k (group_indices group) ≡ group_indices group = take_all k (group_indices group) (omega (arith, length_indices group)) in
      record {
        runs = runs_as file start window (length group - k + left) left (stage_among stored Written) (stage_among stored Written) (events ++ puts_of file.opened window (take k group)) (events ++ puts_of file.opened window group) v (omega arith) (λ i. refl)
            (ap (λ (l : List Filling). events ++ puts_of file.opened window l) whole) f.runs;
        each = subst (λ (l : List Filling). EachEnds (heard v) (length (heard start)) window.who (puts_of file.opened window l) ends) whole f.each;
        count = f.count ∙ e;
        stored_are = f.stored_are ∙ ap (λ (l : List ℕ). stored_among l ends) indices;
        distinct = f.distinct;
      }
