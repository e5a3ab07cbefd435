-- A group's blocks that are put one after another: where the group stands after so many of them.
use Rattle.std.proofs.Common.{◌≡◌, ℕ, zero, suc, ◌+◌, ◌-◌, ◌<◌, ◌≤◌, Bool, true, false, not, ◌||◌, cond, eqb, List, [], ◌∷◌, ◌++◌, length, get_or, take, Some, None, refl, sym, ap, subst, ◌∙◌, arith, append_assoc}
use Rattle.std.specs.Prelude.{slice_index}
use Rattle.std.proofs.lemmas.List.{map-append, take_all, take_more}
use Rattle.inc_layout.specs.declared.opened.Opened.{Opened}
use Rattle.inc_model.specs.relation.State.{Digests, IsSameFile, has, is_in}
use Rattle.inc_model.specs.declared.words.event.Event.{Event}
use Rattle.inc_model.specs.declared.words.event.Window.{Window}
use Rattle.inc_model.specs.declared.words.file_state.FileState.{FileState}
use Rattle.inc_model.specs.declared.words.file_state.Stage.TheVariants.{Written}
use Rattle.inc_cell.specs.seen.Seen.{Seen, state_now}
use Rattle.inc_filling.specs.Grouped.{AllMayBeFilled, AreDistinct, PutsEach, PutsFront, group_indices, put_of, puts_among, puts_of, stored_of}
use Rattle.inc_filling.specs.Stands.{BreaksOff, MayBeFilled, PutsOne, StandsAt, put_stages, stage_among}
use Rattle.inc_filling.specs.declared.filling.Filling.{Filling}
use Rattle.inc_filling.specs.declared.stop.FillStop.{FillStop}
use Rattle.inc_filling.proofs.lemmas.ListLemmas.{distinct_last, has_last}
use Rattle.inc_filling.proofs.steps.LoopSteps.{ends_early, restaged, stands_as, stands_less}

-- ---- lists

pub slice_map : (group : List Filling) (k : ℕ) (d : Filling) → k < length group → slice_index (group_indices group) k ≡ (get_or group k d).index
slice_map [] k d lt = absurd (omega arith)
slice_map (f ∷ fs) zero d lt = refl
slice_map (f ∷ fs) (suc k) d lt = slice_map fs k d (omega arith)

take_map : (group : List Filling) (k : ℕ) → take k (group_indices group) ≡ group_indices (take k group)
take_map group zero = refl
take_map [] (suc k) = refl
take_map (f ∷ fs) (suc k) = ap (λ (l : List ℕ). f.index ∷ l) (take_map fs k)

pub length_indices : (group : List Filling) → length (group_indices group) ≡ length group
length_indices [] = refl
length_indices (f ∷ fs) = ap suc (length_indices fs)

indices_more : (group : List Filling) (k : ℕ) (d : Filling) → k < length group → take (k + 1) (group_indices group) ≡ take k (group_indices group) ++ (get_or group k d).index ∷ []
indices_more group k d lt = take_more (group_indices group) k 0 (omega (arith, length_indices group)) ∙ ap (λ (i : ℕ). take k (group_indices group) ++ i ∷ []) (slice_map group k d lt)

stored_more : (open_before : Digests) (xs : List ℕ) (i : ℕ) → stored_of open_before (xs ++ i ∷ []) ≡ cond (not (is_in i open_before)) (stored_of open_before xs ++ i ∷ []) (stored_of open_before xs)
stored_more open_before [] i = step (not (is_in i open_before))
  where
    step : (b : Bool) → cond b (i ∷ []) [] ≡ cond b ([] ++ i ∷ []) []
    step true = refl
    step false = refl
stored_more open_before (x ∷ xs) i = step (not (is_in x open_before)) (not (is_in i open_before)) (stored_more open_before xs i)
  where
    step : (a b : Bool) → stored_of open_before (xs ++ i ∷ []) ≡ cond b (stored_of open_before xs ++ i ∷ []) (stored_of open_before xs)
        → cond a (x ∷ stored_of open_before (xs ++ i ∷ [])) (stored_of open_before (xs ++ i ∷ []))
        ≡ cond b (cond a (x ∷ stored_of open_before xs) (stored_of open_before xs) ++ i ∷ []) (cond a (x ∷ stored_of open_before xs) (stored_of open_before xs))
    step true true e = ap (λ (l : List ℕ). x ∷ l) e
    step true false e = ap (λ (l : List ℕ). x ∷ l) e
    step false true e = e
    step false false e = e

-- what isn't in a list isn't in what was stored of it
pub stored_has : (open_before : Digests) (xs : List ℕ) (i : ℕ) → has i xs ≡ false → has i (stored_of open_before xs) ≡ false
stored_has open_before [] i h = refl
stored_has open_before (x ∷ xs) i h = step (not (is_in x open_before)) (eqb i x) (λ rest. stored_has open_before xs i rest) h
  where
    step : (a b : Bool) → (has i xs ≡ false → has i (stored_of open_before xs) ≡ false) → (b || has i xs) ≡ false → has i (cond a (x ∷ stored_of open_before xs) (stored_of open_before xs)) ≡ false
    step a true rest e = absurd (cc)
    step true false rest e = first (eqb i x) (or_first (eqb i x) (has i xs) h)
      where
        or_first : (c d : Bool) → (c || d) ≡ false → c ≡ false
        or_first true d t = t
        or_first false d t = refl

        first : (c : Bool) → c ≡ false → (c || has i (stored_of open_before xs)) ≡ false
        first true t = absurd (cc)
        first false t = rest e
    step false false rest e = rest e

pub may_stay : (s t : FileState) (i : ℕ) → IsSameFile s t → MayBeFilled s i → MayBeFilled t i
may_stay s t i same may =
    let within = may.within in
    let n = same.1 in
    let m = same.2 in
    record {
      within = omega arith;
      undamaged = ap (has i) same.4 ∙ may.undamaged;
      uncompressed = ap (has i) same.5 ∙ may.uncompressed;
    }

-- ---- after so many blocks

pub record PutsFirst (start : Seen) (window : Window) (left : ℕ) (events : List Event) (group : List Filling) (open_before : Digests) (k : ℕ) (stored : List ℕ) (seen : Seen) : Type 0 where
  pub stands : StandsAt start window (length group - k + left) (stage_among stored Written) (events ++ puts_of start.opened window (take k group)) seen
  pub stored_are : stored ≡ stored_of open_before (take k (group_indices group))
  pub distinct : AreDistinct stored
  pub same_map : (state_now seen).map ≡ open_before

module _ (start : Seen) (window : Window) (left : ℕ) (events : List Event) (group : List Filling) (open_before : Digests) (may : AllMayBeFilled (state_now start) (group_indices group)) (distinct : AreDistinct (group_indices group)) where
  pub put_none : (seen : Seen) → StandsAt start window (length group + left) (λ i. None) events seen → (state_now seen).map ≡ open_before → PutsFirst start window left events group open_before 0 [] seen
  put_none seen h e = record {
    stands = stands_less start window (length group + left) (length group - 0 + left) (λ i. None) (events ++ []) seen (omega arith) (stands_as start window (length group + left) (λ i. None) events (events ++ []) seen (right events) h);
    stored_are = refl;
    distinct = λ j lt. absurd (omega arith);
    same_map = e;
  }
    where
      right : (xs : List Event) → xs ≡ xs ++ []
      right [] = refl
      right (x ∷ xs) = ap (λ (rest : List Event). x ∷ rest) (right xs)

  module _ (k : ℕ) (next : Filling) (is : next ≡ get_or group k next) (lt : k < length group) (stored : List ℕ) (old : Seen) (h : PutsFirst start window left events group open_before k stored old) where
    index_is : slice_index (group_indices group) k ≡ next.index
    index_is = slice_map group k next lt ∙ ap (λ (f : Filling). f.index) (sym is)

    blocks_more : take (k + 1) group ≡ take k group ++ next ∷ []
    blocks_more = take_more group k next lt ∙ ap (λ (f : Filling). take k group ++ f ∷ []) (sym is)

    new_here : has next.index stored ≡ false
    new_here =
        let new : has next.index (take k (group_indices group)) ≡ false = subst (λ (i : ℕ). has i (take k (group_indices group)) ≡ false) index_is (distinct k (omega (arith, length_indices group))) in
        ap (has next.index) h.stored_are ∙ stored_has open_before (take k (group_indices group)) next.index new

    pub not_yet : stage_among stored Written next.index ≡ None
    not_yet = ap (λ b. cond b (Some Written) None) new_here

    pub may_next : MayBeFilled (state_now old) next.index
    may_next = may_stay (state_now start) (state_now old) next.index h.stands.taken.same (subst (λ (i : ℕ). MayBeFilled (state_now start) i) index_is (may k (omega (arith, length_indices group))))

    abbrev events_then : List Event
    events_then = (events ++ puts_of start.opened window (take k group)) ++ put_of old.opened window next ∷ []

    events_are : events_then ≡ events ++ puts_of start.opened window (take (k + 1) group)
    events_are =
        ap (λ (o : Opened). (events ++ puts_of start.opened window (take k group)) ++ put_of o window next ∷ []) h.stands.taken.opened
        ∙ append_assoc events (puts_of start.opened window (take k group)) (put_of start.opened window next ∷ [])
        ∙ ap (λ (l : List Event). events ++ l) (sym (map-append (put_of start.opened window) (take k group) (next ∷ [])) ∙ ap (puts_of start.opened window) (sym blocks_more))

    pub put_more : (put : Bool) (new : Seen) → PutsOne start window (length group - k + left - 1) next.index (stage_among stored Written) events_then old put new
        → PutsFirst start window left events group open_before (k + 1) (cond put (stored ++ next.index ∷ []) stored) new
    put_more put new p = record {
      stands = stands_less start window (length group - k + left - 1) (length group - (k + 1) + left) (stage_among (cond put (stored ++ next.index ∷ []) stored) Written) (events ++ puts_of start.opened window (take (k + 1) group)) new (omega arith)
          (stands_as start window (length group - k + left - 1) (stage_among (cond put (stored ++ next.index ∷ []) stored) Written) events_then (events ++ puts_of start.opened window (take (k + 1) group)) new events_are
          (restaged start window (length group - k + left - 1) (put_stages put next.index (stage_among stored Written)) (stage_among (cond put (stored ++ next.index ∷ []) stored) Written) events_then new (stages put) p.stands));
      stored_are = are put (p.absent ∙ ap (λ (m : Digests). not (is_in next.index m)) h.same_map);
      distinct = apart put;
      same_map = p.same_map ∙ h.same_map;
    }
      where
        apart : (b : Bool) → AreDistinct (cond b (stored ++ next.index ∷ []) stored)
        apart true = distinct_last stored next.index h.distinct new_here
        apart false = h.distinct

        stages : (b : Bool) (i : ℕ) → put_stages b next.index (stage_among stored Written) i ≡ stage_among (cond b (stored ++ next.index ∷ []) stored) Written i
        stages true i = step (eqb i next.index) (has i stored) ∙ ap (λ b. cond b (Some Written) None) (sym (has_last i next.index stored))
          where
            step : (a b : Bool) → cond a (Some Written) (cond b (Some Written) None) ≡ cond (b || a) (Some Written) None
            step true true = refl
            step true false = refl
            step false true = refl
            step false false = refl
        stages false i = refl

        whole : stored_of open_before (take (k + 1) (group_indices group)) ≡ cond (not (is_in next.index open_before)) (stored ++ next.index ∷ []) stored
        whole =
            ap (stored_of open_before) (indices_more group k next lt ∙ ap (λ (f : Filling). take k (group_indices group) ++ f.index ∷ []) (sym is)) ∙ stored_more open_before (take k (group_indices group)) next.index
            ∙ ap (λ (l : List ℕ). cond (not (is_in next.index open_before)) (l ++ next.index ∷ []) l) (sym h.stored_are)

        are : (b : Bool) → b ≡ not (is_in next.index open_before) → cond b (stored ++ next.index ∷ []) stored ≡ stored_of open_before (take (k + 1) (group_indices group))
        are b e = ap (λ c. cond c (stored ++ next.index ∷ []) stored) e ∙ sym whole

    pub put_broke : (stop : FillStop) (new : Seen) → BreaksOff start window (length group - k + left - 1) events_then stop new → PutsFront start window left events group stop new
    put_broke stop new b = record {
      count = k + 1;
      within = omega arith;
      ends = ends_early start window (length group - k + left - 1) left events_then (puts_among (events ++ puts_of start.opened window (take (k + 1) group))) stop new (omega arith) (ap puts_among events_are) b;
    }

  pub put_all : (k : ℕ) (stored : List ℕ) (seen : Seen) → length group ≤ k → PutsFirst start window left events group open_before k stored seen → PutsEach start window left events group open_before stored seen
  put_all k stored seen le h = record {
    stands = stands_less start window (length group - k + left) left (stage_among stored Written) (events ++ puts_of start.opened window group) seen (omega arith)
        (subst (λ (l : List Filling). StandsAt start window (length group - k + left) (stage_among stored Written) (events ++ puts_of start.opened window l) seen) (take_all k group le) h.stands);
    stored_are = h.stored_are ∙ ap (stored_of open_before) (take_all k (group_indices group) (omega (arith, length_indices group)));
    distinct = h.distinct;
    same_map = h.same_map;
  }
