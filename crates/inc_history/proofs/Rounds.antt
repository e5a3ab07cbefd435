-- A run, entry by entry and round by round.
use Rattle.std.proofs.Common.{◌≡◌, ℕ, zero, suc, ◌+◌, ◌<◌, ◌≤◌, true, List, [], ◌∷◌, ◌++◌, length, get_or, take, drop, refl, sym, ap, subst, ◌∙◌, arith, append-nil, append_assoc}
use Rattle.std.proofs.lemmas.List.{take_all, take-append-drop, take-append-le, drop-append-le, length-append, length-take, length-drop}
use Rattle.std.proofs.lemmas.List.Elements.{All-nil}
use Rattle.inc_tree.specs.shape.Geometry.{tree_of, data_blocks, hash_blocks}
use Rattle.inc_tree.proofs.LevelLemmas.{hash_small}
use Rattle.inc_pending.specs.declared.reads.ReadRow.{ReadRow}
use Rattle.inc_history.specs.declared.world.TheConstants.{FRESH_SIZE}
use Rattle.inc_model.specs.declared.words.file_state.FileState.{FileState}
use Rattle.inc_model.specs.declared.words.file_state.FlightRow.{FlightRow}
use Rattle.inc_model.specs.declared.words.reply.Entry.{Entry}
use Rattle.inc_history.specs.declared.world.Round.{Round}
use Rattle.inc_model.specs.relation.Step.{IsEntry, IsLegal, after_entry, state_after}
use Rattle.inc_model.specs.histories.Worlds.{Moment, IsWorld, beginning, moves_of, world_after}
use Rattle.inc_model.specs.executed.CoreFacts.{IsHeld}
use Rattle.inc_history.specs.Runs.{RunsTo, fresh_state, all_entries}
use Rattle.inc_model.proofs.facts_kept.Core.{held_after}
use Rattle.inc_model.proofs.lists.Sets.{pairs_none}
use Rattle.inc_model.proofs.runs.Worlds.{history_world, world_end}
use Rattle.inc_model.proofs.runs.Histories.{both_legal, after_both, after_one}

-- ---- entry by entry

pub record RanSo (at : ℕ) (start : FileState) (entries : List Entry) (done : ℕ) (now : FileState) : Type 0 where
  pub legal : IsLegal at true start (take done entries)
  pub after : now ≡ state_after at start (take done entries)
  pub held : IsHeld (at + done) now

pub ran_none : (at : ℕ) (start : FileState) (entries : List Entry) → IsHeld at start → RanSo at start entries 0 start
ran_none at start entries held = record { legal = tt; after = refl; held = subst (λ k. IsHeld k start) (omega arith) held }

module _ {X : Type 0} where
  take_next : (xs : List X) (i : ℕ) (x : X) → i < length xs → x ≡ get_or xs i x → take (suc i) xs ≡ take i xs ++ x ∷ []
  take_next [] i x lt is = absurd (omega arith)
  take_next (first ∷ rest) zero x lt is = ap (λ (e : X). e ∷ []) (sym is)
  take_next (first ∷ rest) (suc i) x lt is = ap (λ (xs : List X). first ∷ xs) (take_next rest i x (omega arith) is)

  take_one : (xs : List X) (i : ℕ) (x : X) → i < length xs → x ≡ get_or xs i x → take (i + 1) xs ≡ take i xs ++ x ∷ []
  take_one xs i x lt is = let e : i + 1 ≡ suc i = omega arith in ap (λ n. take n xs) e ∙ take_next xs i x lt is

  -- a list between two others, cut within it
  cut_take : (before xs rest : List X) (n k : ℕ) → n ≤ length xs → k ≡ length before + n → take k (before ++ (xs ++ rest)) ≡ before ++ take n xs
  cut_take [] xs rest n k le e = ap (λ m. take m (xs ++ rest)) (omega arith) ∙ take-append-le n xs rest le
  cut_take (x ∷ before) xs rest n zero le e = absurd (omega arith)
  cut_take (x ∷ before) xs rest n (suc k) le e = ap (λ (l : List X). x ∷ l) (cut_take before xs rest n k le (omega arith))

  cut_drop : (before xs rest : List X) (n k : ℕ) → n ≤ length xs → k ≡ length before + n → drop k (before ++ (xs ++ rest)) ≡ drop n xs ++ rest
  cut_drop [] xs rest n k le e = ap (λ m. drop m (xs ++ rest)) (omega arith) ∙ drop-append-le n xs rest le
  cut_drop (x ∷ before) xs rest n zero le e = absurd (omega arith)
  cut_drop (x ∷ before) xs rest n (suc k) le e = cut_drop before xs rest n k le (omega arith)

pub ran_more : (at : ℕ) (start : FileState) (entries : List Entry) (i : ℕ) (now new : FileState) (entry : Entry) → i < length entries → entry ≡ get_or entries i entry → RanSo at start entries i now → IsEntry (at + i) true now entry → new ≡ after_entry (at + i) now entry → RanSo at start entries (i + 1) new
ran_more at start entries i now new entry lt is ran step new-is =
    let front = take i entries in
    let len : length front ≡ i = omega (arith, length-take i entries) in
    let more = take_one entries i entry lt is in
    let so : IsEntry (at + length front) true (state_after at start front) entry = subst (λ k. IsEntry (at + k) true (state_after at start front) entry) (sym len) (subst (λ (s : FileState). IsEntry (at + i) true s entry) ran.after step) in
    let held = held_after true (at + i) now entry.who entry.event entry.reply step.allowed ran.held in
    record {
      legal = subst (λ (l : List Entry). IsLegal at true start l) (sym more) (both_legal start true at front (entry ∷ []) ran.legal (so, tt));
      after =
          new-is
          ∙ ap (λ (s : FileState). after_entry (at + i) s entry) ran.after
          ∙ ap (λ k. after_entry (at + k) (state_after at start front) entry) (sym len)
          ∙ sym (after_one start at front entry)
          ∙ ap (λ (l : List Entry). state_after at start l) (sym more);
      held = subst (λ (s : FileState). IsHeld (at + (i + 1)) s) (sym new-is) (subst (λ k. IsHeld k (after_entry (at + i) now entry)) (omega arith) held);
    }

-- ---- a run that stops between others

module _ (s : FileState) (before : List Entry) (now new : FileState) (es rest : List Entry) (taken : ℕ) (front : IsLegal 0 true s before) (is : now ≡ state_after 0 s before) (runs : RunsTo (length before) now es taken new) where
  joined_legal : IsLegal 0 true s (before ++ take taken es)
  joined_legal =
      let from : IsLegal (length before) true (state_after 0 s before) (take taken es) = subst (λ (t : FileState). IsLegal (length before) true t (take taken es)) is runs.legal in
      both_legal s true 0 before (take taken es) front (subst (λ k. IsLegal k true (state_after 0 s before) (take taken es)) (omega arith) from)

  joined_after : new ≡ state_after 0 s (before ++ take taken es)
  joined_after =
      runs.after
      ∙ ap (λ (t : FileState). state_after (length before) t (take taken es)) is
      ∙ ap (λ k. state_after k (state_after 0 s before) (take taken es)) (omega arith)
      ∙ sym (after_both s 0 before (take taken es))

  pub runs_join : taken < length es → RunsTo 0 s (before ++ (es ++ rest)) (length before + taken) new
  runs_join lt =
      let cut = cut_take before es rest taken (length before + taken) runs.within refl in
      record {
        within = omega (arith, length-append before (es ++ rest), length-append es rest);
        legal = subst (λ (l : List Entry). IsLegal 0 true s l) (sym cut) joined_legal;
        after = joined_after ∙ ap (λ (l : List Entry). state_after 0 s l) (sym cut);
        stops = λ entry later e step. stop (drop taken es) refl entry later (sym (cut_drop before es rest taken (length before + taken) runs.within refl) ∙ e) (omega (arith, length-drop taken es)) (subst (λ k. IsEntry k true new entry) (omega arith) step);
      }
    where
      stop : (l : List Entry) → drop taken es ≡ l → (entry : Entry) (later : List Entry) → l ++ rest ≡ entry ∷ later → 0 < length l → IsEntry (length before + taken) true new entry → ⊥
      stop [] is-l entry later e some step = absurd (omega arith)
      stop (first ∷ more) is-l entry later e some step = let same : first ≡ entry = cc in runs.stops first more is-l (subst (λ (x : Entry). IsEntry (length before + taken) true new x) (sym same) step)

-- ---- rounds

pub record RanRounds (rounds : List Round) (i done : ℕ) (now : FileState) : Type 0 where
  pub count : done ≡ length (all_entries (take i rounds))
  pub legal : IsLegal 0 true fresh_state (all_entries (take i rounds))
  pub after : now ≡ state_after 0 fresh_state (all_entries (take i rounds))
  pub held : IsHeld done now

pub fresh_held : IsHeld 0 fresh_state
unfolding fresh_state
fresh_held = record {
  small = omega arith;
  total = omega (arith, hash_small (tree_of FRESH_SIZE) (omega arith));
  rising = pairs_none (λ (a b : ReadRow). a.serial < b.serial);
  within = All-nil (λ (r : ReadRow). r.block < data_blocks (tree_of FRESH_SIZE));
  below = All-nil (λ (r : ReadRow). r.serial < 1);
  waiting = omega arith;
  serials = omega arith;
  there = omega arith;
  limit = omega arith;
  damaged_rises = pairs_none (λ (a b : ℕ). a < b);
  compressed_rises = pairs_none (λ (a b : ℕ). a < b);
  flying = All-nil (λ (r : FlightRow). r.index < data_blocks (tree_of FRESH_SIZE) + hash_blocks (tree_of FRESH_SIZE));
}

pub rounds_none : (rounds : List Round) → RanRounds rounds 0 0 fresh_state
rounds_none rounds = record { count = refl; legal = tt; after = refl; held = fresh_held }

all_both : (a b : List Round) → all_entries (a ++ b) ≡ all_entries a ++ all_entries b
all_both [] b = refl
all_both (round ∷ a) b = ap (λ (l : List Entry). round.entries ++ l) (all_both a b) ∙ sym (append_assoc round.entries (all_entries a) (all_entries b))

all_next : (rounds : List Round) (i : ℕ) (round : Round) → i < length rounds → round ≡ get_or rounds i round → all_entries (take (i + 1) rounds) ≡ all_entries (take i rounds) ++ round.entries
all_next rounds i round lt is =
    ap (λ (l : List Round). all_entries l) (take_one rounds i round lt is)
    ∙ all_both (take i rounds) (round ∷ [])
    ∙ ap (λ (l : List Entry). all_entries (take i rounds) ++ l) (append-nil round.entries)

all_cut : (rounds : List Round) (i : ℕ) (round : Round) → i < length rounds → round ≡ get_or rounds i round → all_entries rounds ≡ all_entries (take i rounds) ++ (round.entries ++ all_entries (drop (i + 1) rounds))
all_cut rounds i round lt is =
    ap (λ (l : List Round). all_entries l) (sym (take-append-drop (i + 1) rounds))
    ∙ all_both (take (i + 1) rounds) (drop (i + 1) rounds)
    ∙ ap (λ (l : List Entry). l ++ all_entries (drop (i + 1) rounds)) (all_next rounds i round lt is)
    ∙ append_assoc (all_entries (take i rounds)) round.entries (all_entries (drop (i + 1) rounds))

module _ (rounds : List Round) (i done : ℕ) (now new : FileState) (round : Round) (taken : ℕ) (lt : i < length rounds) (is : round ≡ get_or rounds i round) (ran : RanRounds rounds i done now) (runs : RunsTo done now round.entries taken new) where
  from_before : RunsTo (length (all_entries (take i rounds))) now round.entries taken new
  from_before = subst (λ k. RunsTo k now round.entries taken new) ran.count runs

  pub rounds_stop : taken < length round.entries → RunsTo 0 fresh_state (all_entries rounds) (done + taken) new
  rounds_stop short =
      subst (λ (l : List Entry). RunsTo 0 fresh_state l (done + taken) new) (sym (all_cut rounds i round lt is))
      (subst (λ k. RunsTo 0 fresh_state (all_entries (take i rounds) ++ (round.entries ++ all_entries (drop (i + 1) rounds))) (k + taken) new) (sym ran.count)
      (runs_join fresh_state (all_entries (take i rounds)) now new round.entries (all_entries (drop (i + 1) rounds)) taken ran.legal ran.after from_before short))

  pub rounds_more : IsHeld (done + taken) new → length round.entries ≤ taken → RanRounds rounds (i + 1) (done + taken) new
  rounds_more held long =
      let before = all_entries (take i rounds) in
      let next = all_next rounds i round lt is in
      let whole : take taken round.entries ≡ round.entries = take_all taken round.entries long in
      let join : before ++ take taken round.entries ≡ all_entries (take (i + 1) rounds) = ap (λ (l : List Entry). before ++ l) whole ∙ sym next in
      record {
        count = let within = runs.within in let e = ap (λ (l : List Entry). length l) next in let so_far = ran.count in omega (arith, length-append before round.entries);
        legal = subst (λ (l : List Entry). IsLegal 0 true fresh_state l) join (joined_legal fresh_state before now new round.entries [] taken ran.legal ran.after from_before);
        after = joined_after fresh_state before now new round.entries [] taken ran.legal ran.after from_before ∙ ap (λ (l : List Entry). state_after 0 fresh_state l) join;
        held = held;
      }

pub rounds_end : (rounds : List Round) (i done : ℕ) (now : FileState) → length rounds ≤ i → RanRounds rounds i done now → RunsTo 0 fresh_state (all_entries rounds) done now
rounds_end rounds i done now le ran =
    let all : all_entries (take i rounds) ≡ all_entries rounds = ap (λ (l : List Round). all_entries l) (take_all i rounds le) in
    let len : done ≡ length (all_entries rounds) = ran.count ∙ ap (λ (l : List Entry). length l) all in
    let whole : take done (all_entries rounds) ≡ all_entries rounds = take_all done (all_entries rounds) (omega arith) in
    let same : all_entries (take i rounds) ≡ take done (all_entries rounds) = all ∙ sym whole in
    record {
      within = omega arith;
      legal = subst (λ (l : List Entry). IsLegal 0 true fresh_state l) same ran.legal;
      after = ran.after ∙ ap (λ (l : List Entry). state_after 0 fresh_state l) same;
      stops = λ entry rest e step. let n = ap (λ (l : List Entry). length l) e in absurd (omega (arith, length-drop done (all_entries rounds)));
    }

-- ---- a run without a crash is one of those with crashes

pub runs_world : (s : FileState) (entries : List Entry) (done : ℕ) (end : FileState) → RunsTo 0 s entries done end → IsWorld true (beginning s) (moves_of (take done entries))
runs_world s entries done end runs = history_world true (beginning s) (take done entries) runs.legal

pub runs_end : (s : FileState) (entries : List Entry) (done : ℕ) (end : FileState) → RunsTo 0 s entries done end → (world_after (beginning s) (moves_of (take done entries))).state ≡ end
runs_end s entries done end runs = ap (λ (m : Moment). m.state) (world_end (beginning s) (take done entries)) ∙ sym runs.after
