-- A poll in a state with the facts, and what a reply says of the state before it.
use Rattle.std.proofs.Common.{◌≡◌, ℕ, zero, suc, ◌+◌, ◌<◌, ◌≤◌, Bool, true, false, cond, leb, List, [], ◌∷◌, ◌++◌, Option, Some, None, refl, sym, ap, subst, ◌∙◌, arith, inl, inr}
use Rattle.std.specs.Prelude.{All, find, count_by}
use Rattle.std.proofs.lemmas.Bool.{cases_lt, leb-true, le-leb, lt-leb, ne_eqb}
use Rattle.std.proofs.lemmas.List.Elements.{All-head, All-tail}
use Rattle.inc_pending.specs.Keyed.{lookup, insert}
use Rattle.inc_pending.specs.Polling.{is_asked, read_of, decision_of, decision, waits_on}
use Rattle.inc_pending.specs.declared.reads.ReadRow.{ReadRow}
use Rattle.inc_pending.specs.declared.reads.Decision.TheVariants.{Hand, TimedOut as late_decision, NotYet as waiting_decision}
use Rattle.inc_model.specs.declared.words.event.Event.TheVariants.{Poll, Gate}
use Rattle.inc_model.specs.declared.words.event.Window.{Window}
use Rattle.inc_model.specs.declared.words.file_state.FileState.{FileState}
use Rattle.inc_model.specs.declared.words.reply.Reply.TheVariants.{NoPath, Handed, TimedOut, NotYet, Gated}
use Rattle.inc_model.specs.relation.State.{Digests, is_in, flight_row}
use Rattle.inc_model.specs.relation.Stages.{is_at, is_settled}
use Rattle.inc_model.specs.relation.Polling.{levels_over, hash_on_path, is_hash_there, IsLowestAbsent, IsPathThere, absent_from, absent_hash, hand_reply, decided_reply, poll_reply}
use Rattle.inc_model.specs.relation.Changes.{change, opens, gate_change}
use Rattle.inc_model.specs.relation.Facts.{FileFacts}
use Rattle.inc_model.specs.laws.WorldLaws.{IsAskedRead, IsLate, Completes}
use Rattle.inc_model.specs.histories.Worlds.{Moment, Move, Does, beginning, world_after, IsWorld}
use Rattle.inc_model.proofs.facts_kept.Fill.{AtStage, at_stage, gated_by}
use Rattle.inc_model.proofs.runs.Worlds.{world_facts, world_front, world_rest, world_both}
use Rattle.inc_model.proofs.lists.Sets.{lookup_new, lookup_other}
use Rattle.inc_model.proofs.facts_kept.Gate.{gate_absent}

-- ---- a path whose hash blocks are there up to one

module _ (n m : ℕ) (digests : Digests) (block : ℕ) where
  from_path : (left level : ℕ) → ((below : ℕ) → level ≤ below → below < level + left → is_hash_there n m digests block below ≡ true) → absent_from n m digests block left level ≡ None
  unfolding absent_from
  from_path zero level h = refl
  from_path (suc left) level h = rw (h level (omega arith) (omega arith)) (from_path left (level + 1) (λ below low high. h below (omega arith) (omega arith)))

  from_lowest : (left level at : ℕ) → level ≤ at → at < level + left → is_hash_there n m digests block at ≡ false → ((below : ℕ) → level ≤ below → below < at → is_hash_there n m digests block below ≡ true)
      → absent_from n m digests block left level ≡ Some (hash_on_path n m block at)
  unfolding absent_from
  from_lowest zero level at low high absent h = absurd (omega arith)
  from_lowest (suc left) level at low high absent h = elim (cases_lt level at) [
    | inl lt ↦ rw (h level (omega arith) lt) (from_lowest left (level + 1) at (omega arith) (omega arith) absent (λ below low high. h below (omega arith) high))
    | inr ge ↦
        let same : at ≡ level = omega arith in
        rw (ap (λ l. is_hash_there n m digests block l) (sym same) ∙ absent) (ap (λ l. Some (hash_on_path n m block l)) (sym same))
  ]

  pub path_there : IsPathThere n m digests block → absent_hash n m digests block ≡ None
  unfolding absent_hash
  path_there h = from_path (levels_over n m) 0 (λ below low high. h below (omega arith))

  pub lowest_named : (hash : ℕ) → IsLowestAbsent n m digests block hash → absent_hash n m digests block ≡ Some hash
  unfolding absent_hash
  lowest_named hash h = from_lowest (levels_over n m) 0 h.level (omega arith) (let w = h.within in omega arith) h.absent (λ below low high. h.lower below high) ∙ ap (λ (k : ℕ). Some k) (sym h.is)

-- ---- the read that was found

find_holds : (P : ReadRow → Type 0) (test : ReadRow → Bool) (rows : List ReadRow) (row : ReadRow) → find test rows ≡ Some row → All P rows → P row
find_holds P test [] row e h = absurd (cc)
find_holds P test (first ∷ rest) row e h = step (test first) e (λ later. find_holds P test rest row later (All-tail P first rest h))
  where
    step : (b : Bool) → cond b (Some first) (find test rest) ≡ Some row → (find test rest ≡ Some row → P row) → P row
    step true same later = subst P (ap (λ (o : Option ReadRow). elim o as (λ _. ReadRow) [ Some r ↦ r | None ↦ first ]) same) (All-head P first rest h)
    step false same later = later same

module _ (first s : FileState) (who serial now : ℕ) (row : ReadRow) (f : FileFacts first s) where
  pub done_is : read_of who serial s.reads ≡ Some row → row.done ≡ is_in row.block s.map
  done_is e = find_holds (λ (r : ReadRow). r.done ≡ is_in r.block s.map) (λ r. is_asked who serial r) s.reads row e f.read.done

  replied : (is : read_of who serial s.reads ≡ Some row) → poll_reply s who serial now ≡ decided_reply s (decision row now)
  replied is = ap (λ found. decided_reply s (decision_of found now)) is

  pub times_out : IsAskedRead s who serial false row → row.deadline ≤ now → poll_reply s who serial now ≡ TimedOut row.deadline
  times_out h le =
      let undone : row.done ≡ false = done_is h.is ∙ h.block in
      replied h.is ∙ rw (undone, le-leb row.deadline now le) refl

  pub waits_absent : IsAskedRead s who serial false row → now < row.deadline → poll_reply s who serial now ≡ NotYet
  waits_absent h lt =
      let undone : row.done ≡ false = done_is h.is ∙ h.block in
      replied h.is ∙ rw (undone, lt-leb row.deadline now lt) refl

  pub waits_floor : IsAskedRead s who serial true row → now < row.floor → poll_reply s who serial now ≡ NotYet
  waits_floor h lt =
      let done : row.done ≡ true = done_is h.is ∙ h.block in
      replied h.is ∙ rw (done, lt-leb row.floor now lt) refl

  handing : IsAskedRead s who serial true row → row.floor ≤ now → poll_reply s who serial now ≡ hand_reply (absent_hash s.n s.m s.map row.block) (lookup row.block s.map)
  handing h le =
      let done : row.done ≡ true = done_is h.is ∙ h.block in
      replied h.is ∙ rw (done, le-leb row.floor now le) refl

  pub names_lowest : (hash : ℕ) → IsAskedRead s who serial true row → row.floor ≤ now → IsLowestAbsent s.n s.m s.map row.block hash → poll_reply s who serial now ≡ NoPath hash
  names_lowest hash h le low = handing h le ∙ ap (λ found. hand_reply found (lookup row.block s.map)) (lowest_named s.n s.m s.map row.block hash low)

  pub hands_out : (digest : List ℕ) → IsAskedRead s who serial true row → row.floor ≤ now → IsPathThere s.n s.m s.map row.block → lookup row.block s.map ≡ Some digest → poll_reply s who serial now ≡ Handed digest
  hands_out digest h le path there = handing h le ∙ ap (λ found. hand_reply found (lookup row.block s.map)) (path_there s.n s.m s.map row.block path) ∙ ap (λ found. hand_reply None found) there

-- ---- a read that timed out

not_handed : (hash : Option ℕ) (digest : Option (List ℕ)) {deadline : ℕ} → hand_reply hash digest ≡ TimedOut deadline → ⊥
not_handed (Some hash) digest e = absurd (cc)
not_handed None (Some digest) e = absurd (cc)
not_handed None None e = absurd (cc)

-- which read gave this answer
late_row : (s : FileState) (now deadline : ℕ) (row : ReadRow) (done floor late : Bool) → leb row.deadline now ≡ late → decided_reply s (cond done (cond floor (Hand row.block) waiting_decision) (cond late (late_decision row.deadline) waiting_decision)) ≡ TimedOut deadline
    → (done ≡ false) × (row.deadline ≡ deadline) × (row.deadline ≤ now)
late_row s now deadline row true true late t e = absurd (not_handed (absent_hash s.n s.m s.map row.block) (lookup row.block s.map) e)
late_row s now deadline row true false late t e = absurd (cc)
late_row s now deadline row false floor true t e = (refl, (cc), leb-true row.deadline now t)
late_row s now deadline row false floor false t e = absurd (cc)

late_by : (first s : FileState) (who serial now deadline : ℕ) (found : Option ReadRow) → FileFacts first s → read_of who serial s.reads ≡ found → decided_reply s (decision_of found now) ≡ TimedOut deadline → IsLate s who serial now deadline
late_by first s who serial now deadline None f is e = absurd (cc)
late_by first s who serial now deadline (Some row) f is e =
    let parts = late_row s now deadline row row.done (leb row.floor now) (leb row.deadline now) refl e in
    let same = parts.1 in
    let past = parts.2 in
    record {
      row = row;
      read = record { is = is; block = sym (done_is first s who serial now row f is) ∙ parts.0 };
      deadline_is = same;
      late = omega arith;
    }

pub times_out_absent : (start : FileState) (told : Bool) (before after : List Move) (who serial now deadline : ℕ) → FileFacts start start
    → IsWorld told (beginning start) (before ++ Does (record { who = who; event = Poll serial now; reply = TimedOut deadline }) ∷ after)
    → IsLate (world_after (beginning start) before).state who serial now deadline
times_out_absent start told before after who serial now deadline f w =
    let move : Move = Does (record { who = who; event = Poll serial now; reply = TimedOut deadline }) in
    let facts = world_facts told (beginning start) before (start, f) (world_front told (beginning start) before (move ∷ after) w) in
    let may = (world_rest told (beginning start) before (move ∷ after) w).0 in
    let s = (world_after (beginning start) before).state in
    late_by facts.0 s who serial now deadline (read_of who serial s.reads) facts.1 refl may.allowed.fits

-- ---- a gate

gate_done : (first s : FileState) (at who : ℕ) (window : Window) (index count : ℕ) (mine : AtStage is_settled window (flight_row index s.flight)) → count ≡ count_by (waits_on index) s.reads → FileFacts first s
    → Completes s (change at s who (Gate window index) (Gated count)) window index count
gate_done first s at who window index count mine same f =
    let row = mine.row in
    let new = change at s who (Gate window index) (Gated count) in
    let is : gate_change at s index (flight_row index s.flight) (Gated count) ≡ opens index row.digest s = ap (λ found. gate_change at s index found (Gated count)) mine.is in
    let map_is : new.map ≡ insert index row.digest s.map = ap (λ (t : FileState). t.map) is in
    record {
      counted = same;
      reads = ap (λ (t : FileState). t.reads) is;
      row = row;
      flying = mine.is;
      own = mine.own;
      settled = mine.stage_is;
      absent = gate_absent first s index row mine.is mine.stage_is f;
      opened = ap (λ (m : Digests). lookup index m) map_is ∙ lookup_new index row.digest s.map;
      others = λ other apart. ap (λ (m : Digests). lookup other m) map_is ∙ lookup_other other index row.digest s.map (ne_eqb other index apart);
    }

pub gate_completes : (start : FileState) (told : Bool) (before after : List Move) (who : ℕ) (window : Window) (index count : ℕ) → FileFacts start start
    → IsWorld told (beginning start) (before ++ Does (record { who = who; event = Gate window index; reply = Gated count }) ∷ after)
    → Completes (world_after (beginning start) before).state (world_after (beginning start) (before ++ Does (record { who = who; event = Gate window index; reply = Gated count }) ∷ [])).state window index count
gate_completes start told before after who window index count f w =
    let move : Move = Does (record { who = who; event = Gate window index; reply = Gated count }) in
    let now = world_after (beginning start) before in
    let facts = world_facts told (beginning start) before (start, f) (world_front told (beginning start) before (move ∷ after) w) in
    let may = (world_rest told (beginning start) before (move ∷ after) w).0 in
    let by = gated_by now.state.failed (is_at is_settled window (flight_row index now.state.flight)) (count_by (waits_on index) now.state.reads) count may.allowed.fits in
    let done = gate_done facts.0 now.state now.at who window index count (at_stage is_settled window (flight_row index now.state.flight) by.0) by.1 facts.1 in
    subst (λ (m : Moment). Completes now.state m.state window index count) (sym (world_both (beginning start) before (move ∷ []))) done
