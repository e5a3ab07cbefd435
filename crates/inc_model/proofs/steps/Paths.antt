-- What an entry that hands a block out, or names a hash block, says of the state before it.
use Rattle.std.proofs.Common.{◌≡◌, ℕ, zero, suc, ◌+◌, ◌<◌, ◌≤◌, Bool, true, false, cond, leb, List, ◌∷◌, ◌++◌, Option, Some, None, refl, sym, ap, ◌∙◌, arith, inl, inr}
use Rattle.std.proofs.lemmas.Bool.{cases_lt, leb-true}
use Rattle.inc_pending.specs.Keyed.{lookup}
use Rattle.inc_pending.specs.Polling.{read_of, decision_of}
use Rattle.inc_pending.specs.declared.reads.ReadRow.{ReadRow}
use Rattle.inc_tree.specs.shape.Geometry.{level_counts}
use Rattle.inc_pending.specs.declared.reads.Decision.{Decision}
use Rattle.inc_pending.specs.declared.reads.Decision.TheVariants.{Stranger as no_read, Hand, TimedOut as late_decision, NotYet as waiting_decision}
use Rattle.inc_model.specs.declared.words.event.Event.TheVariants.{Poll}
use Rattle.inc_model.specs.declared.words.file_state.FileState.{FileState}
use Rattle.inc_model.specs.declared.words.reply.Reply.TheVariants.{NoPath, Handed}
use Rattle.inc_model.specs.relation.State.{Digests}
use Rattle.inc_model.specs.relation.Polling.{levels_over, hash_on_path, is_hash_there, IsLowestAbsent, IsPathThere, absent_from, absent_hash, hand_reply, decided_reply, poll_reply}
use Rattle.inc_model.specs.relation.Step.{IsHanded}
use Rattle.inc_model.specs.relation.Facts.{FileFacts}
use Rattle.inc_model.specs.laws.WorldLaws.{IsHandedOut, LacksPath}
use Rattle.inc_model.specs.histories.Worlds.{Move, Does, beginning, world_after, IsWorld}
use Rattle.inc_model.proofs.steps.Polls.{done_is}
use Rattle.inc_model.proofs.runs.Worlds.{world_facts, world_front, world_rest}

-- ---- what the search along the path has found

record Lowest (n m : ℕ) (digests : Digests) (block level left hash : ℕ) : Type 0 where
  at : ℕ
  low : level ≤ at
  high : at < level + left
  is : hash ≡ hash_on_path n m block at
  absent : is_hash_there n m digests block at ≡ false
  lower : (below : ℕ) → level ≤ below → below < at → is_hash_there n m digests block below ≡ true

module _ (n m : ℕ) (digests : Digests) (block : ℕ) where
  there_from : (left level : ℕ) → absent_from n m digests block left level ≡ None → (below : ℕ) → level ≤ below → below < level + left → is_hash_there n m digests block below ≡ true
  unfolding absent_from
  there_from zero level e below low high = absurd (omega arith)
  there_from (suc left) level e below low high = step (is_hash_there n m digests block level) refl e (λ rest past. there_from left (level + 1) rest below past (omega arith))
    where
      step : (b : Bool) → is_hash_there n m digests block level ≡ b → cond b (absent_from n m digests block left (level + 1)) (Some (hash_on_path n m block level)) ≡ None
          → (absent_from n m digests block left (level + 1) ≡ None → level + 1 ≤ below → is_hash_there n m digests block below ≡ true) → is_hash_there n m digests block below ≡ true
      step true t same rest = elim (cases_lt level below) [
        | inl lt ↦ rest same (omega arith)
        | inr ge ↦ let here : below ≡ level = omega arith in ap (λ l. is_hash_there n m digests block l) here ∙ t
      ]
      step false t same rest = absurd (cc)

  lowest_from : (left level hash : ℕ) → absent_from n m digests block left level ≡ Some hash → Lowest n m digests block level left hash
  unfolding absent_from
  lowest_from zero level hash e = absurd (cc)
  lowest_from (suc left) level hash e = step (is_hash_there n m digests block level) refl e (λ rest. lowest_from left (level + 1) hash rest)
    where
      step : (b : Bool) → is_hash_there n m digests block level ≡ b → cond b (absent_from n m digests block left (level + 1)) (Some (hash_on_path n m block level)) ≡ Some hash
          → (absent_from n m digests block left (level + 1) ≡ Some hash → Lowest n m digests block (level + 1) left hash) → Lowest n m digests block level (suc left) hash
      step true t same rest =
          let h = rest same in
          let low = h.low in
          let high = h.high in
          record {
            at = h.at;
            low = omega arith;
            high = omega arith;
            is = h.is;
            absent = h.absent;
            lower = λ below from to. elim (cases_lt level below) [
              | inl lt ↦ h.lower below (omega arith) to
              | inr ge ↦ let here : below ≡ level = omega arith in ap (λ l. is_hash_there n m digests block l) here ∙ t
            ];
          }
      step false t same rest = record {
        at = level;
        low = omega arith;
        high = omega arith;
        is = ap (λ (o : Option ℕ). elim o as (λ _. ℕ) [ Some k ↦ k | None ↦ hash ]) (sym same);
        absent = t;
        lower = λ below from to. absurd (omega arith);
      }

  path_told : absent_hash n m digests block ≡ None → IsPathThere n m digests block
  unfolding absent_hash
  path_told e = λ level lt. there_from (levels_over n m) 0 e level (omega arith) (omega arith)

  lowest_told : (hash : ℕ) → absent_hash n m digests block ≡ Some hash → IsLowestAbsent n m digests block hash
  unfolding absent_hash
  lowest_told hash e =
      let h = lowest_from (levels_over n m) 0 hash e in
      let high = h.high in
      record { level = h.at; within = omega arith; is = h.is; absent = h.absent; lower = λ below to. h.lower below (omega arith) to }

-- ---- a block that was handed out

record Handing (told : Bool) (hash : Option ℕ) (found : Option (List ℕ)) (digest : List ℕ) : Type 0 where
  whole : hash ≡ None
  held : List ℕ
  there : found ≡ Some held
  same : told ≡ true → digest ≡ held

handing_by : (told : Bool) (hash : Option ℕ) (found : Option (List ℕ)) (digest : List ℕ) → IsHanded told digest (hand_reply hash found) → Handing told hash found digest
handing_by told (Some hash) found digest h = absurd h
handing_by told None (Some held) digest h = record { whole = refl; held = held; there = refl; same = h }
handing_by told None None digest h = absurd h

handed_row : (s : FileState) (told : Bool) (now : ℕ) (digest : List ℕ) (row : ReadRow) (done floor late : Bool) → leb row.floor now ≡ floor → IsHanded told digest (decided_reply s (cond done (cond floor (Hand row.block) waiting_decision) (cond late (late_decision row.deadline) waiting_decision)))
    → (done ≡ true) × (row.floor ≤ now) × Handing told (absent_hash s.n s.m s.map row.block) (lookup row.block s.map) digest
handed_row s told now digest row true true late t h = (refl, leb-true row.floor now t, handing_by told (absent_hash s.n s.m s.map row.block) (lookup row.block s.map) digest h)
handed_row s told now digest row true false late t h = absurd h
handed_row s told now digest row false floor true t h = absurd h
handed_row s told now digest row false floor false t h = absurd h

handed_by : (first s : FileState) (told : Bool) (who serial now : ℕ) (digest : List ℕ) (found : Option ReadRow) → FileFacts first s → read_of who serial s.reads ≡ found → IsHanded told digest (decided_reply s (decision_of found now)) → IsHandedOut told s who serial now digest
handed_by first s told who serial now digest None f is h = absurd h
handed_by first s told who serial now digest (Some row) f is h =
    let parts = handed_row s told now digest row row.done (leb row.floor now) (leb row.deadline now) refl h in
    let handing = parts.2 in
    record {
      row = row;
      read = record { is = is; block = sym (done_is first s who serial now row f is) ∙ parts.0 };
      floor = parts.1;
      path = path_told s.n s.m s.map row.block handing.whole;
      held = handing.held;
      there = handing.there;
      same = handing.same;
    }

pub hands_out_there : (start : FileState) (told : Bool) (before after : List Move) (who serial now : ℕ) (digest : List ℕ) → FileFacts start start
    → IsWorld told (beginning start) (before ++ Does (record { who = who; event = Poll serial now; reply = Handed digest }) ∷ after)
    → IsHandedOut told (world_after (beginning start) before).state who serial now digest
hands_out_there start told before after who serial now digest f w =
    let move : Move = Does (record { who = who; event = Poll serial now; reply = Handed digest }) in
    let facts = world_facts told (beginning start) before (start, f) (world_front told (beginning start) before (move ∷ after) w) in
    let may = (world_rest told (beginning start) before (move ∷ after) w).0 in
    let s = (world_after (beginning start) before).state in
    handed_by facts.0 s told who serial now digest (read_of who serial s.reads) facts.1 refl may.allowed.fits

-- ---- a hash block that was named

naming_by : (hash : Option ℕ) (found : Option (List ℕ)) (named : ℕ) → hand_reply hash found ≡ NoPath named → hash ≡ Some named
naming_by (Some hash) found named e = ap (λ (k : ℕ). Some k) (cc)
naming_by None (Some held) named e = absurd (cc)
naming_by None None named e = absurd (cc)

named_row : (s : FileState) (now named : ℕ) (row : ReadRow) (done floor late : Bool) → leb row.floor now ≡ floor → decided_reply s (cond done (cond floor (Hand row.block) waiting_decision) (cond late (late_decision row.deadline) waiting_decision)) ≡ NoPath named
    → (done ≡ true) × (row.floor ≤ now) × (absent_hash s.n s.m s.map row.block ≡ Some named)
named_row s now named row true true late t e = (refl, leb-true row.floor now t, naming_by (absent_hash s.n s.m s.map row.block) (lookup row.block s.map) named e)
named_row s now named row true false late t e = absurd (cc)
named_row s now named row false floor true t e = absurd (cc)
named_row s now named row false floor false t e = absurd (cc)

named_by : (first s : FileState) (who serial now named : ℕ) (found : Option ReadRow) → FileFacts first s → read_of who serial s.reads ≡ found → decided_reply s (decision_of found now) ≡ NoPath named → LacksPath s who serial now named
named_by first s who serial now named None f is e = absurd (cc)
named_by first s who serial now named (Some row) f is e =
    let parts = named_row s now named row row.done (leb row.floor now) (leb row.deadline now) refl e in
    record {
      row = row;
      read = record { is = is; block = sym (done_is first s who serial now row f is) ∙ parts.0 };
      floor = parts.1;
      lowest = lowest_told s.n s.m s.map row.block named parts.2;
    }

pub names_absent : (start : FileState) (told : Bool) (before after : List Move) (who serial now named : ℕ) → FileFacts start start
    → IsWorld told (beginning start) (before ++ Does (record { who = who; event = Poll serial now; reply = NoPath named }) ∷ after)
    → LacksPath (world_after (beginning start) before).state who serial now named
names_absent start told before after who serial now named f w =
    let move : Move = Does (record { who = who; event = Poll serial now; reply = NoPath named }) in
    let facts = world_facts told (beginning start) before (start, f) (world_front told (beginning start) before (move ∷ after) w) in
    let may = (world_rest told (beginning start) before (move ∷ after) w).0 in
    let s = (world_after (beginning start) before).state in
    named_by facts.0 s who serial now named (read_of who serial s.reads) facts.1 refl may.allowed.fits

-- ---- a file without hash blocks

flat_path : (n : ℕ) (digests : Digests) (block : ℕ) → absent_hash n 0 digests block ≡ None
unfolding absent_hash absent_from level_counts
flat_path n digests block = refl

never_absent : (found : Option ℕ) (digest : Option (List ℕ)) (hash : ℕ) → found ≡ None → hand_reply found digest ≡ NoPath hash → ⊥
never_absent (Some other) digest hash none e = absurd (cc)
never_absent None (Some digest) hash none e = absurd (cc)
never_absent None None hash none e = absurd (cc)

flat_decided : (s : FileState) (hash : ℕ) (d : Decision) → s.m ≡ 0 → decided_reply s d ≡ NoPath hash → ⊥
flat_decided s hash no_read flat e = absurd (cc)
flat_decided s hash (Hand block) flat e = never_absent (absent_hash s.n s.m s.map block) (lookup block s.map) hash (ap (λ m. absent_hash s.n m s.map block) flat ∙ flat_path s.n s.map block) e
flat_decided s hash (late_decision deadline) flat e = absurd (cc)
flat_decided s hash waiting_decision flat e = absurd (cc)

pub lacks_no_path : (s : FileState) (who serial now hash : ℕ) → s.m ≡ 0 → poll_reply s who serial now ≡ NoPath hash → ⊥
lacks_no_path s who serial now hash flat e = flat_decided s hash (decision_of (read_of who serial s.reads) now) flat e
