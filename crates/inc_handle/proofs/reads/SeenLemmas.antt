-- Where a seat's own entry stands in the history that it has seen, and what the map had there.
use Rattle.std.proofs.Common.{◌≡◌, if◌then◌else◌, ℕ, ◌+◌, ◌≤◌, ◌==◌, Bool, true, false, List, [], ◌∷◌, ◌++◌, length, is_some, Option, Some, None, refl, sym, ap, subst, ◌∙◌, arith, append-nil, append_assoc, length-append}
use Rattle.std.proofs.lemmas.Bool.{eqb-true, false_from_ne_true}
use Rattle.inc_pending.specs.Keyed.{lookup}
use Rattle.inc_model.specs.relation.Facts.{FileFacts}
use Rattle.inc_model.specs.relation.State.{IsOpening, is_in}
use Rattle.inc_model.specs.relation.Step.{IsAllowed, IsLegal, Step, after_entry, state_after}
use Rattle.inc_model.specs.executed.EntriesLeft.{entry_left}
use Rattle.inc_model.specs.declared.words.event.Event.{Event}
use Rattle.inc_model.specs.declared.words.file_state.FileState.{FileState}
use Rattle.inc_model.specs.declared.words.reply.Entry.{Entry}
use Rattle.inc_model.specs.declared.words.reply.Reply.{Reply}
use Rattle.inc_model.specs.declared.words.reply.Reply.TheVariants.{NotYet}
use Rattle.inc_model.proofs.runs.Histories.{after_both, front_legal, legal_facts, rest_legal, step_stays}
use Rattle.inc_model.proofs.steps.Syncs.{map_stays}
use Rattle.inc_cell.specs.events.Answers.{CellReplies}
use Rattle.inc_cell.specs.events.CellEvents.{block_in, event_left, event_of}
use Rattle.inc_cell.specs.laws.Laws.{BeginsAs}
use Rattle.inc_cell.specs.seen.Seen.{Seen, tells}
use Rattle.inc_cell.specs.declared.machine.CellFooting.{CellFooting}
use Rattle.inc_cell.specs.declared.words.answer.Answer.{Answer}
use Rattle.inc_cell.specs.declared.words.answer.CellReply.{CellReply}
use Rattle.inc_cell.specs.declared.words.answer.CellReply.TheVariants.{Done, HistoryFull, OutOfMemory}
use Rattle.inc_cell.specs.declared.words.event.CellEvent.{CellEvent}
use Rattle.inc_turn.specs.Lists.{entries_of_turns}
use Rattle.inc_turn.specs.Turns.{AddsOwn, own_of}
use Rattle.inc_turn.specs.Views.{heard}
use Rattle.inc_turn.specs.declared.view.View.{View}
use Rattle.inc_turn.proofs.ListLemmas.{entries_of_turns-append}
use Rattle.inc_handle.specs.Answered.{HasSeenLegal}
use Rattle.inc_handle.specs.CellTurns.{CellTurn, entries_by}
use Rattle.inc_handle.proofs.reads.AskLemmas.{footing_after, footing_same}
use Rattle.inc_handle.proofs.reads.MomentLemmas.{longer}

-- ---- a history is legal after a turn too

kept_legal : (start : FileState) (told : Bool) (front : List Entry) (who : ℕ) (event : Event) (reply : Reply) → IsLegal 0 told start front
    → IsAllowed (length front) told (state_after 0 start front) who event reply → IsLegal 0 told start (front ++ entry_left who event reply)
kept_legal start told front who event NotYet legal allowed = subst (IsLegal 0 told start) (sym (append-nil front)) legal
kept_legal start told front who event reply legal allowed = longer start told front (record { who = who; event = event; reply = reply }) legal allowed tt

left_legal : (before after : Seen) (who : ℕ) (event : Event) (block : List ℕ) (reply : CellReply) → IsLegal 0 (tells before.states) before.opening before.history
    → CellReplies before who event block reply after → IsLegal 0 (tells before.states) before.opening (before.history ++ entries_by who event reply)
left_legal before after who event block (Done reply) legal does = kept_legal before.opening (tells before.states) before.history who event reply legal does.step.allowed
left_legal before after who event block (HistoryFull entries claimed) legal does = subst (IsLegal 0 (tells before.states) before.opening) (sym (append-nil before.history)) legal
left_legal before after who event block OutOfMemory legal does = subst (IsLegal 0 (tells before.states) before.opening) (sym (append-nil before.history)) legal

pub turn_legal : (footing : CellFooting) (v w : View CellFooting) (event : CellEvent) (answer : Answer) → CellTurn v event answer w → v.footing ≡ Some footing → HasSeenLegal footing w
turn_legal footing v w event answer t is =
    let same = footing_same footing v t.before t.floor is in
    let left = left_legal t.before (event_left event t.before t.after) v.number (event_of t.before.opened event) (block_in event) answer.reply t.moves.legal t.moves.steps.reply_is in
    let legal : IsLegal 0 (tells t.before.states) t.before.opening (heard w) = subst (IsLegal 0 (tells t.before.states) t.before.opening) (sym t.heard_is) left in
    record {
      floor = footing_after footing v w _ t.adds is;
      begins = subst (λ (f : CellFooting). BeginsAs f.opened f.opening) same t.moves.begins;
      legal = subst (λ (f : CellFooting). IsLegal 0 f.told f.opening (heard w)) same legal;
    }

-- ---- a seat's own entry

-- one of a seat's own entries, among those of others
record OwnStands (who : ℕ) (turns : List (Option Entry)) (entry : Entry) (rest : List Entry) : Type 0 where
  before : List Entry
  after : List (Option Entry)
  cut : entries_of_turns turns ≡ before ++ entry ∷ entries_of_turns after
  mine : entry.who ≡ who
  own : own_of who after ≡ rest

-- the first of them
own_stands : (who : ℕ) (turns : List (Option Entry)) (entry : Entry) (rest : List Entry) → own_of who turns ≡ entry ∷ rest → OwnStands who turns entry rest
own_stands who [] entry rest e = absurd (cc)
own_stands who (None ∷ turns) entry rest e =
    let more = own_stands who turns entry rest e in
    record { before = more.before; after = more.after; cut = more.cut; mine = more.mine; own = more.own }
own_stands who (Some first ∷ turns) entry rest e = by (first.who == who) refl (own_stands who turns entry rest) e
  where
    by : (b : Bool) → (first.who == who) ≡ b → (own_of who turns ≡ entry ∷ rest → OwnStands who turns entry rest) → (if b then first ∷ [] else []) ++ own_of who turns ≡ entry ∷ rest
        → OwnStands who (Some first ∷ turns) entry rest
    by true here more t =
        let head : first ≡ entry = cc in
        let tail : own_of who turns ≡ rest = cc in
        record {
          before = [];
          after = turns;
          cut = ap (λ (x : Entry). x ∷ entries_of_turns turns) head;
          mine = sym (ap (λ (x : Entry). x.who) head) ∙ eqb-true first.who who here;
          own = tail;
        }
    by false here more t =
        let m = more t in
        record { before = first ∷ m.before; after = m.after; cut = ap (λ (l : List Entry). first ∷ l) m.cut; mine = m.mine; own = m.own }

-- one that comes after these
own_stands_after : (who : ℕ) (turns : List (Option Entry)) (earlier : List Entry) (entry : Entry) (rest : List Entry) → own_of who turns ≡ earlier ++ entry ∷ rest → OwnStands who turns entry rest
own_stands_after who turns [] entry rest e = own_stands who turns entry rest e
own_stands_after who turns (one ∷ earlier) entry rest e =
    let first = own_stands who turns one (earlier ++ entry ∷ rest) e in
    let more = own_stands_after who first.after earlier entry rest first.own in
    record {
      before = first.before ++ one ∷ more.before;
      after = more.after;
      cut =
          first.cut
          ∙ (ap (λ (l : List Entry). first.before ++ one ∷ l) more.cut ∙ sym (append_assoc first.before (one ∷ more.before) (entry ∷ entries_of_turns more.after)));
      mine = more.mine;
      own = more.own;
    }

-- an own entry, past all that the seat had seen before
pub record EntrySeen (v w : View CellFooting) (entry : Entry) : Type 0 where
  pub front : List Entry
  pub rest : List Entry
  pub heard_is : heard w ≡ front ++ entry ∷ rest
  pub since : length (heard v) ≤ length front
  pub own : entry.who ≡ v.number

heard_more : (v w : View CellFooting) (mine : List Entry) (adds : AddsOwn v w mine) → heard w ≡ heard v ++ entries_of_turns adds.since
heard_more v w mine adds =
    ap heard adds.view_is
    ∙ (ap (λ (es : List Entry). v.base ++ es) (entries_of_turns-append v.seen adds.since) ∙ sym (append_assoc v.base (entries_of_turns v.seen) (entries_of_turns adds.since)))

pub heard_grows : (v w : View CellFooting) (mine : List Entry) → AddsOwn v w mine → length (heard v) ≤ length (heard w)
heard_grows v w mine adds = omega (arith, ap (λ (es : List Entry). length es) (heard_more v w mine adds), length-append (heard v) (entries_of_turns adds.since))

pub entry_seen_after : (v w : View CellFooting) (earlier : List Entry) (entry : Entry) (rest : List Entry) → AddsOwn v w (earlier ++ entry ∷ rest) → EntrySeen v w entry
entry_seen_after v w earlier entry rest adds =
    let stands = own_stands_after v.number adds.since earlier entry rest adds.own in
    let long = length-append (heard v) stands.before in
    record {
      front = heard v ++ stands.before;
      rest = entries_of_turns stands.after;
      heard_is =
          heard_more v w (earlier ++ entry ∷ rest) adds
          ∙ (ap (λ (es : List Entry). heard v ++ es) stands.cut ∙ sym (append_assoc (heard v) stands.before (entry ∷ entries_of_turns stands.after)));
      since = omega (arith, long);
      own = stands.mine;
    }

pub entry_seen : (v w : View CellFooting) (entry : Entry) (rest : List Entry) → AddsOwn v w (entry ∷ rest) → EntrySeen v w entry
entry_seen v w entry rest adds = entry_seen_after v w [] entry rest adds

-- ---- what is in the map stays there

still_there : (first s : FileState) (told : Bool) (at : ℕ) (entries : List Entry) (index : ℕ) (digest : List ℕ) → FileFacts first s → IsLegal at told s entries → lookup index s.map ≡ Some digest
    → lookup index (state_after at s entries).map ≡ Some digest
still_there first s told at [] index digest f legal there = there
still_there first s told at (entry ∷ entries) index digest f legal there =
    let new = after_entry at s entry in
    let step : Step at told s entry.who entry.event entry.reply new = record { allowed = legal.0.allowed; after = refl } in
    still_there first new told (at + 1) entries index digest (step_stays first s new told at entry.who entry.event entry.reply step f) legal.1
    (map_stays first s new told at entry.who entry.event entry.reply index digest f step there)

in_stays : (first s : FileState) (told : Bool) (at : ℕ) (entries : List Entry) (index : ℕ) → FileFacts first s → IsLegal at told s entries → is_in index s.map ≡ true
    → is_in index (state_after at s entries).map ≡ true
in_stays first s told at entries index f legal there = by (lookup index s.map) refl there
  where
    by : (found : Option (List ℕ)) → lookup index s.map ≡ found → is_some found ≡ true → is_in index (state_after at s entries).map ≡ true
    by None is h = absurd (cc)
    by (Some digest) is h = ap is_some (still_there first s told at entries index digest f legal is)

-- so what isn't in the map wasn't there before
pub absent_before : (start : FileState) (told : Bool) (front more : List Entry) (index : ℕ) → IsOpening start → IsLegal 0 told start (front ++ more)
    → is_in index (state_after 0 start (front ++ more)).map ≡ false → is_in index (state_after 0 start front).map ≡ false
absent_before start told front more index opening legal absent =
    let s = state_after 0 start front in
    let facts = legal_facts start told front opening (front_legal start told 0 front more legal) in
    false_from_ne_true (is_in index s.map) (λ there.
    let stays = in_stays start s told (0 + length front) more index facts (rest_legal start told 0 front more legal) there in
    let later : is_in index (state_after 0 start (front ++ more)).map ≡ true = subst (λ (t : FileState). is_in index t.map ≡ true) (sym (after_both start 0 front more)) stays in
    absurd (cc))

-- ---- the last entry comes after an earlier one, or is it

nothing_left : (xs : List Entry) (a : Entry) (post : List Entry) → xs ++ a ∷ post ≡ [] → ⊥
nothing_left [] a post e = absurd (cc)
nothing_left (x ∷ xs) a post e = absurd (cc)

pub front_within : (xs ys : List Entry) (a last : Entry) (post : List Entry) → xs ++ a ∷ post ≡ ys ++ last ∷ [] → (more : List Entry) × (ys ≡ xs ++ more)
front_within [] ys a last post e = (ys, refl)
front_within (x ∷ xs) [] a last post e = let tail : xs ++ a ∷ post ≡ [] = cc in absurd (nothing_left xs a post tail)
front_within (x ∷ xs) (y ∷ ys) a last post e =
    let head : y ≡ x = cc in
    let tail : xs ++ a ∷ post ≡ ys ++ last ∷ [] = cc in
    let more = front_within xs ys a last post tail in
    (more.0, ap (λ (z : Entry). z ∷ ys) head ∙ ap (λ (l : List Entry). x ∷ l) more.1)
