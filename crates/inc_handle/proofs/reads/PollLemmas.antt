-- What a poll of a seat's own read leaves, by the reply of the cell.
use Rattle.std.proofs.Common.{◌≡◌, if◌then◌else◌, ℕ, ◌+◌, ◌≤◌, arith, Bool, true, false, nat_le, List, [], ◌∷◌, ◌++◌, length, Option, Some, None, is_some, slice_get, refl, sym, ap, subst, ◌∙◌}
use Rattle.std.proofs.lemmas.List.{append-nil}
use Rattle.inc_pending.specs.Polling.{decision, read_of}
use Rattle.inc_pending.specs.declared.reads.ReadRow.{ReadRow}
use Rattle.inc_pending.specs.declared.reads.Decision.TheVariants.{Hand, TimedOut as late, NotYet as waits}
use Rattle.inc_pending.specs.Keyed.{lookup}
use Rattle.inc_tree.specs.shape.Geometry.{block_len}
use Rattle.inc_layout.specs.declared.opened.Opened.{Opened}
use Rattle.inc_model.specs.laws.HistoryLaws.{are_others}
use Rattle.inc_model.specs.laws.OthersLaws.{HasRead}
use Rattle.inc_model.specs.relation.Polling.{IsLowestAbsent, absent_hash, decided_reply, hand_reply, poll_reply}
use Rattle.inc_model.specs.relation.State.{is_in}
use Rattle.inc_model.specs.relation.Step.{Fits, IsLegal, IsPut, state_after}
use Rattle.inc_model.specs.declared.words.event.Event.TheVariants.{Poll}
use Rattle.inc_model.specs.declared.words.file_state.FileState.{FileState}
use Rattle.inc_model.specs.declared.words.reply.Entry.{Entry}
use Rattle.inc_model.specs.declared.words.reply.Reply.{Reply}
use Rattle.inc_model.specs.declared.words.reply.Reply.TheVariants.{Fault, Handed, NoPath, NotYet, Put, TimedOut}
use Rattle.inc_model.proofs.runs.Histories.{after_both, rest_legal}
use Rattle.inc_model.proofs.runs.Others.{others_keep_reads}
use Rattle.inc_cell.specs.device.Digested.{DigestedBlock}
use Rattle.inc_cell.specs.device.Handed.{MayHand, unknown_hashes}
use Rattle.inc_cell.specs.events.Answers.{CellReplies, hands_out}
use Rattle.inc_cell.specs.events.CellEvents.{event_left, footing_of}
use Rattle.inc_cell.specs.laws.Laws.{BeginsAs}
use Rattle.inc_cell.specs.seen.Seen.{Seen, state_now, tells}
use Rattle.inc_cell.specs.declared.machine.CellFooting.{CellFooting}
use Rattle.inc_cell.specs.declared.words.answer.Answer.{Answer}
use Rattle.inc_cell.specs.declared.words.answer.CellReply.{CellReply}
use Rattle.inc_cell.specs.declared.words.answer.CellReply.TheVariants.{Done, HistoryFull, OutOfMemory}
use Rattle.inc_cell.specs.declared.words.answer.HandedBytes.{HandedBytes}
use Rattle.inc_cell.specs.declared.words.event.CellEvent.TheVariants.{PollKnown}
use Rattle.inc_turn.specs.Turns.{AddsOwn}
use Rattle.inc_turn.proofs.TurnLemmas.{adds_both}
use Rattle.inc_handle.specs.declared.reader.polling.Polled.{Polled}
use Rattle.inc_handle.specs.declared.reader.polling.Polled.TheVariants.{Crowded, Faulted, Given, Late, Pathless, Starved}
use Rattle.inc_turn.specs.Views.{heard}
use Rattle.inc_turn.specs.declared.view.View.{View}
use Rattle.inc_handle.specs.CellTurns.{CellTurn, entries_by}
use Rattle.inc_handle.specs.Reads.{AwaitEnds, IsOverfull, LackedPath, WasLate, IsPollReply, LeavesNothing, PollEnds, PollTold, PolledAs, PollsCell, EntryStands, WaitsFor, poll_entry, polled_by}
use Rattle.inc_handle.proofs.reads.MomentLemmas.{late_there, longer, path_lacks}
use Rattle.inc_handle.proofs.reads.AskLemmas.{footing_after, footing_same, number_after, overfull, seen_before}
use Rattle.inc_handle.proofs.reads.SeenLemmas.{heard_grows}

-- ---- the read is still there

waits_before : (footing : CellFooting) (v : View CellFooting) (before : Seen) (between : List Entry) (serial index : ℕ) (own : WaitsFor footing v serial index)
    → footing_of before ≡ footing → before.history ≡ heard v ++ between → are_others v.number between ≡ true
    → IsLegal 0 (tells before.states) before.opening before.history → HasRead (state_now before) v.number serial own.row
waits_before footing v before between serial index own same told others legal =
    let opening : footing.opening ≡ before.opening = sym (ap (λ (f : CellFooting). f.opening) same) in
    let there = rw opening at own.there in
    let whole = rw told at legal in
    let s = state_after 0 before.opening (heard v) in
    let kept = others_keep_reads s (tells before.states) (0 + length (heard v)) v.number between serial own.row (rest_legal before.opening (tells before.states) 0 (heard v) between whole) others there in
    let state_is : state_now before ≡ state_after (0 + length (heard v)) s between = ap (state_after 0 before.opening) told ∙ after_both before.opening 0 (heard v) between in
    subst (λ (x : FileState). HasRead x v.number serial own.row) (sym state_is) kept

-- ---- the replies to a poll of a read that is there

hand_right : (hash : Option ℕ) (digest : Option (List ℕ)) → IsPollReply (hand_reply hash digest)
hand_right (Some hash) digest = tt
hand_right None (Some digest) = tt
hand_right None None = tt

decided_right : (s : FileState) (row : ReadRow) (moment : ℕ) → IsPollReply (decided_reply s (decision row moment))
decided_right s row moment =
    elim row.done as (λ d. IsPollReply (decided_reply s (decision (record row { done = d }) moment))) [
      | true ↦ elim (nat_le row.floor moment) as (λ b. IsPollReply (decided_reply s (if b then Hand row.block else waits))) [
        | true ↦ hand_right (absent_hash s.n s.m s.map row.block) (lookup row.block s.map)
        | false ↦ tt
      ]
      | false ↦ elim (nat_le row.deadline moment) as (λ b. IsPollReply (decided_reply s (if b then late row.deadline else waits))) [ true ↦ tt | false ↦ tt ]
    ]

no_put : (wanted : Reply) (digest : List ℕ) → IsPollReply wanted → IsPut digest wanted → ⊥
no_put (Put place same) digest right h = right
no_put wanted digest right h = h

pub fits_poll : (told : Bool) (faults : ℕ) (wanted reply : Reply) → IsPollReply wanted → Fits told faults wanted reply → IsPollReply reply
fits_poll told faults wanted (Fault count) right h = tt
fits_poll told faults wanted (Handed digest) right h = tt
fits_poll told faults wanted (Put place digest) right h = no_put wanted digest right h
fits_poll told faults wanted reply right h = subst IsPollReply h right

poll_right : (s : FileState) (who serial moment : ℕ) (row : ReadRow) → HasRead s who serial row → IsPollReply (poll_reply s who serial moment)
poll_right s who serial moment row has = rw has.is (decided_right s has.now moment)

-- ---- where the entry stands

last_stands : (entries : List Entry) (entry : Entry) → slice_get (entries ++ entry ∷ []) (length entries) ≡ Some entry
last_stands [] entry = refl
last_stands (first ∷ entries) entry = last_stands entries entry

pub stands_last : (w : View CellFooting) (entries : List Entry) (entry : Entry) (at : ℕ) → heard w ≡ entries ++ entry ∷ [] → at ≡ length entries → EntryStands w at entry
stands_last w entries entry at heard_is at_is = rw (at_is, heard_is) (last_stands entries entry)

-- ---- what is told

some_row : (a b : ReadRow) → Some a ≡ Some b → a ≡ b
some_row a b e = ap (λ (o : Option ReadRow). elim o as (λ _. ReadRow) [ Some r ↦ r | None ↦ a ]) e

done_digest : (a b : List ℕ) → (let reply : CellReply = Done (Handed a) in reply) ≡ Done (Handed b) → a ≡ b
done_digest a b e = cc

-- the one poll, with all that is known of it
record OnePoll (footing : CellFooting) (v w : View CellFooting) (before after : Seen) (serial index moment : ℕ) (known : List ℕ) (reply : CellReply) (at : ℕ) (handed : Option HandedBytes) : Type 0 where
  own : WaitsFor footing v serial index
  has : HasRead (state_now before) v.number serial own.row
  same : footing_of before ≡ footing
  begins : BeginsAs before.opened before.opening
  legal : IsLegal 0 (tells before.states) before.opening before.history
  told : w.footing ≡ Some footing
  number_is : w.number ≡ v.number
  at_is : at ≡ length before.history
  seen_le : length (heard v) ≤ length before.history
  there : is_some handed ≡ hands_out reply
  hands : MayHand before v.number serial known reply handed
  does : CellReplies before v.number (Poll serial moment) [] reply after
  adds : AddsOwn v w (entries_by v.number (Poll serial moment) reply)
  heard_is : heard w ≡ before.history ++ entries_by v.number (Poll serial moment) reply

polled_right : (footing : CellFooting) (v w : View CellFooting) (before after : Seen) (serial index moment : ℕ) (known : List ℕ) (reply : Reply) (at : ℕ) (handed : Option HandedBytes)
    → OnePoll footing v w before after serial index moment known (Done reply) at handed → IsPollReply reply
polled_right footing v w before after serial index moment known reply at handed p =
    let s = state_now before in
    fits_poll (tells before.states) s.faults (poll_reply s v.number serial moment) reply (poll_right s v.number serial moment p.own.row p.has) p.does.step.allowed.fits

-- a reply that leaves its entry
ends_as : (v w : View CellFooting) (before : Seen) (serial moment : ℕ) (reply : Reply) (at : ℕ) → AddsOwn v w (poll_entry v.number serial moment reply ∷ [])
    → heard w ≡ before.history ++ poll_entry v.number serial moment reply ∷ [] → at ≡ length before.history → PolledAs v w serial moment reply at
ends_as v w before serial moment reply at adds heard_is at_is = record {
  adds = adds;
  stands = stands_last w before.history (poll_entry v.number serial moment reply) at heard_is at_is;
}

handed_now : (footing : CellFooting) (v w : View CellFooting) (before after : Seen) (serial index moment : ℕ) (known digest : List ℕ) (at : ℕ) (handed : HandedBytes)
    → OnePoll footing v w before after serial index moment known (Done (Handed digest)) at (Some handed)
    → PollTold footing v w serial index moment known (Some (Given handed at))
handed_now footing v w before after serial index moment known digest at handed p =
    let h = p.hands in
    let row_same = some_row h.row p.has.now (sym h.row_is ∙ p.has.is) in
    let block_same : h.row.block ≡ index = ap (λ (r : ReadRow). r.block) (row_same ∙ p.has.same) ∙ p.own.block_is in
    let opened : before.opened ≡ footing.opened = ap (λ (f : CellFooting). f.opened) p.same in
    let digest_same : digest ≡ handed.block.digest = done_digest digest handed.block.digest h.digest_is in
    let ends = ends_as v w before serial moment (Handed digest) at p.adds p.heard_is p.at_is in (
      subst (λ (d : List ℕ). PolledAs v w serial moment (Handed d) at) digest_same ends,
      record {
        len_is = h.len_is ∙ (ap (λ (o : Opened). block_len o.areas.geometry h.row.block) opened ∙ ap (block_len footing.opened.areas.geometry) block_same);
        path_count =
            h.path_count
            ∙ (ap (λ (o : Opened). length (unknown_hashes o.areas.geometry h.row.block known)) opened ∙ ap (λ (b : ℕ). length (unknown_hashes footing.opened.areas.geometry b known)) block_same);
      },
    )

-- the read's row at the moment is of the block that was asked for
block_now : (footing : CellFooting) (v w : View CellFooting) (before after : Seen) (serial index moment : ℕ) (known : List ℕ) (reply : CellReply) (at : ℕ) (handed : Option HandedBytes)
    (row : ReadRow) → OnePoll footing v w before after serial index moment known reply at handed → read_of v.number serial (state_now before).reads ≡ Some row → row.block ≡ index
block_now footing v w before after serial index moment known reply at handed row p is =
    ap (λ (r : ReadRow). r.block) (some_row row p.has.now (sym is ∙ p.has.is) ∙ p.has.same) ∙ p.own.block_is

was_late : (footing : CellFooting) (v w : View CellFooting) (before after : Seen) (serial index moment : ℕ) (known : List ℕ) (deadline at : ℕ) (handed : Option HandedBytes)
    → OnePoll footing v w before after serial index moment known (Done (TimedOut deadline)) at handed → WasLate footing w index deadline moment
was_late footing v w before after serial index moment known deadline at handed p =
    let entry = poll_entry v.number serial moment (TimedOut deadline) in
    let legal = longer before.opening (tells before.states) before.history entry p.legal p.does.step.allowed tt in
    let late = late_there before.opening (tells before.states) before.history v.number serial moment deadline p.begins.opening legal in
    let block = block_now footing v w before after serial index moment known (Done (TimedOut deadline)) at handed late.row p late.read.is in
    record {
      front = before.history;
      last = entry;
      heard_is = p.heard_is;
      absent =
          subst (λ (f : CellFooting). is_in index (state_after 0 f.opening before.history).map ≡ false) p.same
          (subst (λ (i : ℕ). is_in i (state_now before).map ≡ false) block late.read.block);
      passed = late.late;
    }

lacked_path : (footing : CellFooting) (v w : View CellFooting) (before after : Seen) (serial index moment : ℕ) (known : List ℕ) (hash at : ℕ) (handed : Option HandedBytes)
    → OnePoll footing v w before after serial index moment known (Done (NoPath hash)) at handed → LackedPath footing w index hash
lacked_path footing v w before after serial index moment known hash at handed p =
    let entry = poll_entry v.number serial moment (NoPath hash) in
    let legal = longer before.opening (tells before.states) before.history entry p.legal p.does.step.allowed tt in
    let lacks = path_lacks before.opening (tells before.states) before.history v.number serial moment hash p.begins.opening legal in
    let block = block_now footing v w before after serial index moment known (Done (NoPath hash)) at handed lacks.row p lacks.read.is in
    let s = state_now before in
    record {
      front = before.history;
      last = entry;
      state = s;
      heard_is = p.heard_is;
      state_is = ap (λ (f : CellFooting). state_after 0 f.opening before.history) p.same;
      lowest = subst (λ (i : ℕ). IsLowestAbsent s.n s.m s.map i hash) block lacks.lowest;
    }

told_by : (footing : CellFooting) (v w : View CellFooting) (before after : Seen) (serial index moment : ℕ) (known : List ℕ) (reply : CellReply) (at : ℕ) (handed : Option HandedBytes)
    → OnePoll footing v w before after serial index moment known reply at handed → PollTold footing v w serial index moment known (polled_by reply moment at handed)
told_by footing v w before after serial index moment known (Done NotYet) at handed p = (
  record { adds = p.adds },
  record {
    row = p.has.now;
    there = rw (p.number_is, p.heard_is, append-nil, ← ap (λ (f : CellFooting). f.opening) p.same) p.has.is;
    block_is = ap (λ (r : ReadRow). r.block) p.has.same ∙ p.own.block_is;
    here = p.own.here;
  },
)
told_by footing v w before after serial index moment known (Done (Handed digest)) at (Some handed) p = handed_now footing v w before after serial index moment known digest at handed p
told_by footing v w before after serial index moment known (Done (Handed digest)) at None p = let none = p.there in absurd (cc)
told_by footing v w before after serial index moment known (Done (TimedOut deadline)) at handed p =
    (refl, ends_as v w before serial moment (TimedOut deadline) at p.adds p.heard_is p.at_is, was_late footing v w before after serial index moment known deadline at handed p)
told_by footing v w before after serial index moment known (Done (NoPath hash)) at handed p =
    (ends_as v w before serial moment (NoPath hash) at p.adds p.heard_is p.at_is, lacked_path footing v w before after serial index moment known hash at handed p)
told_by footing v w before after serial index moment known (Done (Fault count)) at handed p = ends_as v w before serial moment (Fault count) at p.adds p.heard_is p.at_is
told_by footing v w before after serial index moment known (Done reply) at handed p = absurd (polled_right footing v w before after serial index moment known reply at handed p)
told_by footing v w before after serial index moment known (HistoryFull entries claimed) at handed p =
    (record { adds = p.adds }, overfull footing (length (heard v)) w before after (Poll serial moment) entries claimed p.seen_le refl p.told p.same p.heard_is p.does)
told_by footing v w before after serial index moment known OutOfMemory at handed p = record { adds = p.adds }

one_poll : (footing : CellFooting) (v w : View CellFooting) (serial index moment : ℕ) (known : List ℕ) (hint : Option DigestedBlock) (answer : Answer) (t : CellTurn v (PollKnown serial moment known hint) answer w)
    → v.footing ≡ Some footing → WaitsFor footing v serial index → OnePoll footing v w t.before (event_left (PollKnown serial moment known hint) t.before t.after) serial index moment known answer.reply answer.at answer.handed
one_poll footing v w serial index moment known hint answer t is own =
    let same = footing_same footing v t.before t.floor is in
    record {
      own = own;
      has = waits_before footing v t.before t.between serial index own same t.told t.others t.moves.legal;
      same = same;
      begins = t.moves.begins;
      legal = t.moves.legal;
      told = footing_after footing v w _ t.adds is;
      number_is = number_after v w _ t.adds;
      at_is = t.moves.steps.at_is;
      seen_le = seen_before v t.before.history t.between t.told;
      there = t.moves.steps.handed_there;
      hands = t.moves.hands;
      does = t.moves.steps.reply_is;
      adds = t.adds;
      heard_is = t.heard_is;
    }

-- what the asker is told is what its entry says, and its read waits on where there is none
pub poll_told : (footing : CellFooting) (v w : View CellFooting) (serial index moment : ℕ) (known : List ℕ) (hint : Option DigestedBlock) (answer : Answer) (t : CellTurn v (PollKnown serial moment known hint) answer w)
    → v.footing ≡ Some footing → WaitsFor footing v serial index → PollTold footing v w serial index moment known (polled_by answer.reply moment answer.at answer.handed)
poll_told footing v w serial index moment known hint answer t is own =
    told_by footing v w t.before (event_left (PollKnown serial moment known hint) t.before t.after) serial index moment known answer.reply answer.at answer.handed (one_poll footing v w serial index moment known hint answer t is own)

polls_by : (footing : CellFooting) (v w : View CellFooting) (before after : Seen) (serial index moment : ℕ) (known : List ℕ) (reply : CellReply) (at : ℕ) (handed : Option HandedBytes)
    → OnePoll footing v w before after serial index moment known reply at handed → PollsCell reply
polls_by footing v w before after serial index moment known (Done reply) at handed p = polled_right footing v w before after serial index moment known reply at handed p
polls_by footing v w before after serial index moment known (HistoryFull entries claimed) at handed p = tt
polls_by footing v w before after serial index moment known OutOfMemory at handed p = tt

-- a poll of a read that is there has these replies alone
pub polls_cell : (footing : CellFooting) (v w : View CellFooting) (serial index moment : ℕ) (known : List ℕ) (hint : Option DigestedBlock) (answer : Answer) (t : CellTurn v (PollKnown serial moment known hint) answer w)
    → v.footing ≡ Some footing → WaitsFor footing v serial index → PollsCell answer.reply
polls_cell footing v w serial index moment known hint answer t is own =
    polls_by footing v w t.before (event_left (PollKnown serial moment known hint) t.before t.after) serial index moment known answer.reply answer.at answer.handed (one_poll footing v w serial index moment known hint answer t is own)

-- ---- several polls

polled_since : (v v1 w : View CellFooting) (serial moment : ℕ) (reply : Reply) (at : ℕ) → LeavesNothing v v1 → PolledAs v1 w serial moment reply at → PolledAs v w serial moment reply at
polled_since v v1 w serial moment reply at none polled =
    let same = number_after v v1 [] none.adds in
    record {
      adds =
          adds_both v v1 w [] (poll_entry v.number serial moment reply ∷ []) none.adds
          (subst (λ (n : ℕ). AddsOwn v1 w (poll_entry n serial moment reply ∷ [])) same polled.adds);
      stands = subst (λ (n : ℕ). EntryStands w at (poll_entry n serial moment reply)) same polled.stands;
    }

pub nothing_since : (v v1 w : View CellFooting) → LeavesNothing v v1 → LeavesNothing v1 w → LeavesNothing v w
nothing_since v v1 w none more = record { adds = adds_both v v1 w [] [] none.adds more.adds }

pub fewer_entries : (fewer from : ℕ) (w : View CellFooting) (entries claimed : ℕ) → fewer ≤ from → IsOverfull from w entries claimed → IsOverfull fewer w entries claimed
fewer_entries fewer from w entries claimed le over =
    let since = over.since in
    record {
      footing = over.footing;
      front = over.front;
      rest = over.rest;
      footing_is = over.footing_is;
      heard_is = over.heard_is;
      since = omega (arith, le, since);
      entries_are = over.entries_are;
      claimed_are = over.claimed_are;
      full = over.full;
    }

ends_since : (footing : CellFooting) (v v1 w : View CellFooting) (serial index moment : ℕ) (known : List ℕ) (polled : Polled) → LeavesNothing v v1
    → PollEnds footing v1 w serial index moment known polled → PollEnds footing v w serial index moment known polled
ends_since footing v v1 w serial index moment known (Given handed at) none ends = (polled_since v v1 w serial moment (Handed handed.block.digest) at none ends.0, ends.1)
ends_since footing v v1 w serial index moment known (Late deadline now at) none ends = (ends.0, polled_since v v1 w serial moment (TimedOut deadline) at none ends.1, ends.2)
ends_since footing v v1 w serial index moment known (Pathless hash at) none ends = (polled_since v v1 w serial moment (NoPath hash) at none ends.0, ends.1)
ends_since footing v v1 w serial index moment known (Faulted count at) none ends = polled_since v v1 w serial moment (Fault count) at none ends
ends_since footing v v1 w serial index moment known (Crowded entries claimed) none ends =
    (nothing_since v v1 w none ends.0, fewer_entries (length (heard v)) (length (heard v1)) w entries claimed (heard_grows v v1 [] none.adds) ends.1)
ends_since footing v v1 w serial index moment known Starved none ends = nothing_since v v1 w none ends

-- polls that left nothing, and one that ends
pub await_ends : (may : ℕ → Type 0) (footing : CellFooting) (v v1 w : View CellFooting) (serial index moment : ℕ) (known : List ℕ) (polled : Polled) → LeavesNothing v v1 → may moment
    → PollEnds footing v1 w serial index moment known polled → AwaitEnds may footing v w serial index known polled
await_ends may footing v v1 w serial index moment known polled none possible ends = record {
  moment = moment;
  possible = possible;
  ends = ends_since footing v v1 w serial index moment known polled none ends;
}
