-- What an ask leaves, by the reply of the cell.
use Rattle.std.proofs.Common.{◌≡◌, ℕ, suc, ◌+◌, ◌<◌, ◌≤◌, ◌==◌, Bool, true, false, nat_le, List, [], ◌∷◌, ◌++◌, length, length-append, All, Option, Some, None, refl, ap, subst, ◌∙◌, arith, ⊎_elim}
use Rattle.std.proofs.lemmas.Bool.{cases_lt, eqb-true, eq-eqb, false_from_ne_true, leb-false}
use Rattle.inc_pending.specs.Polling.{asked_row, is_asked, read_of}
use Rattle.inc_pending.specs.Times.{times_of}
use Rattle.inc_pending.specs.declared.reads.ReadRow.{ReadRow}
use Rattle.inc_tree.specs.shape.Geometry.{data_blocks}
use Rattle.inc_layout.specs.state.State.{StateParts}
use Rattle.inc_layout.specs.declared.opened.Opened.{Opened}
use Rattle.inc_model.specs.relation.State.{all_places, has, is_in}
use Rattle.inc_model.specs.relation.Step.{Fits, IsHanded, IsLegal, IsPut, may_fail, needs, state_after}
use Rattle.inc_model.specs.relation.Table.{ask_reply}
use Rattle.inc_model.specs.declared.words.event.Event.{Event}
use Rattle.inc_model.specs.declared.words.event.Event.TheVariants.{Ask}
use Rattle.inc_model.specs.declared.words.limits.TheConstants.{MOST_ENTRIES}
use Rattle.inc_model.specs.declared.words.reply.Entry.{Entry}
use Rattle.inc_model.specs.declared.words.reply.Reply.{Reply}
use Rattle.inc_model.specs.declared.words.reply.Reply.TheVariants.{Asked, Compressed, Damaged, Fault, Handed, OutOfRange, Put}
use Rattle.inc_model.proofs.runs.Histories.{after_one, legal_facts, legal_more}
use Rattle.inc_cell.specs.events.Answers.{CellReplies, IsFullCell}
use Rattle.inc_cell.specs.events.CellEvents.{CellTakes, event_left, footing_of}
use Rattle.inc_cell.specs.events.Steps.{ReplyDoes}
use Rattle.inc_cell.specs.laws.Laws.{BeginsAs}
use Rattle.inc_cell.specs.seen.Seen.{Seen, state_now, tells}
use Rattle.inc_cell.specs.declared.machine.CellFooting.{CellFooting}
use Rattle.inc_cell.specs.declared.words.answer.Answer.{Answer}
use Rattle.inc_cell.specs.declared.words.answer.CellReply.{CellReply}
use Rattle.inc_cell.specs.declared.words.answer.CellReply.TheVariants.{Done, HistoryFull, OutOfMemory}
use Rattle.inc_cell.specs.declared.words.event.CellEvent.TheVariants.{AskEarly, Plain}
use Rattle.inc_turn.specs.Turns.{AddsOwn}
use Rattle.inc_turn.specs.Views.{heard}
use Rattle.inc_turn.specs.declared.view.View.{View}
use Rattle.inc_handle.specs.CellTurns.{CellTurn, ask_event, entries_by}
use Rattle.inc_handle.specs.Reads.{AskTold, AsksCell, HasAsked, IsAskReply, IsOverfull, ask_entry, asked_result}

-- ---- a reply for which the device does nothing is the table's

put_same : (wanted : Reply) (place : ℕ) (digest : List ℕ) → may_fail wanted ≡ false → IsPut digest wanted → wanted ≡ Put place digest
put_same (Put other same) place digest plain h = cc
put_same wanted place digest plain h = absurd h

handed_same : (told : Bool) (wanted : Reply) (digest : List ℕ) → may_fail wanted ≡ false → IsHanded told digest wanted → wanted ≡ Handed digest
handed_same told (Handed other) digest plain h = cc
handed_same told wanted digest plain h = absurd h

pub fits_same : (told : Bool) (faults : ℕ) (wanted reply : Reply) → may_fail wanted ≡ false → Fits told faults wanted reply → wanted ≡ reply
fits_same told faults wanted (Fault count) plain h = let fails = h.0 in cc
fits_same told faults wanted (Put place digest) plain h = put_same wanted place digest plain h
fits_same told faults wanted (Handed digest) plain h = handed_same told wanted digest plain h
fits_same told faults wanted reply plain h = h

-- ---- an ask's replies

ask_plain : (past damaged compressed : Bool) (next : ℕ) → may_fail (ask_reply past damaged compressed next) ≡ false
ask_plain true damaged compressed next = refl
ask_plain false true compressed next = refl
ask_plain false false true next = refl
ask_plain false false false next = refl

ask_right : (past damaged compressed : Bool) (next : ℕ) → IsAskReply (ask_reply past damaged compressed next)
ask_right true damaged compressed next = tt
ask_right false true compressed next = tt
ask_right false false true next = tt
ask_right false false false next = tt

ask_asked : (past damaged compressed : Bool) (next serial : ℕ) → ask_reply past damaged compressed next ≡ Asked serial → (past ≡ false) × (next ≡ serial)
ask_asked true damaged compressed next serial e = absurd (cc)
ask_asked false true compressed next serial e = absurd (cc)
ask_asked false false true next serial e = absurd (cc)
ask_asked false false false next serial e = (refl, cc)

pub fits_ask : (told : Bool) (faults : ℕ) (past damaged compressed : Bool) (next : ℕ) (reply : Reply) → Fits told faults (ask_reply past damaged compressed next) reply
    → (ask_reply past damaged compressed next ≡ reply) × IsAskReply reply
fits_ask told faults past damaged compressed next reply h =
    let same = fits_same told faults (ask_reply past damaged compressed next) reply (ask_plain past damaged compressed next) h in
    (same, subst IsAskReply same (ask_right past damaged compressed next))

-- ---- the new read is found

read_new : (who next : ℕ) (rows : List ReadRow) (row : ReadRow) → All (λ r. r.serial < next) rows → is_asked who next row ≡ true → read_of who next (rows ++ row ∷ []) ≡ Some row
read_new who next [] row below here = rw here
read_new who next (r ∷ rows) row below here =
    let less : r.serial < next = below 0 r (omega arith) in
    let other : (r.serial == next) ≡ false = false_from_ne_true (r.serial == next) (λ e. let same = eqb-true r.serial next e in omega (arith, same, less)) in
    rw other (read_new who next rows row (λ k d lt. below (suc k) d (omega (arith, lt))) here)

-- ---- a history without room

pub overfull : (footing : CellFooting) (from : ℕ) (w : View CellFooting) (before new : Seen) (event : Event) (entries claimed : ℕ) → from ≤ length before.history → needs (state_now before).claimed event ≡ 1
    → w.footing ≡ Some footing → footing_of before ≡ footing → heard w ≡ before.history ++ [] → IsFullCell before event entries claimed new → IsOverfull from w entries claimed
overfull footing from w before new event entries claimed le one footing_is same heard_is full = record {
  footing = footing;
  front = before.history;
  rest = [];
  footing_is = footing_is;
  heard_is = heard_is;
  since = le;
  entries_are = full.entries_are;
  claimed_are = full.claimed_are ∙ ap (λ (f : CellFooting). all_places (state_after 0 f.opening before.history).claimed) same;
  full =
      ⊎_elim (λ (over : MOST_ENTRIES < entries + claimed + 1). over)
      (λ (fits : entries + claimed + 1 ≤ MOST_ENTRIES). absurd (full.no_room (omega (arith, fits, one, full.entries_are, full.claimed_are))))
      (cases_lt MOST_ENTRIES (entries + claimed + 1));
}

-- ---- the seat after a turn

-- the cell has all that the seat has seen
pub seen_before : (v : View CellFooting) (history between : List Entry) → history ≡ heard v ++ between → length (heard v) ≤ length history
seen_before v history between told = omega (arith, ap (λ (es : List Entry). length es) told, length-append (heard v) between)

pub footing_after : (footing : CellFooting) (v w : View CellFooting) (mine : List Entry) → AddsOwn v w mine → v.footing ≡ Some footing → w.footing ≡ Some footing
footing_after footing v w mine adds is = ap (λ (x : View CellFooting). x.footing) adds.view_is ∙ is

pub number_after : (v w : View CellFooting) (mine : List Entry) → AddsOwn v w mine → w.number ≡ v.number
number_after v w mine adds = ap (λ (x : View CellFooting). x.number) adds.view_is

some_footing : (a b : CellFooting) → Some a ≡ Some b → a ≡ b
some_footing a b e = ap (λ (o : Option CellFooting). elim o as (λ _. CellFooting) [ Some r ↦ r | None ↦ a ]) e

-- ---- what is told

asked_now : (footing : CellFooting) (v w : View CellFooting) (before after : Seen) (index uid moment serial : ℕ) → BeginsAs before.opened before.opening
    → IsLegal 0 (tells before.states) before.opening before.history → footing_of before ≡ footing
    → ReplyDoes before v.number (Ask index uid moment) [] (Asked serial) after → AddsOwn v w (ask_entry v.number index uid moment (Asked serial) ∷ [])
    → heard w ≡ before.history ++ ask_entry v.number index uid moment (Asked serial) ∷ [] → HasAsked footing v w index uid moment serial
asked_now footing v w before after index uid moment serial begins legal same does adds heard_is =
    let s = state_now before in
    let fits = fits_ask (tells before.states) s.faults (nat_le s.n index) (has index s.damaged) (has index s.compressed) s.next (Asked serial) does.step.allowed.fits in
    let asked = ask_asked (nat_le s.n index) (has index s.damaged) (has index s.compressed) s.next serial fits.0 in
    let facts = legal_facts before.opening (tells before.states) before.history begins.opening legal in
    let more = legal_more before.opening (tells before.states) before.history begins.opening legal in
    let row = asked_row s.next v.number index (is_in index s.map) uid moment (times_of uid s.times) in
    let opened : before.opened ≡ footing.opened = ap (λ (f : CellFooting). f.opened) same in
    let opening : before.opening ≡ footing.opening = ap (λ (f : CellFooting). f.opening) same in
    let state_is : state_after 0 before.opening (heard w) ≡ _ = ap (state_after 0 before.opening) heard_is ∙ after_one before.opening 0 before.history (ask_entry v.number index uid moment (Asked serial)) in
    let serial_same : (s.next == s.next) ≡ true = eq-eqb s.next s.next refl in
    let asker_same : (v.number == v.number) ≡ true = eq-eqb v.number v.number refl in
    let here : is_asked v.number s.next row ≡ true = rw (serial_same, asker_same) in
    let found : read_of v.number s.next (s.reads ++ row ∷ []) ≡ Some row = read_new v.number s.next s.reads row facts.read.below here in
    let low = leb-false s.n index asked.0 in
    record {
      adds = adds;
      waits = record {
        row = row;
        there = rw (number_after v w _ adds, ← asked.1, ← opening, state_is) found;
        block_is = refl;
        here =
            subst (λ (n : ℕ). index < n)
            (more.same.1 ∙ (ap (λ (p : StateParts). p.data_count) begins.parts ∙ ap (λ (o : Opened). data_blocks o.areas.geometry) opened)) low;
      };
    }

told_by : (footing : CellFooting) (v w : View CellFooting) (before after : Seen) (index uid moment : ℕ) (reply : CellReply) → length (heard v) ≤ length before.history → BeginsAs before.opened before.opening
    → IsLegal 0 (tells before.states) before.opening before.history → footing_of before ≡ footing → w.footing ≡ Some footing
    → CellReplies before v.number (Ask index uid moment) [] reply after → AddsOwn v w (entries_by v.number (Ask index uid moment) reply)
    → heard w ≡ before.history ++ entries_by v.number (Ask index uid moment) reply → AskTold footing v w index uid moment (asked_result reply)
told_by footing v w before after index uid moment (Done OutOfRange) le begins legal same is does adds heard_is = record { adds = adds }
told_by footing v w before after index uid moment (Done Damaged) le begins legal same is does adds heard_is = record { adds = adds }
told_by footing v w before after index uid moment (Done Compressed) le begins legal same is does adds heard_is = record { adds = adds }
told_by footing v w before after index uid moment (Done (Asked serial)) le begins legal same is does adds heard_is =
    asked_now footing v w before after index uid moment serial begins legal same does adds heard_is
told_by footing v w before after index uid moment (Done reply) le begins legal same is does adds heard_is =
    let s = state_now before in
    absurd (fits_ask (tells before.states) s.faults (nat_le s.n index) (has index s.damaged) (has index s.compressed) s.next reply does.step.allowed.fits).1
told_by footing v w before after index uid moment (HistoryFull entries claimed) le begins legal same is does adds heard_is =
    (record { adds = adds }, overfull footing (length (heard v)) w before after (Ask index uid moment) entries claimed le refl is same heard_is does)
told_by footing v w before after index uid moment OutOfMemory le begins legal same is does adds heard_is = record { adds = adds }

pub footing_same : (footing : CellFooting) (v : View CellFooting) (before : Seen) → Some (footing_of before) ≡ v.footing → v.footing ≡ Some footing → footing_of before ≡ footing
footing_same footing v before floor is = some_footing (footing_of before) footing (floor ∙ is)

-- what the asker is told is what its entry says
pub ask_told : (footing : CellFooting) (v w : View CellFooting) (index uid moment : ℕ) (early : Bool) (answer : Answer) → CellTurn v (ask_event early index uid moment) answer w → v.footing ≡ Some footing
    → AskTold footing v w index uid moment (asked_result answer.reply)
ask_told footing v w index uid moment true answer t is =
    told_by footing v w t.before (event_left (AskEarly index uid moment) t.before t.after) index uid moment answer.reply (seen_before v t.before.history t.between t.told) t.moves.begins t.moves.legal (footing_same footing v t.before t.floor is)
    (footing_after footing v w _ t.adds is) t.moves.steps.reply_is t.adds t.heard_is
ask_told footing v w index uid moment false answer t is =
    told_by footing v w t.before (event_left (Plain (Ask index uid moment)) t.before t.after) index uid moment answer.reply (seen_before v t.before.history t.between t.told) t.moves.begins t.moves.legal (footing_same footing v t.before t.floor is)
    (footing_after footing v w _ t.adds is) t.moves.steps.reply_is t.adds t.heard_is

asks_by : (before after : Seen) (who index uid moment : ℕ) (reply : CellReply) → CellReplies before who (Ask index uid moment) [] reply after → AsksCell reply
asks_by before after who index uid moment (Done reply) does =
    let s = state_now before in
    (fits_ask (tells before.states) s.faults (nat_le s.n index) (has index s.damaged) (has index s.compressed) s.next reply does.step.allowed.fits).1
asks_by before after who index uid moment (HistoryFull entries claimed) does = tt
asks_by before after who index uid moment OutOfMemory does = tt

-- an ask has these replies alone
pub asks_cell : (v w : View CellFooting) (index uid moment : ℕ) (early : Bool) (answer : Answer) → CellTurn v (ask_event early index uid moment) answer w → AsksCell answer.reply
asks_cell v w index uid moment true answer t = asks_by t.before (event_left (AskEarly index uid moment) t.before t.after) v.number index uid moment answer.reply t.moves.steps.reply_is
asks_cell v w index uid moment false answer t = asks_by t.before (event_left (Plain (Ask index uid moment)) t.before t.after) v.number index uid moment answer.reply t.moves.steps.reply_is

-- an ask is anybody's
pub ask_taken : (who index uid moment : ℕ) (early : Bool) → CellTakes who (ask_event early index uid moment)
ask_taken who index uid moment true = tt
ask_taken who index uid moment false = tt
