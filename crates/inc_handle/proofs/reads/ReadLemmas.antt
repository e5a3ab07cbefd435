-- A whole read, of its turns.
use Rattle.std.proofs.Common.{◌≡◌, ◌⊎◌, ℕ, ◌+◌, length, arith, List, [], ◌∷◌, ◌++◌, Some, Result, Ok, Err, refl, sym, ap, subst, ◌∙◌, inl, inr, ⊎_elim}
use Rattle.std.proofs.lemmas.List.{append_assoc}
use Rattle.inc_model.specs.declared.words.outcomes.Found.{Found}
use Rattle.inc_model.specs.declared.words.outcomes.ReadError.{ReadError}
use Rattle.inc_model.specs.declared.words.outcomes.ReadError.TheVariants as refused
use Rattle.inc_model.specs.declared.words.reply.Entry.{Entry}
use Rattle.inc_model.specs.declared.words.reply.Reply.{Reply}
use Rattle.inc_model.specs.declared.words.reply.Reply.TheVariants.{Asked, Fault, Handed, NoPath, TimedOut}
use Rattle.inc_cell.specs.declared.machine.CellFooting.{CellFooting}
use Rattle.inc_cell.specs.declared.words.answer.HandedBytes.{HandedBytes}
use Rattle.inc_turn.specs.Lists.{entries_of_turns}
use Rattle.inc_turn.specs.Turns.{AddsOwn}
use Rattle.inc_turn.specs.Views.{heard}
use Rattle.inc_turn.specs.declared.view.View.{View}
use Rattle.inc_turn.proofs.ListLemmas.{entries_of_turns-append}
use Rattle.inc_turn.proofs.TurnLemmas.{adds_both}
use Rattle.inc_handle.specs.declared.reader.polling.Polled.TheVariants.{Given, Late, Pathless, Faulted, Crowded, Starved}
use Rattle.inc_handle.specs.Answered.{ReadAnswers, ReadsEach}
use Rattle.inc_handle.specs.Reads.{AsksAndPolls, AsksThen, AskTold, AwaitEnds, CancelTold, GivesUp, HasAsked, IsOverfull, LackedPath, LeavesNothing, WasLate, PolledAs, ReadTold, ShowTold, EntryStands, ask_entry, cancel_entry, poll_entry}
use Rattle.inc_handle.proofs.reads.AskLemmas.{footing_after, number_after}
use Rattle.inc_handle.proofs.reads.PollLemmas.{fewer_entries}
use Rattle.inc_handle.proofs.reads.SeenLemmas.{heard_grows}

module _ (may : ℕ → Type 0) (footing : CellFooting) where
  -- an ask, and what follows it
  asks_then : (v v1 w : View CellFooting) (index uid moment serial : ℕ) (rest : List Entry) → may moment → HasAsked footing v v1 index uid moment serial → AddsOwn v1 w rest
      → AsksThen may v w index uid serial rest
  asks_then v v1 w index uid moment serial rest possible asked adds = record {
    moment = moment;
    possible = possible;
    adds = adds_both v v1 w (ask_entry v.number index uid moment (Asked serial) ∷ []) rest asked.adds adds;
  }

  pub polls_told : (v v1 w : View CellFooting) (index uid first serial moment : ℕ) (reply : Reply) (at : ℕ) → may first → may moment → HasAsked footing v v1 index uid first serial
      → PolledAs v1 w serial moment reply at → AsksAndPolls may v w index uid serial moment reply at
  polls_told v v1 w index uid first serial moment reply at possible again asked polled =
      let same = number_after v v1 _ asked.adds in
      record {
        asks =
            asks_then v v1 w index uid first serial (poll_entry v.number serial moment reply ∷ []) possible asked
            (subst (λ (n : ℕ). AddsOwn v1 w (poll_entry n serial moment reply ∷ [])) same polled.adds);
        possible = again;
        stands = subst (λ (n : ℕ). EntryStands w at (poll_entry n serial moment reply)) same polled.stands;
      }

  -- a read that is given up after this
  gives_up : (v v1 w x : View CellFooting) (index uid first serial : ℕ) (polled : List Entry) → may first → HasAsked footing v v1 index uid first serial → AddsOwn v1 w polled
      → CancelTold w x serial → GivesUp may v x index uid serial polled
  gives_up v v1 w x index uid first serial polled possible asked adds cancel =
      let same = number_after v1 w _ adds ∙ number_after v v1 _ asked.adds in
      record {
        cancelled = cancel.cancelled;
        asks = asks_then v v1 x index uid first serial (polled ++ cancel.cancelled) possible asked (adds_both v1 w x polled cancel.cancelled adds cancel.adds);
        cancel = subst (λ (n : ℕ). (cancel.cancelled ≡ []) ⊎ ((reply : Reply) × (cancel.cancelled ≡ cancel_entry n serial reply ∷ []))) same cancel.cancel;
      }

-- what was seen before is seen after a turn
overfull_after : (from : ℕ) (w x : View CellFooting) (mine : List Entry) (entries claimed : ℕ) → AddsOwn w x mine → IsOverfull from w entries claimed → IsOverfull from x entries claimed
overfull_after from w x mine entries claimed adds over = record {
  footing = over.footing;
  front = over.front;
  rest = over.rest ++ entries_of_turns adds.since;
  footing_is = ap (λ (y : View CellFooting). y.footing) adds.view_is ∙ over.footing_is;
  heard_is =
      ap heard adds.view_is
      ∙ (ap (λ (es : List Entry). w.base ++ es) (entries_of_turns-append w.seen adds.since)
      ∙ (sym (append_assoc w.base (entries_of_turns w.seen) (entries_of_turns adds.since))
      ∙ (ap (λ (es : List Entry). es ++ entries_of_turns adds.since) over.heard_is ∙ append_assoc over.front over.rest (entries_of_turns adds.since))));
  since = over.since;
  entries_are = over.entries_are;
  claimed_are = over.claimed_are;
  full = over.full;
}

module _ (may : ℕ → Type 0) (footing : CellFooting) (v v1 w : View CellFooting) (index uid first serial : ℕ) (possible : may first) (asked : HasAsked footing v v1 index uid first serial) where
  -- what was handed out is shown, or its path breaks
  pub given_told : (known : List ℕ) (handed : HandedBytes) (at : ℕ) (result : Result Found ReadError) → AwaitEnds may footing v1 w serial index known (Given handed at)
      → ShowTold footing index handed.block.digest at result → ReadTold may footing v w index uid result
  given_told known handed at (Ok found) ended shows =
      let polls = polls_told may footing v v1 w index uid first serial ended.moment (Handed handed.block.digest) at possible ended.possible asked ended.ends.0 in
      record {
        serial = serial;
        moment = ended.moment;
        digest = handed.block.digest;
        polls = subst (λ (n : ℕ). AsksAndPolls may v w index uid serial ended.moment (Handed handed.block.digest) n) (sym shows.0) polls;
        shown = shows.1;
      }
  given_told known handed at (Err (refused.Corrupt level wanted got place)) ended shows =
      let polls = polls_told may footing v v1 w index uid first serial ended.moment (Handed handed.block.digest) at possible ended.possible asked ended.ends.0 in
      let broken = shows.1 in
      record {
        serial = serial;
        moment = ended.moment;
        root = broken.root;
        bytes = broken.bytes;
        path = broken.path;
        polls =
            subst (λ (d : List ℕ). AsksAndPolls may v w index uid serial ended.moment (Handed d) place) (sym broken.digest_is)
            (subst (λ (n : ℕ). AsksAndPolls may v w index uid serial ended.moment (Handed handed.block.digest) n) (sym shows.0) polls);
        root_is = broken.root_is;
        full = broken.full;
        breaks = broken.breaks;
      }
  given_told known handed at (Err error) ended shows = absurd shows

  pub late_told : (known : List ℕ) (deadline moment at : ℕ) → AwaitEnds may footing v1 w serial index known (Late deadline moment at)
      → AsksAndPolls may v w index uid serial moment (TimedOut deadline) at × WasLate footing w index deadline moment
  late_told known deadline moment at ended =
      subst (λ (n : ℕ). AsksAndPolls may v w index uid serial n (TimedOut deadline) at × WasLate footing w index deadline n) (sym ended.ends.0)
      (polls_told may footing v v1 w index uid first serial ended.moment (TimedOut deadline) at possible ended.possible asked ended.ends.1, ended.ends.2)

  pub pathless_told : (known : List ℕ) (hash at : ℕ) → AwaitEnds may footing v1 w serial index known (Pathless hash at)
      → (s : ℕ) × (moment : ℕ) × AsksAndPolls may v w index uid s moment (NoPath hash) at × LackedPath footing w index hash
  pathless_told known hash at ended =
      (serial, ended.moment, polls_told may footing v v1 w index uid first serial ended.moment (NoPath hash) at possible ended.possible asked ended.ends.0, ended.ends.1)

  pub faulted_told : (x : View CellFooting) (known : List ℕ) (count at : ℕ) → AwaitEnds may footing v1 w serial index known (Faulted count at) → CancelTold w x serial
      → ReadTold may footing v x index uid (Err refused.ReadFault)
  faulted_told x known count at ended cancel =
      let same = number_after v v1 _ asked.adds in (
        serial,
        ended.moment,
        count,
        ended.possible,
        gives_up may footing v v1 w x index uid first serial (poll_entry v.number serial ended.moment (Fault count) ∷ []) possible asked
            (subst (λ (n : ℕ). AddsOwn v1 w (poll_entry n serial ended.moment (Fault count) ∷ [])) same ended.ends.adds) cancel,
      )

  pub crowded_told : (x : View CellFooting) (known : List ℕ) (entries claimed : ℕ) → AwaitEnds may footing v1 w serial index known (Crowded entries claimed) → CancelTold w x serial
      → ReadTold may footing v x index uid (Err (refused.HistoryFull entries claimed))
  crowded_told x known entries claimed ended cancel = (
    fewer_entries (length (heard v)) (length (heard v1)) x entries claimed (heard_grows v v1 _ asked.adds) (overfull_after (length (heard v1)) w x cancel.cancelled entries claimed cancel.adds ended.ends.1),
    inr (serial, gives_up may footing v v1 w x index uid first serial [] possible asked ended.ends.0.adds cancel),
  )

  pub starved_told : (x : View CellFooting) (known : List ℕ) → AwaitEnds may footing v1 w serial index known Starved → CancelTold w x serial
      → ReadTold may footing v x index uid (Err refused.OutOfMemory)
  starved_told x known ended cancel = inr (serial, gives_up may footing v v1 w x index uid first serial [] possible asked ended.ends.adds cancel)

-- a refused ask is all that there is of its read
pub refused_told : (may : ℕ → Type 0) (footing : CellFooting) (v w : View CellFooting) (index uid moment : ℕ) (error : ReadError) → may moment
    → AskTold footing v w index uid moment (Err error) → ReadTold may footing v w index uid (Err error)
refused_told may footing v w index uid moment refused.OutOfRange possible told = (moment, possible, told)
refused_told may footing v w index uid moment refused.Damaged possible told = (moment, possible, told)
refused_told may footing v w index uid moment refused.Compressed possible told = (moment, possible, told)
refused_told may footing v w index uid moment (refused.HistoryFull entries claimed) possible told = (told.1, inl told.0)
refused_told may footing v w index uid moment refused.OutOfMemory possible told = inl told
refused_told may footing v w index uid moment error possible told = absurd told

-- one read more
pub one_read_more : (may : ℕ → Type 0) (footing : CellFooting) (v u w : View CellFooting) (index uid : ℕ) (answers : List (Result Found ReadError)) (answer : Result Found ReadError) (last : ℕ)
    → last ≡ index + length answers → ReadsEach may footing v u index uid answers → ReadAnswers may footing u w last uid answer → ReadsEach may footing v w index uid (answers ++ answer ∷ [])
one_read_more may footing v u w index uid [] answer last at same told =
    let here : last ≡ index = omega (arith, at) in
    (w, subst (λ (x : View CellFooting). ReadAnswers may footing x w index uid answer) same (subst (λ (n : ℕ). ReadAnswers may footing u w n uid answer) here told), refl)
one_read_more may footing v u w index uid (first ∷ answers) answer last at reads told =
    (reads.0, reads.1, one_read_more may footing reads.0 u w (index + 1) uid answers answer last (omega (arith, at)) reads.2 told)

-- ---- a seat is of its file after a read too

pub read_footing : (may : ℕ → Type 0) (footing : CellFooting) (v w : View CellFooting) (index uid : ℕ) (result : Result Found ReadError) → ReadTold may footing v w index uid result
    → v.footing ≡ Some footing → w.footing ≡ Some footing
read_footing may footing v w index uid (Ok found) told is = footing_after footing v w _ told.polls.asks.adds is
read_footing may footing v w index uid (Err refused.OutOfRange) told is = footing_after footing v w _ told.2.adds is
read_footing may footing v w index uid (Err refused.Damaged) told is = footing_after footing v w _ told.2.adds is
read_footing may footing v w index uid (Err refused.Compressed) told is = footing_after footing v w _ told.2.adds is
read_footing may footing v w index uid (Err (refused.TimedOut serial deadline moment at)) told is = footing_after footing v w _ told.0.asks.adds is
read_footing may footing v w index uid (Err (refused.PathAbsent hash at)) told is = footing_after footing v w _ told.2.asks.adds is
read_footing may footing v w index uid (Err (refused.Corrupt level wanted got at)) told is = footing_after footing v w _ told.polls.asks.adds is
read_footing may footing v w index uid (Err refused.ReadFault) told is = footing_after footing v w _ told.4.asks.adds is
read_footing may footing v w index uid (Err (refused.HistoryFull entries claimed)) told is =
    ⊎_elim (λ (none : LeavesNothing v w). footing_after footing v w [] none.adds is) (λ (given : (serial : ℕ) × GivesUp may v w index uid serial []). footing_after footing v w _ given.1.asks.adds is) told.1
read_footing may footing v w index uid (Err refused.OutOfMemory) told is =
    ⊎_elim (λ (none : LeavesNothing v w). footing_after footing v w [] none.adds is) (λ (given : (serial : ℕ) × GivesUp may v w index uid serial []). footing_after footing v w _ given.1.asks.adds is) told
