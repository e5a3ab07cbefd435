-- What taking the waiting reads leaves of a seat's own entries, by what it answers.
use Rattle.std.specs.Prelude.{ℕ, [], ◌∷◌, Result, Ok, Err}
use Rattle.inc_model.specs.relation.Step.{IsLegal}
use Rattle.inc_model.specs.declared.words.event.Event.TheVariants.{TakePending}
use Rattle.inc_model.specs.declared.words.outcomes.FillError.{FillError}
use Rattle.inc_model.specs.declared.words.outcomes.FillError.TheVariants as refusal
use Rattle.inc_model.specs.declared.words.reply.Reply.TheVariants.{Taken}
use Rattle.inc_turn.specs.Turns.{AddsOwn}
use Rattle.inc_turn.specs.Views.{heard}
use Rattle.inc_turn.specs.declared.view.View.{View}
use Rattle.inc_cell.specs.declared.machine.CellFooting.{CellFooting}
use Rattle.inc_cell.specs.declared.words.answer.CellReply.{CellReply}
use Rattle.inc_cell.specs.declared.words.answer.CellReply.TheVariants.{Done, HistoryFull, OutOfMemory}
use Rattle.inc_handle.specs.UnderWay.{IsEntryAt, IsFullFile}
use Rattle.inc_handle.specs.declared.fill.pending.TakenReads.{TakenReads}

abbrev pub taken_by : ℕ → CellReply → Result TakenReads FillError
taken_by at (Done (Taken records readers)) = Ok (record { records = records; readers = readers; at = at })
taken_by at (Done given) = Err refusal.OutOfMemory
taken_by at (HistoryFull entries claimed) = Err (refusal.HistoryFull entries claimed)
taken_by at OutOfMemory = Err refusal.OutOfMemory

-- one entry of the seat, at this position, with just these reads
pub record TakesReads (file : CellFooting) (v : View CellFooting) (after most : ℕ) (taken : TakenReads) (w : View CellFooting) : Type 0 where
  pub adds : AddsOwn v w (record { who = v.number; event = TakePending after most; reply = Taken taken.records taken.readers } ∷ [])
  pub here : IsEntryAt (heard w) taken.at (record { who = v.number; event = TakePending after most; reply = Taken taken.records taken.readers })
  pub legal : IsLegal 0 file.told file.opening (heard w)

abbrev pub TakesPending : CellFooting → View CellFooting → ℕ → ℕ → Result TakenReads FillError → View CellFooting → Type 0
TakesPending file v after most (Ok taken) w = TakesReads file v after most taken w
TakesPending file v after most (Err (refusal.HistoryFull entries claimed)) w = IsFullFile file v (TakePending after most) entries claimed w
TakesPending file v after most (Err refusal.OutOfMemory) w = AddsOwn v w []
TakesPending file v after most (Err error) w = ⊥
