-- What a fill of pieces answers, by what became of their blocks.
use Rattle.std.specs.Prelude.{◌≡◌, ◌⊎◌, ℕ, suc, ◌==◌, ◌&&◌, Bool, true, false, List, [], ◌∷◌, map, Option, Some, None, Result, Ok, Err, nat_eq}
use Rattle.std.specs.Cmp.Lexicographic.{pointwise}
use Rattle.inc_frame.specs.declared.piece.Piece.{Piece}
use Rattle.inc_layout.specs.declared.opened.Opened.{Opened}
use Rattle.inc_model.specs.declared.words.event.Window.{Window}
use Rattle.inc_model.specs.declared.words.outcomes.FillError.{FillError}
use Rattle.inc_model.specs.declared.words.outcomes.FillError.TheVariants as refusal
use Rattle.inc_model.specs.declared.words.outcomes.Outcome.{Outcome}
use Rattle.inc_model.specs.declared.words.outcomes.Outcome.TheVariants as outcome
use Rattle.inc_turn.specs.declared.view.View.{View}
use Rattle.inc_cell.specs.declared.machine.CellFooting.{CellFooting}
use Rattle.inc_filling.specs.Pieces.{StorePieces}
use Rattle.inc_filling.specs.declared.filling.Filling.{Filling}
use Rattle.inc_filling.specs.declared.stop.FillStop.{FillStop}
use Rattle.inc_filling.specs.declared.stop.FillStop.TheVariants as stop
use Rattle.inc_handle.specs.Checks.{refusal_from}
use Rattle.inc_handle.specs.Fills.{FillsOwn}
use Rattle.inc_handle.specs.Met.{FillMet}
use Rattle.inc_handle.specs.declared.fill.window.PutEnd.{PutEnd}
use Rattle.inc_handle.specs.declared.fill.window.PutEnd.TheVariants.{Busy, Present, Stored}

-- a stored block has its outcome at the sync after its gate; any other has it at its put
abbrev pub outcome_at : ℕ → PutEnd → Outcome
outcome_at at Stored = outcome.Written at
outcome_at at (Present here) = outcome.Present here
outcome_at at (Busy window here) = outcome.Busy window here

-- so many first blocks have their outcome before any sync
abbrev pub ended_first : List PutEnd → ℕ
ended_first [] = 0
ended_first (Stored ∷ ends) = 0
ended_first (Present at ∷ ends) = suc (ended_first ends)
ended_first (Busy window at ∷ ends) = suc (ended_first ends)

abbrev pub error_by : FillStop → List PutEnd → FillError
error_by stop.DiskFault ends = refusal.DiskFault (ended_first ends)
error_by (stop.Failed at) ends = refusal.Failed at
error_by (stop.HistoryFull entries claimed) ends = refusal.HistoryFull entries claimed
error_by stop.OutOfMemory ends = refusal.OutOfMemory

abbrev pub told_by : Result ℕ FillStop → List PutEnd → Result (List Outcome) FillError
told_by (Ok at) ends = Ok (map (outcome_at at) ends)
told_by (Err stop) ends = Err (error_by stop ends)

-- The pieces were filled as one group: what they store, what became of each block, and what the seat's own entries say of it.
pub record FillsByGroup (file : CellFooting) (v : View CellFooting) (window : Window) (pieces : List Piece) (result : Result (List Outcome) FillError) (w : View CellFooting) : Type 0 where
  pub group : List Filling
  pub end : Result ℕ FillStop
  pub ends : List PutEnd
  pub stored : List ℕ
  pub stores : StorePieces file.opened group pieces
  pub fills : FillsOwn file v window group end ends stored w
  pub met : FillMet file v window group end ends w
  pub told : result ≡ told_by end ends

-- no memory was there before the first event
pub record FindsNoMemory (v : View CellFooting) (result : Result (List Outcome) FillError) (w : View CellFooting) : Type 0 where
  pub told : result ≡ Err refusal.OutOfMemory
  pub same : w ≡ v

abbrev pub FillsTaken : CellFooting → View CellFooting → Window → List Piece → Result (List Outcome) FillError → View CellFooting → Type 0
FillsTaken file v window pieces result w = FindsNoMemory v result w ⊎ FillsByGroup file v window pieces result w

-- ---- whether it is begun at all

abbrev pub is_permitted : List ℕ → ℕ → List ℕ → ℕ → Bool
is_permitted pass_id pass_session id session = pointwise nat_eq pass_id id && (pass_session == session)

-- without permission nothing else is looked at
abbrev pub fill_refusal : Bool → Opened → List Piece → Option FillError
fill_refusal true opened pieces = refusal_from opened 0 pieces
fill_refusal false opened pieces = Some refusal.NoPermission

abbrev pub pass_refusal : Bool → Option FillError → Option FillError
pass_refusal true found = found
pass_refusal false found = Some refusal.NoPermission

-- a refused fill has no event
abbrev pub FillBy : Option FillError → CellFooting → View CellFooting → Window → List Piece → Result (List Outcome) FillError → View CellFooting → Type 0
FillBy (Some error) file v window pieces result w = (result ≡ Err error) × (w ≡ v)
FillBy None file v window pieces result w = FillsTaken file v window pieces result w
