-- What a fill from a stream does to a cell, and to the bytes of its file.
use Rattle.std.specs.Prelude.{◌≡◌, ◌⊎◌, ℕ, ◌+◌, ◌*◌, ◌<◌, ◌≤◌, Bool, List, [], ◌∷◌, length, take, Option, Some, None, Result, Ok, Err}
use Rattle.std.specs.List.{filter_map}
use Rattle.inc_io.specs.Causes.{Rose}
use Rattle.inc_disk.specs.Disk.{DiskState, reads_of}
use Rattle.inc_frame.specs.Fronts.{StreamFront, stream_front}
use Rattle.inc_frame.specs.declared.piece.Piece.{Piece}
use Rattle.inc_layout.specs.declared.opened.Opened.{Opened}
use Rattle.inc_loader.specs.Reading.{before_rest}
use Rattle.inc_model.specs.declared.words.event.Event.{Event}
use Rattle.inc_model.specs.declared.words.event.Event.TheVariants.{Claim, Gate}
use Rattle.inc_model.specs.declared.words.event.Window.{Window}
use Rattle.inc_model.specs.declared.words.limits.TheConstants.{MOST_ENTRIES}
use Rattle.inc_cell.specs.events.Answers.{IsFullCell}
use Rattle.inc_cell.specs.seen.Seen.{Seen, state_now}
use Rattle.inc_filling.specs.Contents.{FilledFile, with_pieces}
use Rattle.inc_filling.specs.Fillable.{IsFillable}
use Rattle.inc_filling.specs.Grouped.{AllOpen, EndReleased, puts_among}
use Rattle.inc_filling.specs.Pieces.{piece_indices, piece_puts}
use Rattle.inc_filling.specs.Refusals.{taken_pieces}
use Rattle.inc_filling.specs.Stands.{HasTaken}
use Rattle.inc_filling.specs.Streams.{EndsStream, FillGoesOn, end_of_fill}
use Rattle.inc_filling.specs.declared.from_stream.filled.Filled.{Filled}
use Rattle.inc_filling.specs.declared.from_stream.filled.FillFailure.{FillFailure}
use Rattle.inc_filling.specs.declared.from_stream.filled.FillFailure.TheVariants.{Source, Stopped}
use Rattle.inc_filling.specs.declared.stop.FillStop.{FillStop}
use Rattle.inc_filling.specs.declared.stop.FillStop.TheVariants.{DiskFault, Failed, HistoryFull, OutOfMemory}

-- ---- the totals

abbrev pub gate_in : Event → Option ℕ
gate_in (Gate window index) = Some index
gate_in event = None

-- the indices whose entries were opened
abbrev pub gates_among : List Event → List ℕ
gates_among events = filter_map gate_in events

-- The disk reads as the definition says, whose counts grew by these.
pub record FillsBytes (opened : Opened) (pieces : List Piece) (written present : ℕ) (file : FilledFile) (states : List DiskState) : Type 0 where
  pub reads : reads_of states ≡ Some (with_pieces opened file pieces).bytes
  pub written_is : (with_pieces opened file pieces).written ≡ file.written + written
  pub present_is : (with_pieces opened file pieces).present ≡ file.present + present

-- where the disk tells what it holds
abbrev pub FillsTo : Opened → List Piece → ℕ → ℕ → List DiskState → List DiskState → Type 0
FillsTo opened pieces written present old new = (file : FilledFile) → reads_of old ≡ Some file.bytes → FillsBytes opened pieces written present file new

-- ---- pieces that are in

-- These pieces were put in their order, and no others; each of their indices is open, and all that is open is acknowledged.
-- Where there are none nothing has changed.
pub record AreIn (old : Seen) (window : Window) (pieces : List Piece) (written present : ℕ) (new : Seen) : Type 0 where
  pub events : List Event
  pub taken : HasTaken old events new
  pub puts_are : puts_among events ≡ piece_puts old.opened pieces
  pub gates_are : length (gates_among events) ≡ written
  pub all_told : written + present ≡ length pieces
  pub few : length events ≤ 7 * length pieces
  pub rest : IsFillable new
  pub sound : ((pieces ≡ []) × (new ≡ old)) ⊎ ((state_now new).failed ≡ None)
  pub count : new.count ≡ old.count
  pub there : AllOpen (state_now new).map (piece_indices old.opened pieces)
  pub contents : FillsTo old.opened pieces written present old.states new.states

-- the first so many of the pieces are in, and the file is at rest
pub record FrontAreIn (old : Seen) (window : Window) (pieces : List Piece) (count : ℕ) (new : Seen) : Type 0 where
  pub within : count ≤ length pieces
  pub written : ℕ
  pub present : ℕ
  pub are_in : AreIn old window (take count pieces) written present new

-- ---- a fill that stops

-- a device call has failed: the first so many of the pieces were put, and no more; the window was given up
pub record StopsAfter (old : Seen) (window : Window) (pieces : List Piece) (new : Seen) : Type 0 where
  pub front : ℕ
  pub within : front ≤ length pieces
  pub events : List Event
  pub taken : HasTaken old events new
  pub puts_are : puts_among events ≡ piece_puts old.opened (take front pieces)
  pub released : EndReleased window events
  pub rose : Rose old.count new.count

-- the file had failed before: the claim of the first group alone was entered
pub record HadFailed (old : Seen) (window : Window) (pieces : List Piece) (at : ℕ) (new : Seen) : Type 0 where
  pub failed : (state_now old).failed ≡ Some at
  pub group : ℕ
  pub some : 1 ≤ group
  pub most : group ≤ 64
  pub within : group ≤ length pieces
  pub taken : HasTaken old (Claim window (5 * group + 1) ∷ []) new
  pub count : new.count ≡ old.count

-- The first so many of the pieces are in, and the history has no room to claim for the group after them. A piece takes seven entries at most.
pub record IsFullFill (old : Seen) (window : Window) (pieces : List Piece) (entries claimed : ℕ) (new : Seen) : Type 0 where
  pub count : ℕ
  pub front : FrontAreIn old window pieces count new
  pub group : ℕ
  pub some : 1 ≤ group
  pub most : group ≤ 64
  pub within : count + group ≤ length pieces
  pub full : IsFullCell new (Claim window (5 * group + 1)) entries claimed new
  pub many : MOST_ENTRIES < length old.history + 7 * count + 322

abbrev pub StopsBy : Seen → Window → List Piece → FillStop → Seen → Type 0
StopsBy old window pieces DiskFault new = StopsAfter old window pieces new
StopsBy old window pieces (Failed at) new = HadFailed old window pieces at new
StopsBy old window pieces (HistoryFull entries claimed) new = IsFullFill old window pieces entries claimed new
StopsBy old window pieces OutOfMemory new = (count : ℕ) × FrontAreIn old window pieces count new

-- ---- the whole fill

-- by what was read of the stream
abbrev pub FillsWith : Seen → Window → StreamFront → Bool → Option (List ℕ) → Result Filled FillFailure → Seen → Type 0
FillsWith old window front source_ended left (Ok filled) new =
    EndsStream old.opened front source_ended left filled.end × AreIn old window (taken_pieces old.opened front.pieces) filled.written filled.present new
FillsWith old window front source_ended left (Err (Source None)) new = FillGoesOn old.opened front × (written : ℕ) × (present : ℕ) × AreIn old window front.pieces written present new
FillsWith old window front source_ended left (Err (Source (Some stop))) new = FillGoesOn old.opened front × StopsBy old window front.pieces stop new
FillsWith old window front source_ended left (Err (Stopped stop)) new = StopsBy old window (taken_pieces old.opened front.pieces) stop new

-- These bytes were taken of the input, where its source tells that, and the fill is by them. `before` and `left` are what the source gives still.
pub record FillsFrom (old : Seen) (window : Window) (before left : Option (List ℕ)) (source_ended : Bool) (result : Result Filled FillFailure) (new : Seen) : Type 0 where
  pub read : List ℕ
  pub input_is : before ≡ before_rest read left
  pub fills : FillsWith old window (stream_front read) source_ended left result new

-- Where the source tells the whole input, it is by the definition's pieces of all of it.
abbrev pub FillsTold : Seen → Window → StreamFront → Result Filled FillFailure → Seen → Type 0
FillsTold old window front (Ok filled) new = (filled.end ≡ end_of_fill old.opened front) × AreIn old window (taken_pieces old.opened front.pieces) filled.written filled.present new
FillsTold old window front (Err (Source None)) new = (count : ℕ) × FrontAreIn old window (taken_pieces old.opened front.pieces) count new
FillsTold old window front (Err (Source (Some stop))) new = StopsBy old window (taken_pieces old.opened front.pieces) stop new
FillsTold old window front (Err (Stopped stop)) new = StopsBy old window (taken_pieces old.opened front.pieces) stop new

-- ---- the source

abbrev pub IsSourceFault : {T : Type 0} → Result T FillFailure → Type 0
IsSourceFault (Err (Source stop)) = Unit {0}
IsSourceFault (Err (Stopped stop)) = ⊥
IsSourceFault (Ok done) = ⊥

-- its fault is told exactly where its count of faults rose
pub record HasSourceCause {T : Type 0} (before now : ℕ) (result : Result T FillFailure) : Type 0 where
  pub later : before ≤ now
  pub failed : IsSourceFault result → Rose before now
  pub kept : (IsSourceFault result → ⊥) → now ≡ before
