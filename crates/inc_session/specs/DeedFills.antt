-- What filling pieces of one file leaves of its seat's own entries.
use Rattle.std.specs.Prelude.{◌≡◌, ℕ, ◌+◌, ◌*◌, ◌<◌, ◌≤◌, List, [], ◌∷◌, length, take, Option, Result, Ok, Err, if◌then◌else◌, true, false, Bool}
use Rattle.inc_frame.specs.declared.piece.Piece.{Piece}
use Rattle.inc_model.specs.declared.words.event.Event.TheVariants.{Claim}
use Rattle.inc_model.specs.declared.words.event.Window.{Window}
use Rattle.inc_model.specs.declared.words.reply.Entry.{Entry}
use Rattle.inc_model.specs.declared.words.reply.Reply.{Reply}
use Rattle.inc_model.specs.declared.words.reply.Reply.TheVariants as reply
use Rattle.inc_model.specs.relation.Step.{IsLegal}
use Rattle.inc_turn.specs.Turns.{AddsOwn}
use Rattle.inc_turn.specs.Views.{heard}
use Rattle.inc_turn.specs.declared.view.View.{View}
use Rattle.inc_cell.specs.declared.machine.CellFooting.{CellFooting}
use Rattle.inc_filling.specs.Grouped.{puts_among}
use Rattle.inc_filling.specs.Pieces.{piece_puts}
use Rattle.inc_filling.specs.Stands.{events_of}
use Rattle.inc_handle.specs.Fills.{claim_places}
use Rattle.inc_handle.specs.UnderWay.{IsFullFile}
use Rattle.inc_script.specs.declared.report_text.ends.DriveEnd.{DriveEnd}
use Rattle.inc_script.specs.declared.report_text.ends.DriveEnd.TheVariants as end
use Rattle.inc_session.specs.Deeds.{EachOf, HasOutcome, IsFillEvent, was_busy, was_present, was_written, places_of_claim, readers_in, records_in}
use Rattle.inc_session.specs.declared.driving.counts.DriveCounts.{DriveCounts}

abbrev pub reply_count : (Reply → Bool) → List Entry → ℕ
reply_count test [] = 0
reply_count test (entry ∷ entries) = if test entry.reply then reply_count test entries + 1 else reply_count test entries

abbrev pub claimed_by : List Entry → ℕ
claimed_by [] = 0
claimed_by (entry ∷ entries) = places_of_claim entry.event + claimed_by entries

-- an entry of a fill
pub record IsFillEntry (entry : Entry) : Type 0 where
  pub event_is : IsFillEvent entry.event
  pub no_reads : records_in entry.reply ≡ []
  pub no_readers : (before : Option ℕ) → readers_in before entry.reply ≡ before

-- the reads, the counts of readers and the serials are no fill's
abbrev pub AreFillEntries : List Entry → Type 0
AreFillEntries entries = EachOf IsFillEntry entries

-- at most 7 entries and 6 claimed places for each piece
pub record AreFew (entries : List Entry) (count : ℕ) : Type 0 where
  pub entries_few : length entries ≤ 7 * count
  pub claims_few : claimed_by entries ≤ 6 * count

-- each of the pieces was put, in their order, and has its outcome; the counts have grown by these
pub record GroupIsIn (file : CellFooting) (v : View CellFooting) (pieces : List Piece) (old new : DriveCounts) (w : View CellFooting) : Type 0 where
  pub entries : List Entry
  pub adds : AddsOwn v w entries
  pub fill : AreFillEntries entries
  pub few : AreFew entries (length pieces)
  pub puts : puts_among (events_of entries) ≡ piece_puts file.opened pieces
  pub outcomes : EachOf (λ (entry : Entry). HasOutcome entry.event entry.reply) entries
  pub told : new.told ≡ old.told
  pub written : new.written ≡ old.written + reply_count was_written entries
  pub present : new.present ≡ old.present + reply_count was_present entries
  pub busy : new.busy ≡ old.busy + reply_count was_busy entries
  pub legal : IsLegal 0 file.told file.opening (heard w)

abbrev pub tells_fault : Reply → Bool
tells_fault (reply.Fault count) = true
tells_fault given = false

abbrev pub tells_failed : Reply → Bool
tells_failed (reply.Failed at) = true
tells_failed given = false

-- a front of the pieces was put, and one of the entries has a reply of this kind
pub record GroupStops (file : CellFooting) (v : View CellFooting) (pieces : List Piece) (kind : Reply → Bool) (w : View CellFooting) : Type 0 where
  pub entries : List Entry
  pub adds : AddsOwn v w entries
  pub fill : AreFillEntries entries
  pub few : AreFew entries (length pieces)
  pub front : ℕ
  pub puts : puts_among (events_of entries) ≡ piece_puts file.opened (take front pieces)
  pub some : 0 < reply_count kind entries
  pub legal : IsLegal 0 file.told file.opening (heard w)

-- how the drive ends by a group that isn't in
abbrev pub StopsGroup : CellFooting → View CellFooting → List Piece → DriveEnd → View CellFooting → Type 0
StopsGroup file v pieces end.Fault w = GroupStops file v pieces tells_fault w
StopsGroup file v pieces end.Failed w = GroupStops file v pieces tells_failed w
StopsGroup file v pieces end.HistoryFull w = (window : Window) × (entries : ℕ) × (claimed : ℕ) × IsFullFile file v (Claim window (claim_places (length pieces))) entries claimed w
StopsGroup file v pieces end.OutOfMemory w = AddsOwn v w []
StopsGroup file v pieces other w = ⊥

abbrev pub FillsGroupOwn : {T : Type 0} → CellFooting → View CellFooting → List Piece → DriveCounts → Result T DriveEnd → DriveCounts → View CellFooting → Type 0
FillsGroupOwn file v pieces old (Ok done) new w = GroupIsIn file v pieces old new w
FillsGroupOwn file v pieces old (Err stop) new w = StopsGroup file v pieces stop w × (new ≡ old)
