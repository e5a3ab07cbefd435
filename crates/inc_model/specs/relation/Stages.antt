-- How far the fill of an index has come. A block's bytes are written, then its place; a sync settles both; the gate opens the entry, and the
-- next sync acknowledges it. A sync of any window settles and acknowledges the rows of all windows.
use Rattle.std.specs.Prelude.{ℕ, Bool, true, false, not, ◌&&◌, List, [], ◌∷◌, map, filter, Option, Some, None, ◌==◌, if◌then◌else◌}
use Rattle.inc_model.specs.declared.words.event.Window.{Window}
use Rattle.inc_model.specs.declared.words.file_state.Stage.{Stage}
use Rattle.inc_model.specs.declared.words.file_state.Stage.TheVariants.{Written, Placed, Settled, Gated}
use Rattle.inc_model.specs.declared.words.file_state.FlightRow.{FlightRow}
use Rattle.inc_model.specs.relation.State.{is_same, with_index}

abbrev pub is_written : Stage → Bool
is_written Written = true
is_written stage = false

abbrev pub is_settled : Stage → Bool
is_settled Settled = true
is_settled stage = false

abbrev pub is_gated : Stage → Bool
is_gated Gated = true
is_gated stage = false

-- ---- one row

abbrev pub written : Window → ℕ → List ℕ → FlightRow
written window index digest = record { window = window; index = index; digest = digest; stage = Written }

-- the row of this index, if any, is this window's and at a stage
abbrev pub is_at : (Stage → Bool) → Window → Option FlightRow → Bool
is_at stage window None = false
is_at stage window (Some row) = is_same window row.window && stage row.stage

abbrev pub placed_row : ℕ → FlightRow → FlightRow
placed_row index row = if row.index == index then record row { stage = Placed } else row

abbrev pub gated_row : ℕ → FlightRow → FlightRow
gated_row index row = if row.index == index then record row { stage = Gated } else row

abbrev pub settled_stage : Stage → Stage
settled_stage Placed = Settled
settled_stage stage = stage

abbrev pub synced_row : FlightRow → FlightRow
synced_row row = record row { stage = settled_stage row.stage }

-- ---- all rows

abbrev pub placed : ℕ → List FlightRow → List FlightRow
placed index flight = map (placed_row index) flight

abbrev pub gated : ℕ → List FlightRow → List FlightRow
gated index flight = map (gated_row index) flight

-- after a sync: what is gated leaves the flight, what is placed is settled
abbrev pub synced_flight : List FlightRow → List FlightRow
synced_flight flight = map synced_row (filter (λ row. not (is_gated row.stage)) flight)

-- what is gated is acknowledged
abbrev pub acknowledge : List FlightRow → List ℕ → List ℕ
acknowledge [] indices = indices
acknowledge (row ∷ rows) indices = acknowledge rows (if is_gated row.stage then with_index row.index indices else indices)
