-- Where a row of a list by rising keys stands, or would stand.
use Rattle.std.specs.Prelude.{◌≡◌, ℕ, ◌+◌, ◌-◌, ◌<◌, ◌≤◌, List, ◌∷◌, ◌++◌, ◌==◌, if◌then◌else◌, length, take, drop, set, slice_index_or}
use Rattle.inc_pending.specs.Keyed.{insert}
use Rattle.inc_model.specs.declared.words.event.Window.{Window}
use Rattle.inc_model.specs.declared.words.file_state.FlightRow.{FlightRow}
use Rattle.inc_model.specs.declared.words.file_state.Stage.{Stage}
use Rattle.inc_model.specs.relation.State.{Claims, with_index, claim, spend, fly}

-- one more at a place
abbrev pub with_at : {X : Type 0} → ℕ → X → List X → List X
with_at at x xs = take at xs ++ x ∷ drop at xs

module _ {V : Type 0} where
  pub record IsKeyAt (rows : List (ℕ × V)) (key at : ℕ) : Type 0 where
    pub within : at < length rows
    pub replaced : (value : V) → insert key value rows ≡ set rows at (key, value)

  pub record IsKeySlot (rows : List (ℕ × V)) (key at : ℕ) : Type 0 where
    pub within : at ≤ length rows
    pub put : (value : V) → insert key value rows ≡ with_at at (key, value) rows

pub record IsSlot (indices : List ℕ) (index at : ℕ) : Type 0 where
  pub within : at ≤ length indices
  pub put : with_index index indices ≡ with_at at index indices

pub record IsFlightSlot (flight : List FlightRow) (row : FlightRow) (at : ℕ) : Type 0 where
  pub within : at ≤ length flight
  pub put : fly row flight ≡ with_at at row flight

-- the window's row stands there, as a claim finds it
pub record IsClaimAt (claimed : Claims) (window : Window) (at : ℕ) : Type 0 where
  pub within : at < length claimed
  pub grown : (places : ℕ) (d : Window × ℕ) → claim window places claimed ≡ set claimed at ((slice_index_or claimed at d).0, (slice_index_or claimed at d).1 + places)

pub record IsClaimSlot (claimed : Claims) (window : Window) (at : ℕ) : Type 0 where
  pub within : at ≤ length claimed
  pub put : (places : ℕ) → claim window places claimed ≡ with_at at (window, places) claimed

-- the window's first row stands there
pub record IsWindowAt (claimed : Claims) (window : Window) (at : ℕ) : Type 0 where
  pub within : at < length claimed
  pub spent : (d : Window × ℕ) → spend window claimed ≡ set claimed at ((slice_index_or claimed at d).0, (slice_index_or claimed at d).1 - 1)

-- an index at a stage
abbrev pub staged : Stage → ℕ → FlightRow → FlightRow
staged stage index row = if row.index == index then record row { stage = stage } else row
