-- The state of one file, and how its lists are read: by key, never by place.
--
-- An index below n is a data block, index n + k is hash block k.
use Rattle.std.specs.Prelude.{◌≡◌, ℕ, ◌+◌, ◌-◌, ◌<◌, Bool, true, false, not, ◌&&◌, ◌||◌, List, [], ◌∷◌, map, filter, find, sum_by, Option, None, ◌==◌, nat_lt, if◌then◌else◌, is_some, All, AllPairs}
use Rattle.inc_pending.specs.Keyed.{lookup, KeysRise}
use Rattle.inc_model.specs.declared.words.event.Window.{Window}
use Rattle.inc_model.specs.declared.words.file_state.FlightRow.{FlightRow}
use Rattle.inc_model.specs.declared.words.file_state.FileState.{FileState}

-- indices with the digests of their blocks
abbrev pub Digests : Type 0
Digests = List (ℕ × List ℕ)

abbrev pub is_in : {V : Type 0} → ℕ → List (ℕ × V) → Bool
is_in key rows = is_some (lookup key rows)

-- ---- sets of indices

abbrev pub has : ℕ → List ℕ → Bool
has index [] = false
has index (first ∷ rest) = (index == first) || has index rest

-- the set with this index, still rising
abbrev pub with_index : ℕ → List ℕ → List ℕ
with_index index [] = index ∷ []
with_index index (first ∷ rest) = if nat_lt index first then index ∷ first ∷ rest else if index == first then first ∷ rest else first ∷ with_index index rest

abbrev pub Rise : List ℕ → Type 0
Rise indices = AllPairs (λ (earlier later : ℕ). earlier < later) indices

-- ---- windows, and the places of the history that each has claimed

abbrev pub is_same : Window → Window → Bool
is_same a b = (a.who == b.who) && (a.count == b.count)

-- by who, then by count
abbrev pub is_before : Window → Window → Bool
is_before a b = nat_lt a.who b.who || ((a.who == b.who) && nat_lt a.count b.count)

abbrev pub Claims : Type 0
Claims = List (Window × ℕ)

-- the places that a window has left
abbrev pub places_left : Window → Claims → ℕ
places_left window [] = 0
places_left window (row ∷ rows) = if is_same window row.0 then row.1 else places_left window rows

-- the places of all windows
abbrev pub all_places : Claims → ℕ
all_places claimed = sum_by (λ row. row.1) claimed

-- so many places more for a window
abbrev pub claim : Window → ℕ → Claims → Claims
claim window places [] = (window, places) ∷ []
claim window places (row ∷ rows) =
    if is_before window row.0 then (window, places) ∷ row ∷ rows else if is_same window row.0 then (row.0, row.1 + places) ∷ rows else row ∷ claim window places rows

-- one place fewer for a window that has some; its row stays, also with none left
abbrev pub spend : Window → Claims → Claims
spend window [] = []
spend window (row ∷ rows) = if is_same window row.0 then (row.0, row.1 - 1) ∷ rows else row ∷ spend window rows

abbrev pub unclaim : Window → Claims → Claims
unclaim window claimed = filter (λ row. not (is_same window row.0)) claimed

abbrev pub WindowsRise : Claims → Type 0
WindowsRise claimed = AllPairs (λ earlier later. is_before earlier.0 later.0 ≡ true) claimed

-- ---- indices in flight

abbrev pub flight_row : ℕ → List FlightRow → Option FlightRow
flight_row index flight = find (λ row. row.index == index) flight

-- one more row, by rising index
abbrev pub fly : FlightRow → List FlightRow → List FlightRow
fly new [] = new ∷ []
fly new (row ∷ rows) = if nat_lt new.index row.index then new ∷ row ∷ rows else row ∷ fly new rows

abbrev pub land : Window → List FlightRow → List FlightRow
land window flight = filter (λ row. not (is_same window row.window)) flight

abbrev pub FlightRises : List FlightRow → Type 0
FlightRises flight = AllPairs (λ earlier later. earlier.index < later.index) flight

-- ---- a file as it is opened

-- what no event changes: id, numbers of blocks, root, damaged and compressed indices
abbrev pub IsSameFile : FileState → FileState → Type 0
IsSameFile a b = (b.id ≡ a.id) × (b.n ≡ a.n) × (b.m ≡ a.m) × (b.root ≡ a.root) × (b.damaged ≡ a.damaged) × (b.compressed ≡ a.compressed)

abbrev pub keys_of : Digests → List ℕ
keys_of digests = map (λ row. row.0) digests

-- each index with a digest is neither damaged nor compressed
abbrev pub AreSound : Digests → List ℕ → List ℕ → Type 0
AreSound digests damaged compressed = (index : ℕ) → is_in index digests ≡ true → (has index damaged ≡ false) × (has index compressed ≡ false)

-- no index is damaged and compressed
abbrev pub AreDisjoint : List ℕ → List ℕ → Type 0
AreDisjoint damaged compressed = (index : ℕ) → has index damaged ≡ true → has index compressed ≡ false

-- Every open index is acknowledged, since the file was opened from what a sync or a crash left. Nothing has been asked yet.
pub record IsOpening (s : FileState) : Type 0 where
  pub map_rises : KeysRise s.map
  pub map_within : All (λ row. row.0 < s.n + s.m) s.map
  pub damaged_rises : Rise s.damaged
  pub damaged_within : All (λ index. index < s.n + s.m) s.damaged
  pub compressed_rises : Rise s.compressed
  pub compressed_within : All (λ index. index < s.n + s.m) s.compressed
  pub sound : AreSound s.map s.damaged s.compressed
  pub apart : AreDisjoint s.damaged s.compressed
  pub acknowledged : s.acknowledged ≡ keys_of s.map
  pub next : s.next ≡ 1
  pub no_reads : s.reads ≡ []
  pub no_times : s.times ≡ []
  pub no_flight : s.flight ≡ []
  pub no_claims : s.claimed ≡ []
  pub none_begun : s.begun ≡ []
  pub not_failed : s.failed ≡ None
