-- Four messages hashed side by side: each word of the standard is a vector, with one lane for each message.
use Rattle.std.specs.Prelude.{ℕ, ◌<◌, List, [], ◌∷◌, map, slice_index, slice_index_or}

-- what holds of each of the four messages
abbrev pub EachLane : (ℕ → Type 0) → Type 0
EachLane P = (j : ℕ) → j < 4 → P j

-- which message is in a lane
abbrev pub message : List ℕ → List ℕ → List ℕ → List ℕ → ℕ → List ℕ
message first second third fourth j = slice_index_or (first ∷ second ∷ third ∷ fourth ∷ []) j []

-- a message's word of the k-th vector
abbrev pub lane_at : List (List ℕ) → ℕ → ℕ → ℕ
lane_at vectors k j = slice_index (slice_index_or vectors k []) j

-- a message's eight words of a state
abbrev pub lane : ℕ → List (List ℕ) → List ℕ
lane j state =
    lane_at state 0 j ∷ lane_at state 1 j ∷ lane_at state 2 j ∷ lane_at state 3 j
    ∷ lane_at state 4 j ∷ lane_at state 5 j ∷ lane_at state 6 j ∷ lane_at state 7 j ∷ []

-- a message's words of any number of vectors
abbrev pub column : ℕ → List (List ℕ) → List ℕ
column j vectors = map (λ v. slice_index v j) vectors
