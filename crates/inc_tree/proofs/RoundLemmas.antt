-- A message's words of a ring of vectors: how they are read and written.
use Rattle.std.proofs.Common.{◌≡◌, ℕ, List, [], slice_index, slice_set}
use Rattle.std.proofs.Math.ListN.{get_or-map}
use Rattle.std.proofs.lemmas.List.{map-set}
use Rattle.inc_tree.specs.Lanes.{column, lane_at}

pub column_at : (j : ℕ) (vectors : List (List ℕ)) (k : ℕ) → slice_index (column j vectors) k ≡ lane_at vectors k j
column_at j vectors k = get_or-map (λ (v : List ℕ). slice_index v j) vectors k []

pub column-set : (j : ℕ) (vectors : List (List ℕ)) (k : ℕ) (vector : List ℕ) → column j (slice_set vectors k vector) ≡ slice_set (column j vectors) k (slice_index vector j)
column-set j vectors k vector = map-set (λ (v : List ℕ). slice_index v j) vectors k vector
