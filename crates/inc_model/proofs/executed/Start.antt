-- A state to begin from is one that an executed core holds.
use Rattle.std.proofs.Common.{ℕ, ◌+◌, ◌<◌, ◌≤◌, List, [], ◌∷◌, length, get_or, arith}
use Rattle.std.specs.Prelude.{All, AllPairs}
use Rattle.std.proofs.lemmas.List.Elements.{All-head, All-tail}
use Rattle.inc_tree.specs.shape.Geometry.{shape_of}
use Rattle.inc_model.specs.declared.words.limits.TheConstants.{MOST_BLOCKS}
use Rattle.inc_tree.proofs.LevelLemmas.{hash_small}
use Rattle.inc_pending.specs.declared.reads.ReadRow.{ReadRow}
use Rattle.inc_model.specs.declared.words.file_state.FileState.{FileState}
use Rattle.inc_model.specs.relation.Facts.{IsStart}
use Rattle.inc_model.specs.executed.CoreFacts.{IsHeld}
use Rattle.inc_model.proofs.lists.Sets.{pairs_head, pairs_tail}

rises_few : {X : Type 0} (key : X → ℕ) (n low : ℕ) (xs : List X) → low ≤ n → AllPairs (λ a b. key a < key b) xs → All (λ x. low ≤ key x) xs → All (λ x. key x < n) xs → low + length xs ≤ n
rises_few key n low [] le rise above below = omega arith
rises_few {X} key n low (x ∷ xs) le rise above below =
    let R : X → X → Type 0 = λ a b. key a < key b in
    let first : low ≤ key x = All-head (λ (y : X). low ≤ key y) x xs above in
    let small : key x < n = All-head (λ (y : X). key y < n) x xs below in
    let rest = rises_few key n (key x + 1) xs (omega arith) (pairs_tail R x xs rise) (λ k d lt. let more : key x < key (get_or xs k d) = pairs_head R x xs rise k d lt in omega arith) (All-tail (λ (y : X). key y < n) x xs below) in
    omega arith

pub start_held : (s : FileState) → IsStart s → IsHeld 0 s
start_held s h =
    let tree = h.shape.tree in
    let small = h.shape.small in
    let places = h.places in
    let waiting = rises_few (λ (row : ReadRow). row.serial) s.next 0 s.reads (omega arith) h.rising (λ k d lt. omega arith) h.below in
    let there = rises_few (λ (row : ℕ × List ℕ). row.0) (s.n + s.m) 0 s.map (omega arith) h.lists.digests_rise (λ k d lt. omega arith) h.indices.digests_within in
    let total : s.n + s.m ≤ MOST_BLOCKS = omega (arith, hash_small (shape_of s.n s.m) (omega arith)) in
    record {
      small = h.shape.small;
      total = total;
      rising = h.rising;
      within = h.indices.reads_within;
      below = h.below;
      waiting = omega arith;
      serials = let le = h.serials in omega arith;
      there = omega arith;
      limit = omega arith;
      damaged_rises = h.lists.damaged_rises;
      compressed_rises = h.lists.compressed_rises;
      flying = h.indices.flight_within;
    }
