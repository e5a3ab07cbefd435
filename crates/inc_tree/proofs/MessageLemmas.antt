-- A whole block as a message of SHA-256: its 64 pieces and the padding after them, and the state read as a digest.
use Rattle.std.proofs.Common.{◌≡◌, ℕ, zero, suc, ◌+◌, ◌*◌, ◌/◌, ◌<◌, List, ◌++◌, length, take, drop, slice_index, refl, sym, ap, ap₂, ◌∙◌, arith, length-append}
use Rattle.std.proofs.lemmas.List.{drop-append-le, drop_all}
use Rattle.sha2.specs.Sha256.{compress, digest_bytes, final_hash, hash_after, initial_hash_256, padding, IsWindow, schedule, sha256, word_at}
use Rattle.sha2.proofs.Absorbing256.{hash_after-append, hash_after_next}
use Rattle.sha2.proofs.Schedule256.{IsWindow_first}
use Rattle.inc_tree.specs.Lanes.{EachLane, column, lane, lane_at, message}
use Rattle.inc_tree.proofs.LaneLemmas.{each_of_four}
use Rattle.inc_tree.proofs.RoundLemmas.{column_at}

-- the padding of 4096 bytes is a piece by itself, the last one
pub block_hash : (m : List ℕ) → length m ≡ 4096 → compress (hash_after initial_hash_256 m 64) (padding 4096) ≡ final_hash initial_hash_256 m
block_hash m whole =
    let pad : List ℕ = padding 4096 in
    let is : padding (length m) ≡ pad = ap padding whole in
    let all : length (m ++ pad) ≡ 4160 = length-append m pad ∙ ap (λ (n : ℕ). n + 64) whole in
    let count : length (m ++ pad) / 64 ≡ 65 = ap (λ (n : ℕ). n / 64) all in
    let last : take 64 (drop 4096 (m ++ pad)) ≡ pad =
    ap (take 64) (drop-append-le 4096 m pad (omega arith) ∙ ap (λ (front : List ℕ). front ++ pad) (drop_all 4096 m (omega arith))) in
    sym (
    ap (λ (p : List ℕ). hash_after initial_hash_256 (m ++ p) (length (m ++ p) / 64)) is
    ∙ (ap (hash_after initial_hash_256 (m ++ pad)) count
    ∙ (hash_after_next initial_hash_256 (m ++ pad) 64
    ∙ ap₂ compress (hash_after-append initial_hash_256 m pad 64 (omega arith)) last)))

-- the words of a piece are the first window of its schedule
pub window_of_words : (j : ℕ) (words : List (List ℕ)) (piece : List ℕ) → length (column j words) ≡ 16
    → ((k : ℕ) → k < 16 → lane_at words k j ≡ word_at piece (4 * k)) → IsWindow (column j words) (schedule piece 48) 16
window_of_words j words piece long each = IsWindow_first piece (column j words) long (λ k h. column_at j words k ∙ each k h)

-- a word of a message's state
pub lane_word : (j : ℕ) (state : List (List ℕ)) (k : ℕ) → k < 8 → slice_index (lane j state) k ≡ lane_at state k j
lane_word j state zero h = refl
lane_word j state (suc zero) h = refl
lane_word j state (suc (suc zero)) h = refl
lane_word j state (suc (suc (suc zero))) h = refl
lane_word j state (suc (suc (suc (suc zero)))) h = refl
lane_word j state (suc (suc (suc (suc (suc zero))))) h = refl
lane_word j state (suc (suc (suc (suc (suc (suc zero)))))) h = refl
lane_word j state (suc (suc (suc (suc (suc (suc (suc zero))))))) h = refl
lane_word j state (suc (suc (suc (suc (suc (suc (suc (suc k)))))))) h = absurd (omega arith)

-- a message's next piece is taken in
piece_taken : (m before after : List ℕ) (n from width : ℕ) → from ≡ n * 64 → width ≡ 64 → before ≡ hash_after initial_hash_256 m n
    → after ≡ compress before (take width (drop from m)) → after ≡ hash_after initial_hash_256 m (n + 1)
piece_taken m before after n from width at wide held taken =
    taken ∙ (ap (λ (h : List ℕ). compress h (take width (drop from m))) held
    ∙ (ap₂ (λ (f w : ℕ). compress (hash_after initial_hash_256 m n) (take w (drop f m))) at wide ∙ sym (hash_after_next initial_hash_256 m n)))

-- and so for each of the four
pub next_state : (first second third fourth : List ℕ) (before after : List (List ℕ)) (n from width : ℕ) → from ≡ n * 64 → width ≡ 64
    → EachLane (λ j. lane j before ≡ hash_after initial_hash_256 (message first second third fourth j) n)
    → EachLane (λ j. lane j after ≡ compress (lane j before)
    (message (take width (drop from first)) (take width (drop from second)) (take width (drop from third)) (take width (drop from fourth)) j))
    → EachLane (λ j. lane j after ≡ hash_after initial_hash_256 (message first second third fourth j) (n + 1))
next_state first second third fourth before after n from width at wide held taken =
    each_of_four (λ j. lane j after ≡ hash_after initial_hash_256 (message first second third fourth j) (n + 1))
    (piece_taken first (lane 0 before) (lane 0 after) n from width at wide (held 0 (omega arith)) (taken 0 (omega arith)))
    (piece_taken second (lane 1 before) (lane 1 after) n from width at wide (held 1 (omega arith)) (taken 1 (omega arith)))
    (piece_taken third (lane 2 before) (lane 2 after) n from width at wide (held 2 (omega arith)) (taken 2 (omega arith)))
    (piece_taken fourth (lane 3 before) (lane 3 after) n from width at wide (held 3 (omega arith)) (taken 3 (omega arith)))

-- after the padding the state is the digest
pub last_piece : (m before after : List ℕ) → length m ≡ 4096 → before ≡ hash_after initial_hash_256 m 64 → after ≡ compress before (padding 4096)
    → digest_bytes after 8 ≡ sha256 m
unfolding sha256
last_piece m before after whole held taken =
    ap (λ (h : List ℕ). digest_bytes h 8) (taken ∙ (ap (λ (h : List ℕ). compress h (padding 4096)) held ∙ block_hash m whole))
