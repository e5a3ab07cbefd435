-- The eight bytes of the two counts, as they are put one after the other.
use Rattle.std.proofs.Common.{◌≡◌, ℕ, List, [], ◌++◌, length, take, drop, ◌∙◌, ap, arith, length-append}
use Rattle.std.proofs.lemmas.List.{take_at, drop_all, append-nil, length-drop}
use Rattle.inc_bytes.specs.Fields.{le_bytes}
use Rattle.inc_bytes.proofs.Numbers.{length-le_bytes}
use Rattle.inc_fill.specs.Steps.{count_bytes}

second_put : (first rest second : List ℕ) → length first ≡ 4 → length rest ≡ 4 → take 4 (first ++ rest) ++ second ++ drop 8 (first ++ rest) ≡ first ++ second
second_put first rest second four more =
    let front : take 4 (first ++ rest) ≡ first = take_at first rest 4 four in
    let back : drop 8 (first ++ rest) ≡ [] = drop_all 8 (first ++ rest) (omega (arith, length-append first rest)) in
    (λ i. front i ++ second ++ back i) ∙ append-nil (first ++ second)

pub counts_put : (data_count hash_count : ℕ) (zeros once twice : List ℕ) → length zeros ≡ 8 → once ≡ take 0 zeros ++ le_bytes 4 data_count ++ drop 4 zeros → twice ≡ take 4 once ++ le_bytes 4 hash_count ++ drop 8 once
    → twice ≡ count_bytes data_count hash_count
counts_put data_count hash_count zeros once twice eight first second =
    second ∙ ap (λ (b : List ℕ). take 4 b ++ le_bytes 4 hash_count ++ drop 8 b) first
    ∙ second_put (le_bytes 4 data_count) (drop 4 zeros) (le_bytes 4 hash_count) (length-le_bytes 4 data_count) (omega (arith, length-drop 4 zeros))
