-- Entries and blocks of two files that have the same bytes there.
use Rattle.std.proofs.Common.{◌≡◌, ℕ, ◌+◌, ◌^◌, ◌<◌, ◌≤◌, List, [], ◌∷◌, length, take, drop, get_or, refl, sym, ◌∙◌, ap, subst, arith, length-take, length-drop}
use Rattle.std.proofs.lemmas.List.{ext_get_or, get_or-take, get_or-drop}
use Rattle.inc_bytes.specs.Fields.{le_number, le_bytes}
use Rattle.inc_bytes.proofs.Numbers.{length-le_bytes, le_number-le_bytes}
use Rattle.inc_tree.specs.shape.Geometry.{block_len}
use Rattle.inc_tree.specs.read_block.Path.{block_digest}
use Rattle.inc_entry.specs.Entry.{Places, entry_from}
use Rattle.inc_entry.specs.Stored.{digest_at}
use Rattle.inc_entry.specs.Stored.{part}

-- the two files have the same `n` bytes from a place on
abbrev pub SameAt : List ℕ → List ℕ → ℕ → ℕ → Type 0
SameAt a b at n = (k : ℕ) → k < n → get_or a (at + k) 0 ≡ get_or b (at + k) 0

pub same_entry : (a b : List ℕ) (at : ℕ) → SameAt a b at 10 → entry_from a at ≡ entry_from b at
unfolding entry_from
same_entry a b at same =
    let b0 = same 0 (omega arith) in
    let b1 = same 1 (omega arith) in
    let b2 = same 2 (omega arith) in
    let b3 = same 3 (omega arith) in
    let b4 = same 4 (omega arith) in
    let b5 = same 5 (omega arith) in
    let b6 = same 6 (omega arith) in
    let b7 = same 7 (omega arith) in
    let b8 = same 8 (omega arith) in
    let b9 = same 9 (omega arith) in
    λ i. record {
      offset = le_number (b0 i ∷ b1 i ∷ b2 i ∷ b3 i ∷ b4 i ∷ b5 i ∷ []);
      low = b6 i;
      high = b7 i;
      flags = le_number (b8 i ∷ b9 i ∷ []);
    }

pub same_offset : (a b : List ℕ) (at : ℕ) → SameAt a b at 6 → (entry_from a at).offset ≡ (entry_from b at).offset
unfolding entry_from
same_offset a b at same =
    let b0 = same 0 (omega arith) in
    let b1 = same 1 (omega arith) in
    let b2 = same 2 (omega arith) in
    let b3 = same 3 (omega arith) in
    let b4 = same 4 (omega arith) in
    let b5 = same 5 (omega arith) in
    λ i. le_number (b0 i ∷ b1 i ∷ b2 i ∷ b3 i ∷ b4 i ∷ b5 i ∷ [])

pub same_low : (a b : List ℕ) (at : ℕ) → get_or a (at + 6) 0 ≡ get_or b (at + 6) 0 → (entry_from a at).low ≡ (entry_from b at).low
unfolding entry_from
same_low a b at same = same

pub same_high : (a b : List ℕ) (at : ℕ) → get_or a (at + 7) 0 ≡ get_or b (at + 7) 0 → (entry_from a at).high ≡ (entry_from b at).high
unfolding entry_from
same_high a b at same = same

moved : (a b : List ℕ) (j k : ℕ) → j ≡ k → get_or a j 0 ≡ get_or b j 0 → get_or a k 0 ≡ get_or b k 0
moved a b j k e same = subst (λ (n : ℕ). get_or a n 0 ≡ get_or b n 0) e same

pub same_flags : (a b : List ℕ) (at : ℕ) → SameAt a b (at + 8) 2 → (entry_from a at).flags ≡ (entry_from b at).flags
unfolding entry_from
same_flags a b at same =
    let b8 = moved a b (at + 8 + 0) (at + 8) (omega arith) (same 0 (omega arith)) in
    let b9 = moved a b (at + 8 + 1) (at + 9) (omega arith) (same 1 (omega arith)) in
    λ i. le_number (b8 i ∷ b9 i ∷ [])

pub high_is : (a : List ℕ) (at value : ℕ) → get_or a (at + 7) 0 ≡ value → (entry_from a at).high ≡ value
unfolding entry_from
high_is a at value is = is

-- ---- a place of six bytes

six : (xs : List ℕ) → length xs ≡ 6 → (get_or xs 0 0 ∷ get_or xs 1 0 ∷ get_or xs 2 0 ∷ get_or xs 3 0 ∷ get_or xs 4 0 ∷ get_or xs 5 0 ∷ []) ≡ xs
six [] e = absurd (omega arith)
six (a ∷ []) e = absurd (omega arith)
six (a ∷ b ∷ []) e = absurd (omega arith)
six (a ∷ b ∷ c ∷ []) e = absurd (omega arith)
six (a ∷ b ∷ c ∷ d ∷ []) e = absurd (omega arith)
six (a ∷ b ∷ c ∷ d ∷ f ∷ []) e = absurd (omega arith)
six (a ∷ b ∷ c ∷ d ∷ f ∷ g ∷ []) e = refl
six (a ∷ b ∷ c ∷ d ∷ f ∷ g ∷ h ∷ xs) e = absurd (omega arith)

pub offset_is : (a : List ℕ) (at place : ℕ) → place < 2 ^ 48 → ((k : ℕ) → k < 6 → get_or a (at + k) 0 ≡ get_or (le_bytes 6 place) k 0) → (entry_from a at).offset ≡ place
unfolding entry_from
offset_is a at place low same =
    let b0 = same 0 (omega arith) in
    let b1 = same 1 (omega arith) in
    let b2 = same 2 (omega arith) in
    let b3 = same 3 (omega arith) in
    let b4 = same 4 (omega arith) in
    let b5 = same 5 (omega arith) in
    let bytes : (entry_from a at).offset ≡ le_number (get_or (le_bytes 6 place) 0 0 ∷ get_or (le_bytes 6 place) 1 0 ∷ get_or (le_bytes 6 place) 2 0 ∷ get_or (le_bytes 6 place) 3 0 ∷ get_or (le_bytes 6 place) 4 0 ∷ get_or (le_bytes 6 place) 5 0 ∷ []) =
    λ i. le_number (b0 i ∷ b1 i ∷ b2 i ∷ b3 i ∷ b4 i ∷ b5 i ∷ []) in
    bytes ∙ ap le_number (six (le_bytes 6 place) (length-le_bytes 6 place)) ∙ le_number-le_bytes 6 place (omega arith)

-- ---- blocks

part_length : (n at : ℕ) (a : List ℕ) → at + n ≤ length a → length (part n at a) ≡ n
part_length n at a le = omega (arith, length-take n (drop at a), length-drop at a)

part_byte : (n at : ℕ) (a : List ℕ) (k : ℕ) → k < n → get_or (part n at a) k 0 ≡ get_or a (at + k) 0
part_byte n at a k lt = get_or-take n (drop at a) k 0 lt ∙ get_or-drop at a k 0

pub same_part : (a b : List ℕ) (at n : ℕ) → at + n ≤ length a → at + n ≤ length b → SameAt a b at n → part n at a ≡ part n at b
same_part a b at n in_a in_b same =
    ext_get_or 0 (part n at a) (part n at b) (part_length n at a in_a ∙ sym (part_length n at b in_b))
    (λ k lt. let small : k < n = omega (arith, part_length n at a in_a) in part_byte n at a k small ∙ same k small ∙ sym (part_byte n at b k small))

pub same_digest : (places : Places) (a b : List ℕ) (i place : ℕ) → place + block_len places.shape i ≤ length a → place + block_len places.shape i ≤ length b
    → SameAt a b place (block_len places.shape i) → digest_at places a i place ≡ digest_at places b i place
same_digest places a b i place in_a in_b same = ap block_digest (same_part a b place (block_len places.shape i) in_a in_b same)

front : (n : ℕ) (block : List ℕ) → n ≤ length block → length (take n block) ≡ n
front n block le = omega (arith, length-take n block)

-- a block that begins with these bytes
pub digest_is : (places : Places) (a block : List ℕ) (i place : ℕ) → block_len places.shape i ≤ length block → place + block_len places.shape i ≤ length a
    → ((k : ℕ) → k < block_len places.shape i → get_or a (place + k) 0 ≡ get_or block k 0) → digest_at places a i place ≡ block_digest (take (block_len places.shape i) block)
digest_is places a block i place enough in_a same =
    let n : ℕ = block_len places.shape i in
    ap block_digest (ext_get_or 0 (part n place a) (take n block) (part_length n place a in_a ∙ sym (front n block enough))
    (λ k lt. let small : k < n = omega (arith, part_length n place a in_a) in part_byte n place a k small ∙ same k small ∙ sym (get_or-take n block k 0 small)))
