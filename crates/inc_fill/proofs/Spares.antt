-- Which bytes the writes of a fill spare: those of all other indices, and the fixed bytes.
use Rattle.std.proofs.Common.{◌≡◌, inl, inr, ℕ, ◌+◌, ◌-◌, ◌<◌, ◌≤◌, Bool, true, false, subst, arith}
use Rattle.std.proofs.lemmas.Bool.{cases_lt}
use Rattle.inc_tree.specs.shape.Geometry.{data_blocks}
use Rattle.inc_entry.specs.Entry.{Places, entries, entry_at, hash_place, map_span, tree_span}
use Rattle.inc_entry.specs.Keeps.{IsLayout}
use Rattle.inc_entry.specs.Spans.{in_spans}
use Rattle.inc_fill.proofs.Areas.{InSpan, fixed_inside, spans_or_map, spans_or_tree, map_or_tree, in_map, entry_inside, fits_cases, block_or_spans, block_or_map, data_or_tree}
use Rattle.inc_fill.proofs.Writes.{Outside, Misses, MissesBlocks}

-- a write of `n` bytes spares whatever is known of a file of `len` bytes, but for what belongs to the index `j`
pub record Spares (places : Places) (is_fixed : ℕ → Bool) (len at n j : ℕ) : Type 0 where
  pub fixed_out : (x : ℕ) → is_fixed x ≡ true → Outside at n x
  pub entries_out : (i : ℕ) → i < entries places → ¬ (i ≡ j) → Misses at n (entry_at places i) 10
  pub blocks_out : (i : ℕ) → i < entries places → ¬ (i ≡ j) → MissesBlocks places len at n i

-- ---- a write to bytes of the entry of `j`

entry_byte : (places : Places) (j a n at x : ℕ) → j < entries places → at ≡ entry_at places j + a → a + n ≤ 10 → at ≤ x → x < at + n → InSpan x (map_span places)
entry_byte places j a n at x here is small ge lt = (omega arith, omega arith)

other_entry : (places : Places) (i j a n at : ℕ) → at ≡ entry_at places j + a → a + n ≤ 10 → ¬ (i ≡ j) → Misses at n (entry_at places i) 10
other_entry places i j a n at is small other k lt ge until =
    elim (cases_lt i j) [
      | inl less ↦ omega arith
      | inr more ↦ elim (cases_lt j i) [ inl greater ↦ omega arith | inr equal ↦ other (omega arith) ]
    ]

-- the blocks of all indices, that of `j` too
pub entry_spares_blocks : (places : Places) (is_fixed : ℕ → Bool) (base len j a n at i : ℕ) → IsLayout places is_fixed base → j < entries places → at ≡ entry_at places j + a → a + n ≤ 10
    → i < entries places → MissesBlocks places len at n i
entry_spares_blocks places is_fixed base len j a n at i layout here is small within place size most fit there k lt ge until =
    block_or_map places is_fixed base i place size k layout within most fit lt (entry_byte places j a n at (place + k) here is small ge until)

pub entry_spares : (places : Places) (is_fixed : ℕ → Bool) (base len j a n at : ℕ) → IsLayout places is_fixed base → j < entries places → at ≡ entry_at places j + a → a + n ≤ 10
    → Spares places is_fixed len at n j
entry_spares places is_fixed base len j a n at layout here is small = record {
  fixed_out = λ x fixed ge lt. spans_or_map places is_fixed base x layout (layout.fixed_in x fixed) (entry_byte places j a n at x here is small ge lt);
  entries_out = λ i within other. other_entry places i j a n at is small other;
  blocks_out = λ i within other. entry_spares_blocks places is_fixed base len j a n at i layout here is small within;
}

-- ---- a write behind all that is there

pub end_spares : (places : Places) (is_fixed : ℕ → Bool) (base len j n at : ℕ) → IsLayout places is_fixed base → base ≤ at → len ≤ at → Spares places is_fixed len at n j
end_spares places is_fixed base len j n at layout past_base past_len = record {
  fixed_out = λ x fixed ge lt. let inside = fixed_inside places is_fixed base x layout fixed in omega arith;
  entries_out = λ i within other k small ge lt. let inside = entry_inside places is_fixed base i k layout within small in omega arith;
  blocks_out = λ i within other place size most fit there k small ge lt. omega arith;
}

pub end_spares_entry : (places : Places) (is_fixed : ℕ → Bool) (base n at i : ℕ) → IsLayout places is_fixed base → base ≤ at → i < entries places → Misses at n (entry_at places i) 10
end_spares_entry places is_fixed base n at i layout past within k small ge lt = let inside = entry_inside places is_fixed base i k layout within small in omega arith

-- ---- a write of a hash block to its place

tree_byte : (places : Places) (j at n x : ℕ) → data_blocks places.shape ≤ j → j < entries places → at ≡ hash_place places j → n ≤ 4096 → at ≤ x → x < at + n → InSpan x (tree_span places)
tree_byte places j at n x ge here is small from until = (omega arith, omega arith)

other_block : (places : Places) (i j at n place k : ℕ) → data_blocks places.shape ≤ i → data_blocks places.shape ≤ j → at ≡ hash_place places j → place ≡ hash_place places i → n ≤ 4096 → k < 4096
    → ¬ (i ≡ j) → Outside at n (place + k)
other_block places i j at n place k hash_i hash_j is own small lt other ge until =
    elim (cases_lt i j) [
      | inl less ↦ omega arith
      | inr more ↦ elim (cases_lt j i) [ inl greater ↦ omega arith | inr equal ↦ other (omega arith) ]
    ]

pub hash_spares_entry : (places : Places) (is_fixed : ℕ → Bool) (base j n at i : ℕ) → IsLayout places is_fixed base → data_blocks places.shape ≤ j → j < entries places → at ≡ hash_place places j → n ≤ 4096
    → i < entries places → Misses at n (entry_at places i) 10
hash_spares_entry places is_fixed base j n at i layout hash here is small within k lt ge until =
    map_or_tree places is_fixed base (entry_at places i + k) layout (in_map places i k within lt) (tree_byte places j at n (entry_at places i + k) hash here is small ge until)

pub hash_spares : (places : Places) (is_fixed : ℕ → Bool) (base len j n at : ℕ) → IsLayout places is_fixed base → data_blocks places.shape ≤ j → j < entries places → at ≡ hash_place places j → n ≤ 4096
    → Spares places is_fixed len at n j
hash_spares places is_fixed base len j n at layout hash here is small = record {
  fixed_out = λ x fixed ge lt. spans_or_tree places is_fixed base x layout (layout.fixed_in x fixed) (tree_byte places j at n x hash here is small ge lt);
  entries_out = λ i within other. hash_spares_entry places is_fixed base j n at i layout hash here is small within;
  blocks_out = λ i within other place size most fit there k lt ge until. elim (fits_cases places i place size fit) [
    | inl content ↦ data_or_tree places i place size k content.0 fit lt (tree_byte places j at n (place + k) hash here is small ge until)
    | inr block ↦ other_block places i j at n place k block.0 hash is block.1 small (omega arith) other ge until
  ];
}

-- ---- a write inside header, records and blob

spans_byte : (places : Places) (at n x : ℕ) → ((k : ℕ) → k < n → in_spans places.spans (at + k) ≡ true) → at ≤ x → x < at + n → in_spans places.spans x ≡ true
spans_byte places at n x inside ge lt = let e : at + (x - at) ≡ x = omega arith in subst (λ (y : ℕ). in_spans places.spans y ≡ true) e (inside (x - at) (omega arith))

not_both : (b : Bool) → b ≡ true → b ≡ false → ⊥
not_both b e f = cc

pub status_spares : (places : Places) (is_fixed : ℕ → Bool) (base len j n at : ℕ) → IsLayout places is_fixed base → ((k : ℕ) → k < n → in_spans places.spans (at + k) ≡ true)
    → ((k : ℕ) → k < n → is_fixed (at + k) ≡ false) → Spares places is_fixed len at n j
status_spares places is_fixed base len j n at layout inside loose = record {
  fixed_out = λ x fixed ge lt. let e : at + (x - at) ≡ x = omega arith in not_both (is_fixed x) fixed (subst (λ (y : ℕ). is_fixed y ≡ false) e (loose (x - at) (omega arith)));
  entries_out = λ i within other k small ge lt. spans_or_map places is_fixed base (entry_at places i + k) layout (spans_byte places at n (entry_at places i + k) inside ge lt) (in_map places i k within small);
  blocks_out = λ i within other place size most fit there k small ge lt.
      block_or_spans places is_fixed base i place size k layout within most fit small (spans_byte places at n (place + k) inside ge lt);
}
