-- The writes of different indices: whichever comes first.
use Rattle.std.proofs.Common.{◌≡◌, ℕ, ◌+◌, ◌-◌, ◌<◌, ◌≤◌, Bool, true, false, cond, eqb, ltb, List, [], ◌∷◌, length, refl, sym, ap, subst, ◌∙◌, arith}
use Rattle.std.proofs.lemmas.Bool.{eqb-false, ltb-false}
use Rattle.inc_bytes.specs.Fields.{le_bytes}
use Rattle.inc_bytes.proofs.Numbers.{length-le_bytes}
use Rattle.inc_tree.specs.shape.Geometry.{data_blocks}
use Rattle.inc_entry.specs.Entry.{Places, area_places, entries, entry_at, entry_from, hash_place, map_span, tree_span}
use Rattle.inc_entry.specs.Keeps.{IsLayout}
use Rattle.inc_disk.specs.Disk.{overwritten}
use Rattle.inc_disk.proofs.States.{length-overwritten}
use Rattle.inc_fill.proofs.Areas.{InSpan, entry_inside, hash_in_tree, in_map, map_or_tree, tree_inside}
use Rattle.inc_fill.proofs.Entries.{same_entry}
use Rattle.inc_layout.specs.declared.opened.Opened.{Opened}
use Rattle.inc_cell.specs.seen.Spots.{changed_at}
use Rattle.inc_filling.specs.Contents.{place_in}
use Rattle.inc_filling.specs.Shown.{SpottedBytes, with_block, with_gate, with_place_of}
use Rattle.inc_filling.specs.declared.filling.Filling.{Filling}
use Rattle.inc_filling.proofs.contents.Overwriting.{byte_outside, either_first}

same_spotted : (a b : List ℕ) (s t : ℕ → ℕ) → a ≡ b → s ≡ t → (let file : SpottedBytes = record { bytes = a; spot = s } in file) ≡ record { bytes = b; spot = t }
same_spotted a b s t e f = λ i. record { bytes = e i; spot = f i }

-- `len` bytes hold the areas of the file
module _ (opened : Opened) (is_fixed : ℕ → Bool) (len : ℕ) (layout : IsLayout (area_places opened.areas) is_fixed len) where
  abbrev places : Places
  places = area_places opened.areas

  abbrev pub IsHere : ℕ → Type 0
  IsHere i = i < entries places

  entry_end : (i : ℕ) → IsHere i → entry_at places i + 10 ≤ len
  entry_end i here = let last = entry_inside places is_fixed len i 9 layout here (omega arith) in omega arith

  tree_end : (i : ℕ) → data_blocks places.shape ≤ i → IsHere i → hash_place places i + 4096 ≤ len
  tree_end i ge here = let last = tree_inside places is_fixed len (hash_place places i + 4095) layout (hash_in_tree places i 4095 ge here (omega arith)) in omega arith

  -- ---- ranges

  module _ (bytes : List ℕ) (long : len ≤ length bytes) where
    pub place_within : (i : ℕ) → IsHere i → place_in opened bytes i ≤ length bytes
    place_within i here = step (ltb i (data_blocks places.shape)) refl
      where
        step : (b : Bool) → ltb i (data_blocks places.shape) ≡ b → cond b (length bytes) (hash_place places i) ≤ length bytes
        step true e = omega arith
        step false e = let end = tree_end i (ltb-false i (data_blocks places.shape) e) here in omega arith

    block_apart : (i j : ℕ) → IsHere i → IsHere j → (k : ℕ) → entry_at places j ≤ k → k < entry_at places j + 10 → place_in opened bytes i ≤ k → k < place_in opened bytes i + 4096 → ⊥
    block_apart i j here there k from until = step (ltb i (data_blocks places.shape)) refl
      where
        step : (b : Bool) → ltb i (data_blocks places.shape) ≡ b → cond b (length bytes) (hash_place places i) ≤ k → k < cond b (length bytes) (hash_place places i) + 4096 → ⊥
        step true e start stop = let end = entry_end j there in omega arith
        step false e start stop =
            let in_entry : entry_at places j + (k - entry_at places j) ≡ k = omega arith in
            let in_block : hash_place places i + (k - hash_place places i) ≡ k = omega arith in
            map_or_tree places is_fixed len k layout
            (subst (λ (n : ℕ). InSpan n (map_span places)) in_entry (in_map places j (k - entry_at places j) there (omega arith)))
            (subst (λ (n : ℕ). InSpan n (tree_span places)) in_block (hash_in_tree places i (k - hash_place places i) (ltb-false i (data_blocks places.shape) e) here (omega arith)))

  entries_apart : (i j k : ℕ) → eqb i j ≡ false → entry_at places i ≤ k → k < entry_at places i + 10 → entry_at places j ≤ k → k < entry_at places j + 10 → ⊥
  entries_apart i j k other a b c d = eqb-false i j other (omega arith)

  -- ---- lengths

  module _ (file : SpottedBytes) (long : len ≤ length file.bytes) where
    pub place_length : (i : ℕ) → IsHere i → length (with_place_of opened file i).bytes ≡ length file.bytes
    place_length i here =
        let end = entry_end i here in
        omega (arith, length-overwritten (entry_at places i) (le_bytes 6 (file.spot i)) file.bytes (omega arith), length-le_bytes 6 (file.spot i))

    pub gate_length : (i : ℕ) → IsHere i → length (with_gate opened file i).bytes ≡ length file.bytes
    gate_length i here =
        let end = entry_end i here in
        omega (arith, length-overwritten (entry_at places i + 7) (16 ∷ []) file.bytes (omega arith))

    pub block_length : (f : Filling) → IsHere f.index → length file.bytes ≤ length (with_block opened file f).bytes
    block_length f here = omega (arith, length-overwritten (place_in opened file.bytes f.index) f.block.bytes file.bytes (place_within file.bytes long f.index here))

    -- ---- either first

    place_same : (other : List ℕ) (i : ℕ) → length other ≡ length file.bytes → place_in opened other i ≡ place_in opened file.bytes i
    place_same other i e = ap (λ (n : ℕ). cond (ltb i (data_blocks places.shape)) n (hash_place places i)) e

    module _ (f : Filling) (i : ℕ) (here : IsHere f.index) (there : IsHere i) (whole : length f.block.bytes ≡ 4096) where
      abbrev at : ℕ
      at = place_in opened file.bytes f.index

      -- `n` bytes of an entry from its byte `k` on, and the block
      entry_and_block : (piece : List ℕ) (k : ℕ) → k + length piece ≤ 10 → overwritten (entry_at places i + k) piece (overwritten at f.block.bytes file.bytes) ≡ overwritten at f.block.bytes (overwritten (entry_at places i + k) piece file.bytes)
      entry_and_block piece k few =
          let end = entry_end i there in
          either_first (entry_at places i + k) piece at f.block.bytes file.bytes (omega arith) (place_within file.bytes long f.index here)
          (λ j a b c d. block_apart file.bytes long f.index i here there j (omega arith) (omega arith) c (omega arith))

      pub place_then_block : eqb i f.index ≡ false → with_place_of opened (with_block opened file f) i ≡ with_block opened (with_place_of opened file i) f
      place_then_block other =
          let spot_is : cond (eqb i f.index) at (file.spot i) ≡ file.spot i = ap (λ b. cond b at (file.spot i)) other in
          let moved : overwritten (entry_at places i) (le_bytes 6 (file.spot i)) (overwritten at f.block.bytes file.bytes) ≡ overwritten at f.block.bytes (with_place_of opened file i).bytes =
          subst (λ (n : ℕ). overwritten n (le_bytes 6 (file.spot i)) (overwritten at f.block.bytes file.bytes) ≡ overwritten at f.block.bytes (overwritten n (le_bytes 6 (file.spot i)) file.bytes)) (omega arith)
          (entry_and_block (le_bytes 6 (file.spot i)) 0 (omega (arith, length-le_bytes 6 (file.spot i)))) in
          let at_is : at ≡ place_in opened (with_place_of opened file i).bytes f.index = sym (place_same (with_place_of opened file i).bytes f.index (place_length i there)) in
          same_spotted _ _ _ _
          (ap (λ (p : ℕ). overwritten (entry_at places i) (le_bytes 6 p) (overwritten at f.block.bytes file.bytes)) spot_is ∙ moved ∙ ap (λ (p : ℕ). overwritten p f.block.bytes (with_place_of opened file i).bytes) at_is)
          (ap (λ (p : ℕ). changed_at f.index p file.spot) at_is)

      pub gate_then_block : with_gate opened (with_block opened file f) i ≡ with_block opened (with_gate opened file i) f
      gate_then_block =
          let at_is : at ≡ place_in opened (with_gate opened file i).bytes f.index = sym (place_same (with_gate opened file i).bytes f.index (gate_length i there)) in
          same_spotted _ _ _ _
          (entry_and_block (16 ∷ []) 7 (omega arith) ∙ ap (λ (p : ℕ). overwritten p f.block.bytes (with_gate opened file i).bytes) at_is)
          (ap (λ (p : ℕ). changed_at f.index p file.spot) at_is)

    pub gate_then_place : (i j : ℕ) → IsHere i → IsHere j → eqb i j ≡ false → with_gate opened (with_place_of opened file j) i ≡ with_place_of opened (with_gate opened file i) j
    gate_then_place i j here there other =
        let end = entry_end i here in
        let stop = entry_end j there in
        same_spotted _ _ _ _
        (either_first (entry_at places i + 7) (16 ∷ []) (entry_at places j) (le_bytes 6 (file.spot j)) file.bytes (omega arith) (omega arith)
        (λ k a b c d. entries_apart i j k other (omega arith) (omega arith) c (omega (arith, length-le_bytes 6 (file.spot j)))))
        refl

    -- ---- the entries of other indices

    pub entry_stays : (f : Filling) (j : ℕ) → IsHere f.index → IsHere j → length f.block.bytes ≡ 4096 → eqb f.index j ≡ false
        → entry_from (with_gate opened (with_place_of opened (with_block opened file f) f.index) f.index).bytes (entry_at places j) ≡ entry_from file.bytes (entry_at places j)
    entry_stays f j here there whole other =
        let end = entry_end f.index here in
        let blocked = with_block opened file f in
        let placed = with_place_of opened blocked f.index in
        let more = block_length f here in
        let longer = length-overwritten (entry_at places f.index) (le_bytes 6 (blocked.spot f.index)) blocked.bytes (omega arith) in
        same_entry (with_gate opened placed f.index).bytes file.bytes (entry_at places j)
        (λ k lt.
        byte_outside (entry_at places f.index + 7) (16 ∷ []) placed.bytes (entry_at places j + k) (omega arith) (λ a b. entries_apart f.index j (entry_at places j + k) other (omega arith) (omega arith) (omega arith) (omega arith))
        ∙ byte_outside (entry_at places f.index) (le_bytes 6 (blocked.spot f.index)) blocked.bytes (entry_at places j + k) (omega arith)
        (λ a b. entries_apart f.index j (entry_at places j + k) other a (omega (arith, length-le_bytes 6 (blocked.spot f.index))) (omega arith) (omega arith))
        ∙ byte_outside (place_in opened file.bytes f.index) f.block.bytes file.bytes (entry_at places j + k) (place_within file.bytes long f.index here)
        (λ a b. block_apart file.bytes long f.index j here there (entry_at places j + k) (omega arith) (omega arith) a (omega arith)))
