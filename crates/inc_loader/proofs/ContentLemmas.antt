-- A generated content, block by block.
use Rattle.std.proofs.Common.{◌≡◌, ℕ, ◌+◌, ◌-◌, ◌*◌, ◌/◌, ◌%◌, ◌<◌, min, List, length, map, take, drop, get_or, refl, sym, ◌∙◌, arith}
use Rattle.std.specs.List.{range_with_len}
use Rattle.std.proofs.lemmas.List.{length-take, length-drop, get_or-take, get_or-drop, get_or_default, same_lists}
use Rattle.std.proofs.lemmas.List.FromFn.{length-map-range_with_len, get_or-map-range_with_len}
use Rattle.inc_tree.specs.shape.Geometry.{blocks_of, block_len, tree_of}
use Rattle.inc_tree.specs.content_tree.Root.{content_block}
use Rattle.inc_loader.specs.Content.{generated_byte, generated_content}

pub length-generated_content : (number size : ℕ) → length (generated_content number size) ≡ size
unfolding generated_content
length-generated_content number size = length-map-range_with_len (generated_byte number) 0 size

-- a block's bytes follow one another
pub byte_in_block : (number index place : ℕ) → place < 4096 → ((number % 251 + 4096 * index + index) % 251 + place) % 251 ≡ generated_byte number (4096 * index + place)
byte_in_block number index place low =
    let block : (4096 * index + place) / 4096 ≡ index = omega arith in
    omega (arith, block)

-- a room that has these bytes at each place
pub filled_room : (f : ℕ → ℕ) (room : List ℕ) (start count : ℕ) → length room ≡ count → ((k : ℕ) → k < count → get_or room k 0 ≡ f (start + k)) → room ≡ map f (range_with_len start count)
filled_room f room start count is each =
    same_lists room (map f (range_with_len start count)) (is ∙ sym (length-map-range_with_len f start count))
    (λ k d lt.
    let here : k < count = omega arith in
    get_or_default room k d 0 lt ∙ each k here ∙ sym (get_or-map-range_with_len f start count k (start + k) d here refl))

pub generated_block : (number size index count : ℕ) → count ≡ min 4096 (size - 4096 * index)
    → map (generated_byte number) (range_with_len (4096 * index) count) ≡ content_block (generated_content number size) index
unfolding generated_content
generated_block number size index count is =
    let start : ℕ = 4096 * index in
    let f : ℕ → ℕ = generated_byte number in
    let content : List ℕ = map f (range_with_len 0 size) in
    let long : length content ≡ size = length-map-range_with_len f 0 size in
    same_lists (map f (range_with_len start count)) (take 4096 (drop start content))
    (omega (arith, length-map-range_with_len f start count, length-take 4096 (drop start content), length-drop start content))
    (λ k d lt.
    let here : k < count = omega (arith, length-map-range_with_len f start count) in
    let far : start + k < size = omega arith in
    get_or-map-range_with_len f start count k (start + k) d here refl
    ∙ sym (get_or-take 4096 (drop start content) k d (omega arith) ∙ get_or-drop start content k d ∙ get_or-map-range_with_len f 0 size (start + k) (start + k) d far (omega arith)))

-- a room of a block's length that was filled with the bytes from the block's start on
pub filled_block : (number size index : ℕ) (before after : List ℕ) → after ≡ map (generated_byte number) (range_with_len (4096 * index) (length before))
    → index < blocks_of size → length before ≡ block_len (tree_of size) index → after ≡ content_block (generated_content number size) index
filled_block number size index before after is here long = is ∙ generated_block number size index (length before) (long ∙ whole size index here)
  where
    whole : (n i : ℕ) → i < blocks_of n → block_len (tree_of n) i ≡ min 4096 (n - 4096 * i)
    whole n i lt = grind (arith, lt)
