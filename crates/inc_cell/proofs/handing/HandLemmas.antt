-- The hash blocks of a path that aren't known, level by level.
use Rattle.std.proofs.Common.{◌≡◌, ℕ, suc, ◌+◌, ◌<◌, ◌≤◌, Bool, true, false, cond, List, [], ◌∷◌, ◌++◌, length, take, Option, Some, None, refl, sym, ap, subst, ◌∙◌, add-one}
use Rattle.std.specs.Prelude.{IfSome, filter, map, not}
use Rattle.std.proofs.lemmas.List.{append-nil, map-append}
use Rattle.std.proofs.lemmas.List.Elements.{filter-append}
use Rattle.inc_tree.specs.shape.Geometry.{Shape, block_len, hash_blocks, path_block}
use Rattle.inc_tree.specs.read_block.Path.{block_digest, padded}
use Rattle.inc_entry.specs.Entry.{area_places, hash_block_place, tree_span}
use Rattle.inc_entry.specs.Spans.{IsInside}
use Rattle.inc_entry.specs.Stored.{part}
use Rattle.inc_entry.specs.declared.areas.Areas.{Areas}
use Rattle.inc_disk.specs.Disk.{DiskState, reads_of}
use Rattle.inc_layout.specs.opening.Listed.{listed}
use Rattle.inc_layout.specs.reading.StaticRead.{hash_block}
use Rattle.inc_layout.proofs.LoopSteps.{HasAll, hash_read}
use Rattle.inc_cell.specs.device.Handed.{IsReadFrom, block_from, is_known, unknown_below, unknown_hashes, unknown_path}
use Rattle.inc_cell.specs.declared.words.answer.HandedBytes.{HandedBytes}

abbrev is_new : List ℕ → ℕ → Bool
is_new known hash = not (is_known known hash)

module _ (shape : Shape) (block : ℕ) (known : List ℕ) where
  pub none_below : unknown_below shape block known 0 ≡ []
  unfolding listed
  none_below = refl

  below_more : (level number : ℕ) → number ≡ path_block shape block level → unknown_below shape block known (suc level) ≡ unknown_below shape block known level ++ filter (is_new known) (number ∷ [])
  unfolding listed
  below_more level number e =
      ap (λ (n : ℕ). filter (is_new known) (listed (path_block shape block) level ++ n ∷ [])) (sym e) ∙ filter-append (is_new known) (listed (path_block shape block) level) (number ∷ [])

  pub below_skip : (level number : ℕ) → number ≡ path_block shape block level → is_known known number ≡ true → unknown_below shape block known (level + 1) ≡ unknown_below shape block known level
  below_skip level number e there =
      rw add-one
      (below_more level number e ∙ ap (λ (b : Bool). unknown_below shape block known level ++ cond (not b) (number ∷ []) []) there ∙ append-nil (unknown_below shape block known level))

  pub below_new : (level number : ℕ) → number ≡ path_block shape block level → is_known known number ≡ false → unknown_below shape block known (level + 1) ≡ unknown_below shape block known level ++ number ∷ []
  below_new level number e there = rw add-one (below_more level number e ∙ ap (λ (b : Bool). unknown_below shape block known level ++ cond (not b) (number ∷ []) []) there)

-- a block more, on a file that may not be told
abbrev pub HasPath : Option (List ℕ) → Areas → List ℕ → List (List ℕ) → Type 0
HasPath told areas hashes blocks = IfSome told (λ bytes. HasAll areas bytes → blocks ≡ map (hash_block bytes areas) hashes)

pub has_none : (told : Option (List ℕ)) (areas : Areas) (hashes : List ℕ) (blocks : List (List ℕ)) → hashes ≡ [] → blocks ≡ [] → HasPath told areas hashes blocks
has_none None areas hashes blocks h b = tt
has_none (Some bytes) areas hashes blocks h b = λ tree. b ∙ sym (ap (map (hash_block bytes areas)) h)

pub has_same : (told : Option (List ℕ)) (areas : Areas) (hashes hashes' : List ℕ) (blocks : List (List ℕ)) → hashes' ≡ hashes → HasPath told areas hashes blocks → HasPath told areas hashes' blocks
has_same None areas hashes hashes' blocks same has = tt
has_same (Some bytes) areas hashes hashes' blocks same has = λ tree. has tree ∙ sym (ap (map (hash_block bytes areas)) same)

pub has_more : (told : Option (List ℕ)) (areas : Areas) (hashes hashes' : List ℕ) (number at : ℕ) (blocks blocks' : List (List ℕ)) (block : List ℕ) → hashes' ≡ hashes ++ number ∷ [] → blocks' ≡ blocks ++ block ∷ []
    → at ≡ hash_block_place (area_places areas) number → number < hash_blocks areas.geometry → HasPath told areas hashes blocks
    → IfSome told (λ bytes. at + 4096 ≤ length bytes → block ≡ padded (part 4096 at bytes)) → HasPath told areas hashes' blocks'
has_more None areas hashes hashes' number at blocks blocks' block h b is lt has read = tt
has_more (Some bytes) areas hashes hashes' number at blocks blocks' block h b is lt has read = λ tree.
    let here : block ≡ hash_block bytes areas number = hash_read bytes areas number at block is lt tree (read) in
    b ∙ (λ i. has tree i ++ here i ∷ []) ∙ sym (map-append (hash_block bytes areas) hashes (number ∷ [])) ∙ sym (ap (map (hash_block bytes areas)) h)

-- what was read, by what the disk's states tell
pub made_read : (states : List DiskState) (told : Option (List ℕ)) (areas : Areas) (block place : ℕ) (known : List ℕ) (handed : HandedBytes) → told ≡ reads_of states → handed.block.len ≡ block_len areas.geometry block
    → handed.block.digest ≡ block_digest (take handed.block.len handed.block.bytes) → length handed.path ≡ length (unknown_hashes areas.geometry block known)
    → IfSome told (λ bytes. place + block_len areas.geometry block ≤ length bytes → handed.block.bytes ≡ block_from bytes areas block place)
    → IfSome told (λ bytes. HasAll areas bytes → handed.path ≡ unknown_path bytes areas block known) → IsReadFrom states areas block place known handed
made_read states told areas block place known handed is len hashed count bytes path = record {
  len_is = len;
  hashed = hashed;
  path_count = count;
  block_is = subst (λ (t : Option (List ℕ)). IfSome t (λ bytes. place + block_len areas.geometry block ≤ length bytes → handed.block.bytes ≡ block_from bytes areas block place)) is bytes;
  path_is = subst (λ (t : Option (List ℕ)). IfSome t (λ bytes. IsInside (length bytes) (tree_span (area_places areas)) → handed.path ≡ unknown_path bytes areas block known)) is path;
}
