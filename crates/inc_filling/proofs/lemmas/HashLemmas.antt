-- The blocks of a group's pieces, hashed together.
use Rattle.std.proofs.Common.{◌≡◌, ℕ, zero, suc, ◌+◌, ◌<◌, ◌≤◌, List, [], ◌∷◌, ◌++◌, length, get_or, take, map, refl, sym, ap, subst, ◌∙◌, arith}
use Rattle.std.specs.Prelude.{Result, Ok, Err, IfOk}
use Rattle.std.specs.List.{zip}
use Rattle.std.proofs.Math.Seq.{take-length}
use Rattle.std.proofs.lemmas.List.{map_more}
use Rattle.std.proofs.lemmas.Slice.Zip.{get_or-zip, length-zip}
use Rattle.inc_tree.specs.read_block.Path.{padded}
use Rattle.inc_entry.proofs.BlockLemmas.{most_len}
use Rattle.inc_frame.specs.declared.piece.Piece.{Piece}
use Rattle.inc_layout.specs.declared.opened.Opened.{Opened}
use Rattle.inc_cell.specs.device.Digested.{DigestedBlock, digested_each}
use Rattle.inc_filling.specs.Contents.{block_of_piece, index_of_piece, len_of_piece}
use Rattle.inc_filling.specs.Pieces.{AreTaken, StorePieces, fillings_joined}
use Rattle.inc_filling.specs.declared.filling.Filling.{Filling}
use Rattle.inc_filling.proofs.lemmas.TakenLemmas.{content_again, taken_long}

-- ---- a loop over the blocks

abbrev pub filling_of : ℕ × DigestedBlock → Filling
filling_of pair = record { index = pair.0; block = pair.1 }

pub joined_more : (indices : List ℕ) (blocks : List DigestedBlock) (n : ℕ) (block : DigestedBlock) → n < length indices → n < length blocks → block ≡ get_or blocks n block
    → map filling_of (take (n + 1) (zip indices blocks)) ≡ map filling_of (take n (zip indices blocks)) ++ filling_of (get_or indices n 0, block) ∷ []
joined_more indices blocks n block in_indices in_blocks here =
    let within : n < length (zip indices blocks) = omega (arith, length-zip indices blocks) in
    let pair : get_or (zip indices blocks) n (0, block) ≡ (get_or indices n 0, get_or blocks n block) = get_or-zip indices blocks n (0, block) in_indices in_blocks in
    let found : filling_of (get_or (zip indices blocks) n (0, block)) ≡ filling_of (get_or indices n 0, block) = ap filling_of pair ∙ ap (λ (b : DigestedBlock). filling_of (get_or indices n 0, b)) (sym here) in
    map_more filling_of (zip indices blocks) n (0, block) within ∙ ap (λ (f : Filling). map filling_of (take n (zip indices blocks)) ++ f ∷ []) found

pub joined_whole : (indices : List ℕ) (blocks : List DigestedBlock) → length blocks ≡ length indices → map filling_of (take (length blocks) (zip indices blocks)) ≡ fillings_joined indices blocks
joined_whole indices blocks same =
    let whole : length (zip indices blocks) ≡ length blocks = omega (arith, length-zip indices blocks) in
    subst (λ (n : ℕ). map filling_of (take n (zip indices blocks)) ≡ fillings_joined indices blocks) whole (ap (map filling_of) (take-length (zip indices blocks)))

-- ---- of the pieces

pub lens_small : (opened : Opened) (pieces : List Piece) (i : ℕ) → i < length (map (len_of_piece opened) pieces) → get_or (map (len_of_piece opened) pieces) i 0 ≤ 4096
lens_small opened [] i lt = absurd (omega arith)
lens_small opened (p ∷ ps) zero lt = most_len opened.areas.geometry (index_of_piece opened p)
lens_small opened (p ∷ ps) (suc i) lt = lens_small opened ps i (omega arith)

pub same_lengths : (opened : Opened) (pieces : List Piece) → length (map (len_of_piece opened) pieces) ≡ length (map (block_of_piece opened) pieces)
same_lengths opened [] = refl
same_lengths opened (p ∷ ps) = ap suc (same_lengths opened ps)

pub as_many : (opened : Opened) (pieces : List Piece) → length (digested_each (map (block_of_piece opened) pieces) (map (len_of_piece opened) pieces)) ≡ length (map (index_of_piece opened) pieces)
as_many opened [] = refl
as_many opened (p ∷ ps) = ap suc (as_many opened ps)

pub joined_store : (opened : Opened) (pieces : List Piece) → AreTaken opened pieces
    → StorePieces opened (fillings_joined (map (index_of_piece opened) pieces) (digested_each (map (block_of_piece opened) pieces) (map (len_of_piece opened) pieces))) pieces
joined_store opened [] taken = tt
joined_store opened (p ∷ ps) taken = (
  (refl, ap padded (content_again p.bytes (len_of_piece opened p) (taken_long opened p (taken 0 p (omega arith))))),
  joined_store opened ps (λ k d lt. taken (suc k) d (omega arith)),
)

pub store_if : {T E : Type 0} (opened : Opened) (pieces : List Piece) (items : T → List Filling) (wanted : List Filling) → StorePieces opened wanted pieces → (result : Result T E) → IfOk result (λ group. items group ≡ wanted)
    → IfOk result (λ group. StorePieces opened (items group) pieces)
store_if opened pieces items wanted stores (Ok group) is = subst (λ (l : List Filling). StorePieces opened l pieces) (sym is) stores
store_if opened pieces items wanted stores (Err error) is = tt
