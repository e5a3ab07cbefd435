-- Where a piece stands among those of its file, by its words alone; so no block is among them twice.
use Rattle.std.proofs.Common.{◌≡◌, ℕ, ◌+◌, ◌-◌, ◌^◌, ◌<◌, ◌≤◌, ⊎_elim, cond, List, ◌∷◌, ◌++◌, length, drop, get_or, refl, ap, sym, ◌∙◌, arith}
use Rattle.std.proofs.lemmas.Bool.{cases_lt}
use Rattle.std.proofs.lemmas.List.{length-append, length-drop, get_or_append_left, get_or-append_right, get_or-drop}
use Rattle.inc_frame.specs.declared.piece.Piece.{Piece}
use Rattle.inc_tree.specs.shape.Geometry.{blocks_of, tree_of}
use Rattle.inc_tree.specs.content_tree.Root.{area_of}
use Rattle.inc_tree.proofs.LevelLemmas.{hash_small}
use Rattle.inc_loader.specs.Content.{generated_content}
use Rattle.inc_loader.specs.ContentPieces.{data_pieces, hash_pieces, pieces_of}
use Rattle.inc_loader.specs.PiecesLeft.{left_of}
use Rattle.inc_loader.specs.declared.gen_loader.file_in_work.FileInWork.{FileInWork}
use Rattle.inc_loader.specs.declared.loader_file.LoaderFile.{LoaderFile}
use Rattle.inc_loader.proofs.PieceLemmas.{data_in, hash_in, length-data_pieces, length-generated, length-hash_pieces}

-- the hash blocks come first, and there are so many of them
abbrev pub place_among : ℕ → Piece → ℕ
place_among hashes piece = cond piece.hash piece.number (hashes + piece.number)

place_of_piece : (file : LoaderFile) (content : List ℕ) (k : ℕ) (d : Piece) → k < length (pieces_of file content) → place_among (length (area_of content)) (get_or (pieces_of file content) k d) ≡ k
place_of_piece file content k d lt =
    let area : List (List ℕ) = area_of content in
    let long = length-hash_pieces file area in
    ⊎_elim
    (λ before.
    ap (place_among (length area)) (get_or_append_left (hash_pieces file area) (data_pieces file content) d k (omega (arith, long)) ∙ hash_in file area k d before))
    (λ past.
    let there : k - length area < blocks_of (length content) = omega (arith, length-append (hash_pieces file area) (data_pieces file content), length-data_pieces file content) in
    ap (place_among (length area)) (get_or-append_right (hash_pieces file area) (data_pieces file content) (length area) k d long (omega arith) ∙ data_in file content (k - length area) d there)
    ∙ omega arith) (cases_lt k (length area))

-- a block that comes later is another one
pub later_is_other : (work : FileInWork) (front rest : List Piece) (piece : Piece) (k : ℕ) (d : Piece) → left_of work ≡ front ++ piece ∷ rest → k < length front → (get_or front k d).hash ≡ piece.hash
    → (get_or front k d).number ≡ piece.number → ⊥
later_is_other work front rest piece k d is lt same_kind same_number =
    let content : List ℕ = generated_content work.number work.file.size in
    let pieces : List Piece = pieces_of work.file content in
    let hashes : ℕ = length (area_of content) in
    let n : ℕ = work.next in
    let long : length (drop n pieces) ≡ length front + length (piece ∷ rest) = ap length is ∙ length-append front (piece ∷ rest) in
    let room : n + length front < length pieces = omega (arith, length-drop n pieces) in
    let first : get_or pieces (n + k) d ≡ get_or front k d =
    sym (get_or-drop n pieces k d) ∙ ap (λ (l : List Piece). get_or l k d) is ∙ get_or_append_left front (piece ∷ rest) d k lt in
    let seam : length front - length front ≡ 0 = omega arith in
    let second : get_or pieces (n + length front) d ≡ piece =
    sym (get_or-drop n pieces (length front) d) ∙ ap (λ (l : List Piece). get_or l (length front) d) is
    ∙ get_or-append_right front (piece ∷ rest) (length front) (length front) d refl (omega arith) ∙ ap (λ (i : ℕ). get_or (piece ∷ rest) i d) seam in
    let one : place_among hashes (get_or front k d) ≡ n + k = ap (place_among hashes) (sym first) ∙ place_of_piece work.file content (n + k) d (omega arith) in
    let other : place_among hashes piece ≡ n + length front = ap (place_among hashes) (sym second) ∙ place_of_piece work.file content (n + length front) d room in
    let same : place_among hashes (get_or front k d) ≡ place_among hashes piece = rw (same_kind, same_number) refl in
    omega (arith, one, other, same)

pub few_left : (work : FileInWork) → length (left_of work) ≤ 2 ^ 23
few_left work =
    let pieces : List Piece = pieces_of work.file (generated_content work.number work.file.size) in
    omega (arith, length-drop work.next pieces, length-generated work.file work.number work.file.size, hash_small (tree_of work.file.size) work.small)
