-- The pieces of contents, one by one.
use Rattle.std.proofs.Common.{◌≡◌, ℕ, ◌+◌, ◌-◌, ◌^◌, ◌<◌, ◌≤◌, true, false, eqb, leb, ⊎_elim, min, List, [], ◌∷◌, ◌++◌, length, map, take, drop, get_or, refl, ap, sym, subst, ◌∙◌, arith}
use Rattle.std.specs.List.{flat_map}
use Rattle.std.proofs.lemmas.Bool.{eq-eqb, ne_eqb, eqb-false, le-leb, lt-leb, cases_lt}
use Rattle.std.proofs.lemmas.List.{length-append, length-take, length-drop, length-map, map-append, get_or_append_left, get_or-append_right, drop_all, drop_more, drop-drop, take_more, nil_from_length}
use Rattle.std.proofs.lemmas.List.FromFn.{length-map-range_with_len, get_or-map-range_with_len}
use Rattle.inc_frame.specs.declared.piece.Piece.{Piece}
use Rattle.inc_tree.specs.shape.Geometry.{blocks_of, hash_blocks, levels, level_counts, tree_of}
use Rattle.inc_tree.specs.shape.Limits.{most_size}
use Rattle.inc_tree.specs.content_tree.Root.{area_of, content_block}
use Rattle.inc_tree.proofs.GrowthLemmas.{length-area_of}
use Rattle.inc_tree.proofs.LevelLemmas.{hash_small}
use Rattle.inc_loader.specs.Content.{generated_content}
use Rattle.inc_loader.specs.ContentPieces.{AreFirstMarks, all_pieces, data_pieces, hash_pieces, pieces_of, plain_piece}
use Rattle.inc_loader.specs.Marks.{mark_of}
use Rattle.inc_loader.specs.declared.loader_file.LoaderFile.{LoaderFile}
use Rattle.inc_loader.specs.declared.mark.PieceMark.{PieceMark}
use Rattle.inc_loader.proofs.ContentLemmas.{length-generated_content}

hash_at : LoaderFile → List (List ℕ) → ℕ → Piece
hash_at file area k = plain_piece file true k (get_or area k [])

pub length-hash_pieces : (file : LoaderFile) (area : List (List ℕ)) → length (hash_pieces file area) ≡ length area
unfolding hash_pieces
length-hash_pieces file area = length-map-range_with_len (λ k. plain_piece file true k (get_or area k [])) 0 (length area)

pub length-data_pieces : (file : LoaderFile) (content : List ℕ) → length (data_pieces file content) ≡ blocks_of (length content)
unfolding data_pieces
length-data_pieces file content = length-map-range_with_len (λ k. plain_piece file false k (content_block content k)) 0 (blocks_of (length content))

-- as many as the file has blocks of both kinds
pub length-pieces_of : (file : LoaderFile) (content : List ℕ) → length (pieces_of file content) ≡ hash_blocks (tree_of (length content)) + blocks_of (length content)
length-pieces_of file content =
    length-append (hash_pieces file (area_of content)) (data_pieces file content)
    ∙ (ap (λ (n : ℕ). n + length (data_pieces file content)) (length-hash_pieces file (area_of content) ∙ length-area_of content)
    ∙ ap (λ (n : ℕ). hash_blocks (tree_of (length content)) + n) (length-data_pieces file content))

pub length-generated : (file : LoaderFile) (number size : ℕ) → length (pieces_of file (generated_content number size)) ≡ hash_blocks (tree_of size) + blocks_of size
length-generated file number size =
    subst (λ (n : ℕ). length (pieces_of file (generated_content number size)) ≡ hash_blocks (tree_of n) + blocks_of n) (length-generated_content number size)
    (length-pieces_of file (generated_content number size))

pub length-area : (number size : ℕ) (area : List (List ℕ)) → area ≡ area_of (generated_content number size) → length area ≡ hash_blocks (tree_of size)
length-area number size area is =
    ap length is ∙ (length-area_of (generated_content number size) ∙ ap (λ (n : ℕ). hash_blocks (tree_of n)) (length-generated_content number size))

-- nothing is left behind the last piece
pub given_test : (file : LoaderFile) (number size next count : ℕ) → count ≡ hash_blocks (tree_of size) + blocks_of size
    → leb count next ≡ eqb (length (drop next (pieces_of file (generated_content number size)))) 0
given_test file number size next count is =
    let pieces : List Piece = pieces_of file (generated_content number size) in
    let left : length (drop next pieces) ≡ count - next = omega (arith, length-drop next pieces, length-generated file number size) in
    ⊎_elim (λ lt. lt-leb count next lt ∙ sym (ne_eqb (length (drop next pieces)) 0 (λ e. omega arith)))
    (λ le. le-leb count next le ∙ sym (eq-eqb (length (drop next pieces)) 0 (omega arith))) (cases_lt next count)

-- a piece that is left has its number among the file's blocks
pub among_blocks : (file : LoaderFile) (number size next : ℕ) → eqb (length (drop next (pieces_of file (generated_content number size)))) 0 ≡ false
    → next < hash_blocks (tree_of size) + blocks_of size
among_blocks file number size next some =
    let pieces : List Piece = pieces_of file (generated_content number size) in
    let more : length (drop next pieces) ≡ 0 → ⊥ = eqb-false (length (drop next pieces)) 0 some in
    omega (arith, length-drop next pieces, length-generated file number size, more)

pub few_blocks : (file : LoaderFile) (number size next : ℕ) → size ≤ most_size → eqb (length (drop next (pieces_of file (generated_content number size)))) 0 ≡ false → next < 2 ^ 23
few_blocks file number size next small some = omega (arith, among_blocks file number size next some, hash_small (tree_of size) small)

pub hash_in : (file : LoaderFile) (area : List (List ℕ)) (k : ℕ) (d : Piece) → k < length area → get_or (hash_pieces file area) k d ≡ plain_piece file true k (get_or area k [])
unfolding hash_pieces
hash_in file area k d lt = get_or-map-range_with_len (λ i. plain_piece file true i (get_or area i [])) 0 (length area) k k d lt (omega arith)

pub data_in : (file : LoaderFile) (content : List ℕ) (k : ℕ) (d : Piece) → k < blocks_of (length content) → get_or (data_pieces file content) k d ≡ plain_piece file false k (content_block content k)
unfolding data_pieces
data_in file content k d lt = get_or-map-range_with_len (λ i. plain_piece file false i (content_block content i)) 0 (blocks_of (length content)) k k d lt (omega arith)

-- the first of what is left after so many pieces
at_place : (pieces : List Piece) (k : ℕ) (piece : Piece) → k < length pieces → get_or pieces k piece ≡ piece → drop k pieces ≡ piece ∷ drop 1 (drop k pieces)
at_place pieces k piece lt is = drop_more pieces k piece lt ∙ ap (λ (p : Piece). p ∷ drop (k + 1) pieces) is ∙ ap (λ (ps : List Piece). piece ∷ ps) (sym (drop-drop 1 k pieces))

pub next_hash : (file : LoaderFile) (number size k : ℕ) (area : List (List ℕ)) (block : List ℕ) → area ≡ area_of (generated_content number size) → k < hash_blocks (tree_of size)
    → block ≡ get_or area k [] → drop k (pieces_of file (generated_content number size)) ≡ plain_piece file true k block ∷ drop 1 (drop k (pieces_of file (generated_content number size)))
next_hash file number size k area block area_is lt is =
    let content : List ℕ = generated_content number size in
    let inside : k < length (area_of content) = omega (arith, length-area_of content, ap (λ (n : ℕ). hash_blocks (tree_of n)) (length-generated_content number size)) in
    let piece : Piece = plain_piece file true k block in
    let same : block ≡ get_or (area_of content) k [] = is ∙ ap (λ (blocks : List (List ℕ)). get_or blocks k []) area_is in
    at_place (pieces_of file content) k piece (omega (arith, length-generated file number size))
    (get_or_append_left (hash_pieces file (area_of content)) (data_pieces file content) piece k (omega (arith, length-hash_pieces file (area_of content)))
    ∙ (hash_in file (area_of content) k piece inside ∙ ap (λ (b : List ℕ). plain_piece file true k b) (sym same)))

pub next_data : (file : LoaderFile) (number size k at : ℕ) (bytes : List ℕ) → at ≡ hash_blocks (tree_of size) + k → k < blocks_of size
    → bytes ≡ content_block (generated_content number size) k
    → drop at (pieces_of file (generated_content number size)) ≡ plain_piece file false k bytes ∷ drop 1 (drop at (pieces_of file (generated_content number size)))
next_data file number size k at bytes place lt is =
    let content : List ℕ = generated_content number size in
    let area : List (List ℕ) = area_of content in
    let hashes : length (hash_pieces file area) ≡ hash_blocks (tree_of size) =
    length-hash_pieces file area ∙ length-area_of content ∙ ap (λ (n : ℕ). hash_blocks (tree_of n)) (length-generated_content number size) in
    let inside : k < blocks_of (length content) = subst (λ (n : ℕ). k < blocks_of n) (sym (length-generated_content number size)) lt in
    let piece : Piece = plain_piece file false k bytes in
    let back : at - hash_blocks (tree_of size) ≡ k = omega arith in
    at_place (pieces_of file content) at piece (omega (arith, length-generated file number size))
    (get_or-append_right (hash_pieces file area) (data_pieces file content) (hash_blocks (tree_of size)) at piece hashes (omega arith)
    ∙ (ap (λ (i : ℕ). get_or (data_pieces file content) i piece) back
    ∙ (data_in file content k piece inside ∙ ap (λ (b : List ℕ). plain_piece file false k b) (sym is))))

-- an empty file has no piece, and every other file has one
pub of_empty : (file : LoaderFile) (number size : ℕ) → size ≡ 0 → pieces_of file (generated_content number size) ≡ []
unfolding level_counts levels
of_empty file number size none =
    nil_from_length (pieces_of file (generated_content number size)) (length-generated file number size ∙ ap (λ (n : ℕ). hash_blocks (tree_of n) + blocks_of n) none)

pub of_some : (file : LoaderFile) (number size : ℕ) → 0 < size → 0 < length (pieces_of file (generated_content number size))
of_some file number size some = omega (arith, length-generated file number size)

-- the files behind a place
pub file_next : (number : ℕ) (files : List LoaderFile) (i : ℕ) (file : LoaderFile) → i < length files → get_or files i file ≡ file
    → all_pieces number (drop i files) ≡ pieces_of file (generated_content number file.size) ++ all_pieces number (drop (i + 1) files)
unfolding all_pieces
file_next number files i file lt is =
    ap (flat_map (λ (f : LoaderFile). pieces_of f (generated_content number f.size))) (drop_more files i file lt ∙ ap (λ (f : LoaderFile). f ∷ drop (i + 1) files) is)

pub none_behind : (number : ℕ) (files : List LoaderFile) (i : ℕ) → length files ≤ i → all_pieces number (drop i files) ≡ []
unfolding all_pieces
none_behind number files i past = ap (flat_map (λ (f : LoaderFile). pieces_of f (generated_content number f.size))) (drop_all i files past)

pub of_no_files : (number : ℕ) → all_pieces number [] ≡ []
unfolding all_pieces
of_no_files number = refl

-- ---- what was given and what is left

-- one more mark
pub one_more : (number : ℕ) (files : List LoaderFile) (given after : List PieceMark) (piece : Piece) (rest : List Piece) → AreFirstMarks number files given
    → drop (length given) (all_pieces number files) ≡ piece ∷ rest → after ≡ given ++ mark_of files piece ∷ []
    → AreFirstMarks number files after × (rest ≡ drop (length after) (all_pieces number files))
one_more number files given after piece rest first left is =
    let all : List Piece = all_pieces number files in
    let n : ℕ = length given in
    let long : length after ≡ n + 1 = ap length is ∙ length-append given (mark_of files piece ∷ []) in
    let inside : n < length all = omega (arith, length-drop n all, ap length left) in
    let at : get_or all n piece ∷ drop (n + 1) all ≡ piece ∷ rest = sym (drop_more all n piece inside) ∙ left in
    let same : get_or all n piece ≡ piece = cc in
    let behind : drop (n + 1) all ≡ rest = cc in
    let front : take (n + 1) all ≡ take n all ++ piece ∷ [] = take_more all n piece inside ∙ ap (λ (p : Piece). take n all ++ p ∷ []) same in
    let grown : given ++ mark_of files piece ∷ [] ≡ map (mark_of files) (take (n + 1) all) =
    ap (λ (ms : List PieceMark). ms ++ mark_of files piece ∷ []) first ∙ sym (ap (map (mark_of files)) front ∙ map-append (mark_of files) (take n all) (piece ∷ [])) in
    (is ∙ grown ∙ ap (λ (k : ℕ). map (mark_of files) (take k all)) (sym long), sym behind ∙ ap (λ (k : ℕ). drop k all) (sym long))

-- no more marks than pieces
pub no_more_than : (number : ℕ) (files : List LoaderFile) (given : List PieceMark) → AreFirstMarks number files given → length given ≤ length (all_pieces number files)
no_more_than number files given first =
    let few : length given ≡ min (length given) (length (all_pieces number files)) =
    ap length first ∙ length-map (take (length given) (all_pieces number files)) (mark_of files) ∙ length-take (length given) (all_pieces number files) in
    omega arith
