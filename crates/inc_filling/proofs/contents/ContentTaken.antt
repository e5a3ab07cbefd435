-- A new file takes all pieces of its content: no entry of it is damaged or compressed, and each piece has its block's own length.
use Rattle.std.proofs.Common.{◌≡◌, ℕ, ◌+◌, ◌-◌, ◌<◌, ◌≤◌, ⊎_elim, Bool, true, false, not, ◌||◌, eqb, List, [], ◌∷◌, length, get_or, None, refl, sym, ap, subst, ◌∙◌, arith}
use Rattle.std.specs.Prelude.{nat_eq, slice_index_or}
use Rattle.std.specs.Cmp.Lexicographic.{other_text, pointwise}
use Rattle.std.proofs.lemmas.Bool.{cases_lt, eq-eqb, lt-ltb}
use Rattle.std.proofs.lemmas.List.{get_or_append_left, get_or-append_right, get_or-drop, length-append, length-drop}
use Rattle.inc_bytes.specs.Tests.{first_failing}
use Rattle.inc_tree.specs.shape.Geometry.{Shape, block_len, blocks_of, data_blocks, hash_blocks, tree_of}
use Rattle.inc_tree.specs.content_tree.Root.{area_of, content_block}
use Rattle.inc_tree.proofs.GrowthLemmas.{length-area_of}
use Rattle.inc_entry.specs.Stored.{is_compressed_class, is_damaged_class}
use Rattle.inc_entry.specs.declared.classes.Class.{Class}
use Rattle.inc_entry.specs.declared.classes.Class.TheVariants.{Closed, Damaged}
use Rattle.inc_frame.specs.declared.piece.Piece.{Piece}
use Rattle.inc_layout.specs.declared.opened.Opened.{Opened}
use Rattle.inc_loader.specs.Content.{generated_content}
use Rattle.inc_loader.specs.ContentPieces.{data_pieces, hash_pieces, pieces_of, plain_piece}
use Rattle.inc_loader.specs.PiecesLeft.{left_of}
use Rattle.inc_loader.specs.declared.gen_loader.file_in_work.FileInWork.{FileInWork}
use Rattle.inc_loader.specs.declared.loader_file.LoaderFile.{LoaderFile}
use Rattle.inc_loader.proofs.ContentLemmas.{length-generated_content}
use Rattle.inc_loader.proofs.PieceLemmas.{data_in, hash_in, length-data_pieces, length-hash_pieces}
use Rattle.inc_tree.proofs.WholeBlocks.{data_long, hash_whole}
use Rattle.inc_model.specs.declared.words.outcomes.FillError.{FillError}
use Rattle.inc_model.specs.declared.words.outcomes.FillError.TheVariants as refusal
use Rattle.inc_cell.specs.events.Pieces.{kind_count, piece_index, piece_tests, stored_tests}
use Rattle.inc_filling.specs.Generated.{IsNewFileOf}
use Rattle.inc_filling.specs.Pieces.{AreTaken}
use Rattle.inc_filling.specs.Refusals.{refusal_of}

same_id : (one other : List ℕ) → one ≡ other → pointwise nat_eq one other ≡ true
same_id one other same = step (pointwise nat_eq one other) refl
  where
    step : (b : Bool) → pointwise nat_eq one other ≡ b → b ≡ true
    step true e = refl
    step false e = absurd (other_text one other (sym e) same)

five_passed : (a b c d e : Bool) (va vb vc vd ve : FillError) → a ≡ true → b ≡ true → c ≡ true → d ≡ true → e ≡ true
    → first_failing ((a, va) ∷ (b, vb) ∷ (c, vc) ∷ (d, vd) ∷ (e, ve) ∷ []) ≡ None
five_passed a b c d e va vb vc vd ve h i j k l = rw (h, i, j, k, l) refl

closed_uncompressed : (class : Class) → class ≡ Closed → not (is_compressed_class class) ≡ true
closed_uncompressed class e = rw e refl

closed_undamaged : (class : Class) → class ≡ Closed → not (is_damaged_class class) ≡ true
closed_undamaged class e = rw e refl

either_first : (a b : Bool) → a ≡ true → (a || b) ≡ true
either_first a b e = rw e refl

tests_passed : (opened : Opened) (hash : Bool) (number len : ℕ) → number < kind_count opened.areas.geometry hash
    → slice_index_or opened.classes (piece_index opened.areas.geometry hash number) Damaged ≡ Closed
    → len ≡ block_len opened.areas.geometry (piece_index opened.areas.geometry hash number) → first_failing (piece_tests opened hash number 0 len) ≡ None
unfolding piece_tests stored_tests
tests_passed opened hash number len within closed long =
    let index = piece_index opened.areas.geometry hash number in
    five_passed _ _ _ _ _ (refusal.OutOfRange 0) (refusal.Compressed 0) (refusal.Compressed 0) (refusal.BadLength 0) (refusal.Damaged 0) (lt-ltb number (kind_count opened.areas.geometry hash) within) refl (closed_uncompressed (slice_index_or opened.classes index Damaged) closed)
    (either_first (eqb len (block_len opened.areas.geometry index)) (eqb len 4096) (eq-eqb len (block_len opened.areas.geometry index) long)) (closed_undamaged (slice_index_or opened.classes index Damaged) closed)

takes_piece : (opened : Opened) (file : LoaderFile) (hash : Bool) (number : ℕ) (bytes : List ℕ) → file.id ≡ opened.header.id → number < kind_count opened.areas.geometry hash
    → slice_index_or opened.classes (piece_index opened.areas.geometry hash number) Damaged ≡ Closed
    → length bytes ≡ block_len opened.areas.geometry (piece_index opened.areas.geometry hash number) → refusal_of opened (plain_piece file hash number bytes) ≡ None
takes_piece opened file hash number bytes own within closed long =
    let mine = same_id file.id opened.header.id own in
    let passed = tests_passed opened hash number (length bytes) within closed long in
    rw (mine, passed) refl

whole_behind : (shape : Shape) (k : ℕ) → 4096 ≡ block_len shape (data_blocks shape + k)
whole_behind shape k = grind arith

-- of hash blocks first, and then of data blocks
takes_at : (opened : Opened) (file : LoaderFile) (content : List ℕ) → IsNewFileOf opened file.id (length content) → AreTaken opened (pieces_of file content)
takes_at opened file content h k d lt =
    let area : List (List ℕ) = area_of content in
    let shape : Shape = tree_of (length content) in
    let long = length-hash_pieces file area in
    let hashes : length area ≡ hash_blocks shape = length-area_of content in
    let geometry : opened.areas.geometry ≡ shape = h.shape_is in
    ⊎_elim
    (λ (before : k < length area).
    let there : k < hash_blocks shape = omega arith in
    let is : get_or (pieces_of file content) k d ≡ plain_piece file true k (get_or area k []) =
    get_or_append_left (hash_pieces file area) (data_pieces file content) d k (omega (arith, long)) ∙ hash_in file area k d before in
    subst (λ (piece : Piece). refusal_of opened piece ≡ None) (sym is)
    (takes_piece opened file true k (get_or area k []) (sym h.id_is) (subst (λ (s : Shape). k < hash_blocks s) (sym geometry) there)
    (subst (λ (s : Shape). slice_index_or opened.classes (data_blocks s + k) Damaged ≡ Closed) (sym geometry) (h.all_closed (data_blocks shape + k) (omega arith)))
    (hash_whole content k [] before ∙ whole_behind opened.areas.geometry k)))
    (λ (past : length area ≤ k).
    let j : ℕ = k - length area in
    let there : j < blocks_of (length content) = omega (arith, length-append (hash_pieces file area) (data_pieces file content), length-data_pieces file content, long) in
    let is : get_or (pieces_of file content) k d ≡ plain_piece file false j (content_block content j) =
    get_or-append_right (hash_pieces file area) (data_pieces file content) (length area) k d long past ∙ data_in file content j d there in
    subst (λ (piece : Piece). refusal_of opened piece ≡ None) (sym is)
    (takes_piece opened file false j (content_block content j) (sym h.id_is) (subst (λ (s : Shape). j < data_blocks s) (sym geometry) there)
    (h.all_closed j (omega arith)) (data_long content j there ∙ ap (λ (s : Shape). block_len s j) (sym geometry)))) (cases_lt k (length area))

pub takes_content : (opened : Opened) (work : FileInWork) → IsNewFileOf opened work.file.id work.file.size → AreTaken opened (left_of work)
takes_content opened work h k d lt =
    let content : List ℕ = generated_content work.number work.file.size in
    let pieces : List Piece = pieces_of work.file content in
    subst (λ (piece : Piece). refusal_of opened piece ≡ None) (sym (get_or-drop work.next pieces k d))
    (takes_at opened work.file content (subst (λ (n : ℕ). IsNewFileOf opened work.file.id n) (sym (length-generated_content work.number work.file.size)) h) (work.next + k) d (omega (arith, length-drop work.next pieces)))
