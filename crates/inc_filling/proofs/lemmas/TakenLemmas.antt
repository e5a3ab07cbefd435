-- A piece that the file takes may be filled.
use Rattle.std.proofs.Common.{◌≡◌, ℕ, zero, suc, ◌+◌, ◌-◌, ◌<◌, ◌≤◌, Bool, true, false, not, ◌||◌, cond, eqb, leb, ltb, List, [], ◌∷◌, length, get_or, take, Option, Some, None, refl, sym, ap, ◌∙◌, arith}
use Rattle.std.specs.Prelude.{option_map, nat_eq, slice_index_or}
use Rattle.std.specs.Cmp.Lexicographic.{pointwise}
use Rattle.std.proofs.lemmas.Bool.{eqb-true, leb-false, leb-true, ltb-true, ne_eqb}
use Rattle.std.proofs.Math.Seq.{take-append_seam}
use Rattle.std.proofs.lemmas.List.{length-take-le}
use Rattle.std.specs.Prelude.{replicate}
use Rattle.inc_tree.specs.read_block.Path.{padded}
use Rattle.inc_bytes.specs.Tests.{first_failing}
use Rattle.inc_tree.specs.shape.Geometry.{Shape, block_len, data_blocks, hash_blocks}
use Rattle.inc_entry.specs.Stored.{is_compressed_class, is_damaged_class}
use Rattle.inc_entry.specs.declared.classes.Class.{Class}
use Rattle.inc_entry.specs.declared.classes.Class.TheVariants.{Closed, Damaged}
use Rattle.inc_frame.specs.declared.piece.Piece.{Piece}
use Rattle.inc_layout.specs.declared.opened.Opened.{Opened}
use Rattle.inc_model.specs.declared.words.file_state.FileState.{FileState}
use Rattle.inc_model.specs.declared.words.outcomes.FillError.{FillError}
use Rattle.inc_model.specs.declared.words.outcomes.FillError.TheVariants as refusal
use Rattle.inc_entry.proofs.BlockLemmas.{most_len}
use Rattle.std.specs.Prelude.{min}
use Rattle.inc_cell.specs.events.Pieces.{kind_count, piece_index, piece_tests, stored_tests}
use Rattle.inc_filling.specs.Contents.{index_of_piece, len_of_piece}
use Rattle.inc_filling.specs.Refusals.{IsStateOfFile, refusal_of}
use Rattle.inc_filling.specs.Stands.{MayBeFilled}
use Rattle.inc_filling.specs.declared.refusal.PieceRefusal.TheVariants.{Refused, UnknownFile}

-- ---- tests that are all passed

passed_five : (a b c d e : Bool) (va vb vc vd ve : FillError) → first_failing ((a, va) ∷ (b, vb) ∷ (c, vc) ∷ (d, vd) ∷ (e, ve) ∷ []) ≡ None → (a ≡ true) × (b ≡ true) × (c ≡ true) × (d ≡ true) × (e ≡ true)
passed_five false b c d e va vb vc vd ve h = absurd (cc)
passed_five true false c d e va vb vc vd ve h = absurd (cc)
passed_five true true false d e va vb vc vd ve h = absurd (cc)
passed_five true true true false e va vb vc vd ve h = absurd (cc)
passed_five true true true true false va vb vc vd ve h = absurd (cc)
passed_five true true true true true va vb vc vd ve h = (refl, refl, refl, refl, refl)

no_refusal : (own : Bool) (found : Option FillError) → cond own (option_map Refused found) (Some UnknownFile) ≡ None → found ≡ None
no_refusal true None e = refl
no_refusal true (Some error) e = absurd (cc)
no_refusal false found e = absurd (cc)

pub passed_tests : (opened : Opened) (piece : Piece) → refusal_of opened piece ≡ None → first_failing (piece_tests opened piece.hash piece.number piece.compression (length piece.bytes)) ≡ None
passed_tests opened piece e = no_refusal (pointwise nat_eq piece.id opened.header.id) (first_failing (piece_tests opened piece.hash piece.number piece.compression (length piece.bytes))) e

pub record IsSoundPiece (opened : Opened) (hash : Bool) (number len : ℕ) : Type 0 where
  pub within : number < kind_count opened.areas.geometry hash
  pub uncompressed : is_compressed_class (slice_index_or opened.classes (piece_index opened.areas.geometry hash number) Damaged) ≡ false
  pub undamaged : is_damaged_class (slice_index_or opened.classes (piece_index opened.areas.geometry hash number) Damaged) ≡ false
  pub long : block_len opened.areas.geometry (piece_index opened.areas.geometry hash number) ≤ 4096 → block_len opened.areas.geometry (piece_index opened.areas.geometry hash number) ≤ len

-- a length that is the block's own, or that of a whole block
long_enough : (own len : ℕ) (a b : Bool) → eqb len own ≡ a → eqb len 4096 ≡ b → (a || b) ≡ true → own ≤ 4096 → own ≤ len
long_enough own len true b e f t most = let same = eqb-true len own e in omega arith
long_enough own len false true e f t most = let whole = eqb-true len 4096 f in omega arith
long_enough own len false false e f t most = absurd (cc)

not_true : (b : Bool) → not b ≡ true → b ≡ false
not_true true e = absurd (cc)
not_true false e = refl

sound_tests : (opened : Opened) (hash : Bool) (number compression len : ℕ) → first_failing (piece_tests opened hash number compression len) ≡ None → IsSoundPiece opened hash number len
unfolding piece_tests stored_tests
sound_tests opened hash number compression len e =
    let class = slice_index_or opened.classes (piece_index opened.areas.geometry hash number) Damaged in
    let own = block_len opened.areas.geometry (piece_index opened.areas.geometry hash number) in
    let passed = passed_five (ltb number (kind_count opened.areas.geometry hash)) (eqb compression 0) (not (is_compressed_class class)) (eqb len own || eqb len 4096) (not (is_damaged_class class))
    (refusal.OutOfRange 0) (refusal.Compressed 0) (refusal.Compressed 0) (refusal.BadLength 0) (refusal.Damaged 0) e in
    record {
      within = ltb-true number (kind_count opened.areas.geometry hash) passed.0;
      uncompressed = not_true (is_compressed_class class) passed.2;
      undamaged = not_true (is_damaged_class class) passed.4;
      long = long_enough own len (eqb len own) (eqb len 4096) refl refl passed.3;
    }

pub taken_sound : (opened : Opened) (piece : Piece) → refusal_of opened piece ≡ None → IsSoundPiece opened piece.hash piece.number (length piece.bytes)
taken_sound opened piece e = sound_tests opened piece.hash piece.number piece.compression (length piece.bytes) (passed_tests opened piece e)

-- ---- the index

pub index_within : (shape : Shape) (hash : Bool) (number : ℕ) → number < kind_count shape hash → piece_index shape hash number < data_blocks shape + hash_blocks shape
index_within shape true number lt = omega arith
index_within shape false number lt = omega arith

-- an entry that isn't damaged is there
class_there : (classes : List Class) (i : ℕ) → is_damaged_class (get_or classes i Damaged) ≡ false → get_or classes i Damaged ≡ get_or classes i Closed
class_there [] i e = absurd (cc)
class_there (class ∷ classes) zero e = refl
class_there (class ∷ classes) (suc i) e = class_there classes i e

pub taken_may_be_filled : (opened : Opened) (s : FileState) (piece : Piece) → IsStateOfFile opened s → refusal_of opened piece ≡ None → MayBeFilled s (index_of_piece opened piece)
taken_may_be_filled opened s piece of_file e =
    let sound = taken_sound opened piece e in
    let index = index_of_piece opened piece in
    let there = class_there opened.classes index sound.undamaged in
    let n = of_file.data_is in
    let m = of_file.hash_is in
    let within = index_within opened.areas.geometry piece.hash piece.number sound.within in
    record {
      within = omega arith;
      undamaged = of_file.damaged_is index ∙ ap is_damaged_class (sym there) ∙ sound.undamaged;
      uncompressed = of_file.compressed_is index ∙ ap is_compressed_class (sym there) ∙ sound.uncompressed;
    }

-- ---- the bytes

-- filled up once, the bytes that count are the same
pub content_again : (bytes : List ℕ) (len : ℕ) → len ≤ length bytes → take len (padded (take len bytes)) ≡ take len bytes
content_again bytes len le =
    let whole : length (take len bytes) ≡ len = length-take-le len bytes le in
    ap (λ n. take n (padded (take len bytes))) (sym whole) ∙ take-append_seam (take len bytes) (replicate (4096 - length (take len bytes)) 0)

pub padded_again : (bytes : List ℕ) (len : ℕ) → len ≤ length bytes → padded (take len (padded (take len bytes))) ≡ padded (take len bytes)
padded_again bytes len le = ap padded (content_again bytes len le)

pub taken_long : (opened : Opened) (piece : Piece) → refusal_of opened piece ≡ None → len_of_piece opened piece ≤ length piece.bytes
taken_long opened piece e = (taken_sound opened piece e).long (most_len opened.areas.geometry (index_of_piece opened piece))

-- ---- a length that is judged in place of a longer one

same_equal : (n own : ℕ) → own ≤ 4096 → eqb (min n 4097) own ≡ eqb n own
same_equal n own most = step (leb n 4096) refl
  where
    step : (b : Bool) → leb n 4096 ≡ b → eqb (min n 4097) own ≡ eqb n own
    step true t = let small : n ≤ 4096 = leb-true n 4096 t in ap (λ (k : ℕ). eqb k own) (omega arith)
    step false f = let large : 4096 < n = leb-false n 4096 f in ne_eqb (min n 4097) own (λ e. absurd (omega arith)) ∙ sym (ne_eqb n own (λ e. absurd (omega arith)))

pub same_tests : (opened : Opened) (hash : Bool) (number compression n : ℕ) → piece_tests opened hash number compression (min n 4097) ≡ piece_tests opened hash number compression n
unfolding piece_tests stored_tests
same_tests opened hash number compression n =
    let class = slice_index_or opened.classes (piece_index opened.areas.geometry hash number) Damaged in
    let own = block_len opened.areas.geometry (piece_index opened.areas.geometry hash number) in
    let first : (eqb (min n 4097) own || eqb (min n 4097) 4096) ≡ (eqb n own || eqb (min n 4097) 4096) = ap (λ b. b || eqb (min n 4097) 4096) (same_equal n own (most_len opened.areas.geometry (piece_index opened.areas.geometry hash number))) in
    let both : (eqb (min n 4097) own || eqb (min n 4097) 4096) ≡ (eqb n own || eqb n 4096) = first ∙ ap (λ b. eqb n own || b) (same_equal n 4096 (omega arith)) in
    ap (λ (b : Bool). (let tests : List (Bool × FillError) = (ltb number (kind_count opened.areas.geometry hash), refusal.OutOfRange 0) ∷ (eqb compression 0, refusal.Compressed 0) ∷ (not (is_compressed_class class), refusal.Compressed 0) ∷ (b, refusal.BadLength 0) ∷ (not (is_damaged_class class), refusal.Damaged 0) ∷ [] in tests)) both
