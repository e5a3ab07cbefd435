-- A piece's tests by the file's marks are those by its classes.
use Rattle.std.proofs.Common.{◌≡◌, ℕ, zero, suc, ◌<◌, ◌≤◌, Bool, true, false, cond, List, [], ◌∷◌, length, get_or, refl, sym, ap, ◌∙◌, arith}
use Rattle.std.specs.Prelude.{All, slice_index_or}
use Rattle.std.proofs.lemmas.List.Elements.{All-cons, All-nil}
use Rattle.std.proofs.lemmas.List.Kept.{AllPairs-cons}
use Rattle.inc_bytes.specs.Tests.{first_failing}
use Rattle.std.specs.Prelude.{Some, nat_lt}
use Rattle.inc_tree.specs.shape.Geometry.{block_len}
use Rattle.inc_entry.specs.Stored.{is_compressed_class, is_damaged_class}
use Rattle.inc_entry.specs.declared.classes.Class.{Class}
use Rattle.inc_entry.specs.declared.classes.Class.TheVariants.{Closed, Damaged}
use Rattle.inc_layout.specs.state.Reopening.{indices_passing}
use Rattle.inc_layout.specs.declared.opened.Opened.{Opened}
use Rattle.inc_layout.proofs.opened_file.OpenedParts.{has_parts}
use Rattle.inc_model.specs.relation.State.{Rise, has}
use Rattle.inc_model.proofs.lists.Sets.{pairs_none}
use Rattle.inc_model.specs.declared.words.outcomes.FillError.{FillError}
use Rattle.inc_model.specs.declared.words.outcomes.FillError.TheVariants.{OutOfRange}
use Rattle.inc_cell.specs.events.Pieces.{kind_count, piece_index, piece_tests, stored_tests}
use Rattle.inc_cell.proofs.standing.KindLemmas.{same_index}
use Rattle.inc_handle.specs.Checks.{mark_tests}

class_there : (classes : List Class) (i : ℕ) → i < length classes → get_or classes i Closed ≡ get_or classes i Damaged
class_there [] i lt = absurd (omega arith)
class_there (class ∷ classes) zero lt = refl
class_there (class ∷ classes) (suc i) lt = class_there classes i (omega arith)

pub damaged_marks : (opened : Opened) (i : ℕ) → i < length opened.classes → has i (indices_passing is_damaged_class 0 opened.classes) ≡ is_damaged_class (slice_index_or opened.classes i Damaged)
damaged_marks opened i lt = sym (same_index (indices_passing is_damaged_class 0 opened.classes) i) ∙ (has_parts opened).damaged_is i ∙ ap is_damaged_class (class_there opened.classes i lt)

pub compressed_marks : (opened : Opened) (i : ℕ) → i < length opened.classes → has i (indices_passing is_compressed_class 0 opened.classes) ≡ is_compressed_class (slice_index_or opened.classes i Damaged)
compressed_marks opened i lt = sym (same_index (indices_passing is_compressed_class 0 opened.classes) i) ∙ (has_parts opened).compressed_is i ∙ ap is_compressed_class (class_there opened.classes i lt)

same_tests : (class : Class) (own_len compression len : ℕ) → stored_tests class own_len compression len ≡ mark_tests (is_damaged_class class) (is_compressed_class class) own_len compression len
unfolding stored_tests mark_tests
same_tests class own_len compression len = refl

pub marked_tests : (opened : Opened) (index own_len compression len : ℕ) → index < length opened.classes
    → stored_tests (slice_index_or opened.classes index Damaged) own_len compression len
    ≡ mark_tests (has index (indices_passing is_damaged_class 0 opened.classes)) (has index (indices_passing is_compressed_class 0 opened.classes)) own_len compression len
marked_tests opened index own_len compression len lt =
    same_tests (slice_index_or opened.classes index Damaged) own_len compression len
    ∙ ap (λ b. mark_tests b (is_compressed_class (slice_index_or opened.classes index Damaged)) own_len compression len) (sym (damaged_marks opened index lt))
    ∙ ap (λ b. mark_tests (has index (indices_passing is_damaged_class 0 opened.classes)) b own_len compression len) (sym (compressed_marks opened index lt))

-- ---- a piece's tests, by whether the file has its block

pub out_of_range : (opened : Opened) (hash : Bool) (number compression len : ℕ) → nat_lt number (kind_count opened.areas.geometry hash) ≡ false → first_failing (piece_tests opened hash number compression len) ≡ Some (OutOfRange 0)
unfolding piece_tests
out_of_range opened hash number compression len e =
    let shape = opened.areas.geometry in
    let index = piece_index shape hash number in
    ap (λ b. cond b (first_failing (stored_tests (slice_index_or opened.classes index Damaged) (block_len shape index) compression len)) (Some (OutOfRange 0))) e

pub in_range : (opened : Opened) (hash : Bool) (number compression len : ℕ) → nat_lt number (kind_count opened.areas.geometry hash) ≡ true
    → first_failing (piece_tests opened hash number compression len) ≡ first_failing (stored_tests (slice_index_or opened.classes (piece_index opened.areas.geometry hash number) Damaged) (block_len opened.areas.geometry (piece_index opened.areas.geometry hash number)) compression len)
unfolding piece_tests
in_range opened hash number compression len e =
    let shape = opened.areas.geometry in
    let index = piece_index shape hash number in
    ap (λ b. cond b (first_failing (stored_tests (slice_index_or opened.classes index Damaged) (block_len shape index) compression len)) (Some (OutOfRange 0))) e

pub judged : (opened : Opened) (hash : Bool) (number compression len index : ℕ) → nat_lt number (kind_count opened.areas.geometry hash) ≡ true → index ≡ piece_index opened.areas.geometry hash number → index < length opened.classes
    → first_failing (mark_tests (has index (indices_passing is_damaged_class 0 opened.classes)) (has index (indices_passing is_compressed_class 0 opened.classes)) (block_len opened.areas.geometry index) compression len)
    ≡ first_failing (piece_tests opened hash number compression len)
judged opened hash number compression len index e is lt =
    let shape = opened.areas.geometry in
    sym
    (in_range opened hash number compression len e
    ∙ ap (λ (i : ℕ). first_failing (stored_tests (slice_index_or opened.classes i Damaged) (block_len shape i) compression len)) (sym is)
    ∙ ap (λ (tests : List (Bool × FillError)). first_failing tests) (marked_tests opened index (block_len shape index) compression len lt))

-- ---- the marks of a file are sets

above_passing : (passes : Class → Bool) (low first : ℕ) (classes : List Class) → low ≤ first → All (λ index. low ≤ index) (indices_passing passes first classes)
above_passing passes low first [] le = All-nil (λ (index : ℕ). low ≤ index)
above_passing passes low first (class ∷ classes) le =
    let rest = above_passing passes low (suc first) classes (omega arith) in
    elim (passes class) as (λ b. All (λ index. low ≤ index) (cond b (first ∷ indices_passing passes (suc first) classes) (indices_passing passes (suc first) classes))) [
      | true ↦ All-cons (λ (index : ℕ). low ≤ index) first (indices_passing passes (suc first) classes) le rest
      | false ↦ rest
    ]

pub passing_rise : (passes : Class → Bool) (first : ℕ) (classes : List Class) → Rise (indices_passing passes first classes)
passing_rise passes first [] = pairs_none (λ (a b : ℕ). a < b)
passing_rise passes first (class ∷ classes) =
    let rest = passing_rise passes (suc first) classes in
    let above = above_passing passes (suc first) (suc first) classes (omega arith) in
    elim (passes class) as (λ b. Rise (cond b (first ∷ indices_passing passes (suc first) classes) (indices_passing passes (suc first) classes))) [
      | true ↦ AllPairs-cons (λ (a b : ℕ). a < b) first (indices_passing passes (suc first) classes) (λ k d lt. let le = above k d lt in omega arith) rest
      | false ↦ rest
    ]
