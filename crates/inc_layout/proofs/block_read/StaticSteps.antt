-- The steps of a read of an opened file, over a content that may not be told.
use Rattle.std.proofs.Common.{◌≡◌, ℕ, ◌+◌, ◌<◌, ◌≤◌, true, List, ◌++◌, length, take, Option, Some, None, Result, Ok, Err, refl, sym, ap, ◌∙◌, arith, length-take}
use Rattle.std.proofs.Math.Seq.{take-append_seam}
use Rattle.std.specs.Prelude.{IfSome}
use Rattle.inc_tree.specs.shape.Geometry.{Shape, block_len, data_blocks, depth, level_counts, path_block}
use Rattle.inc_tree.specs.read_block.Path.{IsProof, NamesBreak, first_break, padded}
use Rattle.inc_tree.specs.read_block.Unproved.{unproved_content}
use Rattle.inc_tree.specs.read_block.Verified.{IsMadeOf, content_at, content_of}
use Rattle.inc_tree.specs.declared.read_block.unproved.Unproved.{Unproved}
use Rattle.inc_tree.specs.declared.read_block.verified.Verified.{Verified}
use Rattle.inc_tree.proofs.PathLemmas.{good_has_no_break, first_is}
use Rattle.inc_entry.specs.Entry.{area_places, tree_span}
use Rattle.inc_entry.specs.Spans.{IsInside}
use Rattle.inc_entry.specs.Stored.{part}
use Rattle.inc_entry.specs.declared.areas.Areas.{Areas}
use Rattle.inc_entry.specs.declared.classes.Class.{Class}
use Rattle.inc_entry.specs.declared.classes.Class.TheVariants as class
use Rattle.inc_entry.proofs.BlockLemmas.{most_len, open_inside}
use Rattle.inc_layout.specs.opening.Listed.{first_below}
use Rattle.inc_layout.specs.reading.StaticRead.{AreClassesOf, GivesReading, block_place, by_root, class_in, content_from, first_missing, is_missing, judged, missing_error, path_in, place_in_class, block_reading, with_missing, with_place}
use Rattle.inc_layout.specs.declared.reading.static_error.StaticError.{StaticError}
use Rattle.inc_layout.specs.declared.reading.static_error.StaticError.TheVariants.{PathAbsent, Corrupt, ReadFault, OutOfMemory}
use Rattle.inc_layout.proofs.BoolLemmas.{lt_true}
use Rattle.inc_layout.proofs.ListedLemmas.{none_yet}
use Rattle.inc_layout.proofs.LoopSteps.{length-part, padded_front}

gives_error : {T : Type 0} (content : T → List ℕ) (error : StaticError) (wanted : Result (List ℕ) StaticError) → wanted ≡ Err error → GivesReading content (Err error) wanted
gives_error content ReadFault wanted e = tt
gives_error content OutOfMemory wanted e = tt
gives_error content error wanted e = e

-- ---- no place, or no path

pub no_place : {T : Type 0} (content : T → List ℕ) (told root : Option (List ℕ)) (areas : Areas) (classes : List Class) (index : ℕ) (error : StaticError) → Err error ≡ block_place areas classes index
    → IfSome told (λ bytes. GivesReading content (Err error) (block_reading bytes root areas classes index))
unfolding block_reading
no_place content None root areas classes index error e = tt
no_place content (Some bytes) root areas classes index error e = gives_error content error _ (ap (with_place bytes root areas classes index) (sym e))

pub not_there : (bytes : List ℕ) (root : Option (List ℕ)) (areas : Areas) (index place : ℕ) (error : StaticError) (missing : Option ℕ) → Err error ≡ missing_error areas index missing
    → with_missing bytes root areas index place missing ≡ Err error
not_there bytes root areas index place error None e = absurd cc
not_there bytes root areas index place error (Some level) e =
    let same : error ≡ PathAbsent (path_block areas.geometry index level) = cc in
    ap (λ (x : StaticError). Err x) (sym same)

pub no_hash_block : {T : Type 0} (content : T → List ℕ) (told root : Option (List ℕ)) (areas : Areas) (classes : List Class) (index place : ℕ) (error : StaticError)
    → Ok place ≡ block_place areas classes index → Err error ≡ missing_error areas index (first_missing areas classes index)
    → IfSome told (λ bytes. GivesReading content (Err error) (block_reading bytes root areas classes index))
unfolding block_reading
no_hash_block content None root areas classes index place error p e = tt
no_hash_block content (Some bytes) root areas classes index place error p e =
    gives_error content error _ (ap (with_place bytes root areas classes index) (sym p) ∙ not_there bytes root areas index place error _ e)

-- ---- the block was read

pub record HasBlock (bytes : List ℕ) (areas : Areas) (classes : List Class) (index : ℕ) (block : List ℕ) : Type 0 where
  pub place : ℕ
  pub place_is : block_place areas classes index ≡ Ok place
  pub all_there : first_missing areas classes index ≡ None
  pub content : content_at areas.geometry index block ≡ content_from bytes areas index place

pub all_present : (areas : Areas) (index : ℕ) (missing : Option ℕ) → Ok tt ≡ missing_error areas index missing → missing ≡ None
all_present areas index None e = refl
all_present areas index (Some level) e = absurd cc

-- a shape without a tree has no path
pub flat_depth : (shape : Shape) → shape.flat ≡ true → depth shape ≡ 0
unfolding level_counts
flat_depth shape flat = rw flat refl

pub flat_none : (areas : Areas) (classes : List Class) (index : ℕ) → areas.geometry.flat ≡ true → first_missing areas classes index ≡ None
flat_none areas classes index flat =
    ap (λ (n : ℕ). first_below n (is_missing areas classes index)) (flat_depth areas.geometry flat) ∙ none_yet (is_missing areas classes index)

-- only an open entry has a place
pub place_open : (found : Class) (place : ℕ) → place_in_class found ≡ Ok place → (size : ℕ) × (found ≡ class.OpenAt place size)
place_open (class.OpenAt at size) place e = (size, (let same : at ≡ place = cc in ap (λ (p : ℕ). class.OpenAt p size) same))
place_open class.Damaged place e = absurd cc
place_open class.Compressed place e = absurd cc
place_open class.Closed place e = absurd cc

pub here_place : (areas : Areas) (classes : List Class) (index place : ℕ) → index < data_blocks areas.geometry → block_place areas classes index ≡ Ok place → place_in_class (class_in classes index) ≡ Ok place
unfolding block_place
here_place areas classes index place lt e = rw (lt_true index (data_blocks areas.geometry) lt) at e

-- a place that was found is inside the file, with the block's own bytes
place_inside : (bytes : List ℕ) (areas : Areas) (classes : List Class) (index place : ℕ) → AreClassesOf bytes areas classes → index < data_blocks areas.geometry → block_place areas classes index ≡ Ok place
    → place + block_len areas.geometry index ≤ length bytes
place_inside bytes areas classes index place is lt e =
    let found = place_open (class_in classes index) place (here_place areas classes index place lt e) in
    open_inside (area_places areas) bytes index place found.0 (sym (is.each_class index (omega arith)) ∙ found.1)

pub has_block : (told : Option (List ℕ)) (areas : Areas) (classes : List Class) (index place len : ℕ) (block : List ℕ) → IfSome told (λ bytes. AreClassesOf bytes areas classes)
    → index < data_blocks areas.geometry → Ok place ≡ block_place areas classes index → first_missing areas classes index ≡ None → len ≡ block_len areas.geometry index
    → IfSome told (λ bytes. place + len ≤ length bytes → block ≡ padded (part len place bytes))
    → IfSome told (λ bytes. HasBlock bytes areas classes index block)
has_block None areas classes index place len block stands lt p there n read = tt
has_block (Some bytes) areas classes index place len block stands lt p there n read =
    let within = place_inside bytes areas classes index place stands lt (sym p) in
    let ends : place + len ≤ length bytes = omega arith in
    record {
      place = place;
      place_is = sym p;
      all_there = there;
      content = ap (take (block_len areas.geometry index)) (read ends ∙ ap (λ (k : ℕ). padded (part k place bytes)) n)
          ∙ padded_front (block_len areas.geometry index) (content_from bytes areas index place) (length-part (block_len areas.geometry index) place bytes within);
    }

reading_is : (bytes : List ℕ) (root : Option (List ℕ)) (areas : Areas) (classes : List Class) (index : ℕ) (block : List ℕ) → HasBlock bytes areas classes index block
    → block_reading bytes root areas classes index ≡ by_root root index (content_at areas.geometry index block) (path_in bytes areas index)
unfolding block_reading
reading_is bytes root areas classes index block h =
    ap (with_place bytes root areas classes index) h.place_is ∙ ap (with_missing bytes root areas index h.place) h.all_there
    ∙ sym (ap (λ (content : List ℕ). by_root root index content (path_in bytes areas index)) h.content)

cut : (n : ℕ) (xs ys : List ℕ) → n ≤ length xs → take n (take n xs ++ ys) ≡ take n xs
cut n xs ys le = let sized : length (take n xs) ≡ n = rw length-take (omega arith) in rw sized at (take-append_seam (take n xs) ys)

-- the content of a block that was made of a whole one
content_made : (shape : Shape) (index len : ℕ) (block made : List ℕ) → len ≡ block_len shape index → made ≡ padded (content_at shape index block) → length block ≡ 4096 → take len made ≡ content_at shape index block
content_made shape index len block made n is whole =
    (λ i. take (n i) (is i)) ∙ cut (block_len shape index) block _ (let most : block_len shape index ≤ 4096 = most_len shape index in omega arith)

-- ---- without a root

pub unproved_given : (told : Option (List ℕ)) (areas : Areas) (classes : List Class) (index : ℕ) (block : List ℕ) (made : Unproved)
    → IfSome told (λ bytes. HasBlock bytes areas classes index block) → made.len ≡ block_len areas.geometry index → made.bytes ≡ padded (content_at areas.geometry index block) → length block ≡ 4096
    → IfSome told (λ bytes. GivesReading unproved_content (Ok made) (block_reading bytes None areas classes index))
unproved_given None areas classes index block made h n is whole = tt
unproved_given (Some bytes) areas classes index block made h n is whole =
    reading_is bytes None areas classes index block h ∙ (λ i. Ok (sym (content_made areas.geometry index made.len block made.bytes n is whole) i))

-- ---- against the root

-- the path too was read
abbrev pub HasPath : Option (List ℕ) → Areas → ℕ → List (List ℕ) → Type 0
HasPath told areas index path = IfSome told (λ bytes. path ≡ path_in bytes areas index)

pub path_read : (told : Option (List ℕ)) (areas : Areas) (classes : List Class) (index : ℕ) (path : List (List ℕ)) → IfSome told (λ bytes. AreClassesOf bytes areas classes)
    → IfSome told (λ bytes. IsInside (length bytes) (tree_span (area_places areas)) → path ≡ path_in bytes areas index) → HasPath told areas index path
path_read None areas classes index path stands read = tt
path_read (Some bytes) areas classes index path stands read = read stands.tree_inside

pub corrupt : (told : Option (List ℕ)) (root : List ℕ) (areas : Areas) (classes : List Class) (index : ℕ) (block : List ℕ) (path : List (List ℕ)) (level : ℕ) (wanted got : List ℕ) (error : StaticError)
    → IfSome told (λ bytes. HasBlock bytes areas classes index block) → HasPath told areas index path → NamesBreak root index (content_at areas.geometry index block) path level wanted got
    → error ≡ Corrupt level wanted got
    → IfSome told (λ bytes. GivesReading content_of (Err error) (block_reading bytes (Some root) areas classes index))
corrupt None root areas classes index block path level wanted got error h p broken is = tt
corrupt (Some bytes) root areas classes index block path level wanted got error h p broken is =
    let content = content_at areas.geometry index block in
    gives_error content_of error _ (reading_is bytes (Some root) areas classes index block h
    ∙ sym (ap (λ (blocks : List (List ℕ)). judged root index content blocks (first_break root index content blocks)) p)
    ∙ ap (judged root index content path) (first_is root index content path level broken.fails)
    ∙ (λ i. Err (Corrupt level (sym broken.wanted_is i) (sym broken.got_is i))) ∙ ap (λ (x : StaticError). Err x) (sym is))

pub good : (told : Option (List ℕ)) (root : List ℕ) (areas : Areas) (classes : List Class) (index : ℕ) (block : List ℕ) (path : List (List ℕ)) (made : Verified)
    → IfSome told (λ bytes. HasBlock bytes areas classes index block) → HasPath told areas index path → IsProof root areas.geometry index (content_at areas.geometry index block) path
    → IsMadeOf root areas.geometry index block path made → length block ≡ 4096
    → IfSome told (λ bytes. GivesReading content_of (Ok made) (block_reading bytes (Some root) areas classes index))
good None root areas classes index block path made h p proof is whole = tt
good (Some bytes) root areas classes index block path made h p proof is whole =
    let content = content_at areas.geometry index block in
    reading_is bytes (Some root) areas classes index block h
    ∙ sym (ap (λ (blocks : List (List ℕ)). judged root index content blocks (first_break root index content blocks)) p)
    ∙ ap (judged root index content path) (good_has_no_break root areas.geometry index content path proof)
    ∙ (λ i. Ok (sym (content_made areas.geometry index made.len block made.bytes is.len_is is.bytes_are whole) i))
