-- The loops over stored blocks and over a path, over a content that may not be told.
use Rattle.std.proofs.Common.{◌≡◌, ℕ, suc, ◌+◌, ◌-◌, ◌<◌, ◌≤◌, Bool, true, false, List, [], ◌∷◌, ◌++◌, length, take, drop, get_or, replicate, Option, Some, None, Ok, Err, inl, inr, sym, ap, ◌∙◌, subst, arith, length-take, length-drop}
use Rattle.std.specs.Prelude.{IfSome, is_some, not}
use Rattle.std.proofs.Math.ListN.{get_or-append}
use Rattle.std.proofs.Math.Seq.{get_or-append_seam, take-append_seam}
use Rattle.std.proofs.lemmas.Bool.{cases_lt}
use Rattle.std.proofs.lemmas.List.{append-nil, drop-replicate}
use Rattle.inc_tree.specs.shape.Geometry.{data_blocks, depth, hash_blocks, path_block}
use Rattle.inc_tree.specs.read_block.Path.{padded}
use Rattle.inc_entry.specs.Entry.{Places, area_places, entries, hash_block_place, tree_span}
use Rattle.inc_entry.specs.Spans.{IsInside}
use Rattle.inc_entry.specs.Stored.{class_at, digest_of, is_open_class, part, stored_digest}
use Rattle.inc_entry.specs.declared.areas.Areas.{Areas}
use Rattle.inc_entry.specs.declared.classes.Class.{Class}
use Rattle.inc_entry.specs.declared.classes.Class.TheVariants.{Damaged}
use Rattle.inc_layout.specs.opening.Listed.{first_below, listed}
use Rattle.inc_layout.specs.reading.StaticRead.{class_in, first_missing, hash_block, is_missing, missing_error}
use Rattle.inc_layout.specs.declared.reading.static_error.StaticError.TheVariants.{PathAbsent}
use Rattle.inc_layout.proofs.ListedLemmas.{first_found, listed_at, listed_more, none_more}

-- ---- the digests of stored blocks

pub digests_start : (told : Option (List ℕ)) (places : Places) (classes : List Class) (digests : List (Option (List ℕ))) → digests ≡ []
    → IfSome told (λ bytes. classes ≡ listed (class_at places bytes) (entries places) → digests ≡ listed (stored_digest places bytes) 0)
unfolding listed
digests_start None places classes digests e = tt
digests_start (Some bytes) places classes digests e = λ all. e

pub digests_more : (told : Option (List ℕ)) (places : Places) (index : ℕ) (class : Class) (classes : List Class) (digests : List (Option (List ℕ))) (digest : Option (List ℕ))
    → class ≡ get_or classes index class → index < entries places
    → IfSome told (λ bytes. class ≡ class_at places bytes index → digest ≡ digest_of places bytes index class)
    → IfSome told (λ bytes. classes ≡ listed (class_at places bytes) (entries places) → digests ≡ listed (stored_digest places bytes) index)
    → IfSome told (λ bytes. classes ≡ listed (class_at places bytes) (entries places) → digests ++ digest ∷ [] ≡ listed (stored_digest places bytes) (suc index))
digests_more None places index class classes digests digest is lt read before = tt
digests_more (Some bytes) places index class classes digests digest is lt read before = λ all.
    let own : class ≡ class_at places bytes index = is ∙ ap (λ (xs : List Class). get_or xs index class) all ∙ listed_at (class_at places bytes) (entries places) index class lt in
    let here : digest ≡ stored_digest places bytes index = read own ∙ ap (digest_of places bytes index) own in
    (λ i. before all i ++ here i ∷ []) ∙ listed_more (stored_digest places bytes) index

pub digests_end : (told : Option (List ℕ)) (places : Places) (index : ℕ) (classes : List Class) (digests : List (Option (List ℕ))) → index ≡ entries places
    → IfSome told (λ bytes. classes ≡ listed (class_at places bytes) (entries places) → digests ≡ listed (stored_digest places bytes) index)
    → IfSome told (λ bytes. classes ≡ listed (class_at places bytes) (entries places) → digests ≡ listed (stored_digest places bytes) (entries places))
digests_end None places index classes digests e before = tt
digests_end (Some bytes) places index classes digests e before = λ all. before all ∙ ap (λ (n : ℕ). listed (stored_digest places bytes) n) e

pub there_more : (index : ℕ) (class : Class) (classes : List Class) (digests : List (Option (List ℕ))) (digest : Option (List ℕ)) → class ≡ get_or classes index Damaged → length digests ≡ index
    → is_some digest ≡ is_open_class class
    → ((i : ℕ) → i < index → is_some (get_or digests i None) ≡ is_open_class (get_or classes i Damaged))
    → (i : ℕ) → i < suc index → is_some (get_or (digests ++ digest ∷ []) i None) ≡ is_open_class (get_or classes i Damaged)
there_more index class classes digests digest is count here before i lt =
    elim (cases_lt i index) [
      | inl below ↦ ap is_some (get_or-append digests (digest ∷ []) None i (omega arith)) ∙ before i below
      | inr above ↦
          let last : i ≡ length digests = omega arith in
          let same : index ≡ i = omega arith in
          ap (λ (n : ℕ). is_some (get_or (digests ++ digest ∷ []) n None)) last ∙ ap is_some (get_or-append_seam digests digest [] None) ∙ here ∙ ap is_open_class is
          ∙ ap (λ (n : ℕ). is_open_class (get_or classes n Damaged)) same
    ]

-- ---- the hash blocks of a path

-- as many bytes as the file has there
pub length-part : (n at : ℕ) (bytes : List ℕ) → at + n ≤ length bytes → length (part n at bytes) ≡ n
length-part n at bytes le = omega (arith, length-take n (drop at bytes), length-drop at bytes)

-- a whole block has no zeros behind it
pub padded_whole : (xs : List ℕ) → length xs ≡ 4096 → padded xs ≡ xs
padded_whole xs e = (let none : 4096 - length xs ≡ 0 = omega arith in ap (λ (n : ℕ). xs ++ replicate n 0) none) ∙ append-nil xs

-- the bytes of a padded block
pub padded_front : (n : ℕ) (xs : List ℕ) → length xs ≡ n → take n (padded xs) ≡ xs
padded_front n xs e = ap (λ (k : ℕ). take k (padded xs)) (sym e) ∙ take-append_seam xs (replicate (4096 - length xs) 0)

-- zeros stand behind a block that was read into a room of zeros
pub block_given : (told : Option (List ℕ)) (place len : ℕ) (before room block : List ℕ) → before ≡ replicate 4096 0 → len ≤ 4096
    → IfSome told (λ bytes. place + len ≤ length bytes → room ≡ part len place bytes ++ drop len before) → block ≡ room
    → IfSome told (λ bytes. place + len ≤ length bytes → block ≡ padded (part len place bytes))
block_given None place len before room block zeros le read is = tt
block_given (Some bytes) place len before room block zeros le read is = λ within.
    let sized : length (part len place bytes) ≡ len = length-part len place bytes within in
    let rest : drop len (replicate 4096 0) ≡ replicate (4096 - length (part len place bytes)) 0 = drop-replicate len 4096 0 ∙ ap (λ (n : ℕ). replicate (4096 - n) 0) (sym sized) in
    is ∙ read within ∙ ap (λ (xs : List ℕ). part len place bytes ++ xs) (ap (drop len) zeros ∙ rest)

-- the hash block on a level of the path
abbrev pub on_path : List ℕ → Areas → ℕ → ℕ → List ℕ
on_path bytes areas index level = hash_block bytes areas (path_block areas.geometry index level)

-- a whole tree lies inside the file
abbrev pub HasAll : Areas → List ℕ → Type 0
HasAll areas bytes = IsInside (length bytes) (tree_span (area_places areas))

pub path_start : (told : Option (List ℕ)) (areas : Areas) (index : ℕ) (blocks : List (List ℕ)) → blocks ≡ []
    → IfSome told (λ bytes. HasAll areas bytes → blocks ≡ listed (on_path bytes areas index) 0)
unfolding listed
path_start None areas index blocks e = tt
path_start (Some bytes) areas index blocks e = λ tree. e

-- one hash block, by its number
pub hash_read : (bytes : List ℕ) (areas : Areas) (number at : ℕ) (block : List ℕ) → at ≡ hash_block_place (area_places areas) number → number < hash_blocks areas.geometry → HasAll areas bytes
    → (at + 4096 ≤ length bytes → block ≡ padded (part 4096 at bytes)) → block ≡ hash_block bytes areas number
hash_read bytes areas number at block is lt tree read =
    let end = tree (omega arith) in
    let within : at + 4096 ≤ length bytes = omega arith in
    read within ∙ padded_whole (part 4096 at bytes) (length-part 4096 at bytes within) ∙ ap (λ (place : ℕ). part 4096 place bytes) is

pub path_more : (told : Option (List ℕ)) (areas : Areas) (index level number at : ℕ) (blocks : List (List ℕ)) (block : List ℕ) → number ≡ path_block areas.geometry index level
    → at ≡ hash_block_place (area_places areas) number → number < hash_blocks areas.geometry
    → IfSome told (λ bytes. HasAll areas bytes → blocks ≡ listed (on_path bytes areas index) level)
    → IfSome told (λ bytes. at + 4096 ≤ length bytes → block ≡ padded (part 4096 at bytes))
    → IfSome told (λ bytes. HasAll areas bytes → blocks ++ block ∷ [] ≡ listed (on_path bytes areas index) (suc level))
path_more None areas index level number at blocks block n is lt front next = tt
path_more (Some bytes) areas index level number at blocks block n is lt front next = λ tree.
    let here : block ≡ on_path bytes areas index level = hash_read bytes areas number at block is lt tree next ∙ ap (hash_block bytes areas) n in
    (λ i. front tree i ++ here i ∷ []) ∙ listed_more (on_path bytes areas index) level

-- ---- the hash blocks that haven't arrived

missing_is : (areas : Areas) (classes : List Class) (index level hash : ℕ) (there : Bool) → hash ≡ path_block areas.geometry index level
    → there ≡ is_open_class (class_in classes (data_blocks areas.geometry + hash)) → is_missing areas classes index level ≡ not there
missing_is areas classes index level hash there h is = sym (ap not (is ∙ ap (λ (n : ℕ). is_open_class (class_in classes (data_blocks areas.geometry + n))) h))

pub none_missing : (areas : Areas) (classes : List Class) (index level hash : ℕ) (there : Bool) → first_below level (is_missing areas classes index) ≡ None
    → hash ≡ path_block areas.geometry index level → there ≡ is_open_class (class_in classes (data_blocks areas.geometry + hash)) → there ≡ true
    → first_below (suc level) (is_missing areas classes index) ≡ None
none_missing areas classes index level hash there none h is arrived =
    none_more level (is_missing areas classes index) none (missing_is areas classes index level hash there h is ∙ ap not arrived)

pub one_missing : (areas : Areas) (classes : List Class) (index level hash : ℕ) (there : Bool) → first_below level (is_missing areas classes index) ≡ None → level < depth areas.geometry
    → hash ≡ path_block areas.geometry index level → there ≡ is_open_class (class_in classes (data_blocks areas.geometry + hash)) → there ≡ false
    → Err (PathAbsent hash) ≡ missing_error areas index (first_missing areas classes index)
one_missing areas classes index level hash there none lt h is missing =
    let found : first_missing areas classes index ≡ Some level = first_found (depth areas.geometry) level (is_missing areas classes index) none (missing_is areas classes index level hash there h is ∙ ap not missing) lt in
    ap (λ (n : ℕ). Err (PathAbsent n)) h ∙ sym (ap (missing_error areas index) found)

pub all_there : (areas : Areas) (classes : List Class) (index level : ℕ) → first_below level (is_missing areas classes index) ≡ None → level ≡ depth areas.geometry
    → Ok tt ≡ missing_error areas index (first_missing areas classes index)
all_there areas classes index level none end =
    let found : first_missing areas classes index ≡ None = subst (λ (n : ℕ). first_below n (is_missing areas classes index) ≡ None) end none in
    sym (ap (missing_error areas index) found)
