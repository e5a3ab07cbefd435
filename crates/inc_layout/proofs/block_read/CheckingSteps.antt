-- The steps of a check of a block: the kept hash blocks, the digests that are known, and their comparison.
use Rattle.std.proofs.Common.{◌≡◌, ◌≢◌, ℕ, suc, ◌+◌, ◌<◌, ◌≤◌, true, List, [], ◌∷◌, ◌++◌, length, get_or, Option, Some, None, Result, Ok, Err, inl, inr, refl, sym, ap, ◌∙◌, subst, arith, add-one, below_more}
use Rattle.std.specs.Prelude.{IfSome, OnErr, OnOk}
use Rattle.std.proofs.Math.ListN.{set}
use Rattle.std.proofs.lemmas.Bool.{cases_lt, le-ltb, cond-false, not-false}
use Rattle.std.proofs.lemmas.List.{get_or_default}
use Rattle.std.proofs.lemmas.List.Elements.{All-get_or, All-push, All-set}
use Rattle.sha2.specs.Sha256.{sha256}
use Rattle.inc_tree.specs.shape.Geometry.{Shape, block_len, data_blocks, depth, hash_blocks, path_block, path_slot}
use Rattle.inc_tree.specs.read_block.Path.{NamesBreak, block_at, block_digest, digest_below, digest_wanted, first_break, padded, slot_of}
use Rattle.inc_tree.proofs.LevelLemmas.{path_within, start_within}
use Rattle.inc_tree.proofs.PathLemmas.{HoldsBelow, breaks_at_root, breaks_at_slot, first_is, good_has_no_break, holds_throughout, wanted_root, wanted_slot, whole_digest}
use Rattle.inc_entry.specs.Entry.{Places, area_places, entries, entry_at, entry_from, hash_block_place}
use Rattle.inc_entry.specs.Stored.{class_at, digest_at, digest_of, is_open_class, part}
use Rattle.inc_entry.specs.Table.{IsClass}
use Rattle.inc_entry.specs.declared.areas.Areas.{Areas}
use Rattle.inc_entry.specs.declared.classes.Class.{Class}
use Rattle.inc_entry.specs.declared.classes.Class.TheVariants as class
use Rattle.inc_entry.specs.declared.entry.Entry.{Entry}
use Rattle.inc_entry.proofs.BlockLemmas.{open_inside}
use Rattle.inc_entry.proofs.Rows.{row_of}
use Rattle.inc_layout.specs.Backing.{IsBackingFile}
use Rattle.inc_layout.specs.reading.Checking.{AreKept, GivesCheck, HasTreeInside, IsKeptAt, IsKeptBelow, KnowsPath}
use Rattle.inc_layout.specs.reading.StaticRead.{block_place, by_root, class_in, content_from, first_missing, hash_block, is_missing, judged, missing_error, path_in, block_reading, with_missing, with_place}
use Rattle.inc_layout.specs.declared.reading.checking.KeptBlock.{KeptBlock}
use Rattle.inc_layout.specs.declared.opened.Opened.{Opened}
use Rattle.inc_layout.specs.declared.reading.static_error.StaticError.{StaticError}
use Rattle.inc_layout.specs.declared.reading.static_error.StaticError.TheVariants.{Corrupt, ReadFault, OutOfMemory}
use Rattle.inc_layout.specs.declared.reading.stored_error.StoredError.{StoredError}
use Rattle.inc_layout.proofs.ListedLemmas.{length-listed, listed_at, none_below}
use Rattle.inc_layout.proofs.LoopSteps.{hash_read, length-part, on_path}
use Rattle.inc_layout.proofs.block_read.StaticSteps.{all_present, here_place, not_there, place_open}

-- ---- the kept hash blocks

abbrev IsKept : List ℕ → Areas → KeptBlock → Type 0
IsKept bytes areas kept = kept.block ≡ hash_block bytes areas kept.number

all_kept : (bytes : List ℕ) (areas : Areas) (level : ℕ) (kept : KeptBlock) (before after : List KeptBlock) (result : Result (Unit {0}) StoredError) → IsKept bytes areas kept
    → AreKept bytes areas before → level ≤ length before
    → (level < length before → OnOk result (after ≡ set before level kept)) → (level ≡ length before → OnOk result (after ≡ before ++ kept ∷ [])) → OnErr result (after ≡ before)
    → AreKept bytes areas after
all_kept bytes areas level kept before after (Err error) own all room over more stays = subst (AreKept bytes areas) (sym stays) all
all_kept bytes areas level kept before after (Ok good) own all room over more stays =
    elim (cases_lt level (length before)) [
      | inl below ↦ subst (AreKept bytes areas) (sym (over below)) (All-set (IsKept bytes areas) before level kept own all)
      | inr end ↦ subst (AreKept bytes areas) (sym (more (omega arith))) (All-push (IsKept bytes areas) before kept all own)
    ]

pub kept_after : (told : Option (List ℕ)) (areas : Areas) (level at : ℕ) (kept : KeptBlock) (before after : List KeptBlock) (result : Result (Unit {0}) StoredError)
    → at ≡ hash_block_place (area_places areas) kept.number → kept.number < hash_blocks areas.geometry → level ≤ length before
    → IfSome told (λ bytes. HasTreeInside bytes areas) → IfSome told (λ bytes. at + 4096 ≤ length bytes → kept.block ≡ padded (part 4096 at bytes))
    → IfSome told (λ bytes. AreKept bytes areas before)
    → (level < length before → OnOk result (after ≡ set before level kept)) → (level ≡ length before → OnOk result (after ≡ before ++ kept ∷ [])) → OnErr result (after ≡ before)
    → IfSome told (λ bytes. AreKept bytes areas after)
kept_after None areas level at kept before after result is lt room tree read all over more stays = tt
kept_after (Some bytes) areas level at kept before after result is lt room tree read all over more stays =
    all_kept bytes areas level kept before after result (hash_read bytes areas kept.number at kept.block is lt tree read) all room over more stays

pub none_kept : (blocks : List KeptBlock) (shape : Shape) (index : ℕ) → IsKeptBelow blocks shape index 0
none_kept blocks shape index level lt = absurd (omega arith)

pub more_kept : (before after : List KeptBlock) (shape : Shape) (index level hash : ℕ) → hash ≡ path_block shape index level → IsKeptAt after level hash
    → ((lower number : ℕ) → lower < level → IsKeptAt before lower number → IsKeptAt after lower number) → IsKeptBelow before shape index level → IsKeptBelow after shape index (suc level)
more_kept before after shape index level hash is here lower below at lt =
    elim (cases_lt at level) [
      | inl less ↦ lower at (path_block shape index at) less (below at less)
      | inr last ↦
          let same : level ≡ at = omega arith in
          subst (λ (n : ℕ). IsKeptAt after n (path_block shape index n)) same (subst (IsKeptAt after level) is here)
    ]

-- ---- the open blocks have digests

pub open_there : (opened : Opened) (index place : ℕ) → Ok place ≡ block_place opened.areas opened.classes index → index < data_blocks opened.areas.geometry → is_open_class (class_in opened.classes index) ≡ true
open_there opened index place e lt =
    let found = place_open (class_in opened.classes index) place (here_place opened.areas opened.classes index place lt (sym e)) in
    ap is_open_class found.1

pub all_arrived : (opened : Opened) (index : ℕ) → Ok tt ≡ missing_error opened.areas index (first_missing opened.areas opened.classes index) → first_missing opened.areas opened.classes index ≡ None
all_arrived opened index e = all_present opened.areas index (first_missing opened.areas opened.classes index) e

pub level_open : (opened : Opened) (index level : ℕ) → first_missing opened.areas opened.classes index ≡ None → level < depth opened.areas.geometry
    → is_open_class (class_in opened.classes (data_blocks opened.areas.geometry + path_block opened.areas.geometry index level)) ≡ true
level_open opened index level none lt = not-false _ (none_below (depth opened.areas.geometry) (is_missing opened.areas opened.classes index) none level lt)

-- ---- the digests are compared

no_block : KeptBlock
no_block = record { number = 0; block = [] }

-- the wanted digest is a slot of the path's block
slot_wanted : (opened : Opened) (blocks : List KeptBlock) (index level slot : ℕ) (wanted content : List ℕ) (path : List (List ℕ)) → KnowsPath opened blocks index content path
    → level < depth opened.areas.geometry → ((other : KeptBlock) → wanted ≡ slot_of (get_or blocks level other).block slot) → wanted ≡ slot_of (block_at path level) slot
slot_wanted opened blocks index level slot wanted content path knows lt is =
    is no_block ∙ ap (λ (block : List ℕ). slot_of block slot) (knows.hash_block level lt no_block)

found_at : (path : List (List ℕ)) (level : ℕ) → level < length path → block_at path level ≡ get_or path level (block_at path level)
found_at path level lt = get_or_default path level [] (block_at path level) lt

same_digest : (found : Option (List ℕ)) (got own : List ℕ) → found ≡ Some got → found ≡ Some own → got ≡ own
same_digest found got own e f = let both : Some got ≡ Some own = sym e ∙ f in cc

pub holds_first : (root : List ℕ) (opened : Opened) (blocks : List KeptBlock) (index : ℕ) (got content : List ℕ) (path : List (List ℕ)) → get_or opened.digests index None ≡ Some got
    → KnowsPath opened blocks index content path → HoldsBelow root index content path 0 0 got
holds_first root opened blocks index got content path is knows = record {
  level_is = refl;
  got_is = same_digest _ got (block_digest content) is knows.content_digest;
  checked = λ lower lt. absurd (omega arith);
}

pub holds_more : (root : List ℕ) (opened : Opened) (blocks : List KeptBlock) (index level slot : ℕ) (got wanted next content : List ℕ) (path : List (List ℕ)) → level < depth opened.areas.geometry
    → slot ≡ path_slot index level → ((other : KeptBlock) → wanted ≡ slot_of (get_or blocks level other).block slot) → got ≡ wanted
    → get_or opened.digests (data_blocks opened.areas.geometry + path_block opened.areas.geometry index level) None ≡ Some next → KnowsPath opened blocks index content path
    → HoldsBelow root index content path level level got → HoldsBelow root index content path (suc level) (suc level) next
holds_more root opened blocks index level slot got wanted next content path lt slot_is is same next_is knows holds =
    let there : level < length path = omega (arith, knows.full) in
    let wanted_is = slot_wanted opened blocks index level slot wanted content path knows lt is in
    record {
      level_is = refl;
      got_is = same_digest _ next (sha256 (block_at path level)) next_is (knows.hash_digest level lt);
      checked = rw (← add-one level) (
          below_more (λ lower. digest_below content path lower ≡ digest_wanted root index path lower) level holds.checked
          (sym holds.got_is ∙ (same ∙ sym (wanted_slot root index path level slot (block_at path level) wanted there (found_at path level there) slot_is wanted_is))));
    }

pub slot_differs : (root : List ℕ) (opened : Opened) (blocks : List KeptBlock) (index level slot : ℕ) (got wanted content : List ℕ) (path : List (List ℕ)) → level < depth opened.areas.geometry
    → slot ≡ path_slot index level → ((other : KeptBlock) → wanted ≡ slot_of (get_or blocks level other).block slot) → got ≢ wanted → KnowsPath opened blocks index content path
    → HoldsBelow root index content path level level got → NamesBreak root index content path level wanted got
slot_differs root opened blocks index level slot got wanted content path lt slot_is is differs knows holds =
    let there : level < length path = omega (arith, knows.full) in
    let wanted_is = slot_wanted opened blocks index level slot wanted content path knows lt is in
    record {
      fails = breaks_at_slot root index content path level level slot got (block_at path level) wanted holds there (found_at path level there) slot_is wanted_is differs;
      wanted_is = sym (wanted_slot root index path level slot (block_at path level) wanted there (found_at path level there) slot_is wanted_is);
      got_is = holds.got_is;
    }

pub root_differs : (root : List ℕ) (opened : Opened) (blocks : List KeptBlock) (index level : ℕ) (got content : List ℕ) (path : List (List ℕ)) → level ≡ depth opened.areas.geometry
    → got ≢ root → KnowsPath opened blocks index content path → HoldsBelow root index content path level level got → NamesBreak root index content path level root got
root_differs root opened blocks index level got content path end differs knows holds =
    let last : level ≡ length path = end ∙ sym knows.full in
    record {
      fails = breaks_at_root root index content path level level got holds last differs;
      wanted_is = sym (wanted_root root index path level (omega arith));
      got_is = holds.got_is;
    }

pub all_hold : (root : List ℕ) (opened : Opened) (blocks : List KeptBlock) (index level : ℕ) (got content : List ℕ) (path : List (List ℕ)) → level ≡ depth opened.areas.geometry
    → got ≡ root → KnowsPath opened blocks index content path → HoldsBelow root index content path level level got → first_break root index content path ≡ None
all_hold root opened blocks index level got content path end same knows holds =
    let last : level ≡ length path = end ∙ sym knows.full in
    good_has_no_break root opened.areas.geometry index content path (holds_throughout root opened.areas.geometry index content path level level got holds last knows.full same)

-- ---- of a backing file the digests are those of its blocks

open_class : (found : Class) → is_open_class found ≡ true → (place : ℕ) × ((size : ℕ) × (found ≡ class.OpenAt place size))
open_class (class.OpenAt place size) e = (place, (size, refl))
open_class class.Damaged e = absurd cc
open_class class.Compressed e = absurd cc
open_class class.Closed e = absurd cc

-- a hash block's place is the one that its number gives
tree_place : (places : Places) (bytes : List ℕ) (hash place size : ℕ) → class_at places bytes (data_blocks places.shape + hash) ≡ class.OpenAt place size → place ≡ hash_block_place places hash
tree_place places bytes hash place size is =
    let i : ℕ = data_blocks places.shape + hash in
    let e : Entry = entry_from bytes (entry_at places i) in
    let row : IsClass places (length bytes) i e (class.OpenAt place size) = subst (λ (c : Class). IsClass places (length bytes) i e c) is (row_of places (length bytes) i e) in
    let at = row.1 in
    let own = row.0.of_tree (omega arith) in
    omega arith

hash_len : (shape : Shape) (hash : ℕ) → block_len shape (data_blocks shape + hash) ≡ 4096
hash_len shape hash = cond-false _ _ _ (le-ltb (data_blocks shape + hash) (data_blocks shape) (omega arith))

digest_known : (bytes : List ℕ) (opened : Opened) (i place size : ℕ) → IsBackingFile bytes opened → i < entries (area_places opened.areas) → class_in opened.classes i ≡ class.OpenAt place size
    → get_or opened.digests i None ≡ Some (digest_at (area_places opened.areas) bytes i place)
digest_known bytes opened i place size is lt open_at =
    is.each_digest i lt ∙ ap (digest_of (area_places opened.areas) bytes i) (sym (is.laid.each_class i lt) ∙ open_at)

hash_within : (shape : Shape) (index level : ℕ) → index < data_blocks shape → level < depth shape → path_block shape index level < hash_blocks shape
hash_within shape index level here lt = let a = path_within shape index level here lt in let b = start_within shape level lt in omega arith

hash_known : (bytes : List ℕ) (opened : Opened) (index level : ℕ) → IsBackingFile bytes opened → index < data_blocks opened.areas.geometry → level < depth opened.areas.geometry
    → is_open_class (class_in opened.classes (data_blocks opened.areas.geometry + path_block opened.areas.geometry index level)) ≡ true
    → get_or opened.digests (data_blocks opened.areas.geometry + path_block opened.areas.geometry index level) None ≡ Some (sha256 (on_path bytes opened.areas index level))
hash_known bytes opened index level is here lt there =
    let shape : Shape = opened.areas.geometry in
    let places : Places = area_places opened.areas in
    let hash : ℕ = path_block shape index level in
    let i : ℕ = data_blocks shape + hash in
    let within : i < entries places = let h : hash < hash_blocks shape = hash_within shape index level here lt in omega arith in
    let found = open_class (class_in opened.classes i) there in
    let own : class_at places bytes i ≡ class.OpenAt found.0 found.1.0 = sym (is.laid.each_class i within) ∙ found.1.1 in
    let place : found.0 ≡ hash_block_place places hash = tree_place places bytes hash found.0 found.1.0 own in
    let whole : block_len shape i ≡ 4096 = hash_len shape hash in
    let inside : found.0 + block_len shape i ≤ length bytes = open_inside places bytes i found.0 found.1.0 own in
    let full : length (on_path bytes opened.areas index level) ≡ 4096 = length-part 4096 (hash_block_place places hash) bytes (omega arith) in
    digest_known bytes opened i found.0 found.1.0 is within found.1.1
    ∙ (λ j. Some (block_digest (part (whole j) (place j) bytes))) ∙ ap (λ (d : List ℕ). Some d) (whole_digest (on_path bytes opened.areas index level) full)

kept_known : (bytes : List ℕ) (opened : Opened) (blocks : List KeptBlock) (index level : ℕ) → AreKept bytes opened.areas blocks → IsKeptAt blocks level (path_block opened.areas.geometry index level)
    → level < depth opened.areas.geometry → (other : KeptBlock) → (get_or blocks level other).block ≡ block_at (path_in bytes opened.areas index) level
kept_known bytes opened blocks index level all at lt other =
    All-get_or (IsKept bytes opened.areas) blocks level other at.there all
    ∙ ap (hash_block bytes opened.areas) (at.numbered other)
    ∙ sym (listed_at (on_path bytes opened.areas index) (depth opened.areas.geometry) level [] lt)

knows : (bytes : List ℕ) (opened : Opened) (blocks : List KeptBlock) (index place : ℕ) → IsBackingFile bytes opened → index < data_blocks opened.areas.geometry → Ok place ≡ block_place opened.areas opened.classes index
    → first_missing opened.areas opened.classes index ≡ None → AreKept bytes opened.areas blocks → IsKeptBelow blocks opened.areas.geometry index (depth opened.areas.geometry)
    → KnowsPath opened blocks index (content_from bytes opened.areas index place) (path_in bytes opened.areas index)
knows bytes opened blocks index place is here p none all on =
    let found = place_open (class_in opened.classes index) place (here_place opened.areas opened.classes index place here (sym p)) in
    record {
      full = length-listed (on_path bytes opened.areas index) (depth opened.areas.geometry);
      content_digest = digest_known bytes opened index place found.0 is (omega arith) found.1;
      hash_digest = λ level lt.
          hash_known bytes opened index level is here lt (level_open opened index level none lt)
          ∙ ap (λ (block : List ℕ). Some (sha256 block)) (sym (listed_at (on_path bytes opened.areas index) (depth opened.areas.geometry) level [] lt));
      hash_block = λ level lt other. kept_known bytes opened blocks index level all (on level lt) lt other;
    }

-- ---- what a check answers

gives_error : (error : StaticError) (wanted : Result (List ℕ) StaticError) → wanted ≡ Err error → GivesCheck (Err error) wanted
gives_error ReadFault wanted e = tt
gives_error OutOfMemory wanted e = tt
gives_error error wanted e = e

pub no_place : (told : Option (List ℕ)) (root : List ℕ) (opened : Opened) (index : ℕ) (error : StaticError) → Err error ≡ block_place opened.areas opened.classes index
    → IfSome told (λ bytes. GivesCheck (Err error) (block_reading bytes (Some root) opened.areas opened.classes index))
unfolding block_reading
no_place None root opened index error e = tt
no_place (Some bytes) root opened index error e = gives_error error _ (ap (with_place bytes (Some root) opened.areas opened.classes index) (sym e))

pub no_hash_block : (told : Option (List ℕ)) (root : List ℕ) (opened : Opened) (index place : ℕ) (error : StaticError) → Ok place ≡ block_place opened.areas opened.classes index → Err error ≡ missing_error opened.areas index (first_missing opened.areas opened.classes index)
    → IfSome told (λ bytes. GivesCheck (Err error) (block_reading bytes (Some root) opened.areas opened.classes index))
unfolding block_reading
no_hash_block None root opened index place error p e = tt
no_hash_block (Some bytes) root opened index place error p e =
    gives_error error _ (ap (with_place bytes (Some root) opened.areas opened.classes index) (sym p) ∙ not_there bytes (Some root) opened.areas index place error _ e)

reading_is : (bytes root : List ℕ) (opened : Opened) (index place : ℕ) → Ok place ≡ block_place opened.areas opened.classes index → first_missing opened.areas opened.classes index ≡ None
    → block_reading bytes (Some root) opened.areas opened.classes index ≡ by_root (Some root) index (content_from bytes opened.areas index place) (path_in bytes opened.areas index)
unfolding block_reading
reading_is bytes root opened index place p none = ap (with_place bytes (Some root) opened.areas opened.classes index) (sym p) ∙ ap (with_missing bytes (Some root) opened.areas index place) none

pub tree_inside : (told : Option (List ℕ)) (opened : Opened) → IfSome told (λ bytes. IsBackingFile bytes opened) → IfSome told (λ bytes. HasTreeInside bytes opened.areas)
tree_inside None opened stands = tt
tree_inside (Some bytes) opened stands = stands.laid.fixed.tree_inside

pub compared_good : (told : Option (List ℕ)) (root : List ℕ) (opened : Opened) (blocks : List KeptBlock) (index place : ℕ) → IfSome told (λ bytes. IsBackingFile bytes opened)
    → index < data_blocks opened.areas.geometry → Ok place ≡ block_place opened.areas opened.classes index → first_missing opened.areas opened.classes index ≡ None → IfSome told (λ bytes. AreKept bytes opened.areas blocks)
    → IsKeptBelow blocks opened.areas.geometry index (depth opened.areas.geometry)
    → ((content : List ℕ) (path : List (List ℕ)) → KnowsPath opened blocks index content path → first_break root index content path ≡ None)
    → IfSome told (λ bytes. GivesCheck (Ok tt) (block_reading bytes (Some root) opened.areas opened.classes index))
compared_good None root opened blocks index place stands here p none all on good = tt
compared_good (Some bytes) root opened blocks index place stands here p none all on good =
    let content : List ℕ = content_from bytes opened.areas index place in
    let path : List (List ℕ) = path_in bytes opened.areas index in
    let reading : block_reading bytes (Some root) opened.areas opened.classes index ≡ Ok content =
    reading_is bytes root opened index place p none
    ∙ ap (judged root index content path) (good content path (knows bytes opened blocks index place stands here p none all on)) in
    rw reading refl

pub compared_bad : (told : Option (List ℕ)) (root : List ℕ) (opened : Opened) (blocks : List KeptBlock) (index place level : ℕ) (wanted got : List ℕ) (error : StaticError)
    → IfSome told (λ bytes. IsBackingFile bytes opened)
    → index < data_blocks opened.areas.geometry → Ok place ≡ block_place opened.areas opened.classes index → first_missing opened.areas opened.classes index ≡ None → IfSome told (λ bytes. AreKept bytes opened.areas blocks)
    → IsKeptBelow blocks opened.areas.geometry index (depth opened.areas.geometry)
    → ((content : List ℕ) (path : List (List ℕ)) → KnowsPath opened blocks index content path → NamesBreak root index content path level wanted got)
    → error ≡ Corrupt level wanted got
    → IfSome told (λ bytes. GivesCheck (Err error) (block_reading bytes (Some root) opened.areas opened.classes index))
compared_bad None root opened blocks index place level wanted got error stands here p none all on bad is = tt
compared_bad (Some bytes) root opened blocks index place level wanted got error stands here p none all on bad is =
    let content : List ℕ = content_from bytes opened.areas index place in
    let path : List (List ℕ) = path_in bytes opened.areas index in
    let broken = bad content path (knows bytes opened blocks index place stands here p none all on) in
    gives_error error _ (reading_is bytes root opened index place p none
    ∙ ap (judged root index content path) (first_is root index content path level broken.fails)
    ∙ (λ i. Err (Corrupt level (sym broken.wanted_is i) (sym broken.got_is i))) ∙ ap (λ (x : StaticError). Err x) (sym is))
