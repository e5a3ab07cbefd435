-- Blocks of a group, each with its length.
use Rattle.std.proofs.Common.{◌≡◌, ℕ, suc, ◌+◌, ◌-◌, ◌<◌, ◌≤◌, List, [], ◌∷◌, ◌++◌, length, get_or, take, map, refl, sym, ap, subst, ◌∙◌, arith}
use Rattle.std.specs.Prelude.{replicate}
use Rattle.std.specs.List.{zip}
use Rattle.std.proofs.Math.Seq.{take-append_seam, take-length}
use Rattle.std.proofs.lemmas.List.{length-take-le, map_more, take-append-le}
use Rattle.std.proofs.lemmas.Slice.Zip.{get_or-zip, length-zip}
use Rattle.sha2.specs.Sha256.{sha256}
use Rattle.inc_tree.specs.read_block.Path.{block_digest, padded}
use Rattle.inc_cell.specs.device.Digested.{DigestedBlock, HasZeros, IsCleared, digested, digested_each}

-- ---- one block

-- the bytes that count are still there
front_left : (block : List ℕ) (len : ℕ) → len ≤ length block → take len (padded (take len block)) ≡ take len block
front_left block len le =
    let here : length (take len block) ≡ len = length-take-le len block le in
    let part : List ℕ = take len block in
    let zeros : List ℕ = replicate (4096 - length (take len block)) 0 in
    subst (λ (n : ℕ). take n (part ++ zeros) ≡ part) here (take-append_seam part zeros)

-- a cleared block has its zeros
pub cleared_zeros : (old new : List ℕ) (len : ℕ) → len ≤ 4096 → IsCleared old len new → HasZeros new len
cleared_zeros old new len le cleared =
    let within : len ≤ length old = omega (arith, cleared.whole) in
    subst (λ (bytes : List ℕ). bytes ≡ padded (take len bytes)) (sym cleared.zeros) (ap padded (sym (front_left old len within)))

-- it is digested as it was before
pub cleared_digested : (old new : List ℕ) (len : ℕ) → len ≤ 4096 → IsCleared old len new → digested new len ≡ digested old len
cleared_digested old new len le cleared =
    let within : len ≤ length old = omega (arith, cleared.whole) in
    let front : take len new ≡ take len old = ap (take len) cleared.zeros ∙ front_left old len within in
    ap (λ (part : List ℕ). record { bytes = padded part; len = len; digest = block_digest part }) front

-- what has the bytes of a hashed block has its digest
pub hint_hashed : (bytes block digest : List ℕ) (len : ℕ) → digest ≡ block_digest (take len bytes) → bytes ≡ padded (take len bytes) → bytes ≡ block → digest ≡ sha256 block
hint_hashed bytes block digest len hashed zeros same = hashed ∙ ap sha256 (sym zeros ∙ same)

-- ---- all blocks

-- as many are kept as there are
pub kept_whole : (n : ℕ) (new rest : List (List ℕ)) → n ≡ length new → take n (new ++ rest) ≡ new
kept_whole n new rest same = take-append-le n new rest (omega (arith, same)) ∙ subst (λ (k : ℕ). take k new ≡ new) (sym same) (take-length new)

pub cleared_each : (old new : List (List ℕ)) (lens : List ℕ) → length old ≡ length new
    → ((i : ℕ) → i < length lens → get_or lens i 0 ≤ 4096)
    → ((i : ℕ) → i < length lens → IsCleared (get_or old i []) (get_or lens i 0) (get_or new i []))
    → digested_each new lens ≡ digested_each old lens
cleared_each [] [] lens same most cleared = refl
cleared_each [] (n ∷ new) lens same most cleared = absurd (omega arith)
cleared_each (o ∷ old) [] lens same most cleared = absurd (omega arith)
cleared_each (o ∷ old) (n ∷ new) [] same most cleared = refl
cleared_each (o ∷ old) (n ∷ new) (len ∷ lens) same most cleared =
    let first : digested n len ≡ digested o len = cleared_digested o n len (most 0 (omega arith)) (cleared 0 (omega arith)) in
    let rest : digested_each new lens ≡ digested_each old lens =
    cleared_each old new lens (omega arith) (λ i lt. most (suc i) (omega arith)) (λ i lt. cleared (suc i) (omega arith)) in
    ap (λ (d : DigestedBlock). d ∷ digested_each new lens) first ∙ ap (λ (ds : List DigestedBlock). digested o len ∷ ds) rest

-- ---- a loop over the blocks

-- one block more
pub each_more : (blocks : List (List ℕ)) (lens : List ℕ) (n : ℕ) (block : List ℕ) → n < length blocks → n < length lens → block ≡ get_or blocks n block
    → map (λ (pair : List ℕ × ℕ). digested pair.0 pair.1) (take (n + 1) (zip blocks lens))
    ≡ map (λ (pair : List ℕ × ℕ). digested pair.0 pair.1) (take n (zip blocks lens)) ++ digested block (get_or lens n 0) ∷ []
each_more blocks lens n block in_blocks in_lens here =
    let f : List ℕ × ℕ → DigestedBlock = λ pair. digested pair.0 pair.1 in
    let within : n < length (zip blocks lens) = omega (arith, length-zip blocks lens) in
    let pair : get_or (zip blocks lens) n (block, 0) ≡ (get_or blocks n block, get_or lens n 0) = get_or-zip blocks lens n (block, 0) in_blocks in_lens in
    let found : f (get_or (zip blocks lens) n (block, 0)) ≡ digested block (get_or lens n 0) = ap f pair ∙ ap (λ (b : List ℕ). digested b (get_or lens n 0)) (sym here) in
    map_more f (zip blocks lens) n (block, 0) within ∙ ap (λ (d : DigestedBlock). map f (take n (zip blocks lens)) ++ d ∷ []) found

-- all of them
pub each_whole : (blocks : List (List ℕ)) (lens : List ℕ) → length lens ≡ length blocks
    → map (λ (pair : List ℕ × ℕ). digested pair.0 pair.1) (take (length blocks) (zip blocks lens)) ≡ digested_each blocks lens
each_whole blocks lens same =
    let f : List ℕ × ℕ → DigestedBlock = λ pair. digested pair.0 pair.1 in
    let whole : length (zip blocks lens) ≡ length blocks = omega (arith, length-zip blocks lens) in
    subst (λ (n : ℕ). map f (take n (zip blocks lens)) ≡ digested_each blocks lens) whole (ap (map f) (take-length (zip blocks lens)))
