-- A block is hashed as filled up with zeros, so a path proves its content where it proves the cleared block.
use Rattle.std.proofs.Common.{◌≡◌, ℕ, zero, suc, ◌-◌, ◌≤◌, List, [], ◌∷◌, ◌++◌, length, map, get_or, take, replicate, refl, sym, ap, ◌∙◌, arith, length-append}
use Rattle.std.proofs.lemmas.List.{length-replicate, append-nil, get_or-map}
use Rattle.inc_tree.specs.read_block.Path.{block_digest, padded, digest_below, NamesBreak}
use Rattle.sha2.specs.Sha256.{sha256}

-- a block that was cleared from its length on is its content filled up with zeros
pub cleared_is : (old new : List ℕ) (len : ℕ) → new ≡ take len old ++ replicate (4096 - len) 0 → length new ≡ 4096 → len ≤ 4096
    → (new ≡ padded (take len old)) × (length (take len old) ≡ len)
cleared_is old new len is whole small =
    let kept : length (take len old) ≡ len =
    omega (arith, ap length is, length-append (take len old) (replicate (4096 - len) 0), length-replicate {A = ℕ} (4096 - len) 0) in
    (is ∙ ap (λ (n : ℕ). take len old ++ replicate (4096 - n) 0) (sym kept), kept)

padded_whole : (bytes : List ℕ) → length bytes ≡ 4096 → padded bytes ≡ bytes
padded_whole bytes whole =
    let none : 4096 - length bytes ≡ 0 = omega arith in
    ap (λ (n : ℕ). bytes ++ replicate n 0) none ∙ append-nil bytes

-- both have one digest at each level
pub digest_below-padded : (new content : List ℕ) (path : List (List ℕ)) (level : ℕ) → new ≡ padded content → length new ≡ 4096
    → digest_below new path level ≡ digest_below content path level
digest_below-padded new content path zero is whole = ap sha256 (padded_whole new whole ∙ is)
digest_below-padded new content path (suc level) is whole = refl

-- what breaks first at the cleared block breaks first at its content
pub break_of_content : (root : List ℕ) (index : ℕ) (new content : List ℕ) (path : List (List ℕ)) (level : ℕ) (wanted got : List ℕ)
    → new ≡ padded content → length new ≡ 4096
    → NamesBreak root index new path level wanted got → NamesBreak root index content path level wanted got
break_of_content root index new content path level wanted got is whole names =
    record {
      fails = record {
        within = names.fails.within;
        differs = λ e. names.fails.differs (digest_below-padded new content path level is whole ∙ e);
        first = λ lower h. sym (digest_below-padded new content path lower is whole) ∙ names.fails.first lower h;
      };
      wanted_is = names.wanted_is;
      got_is = names.got_is ∙ digest_below-padded new content path level is whole;
    }

-- digests that are at hand are those of the levels, that of the content for the cleared block
pub digests_at_hand : (new content : List ℕ) (path digests : List (List ℕ)) → new ≡ padded content → length new ≡ 4096
    → digests ≡ block_digest content ∷ map sha256 path → (level : ℕ) → level ≤ length path → get_or digests level [] ≡ digest_below new path level
digests_at_hand new content path digests is whole all zero h =
    ap (λ (xs : List (List ℕ)). get_or xs 0 []) all ∙ sym (digest_below-padded new content path 0 is whole)
digests_at_hand new content path digests is whole all (suc level) h =
    ap (λ (xs : List (List ℕ)). get_or xs (suc level) []) all ∙ get_or-map sha256 path level [] [] (omega arith)
