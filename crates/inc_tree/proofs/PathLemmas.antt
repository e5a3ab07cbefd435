-- The levels of a path: the computed first break against what it means, and a block beside the same block filled up with zeros.
use Rattle.std.proofs.Common.{◌≡◌, ◌≢◌, ℕ, zero, suc, ◌+◌, ◌-◌, ◌<◌, ◌≤◌, List, [], ◌∷◌, ◌++◌, length, replicate, get_or, Some, None, Bool, true, false, not, sym, ap, ◌∙◌, ⊎_elim, below_more, arith}
use Rattle.std.specs.Str.{bytes_eq}
use Rattle.std.proofs.lemmas.Slice.Eq.{bytes_eq-Decides}
use Rattle.std.proofs.lemmas.Bool.{false_from_ne_true, cases_lt, cond-true, cond-false, lt-ltb, le-ltb, both_ways, not-true, not-false}
use Rattle.std.proofs.lemmas.List.{append-nil, get_or_default, get_or_read}
use Rattle.sha2.specs.Sha256.{sha256}
use Rattle.inc_tree.specs.shape.Geometry.{Shape, depth, path_slot}
use Rattle.inc_tree.specs.read_block.Path.{block_at, block_digest, padded, slot_of, digest_below, digest_wanted, IsProof, BreaksFirst, break_from, first_break}

same_bytes : (xs ys : List ℕ) → xs ≡ ys → bytes_eq xs ys ≡ true
same_bytes xs ys e = (bytes_eq-Decides xs ys).1 e

other_bytes : (xs ys : List ℕ) → xs ≢ ys → bytes_eq xs ys ≡ false
other_bytes xs ys ne = false_from_ne_true (bytes_eq xs ys) (λ e. ne ((bytes_eq-Decides xs ys).0 e))

-- what the test of two digests says
pub differs_from : (test : Bool) (xs ys : List ℕ) → test ≡ not (bytes_eq xs ys) → test ≡ true → xs ≢ ys
differs_from test xs ys is holds e =
    both_ways (bytes_eq xs ys) (not-true (bytes_eq xs ys) (sym is ∙ holds)) (same_bytes xs ys e)

pub same_from : (test : Bool) (xs ys : List ℕ) → test ≡ not (bytes_eq xs ys) → test ≡ false → xs ≡ ys
same_from test xs ys is fails = (bytes_eq-Decides xs ys).0 (not-false (bytes_eq xs ys) (sym is ∙ fails))

break_from-good : (root : List ℕ) (index : ℕ) (bytes : List ℕ) (path : List (List ℕ)) (more level : ℕ)
    → ((l : ℕ) → l ≤ level + more → digest_below bytes path l ≡ digest_wanted root index path l)
    → break_from root index bytes path more level ≡ None
unfolding break_from
break_from-good root index bytes path zero level good =
    rw (same_bytes (digest_below bytes path level) (digest_wanted root index path level) (good level (omega arith)))
break_from-good root index bytes path (suc more) level good =
    rw (same_bytes (digest_below bytes path level) (digest_wanted root index path level) (good level (omega arith)))
    (break_from-good root index bytes path more (suc level) (λ l h. good l (omega arith)))

break_from-bad : (root : List ℕ) (index : ℕ) (bytes : List ℕ) (path : List (List ℕ)) (more level at : ℕ) → level ≤ at → at ≤ level + more
    → digest_below bytes path at ≢ digest_wanted root index path at
    → ((l : ℕ) → l < at → digest_below bytes path l ≡ digest_wanted root index path l)
    → break_from root index bytes path more level ≡ Some at
unfolding break_from
break_from-bad root index bytes path zero level at low high differs first =
    let here : level ≡ at = omega arith in
    rw here (rw (other_bytes (digest_below bytes path at) (digest_wanted root index path at) differs))
break_from-bad root index bytes path (suc more) level at low high differs first =
    ⊎_elim
    (λ (below : level < at).
    rw (same_bytes (digest_below bytes path level) (digest_wanted root index path level) (first level below))
    (break_from-bad root index bytes path more (suc level) at (omega arith) (omega arith) differs first))
    (λ (done : at ≤ level).
    let here : level ≡ at = omega arith in
    rw here (rw (other_bytes (digest_below bytes path at) (digest_wanted root index path at) differs)))
    (cases_lt level at)

-- a path that proves the block breaks nowhere
pub good_has_no_break : (root : List ℕ) (shape : Shape) (index : ℕ) (bytes : List ℕ) (path : List (List ℕ)) → IsProof root shape index bytes path
    → first_break root index bytes path ≡ None
unfolding first_break
good_has_no_break root shape index bytes path good = break_from-good root index bytes path (length path) 0 (λ l h. good.each l (omega arith))

-- the level that breaks first is the computed one
pub first_is : (root : List ℕ) (index : ℕ) (bytes : List ℕ) (path : List (List ℕ)) (level : ℕ) → BreaksFirst root index bytes path level
    → first_break root index bytes path ≡ Some level
unfolding first_break
first_is root index bytes path level breaks =
    break_from-bad root index bytes path (length path) 0 level (omega arith) (omega (arith, breaks.within)) breaks.differs breaks.first

-- the digests of all levels, found from the leaf as it is hashed and from the hash blocks; where there is no hash block it stands in for one
pub digests_of_levels : (bytes leaf : List ℕ) (path : List (List ℕ)) (four : List (List ℕ)) (last : List ℕ) → leaf ≡ padded bytes
    → four ≡ sha256 leaf ∷ sha256 (get_or path 0 leaf) ∷ sha256 (get_or path 1 leaf) ∷ sha256 (get_or path 2 leaf) ∷ []
    → (3 < length path → last ≡ sha256 (block_at path 3)) → length path ≤ 4 → (level : ℕ) → level ≤ length path
    → get_or (get_or four 0 [] ∷ get_or four 1 [] ∷ get_or four 2 [] ∷ get_or four 3 [] ∷ last ∷ []) level [] ≡ digest_below bytes path level
digests_of_levels bytes leaf path four last padded_is four_is last_is low zero h = ap (λ (xs : List (List ℕ)). get_or xs 0 []) four_is ∙ ap sha256 padded_is
digests_of_levels bytes leaf path four last padded_is four_is last_is low (suc zero) h =
    ap (λ (xs : List (List ℕ)). get_or xs 1 []) four_is ∙ ap sha256 (get_or_default path 0 leaf [] (omega arith))
digests_of_levels bytes leaf path four last padded_is four_is last_is low (suc (suc zero)) h =
    ap (λ (xs : List (List ℕ)). get_or xs 2 []) four_is ∙ ap sha256 (get_or_default path 1 leaf [] (omega arith))
digests_of_levels bytes leaf path four last padded_is four_is last_is low (suc (suc (suc zero))) h =
    ap (λ (xs : List (List ℕ)). get_or xs 3 []) four_is ∙ ap sha256 (get_or_default path 2 leaf [] (omega arith))
digests_of_levels bytes leaf path four last padded_is four_is last_is low (suc (suc (suc (suc zero)))) h = last_is (omega arith)
digests_of_levels bytes leaf path four last padded_is four_is last_is low (suc (suc (suc (suc (suc level))))) h = absurd (omega arith)

-- the levels below one are checked, and its digest is at hand
pub record HoldsBelow (root : List ℕ) (index : ℕ) (bytes : List ℕ) (path : List (List ℕ)) (at level : ℕ) (got : List ℕ) : Type 0 where
  pub level_is : level ≡ at
  pub got_is : got ≡ digest_below bytes path level
  pub checked : (lower : ℕ) → lower < level → digest_below bytes path lower ≡ digest_wanted root index path lower

-- a whole block is hashed as it is
pub whole_digest : (block : List ℕ) → length block ≡ 4096 → block_digest block ≡ sha256 block
whole_digest block whole =
    let none : 4096 - length block ≡ 0 = omega arith in
    ap sha256 (ap (λ (n : ℕ). block ++ replicate n 0) none ∙ append-nil block)

-- at a level of the path a slot of its block is wanted, and above the last the root
pub wanted_slot : (root : List ℕ) (index : ℕ) (path : List (List ℕ)) (level slot : ℕ) (block wanted : List ℕ)
    → level < length path → block ≡ get_or path level block → slot ≡ path_slot index level → wanted ≡ slot_of block slot
    → digest_wanted root index path level ≡ wanted
wanted_slot root index path level slot block wanted there is slot_is wanted_is =
    cond-true _ _ _ (lt-ltb level (length path) there)
    ∙ (ap (λ (b : List ℕ). slot_of b (path_slot index level)) (sym (get_or_read path level block there is []))
    ∙ (ap (λ (n : ℕ). slot_of block n) (sym slot_is) ∙ sym wanted_is))

pub wanted_root : (root : List ℕ) (index : ℕ) (path : List (List ℕ)) (level : ℕ) → length path ≤ level → digest_wanted root index path level ≡ root
wanted_root root index path level above = cond-false _ _ _ (le-ltb level (length path) above)

pub holds_step : (root : List ℕ) (index : ℕ) (bytes : List ℕ) (path : List (List ℕ)) (at level slot : ℕ) (got block wanted next : List ℕ)
    → HoldsBelow root index bytes path at level got → at < length path → block ≡ get_or path at block
    → slot ≡ path_slot index level → wanted ≡ slot_of block slot → got ≡ wanted → next ≡ digest_below bytes path (level + 1)
    → HoldsBelow root index bytes path (at + 1) (level + 1) next
holds_step root index bytes path at level slot got block wanted next holds there is slot_is wanted_is same next_is =
    let here : level < length path = omega (arith, holds.level_is) in
    let read : block ≡ get_or path level block = rw holds.level_is is in
    record {
      level_is = omega (arith, holds.level_is);
      got_is = next_is;
      checked =
          below_more (λ lower. digest_below bytes path lower ≡ digest_wanted root index path lower) level holds.checked
          (sym holds.got_is ∙ (same ∙ sym (wanted_slot root index path level slot block wanted here read slot_is wanted_is)));
    }

pub breaks_at_slot : (root : List ℕ) (index : ℕ) (bytes : List ℕ) (path : List (List ℕ)) (at level slot : ℕ) (got block wanted : List ℕ)
    → HoldsBelow root index bytes path at level got → at < length path → block ≡ get_or path at block
    → slot ≡ path_slot index level → wanted ≡ slot_of block slot → got ≢ wanted → BreaksFirst root index bytes path level
breaks_at_slot root index bytes path at level slot got block wanted holds there is slot_is wanted_is differs =
    let here : level < length path = omega (arith, holds.level_is) in
    let read : block ≡ get_or path level block = rw holds.level_is is in
    record {
      within = omega arith;
      differs = λ e. differs (holds.got_is ∙ (e ∙ wanted_slot root index path level slot block wanted here read slot_is wanted_is));
      first = holds.checked;
    }

pub breaks_at_root : (root : List ℕ) (index : ℕ) (bytes : List ℕ) (path : List (List ℕ)) (at level : ℕ) (got : List ℕ)
    → HoldsBelow root index bytes path at level got → at ≡ length path → got ≢ root → BreaksFirst root index bytes path level
breaks_at_root root index bytes path at level got holds end differs =
    record {
      within = omega (arith, holds.level_is);
      differs = λ e. differs (holds.got_is ∙ (e ∙ wanted_root root index path level (omega (arith, holds.level_is))));
      first = holds.checked;
    }

pub holds_throughout : (root : List ℕ) (shape : Shape) (index : ℕ) (bytes : List ℕ) (path : List (List ℕ)) (at level : ℕ) (got : List ℕ)
    → HoldsBelow root index bytes path at level got → at ≡ length path → length path ≡ depth shape → got ≡ root
    → IsProof root shape index bytes path
holds_throughout root shape index bytes path at level got holds end full same =
    let top : level ≡ length path = holds.level_is ∙ end in
    record {
      full = full;
      each = λ l h.
          ⊎_elim
          (λ (lower : l < level). holds.checked l lower)
          (λ (last : level ≤ l).
          let here : l ≡ level = omega arith in
          rw here (sym holds.got_is ∙ (same ∙ sym (wanted_root root index path level (omega arith)))))
          (cases_lt l level);
    }
