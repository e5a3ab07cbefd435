-- What a chain's function says in the words of the relation, and why files that agree on what the records begin with have one chain.
use Rattle.std.proofs.Common.{◌≡◌, ℕ, zero, suc, ◌+◌, ◌<◌, ◌≤◌, Bool, true, false, cond, ◌&&◌, ◌||◌, eqb, leb, ltb, List, [], ◌∷◌, ◌++◌, length, map, take, drop, Option, Some, None, Result, Ok, Err, refl, sym, ap, ◌∙◌, subst, arith, append_assoc}
use Rattle.std.specs.Prelude.{not, is_some, slice_index}
use Rattle.std.proofs.lemmas.List.{length-take, length-drop, get_or-take, get_or-drop, ext_get_or}
use Rattle.std.proofs.lemmas.Bool.{ltb-true, leb-true, eqb-true, eqb-false, le-leb, lt-ltb}
use Rattle.inc_bytes.specs.declared.span.Span.{Span}
use Rattle.inc_bytes.specs.Fields.{le_number, field}
use Rattle.inc_bytes.specs.Tests.{first_failing}
use Rattle.inc_bytes.proofs.Judging.{passed}
use Rattle.inc_md.specs.declared.fault.ChainFault.{ChainFault}
use Rattle.inc_md.specs.declared.fault.ChainFault.TheVariants.{Outside, NotRising, BadSize, TwoMaps, TwoSignatures, TooMany}
use Rattle.inc_md.specs.declared.head.Head.{Head}
use Rattle.inc_md.specs.Record.{head_of, is_size, place_tests, head_tests, map_fields, sig_fields, span_of}
use Rattle.inc_md.specs.Chain.{first_of_kind, record_tests, Follow, IsChainFront, unless_failing, places_from, places_along}
use Rattle.inc_md.proofs.Stepping.{append_none}
use Rattle.inc_md.proofs.Chains.{whole_chain}

-- ---- from the function to the relation

pub record FollowsTo (bytes : List ℕ) (len : ℕ) (met : List ℕ) (at : ℕ) (found : List ℕ) : Type 0 where
  pub places : List ℕ
  pub is : found ≡ met ++ places
  pub follow : Follow bytes len met at places 0

ends_here : (bytes : List ℕ) (len : ℕ) (met : List ℕ) (at : ℕ) (found : List ℕ) → eqb at 0 ≡ true → met ≡ found → FollowsTo bytes len met at found
ends_here bytes len met at found z e = record { places = []; is = sym e ∙ sym (append_none met); follow = eqb-true at 0 z }

goes_on : (bytes : List ℕ) (len : ℕ) (met : List ℕ) (at : ℕ) (found : List ℕ) → eqb at 0 ≡ false → first_failing (record_tests bytes len met at) ≡ None
    → FollowsTo bytes len (met ++ at ∷ []) (head_of bytes at).next found → FollowsTo bytes len met at found
goes_on bytes len met at found z passes rest =
    let ne = eqb-false at 0 z in
    let there : 0 < at = omega arith in
    record { places = at ∷ rest.places; is = rest.is ∙ append_assoc met (at ∷ []) rest.places; follow = (refl, there, passes, rest.follow) }

same_ok : (xs ys : List ℕ) → ◌≡◌ {A = Result (List ℕ) ChainFault} (Ok xs) (Ok ys) → xs ≡ ys
same_ok xs ys e = cc

never_ok : (fault : ChainFault) (ys : List ℕ) → ◌≡◌ {A = Result (List ℕ) ChainFault} (Err fault) (Ok ys) → ⊥
never_ok fault ys e = cc

pub sound_chain : (more : ℕ) (bytes : List ℕ) (len : ℕ) (met : List ℕ) (at : ℕ) (found : List ℕ) → places_from more bytes len met at ≡ Ok found → FollowsTo bytes len met at found
unfolding places_from
sound_chain zero bytes len met at found =
    elim (eqb at 0) as (λ b. eqb at 0 ≡ b → cond b (Ok met) (Err TooMany) ≡ Ok found → FollowsTo bytes len met at found) [
      | true ↦ λ z e. ends_here bytes len met at found z (same_ok met found e)
      | false ↦ λ z e. absurd (never_ok TooMany found e)
    ] refl
sound_chain (suc more) bytes len met at found =
    elim (eqb at 0) as (λ b. eqb at 0 ≡ b
    → cond b (Ok met) (unless_failing (first_failing (record_tests bytes len met at)) (places_from more bytes len (met ++ at ∷ []) (head_of bytes at).next)) ≡ Ok found
    → FollowsTo bytes len met at found) [
      | true ↦ λ z e. ends_here bytes len met at found z (same_ok met found e)
      | false ↦ λ z.
          elim (first_failing (record_tests bytes len met at)) as (λ failing. first_failing (record_tests bytes len met at) ≡ failing
          → unless_failing failing (places_from more bytes len (met ++ at ∷ []) (head_of bytes at).next) ≡ Ok found → FollowsTo bytes len met at found) [
            | None ↦ λ passes e. goes_on bytes len met at found z passes (sound_chain more bytes len (met ++ at ∷ []) (head_of bytes at).next found e)
            | Some fault ↦ λ passes e. absurd (never_ok fault found e)
          ] refl
    ] refl

-- the places that the function answers are a whole chain
pub places_follow : (bytes : List ℕ) (len first : ℕ) (places : List ℕ) → places_along bytes len first ≡ Ok places → IsChainFront bytes len first places 0
unfolding places_along
places_follow bytes len first places e =
    let found = sound_chain 1024 bytes len [] first places e in
    subst (λ (xs : List ℕ). Follow bytes len [] first xs 0) (sym found.is) found.follow

-- and a whole chain is what the function answers
pub follow_places : (bytes : List ℕ) (len first : ℕ) (places : List ℕ) → IsChainFront bytes len first places 0 → places_along bytes len first ≡ Ok places
unfolding places_along
follow_places bytes len first places front = whole_chain 1024 bytes len [] first places refl front

-- ---- the tests of a record, one by one

pub record Passes (before : ℕ) (mapped signed : Bool) (len at : ℕ) (head : Head) : Type 0 where
  pub few : before < 1024
  pub begins : at + 23 ≤ len
  pub sized : is_size head.kind head.size ≡ true
  pub ends : at + head.size ≤ len
  pub one_map : not (mapped && eqb head.kind 1) ≡ true
  pub one_signature : not (signed && eqb head.kind 3) ≡ true
  pub rises : (eqb head.next 0 || leb (at + head.size) head.next) ≡ true

pub parts : (before : ℕ) (mapped signed : Bool) (len at : ℕ) (head : Head) → first_failing (place_tests before len at ++ head_tests mapped signed len at head) ≡ None
    → Passes before mapped signed len at head
unfolding head_tests
parts before mapped signed len at head passes =
    let t1 = passed (ltb before 1024) _ TooMany passes in
    let t2 = passed (leb (at + 23) len) _ (Outside at) t1.1 in
    let t3 = passed (is_size head.kind head.size) _ (BadSize at) t2.1 in
    let t4 = passed (leb (at + head.size) len) _ (Outside at) t3.1 in
    let t5 = passed (not (mapped && eqb head.kind 1)) _ (TwoMaps at) t4.1 in
    let t6 = passed (not (signed && eqb head.kind 3)) _ (TwoSignatures at) t5.1 in
    let t7 = passed (eqb head.next 0 || leb (at + head.size) head.next) None (NotRising at head.next) t6.1 in
    record {
      few = ltb-true _ _ t1.0;
      begins = leb-true _ _ t2.0;
      sized = t3.0;
      ends = leb-true _ _ t4.0;
      one_map = t5.0;
      one_signature = t6.0;
      rises = t7.0;
    }

pub whole : (before : ℕ) (mapped signed : Bool) (len at : ℕ) (head : Head) → Passes before mapped signed len at head
    → first_failing (place_tests before len at ++ head_tests mapped signed len at head) ≡ None
unfolding head_tests
whole before mapped signed len at head p =
    rw (lt-ltb _ _ p.few, le-leb _ _ p.begins, p.sized, le-leb _ _ p.ends, p.one_map, p.one_signature, p.rises) refl

-- a record that passes its tests passes them in a longer file
longer : (before : ℕ) (mapped signed : Bool) (len more at : ℕ) (head : Head) → len ≤ more → Passes before mapped signed len at head → Passes before mapped signed more at head
longer before mapped signed len more at head le p = record {
  few = p.few;
  begins = omega (arith, p.begins);
  sized = p.sized;
  ends = omega (arith, p.ends);
  one_map = p.one_map;
  one_signature = p.one_signature;
  rises = p.rises;
}

-- ---- files that agree

-- they agree on `n` bytes from a place on
abbrev pub SameBytes : List ℕ → List ℕ → ℕ → ℕ → Type 0
SameBytes a b at n = (j : ℕ) → j < n → slice_index a (at + j) ≡ slice_index b (at + j)

-- they agree on what each of these records begins with
abbrev pub SameHeads : List ℕ → List ℕ → List ℕ → Type 0
SameHeads a b [] = Unit {0}
SameHeads a b (place ∷ places) = SameBytes a b place 15 × SameHeads a b places

pub part_same : (a b : List ℕ) (at n : ℕ) → at + n ≤ length a → at + n ≤ length b → SameBytes a b at n → take n (drop at a) ≡ take n (drop at b)
part_same a b at n fits_a fits_b same =
    let len_a : length (take n (drop at a)) ≡ n = omega (arith, length-take n (drop at a), length-drop at a) in
    let len_b : length (take n (drop at b)) ≡ n = omega (arith, length-take n (drop at b), length-drop at b) in
    ext_get_or 0 _ _ (len_a ∙ sym len_b) (λ i lt.
    let below : i < n = omega arith in
    get_or-take n (drop at a) i 0 below ∙ get_or-drop at a i 0 ∙ same i below ∙ sym (get_or-drop at b i 0) ∙ sym (get_or-take n (drop at b) i 0 below))

-- a part of bytes on which they agree
pub same_within : (a b : List ℕ) (at n place m : ℕ) → SameBytes a b at n → place + m ≤ n → SameBytes a b (at + place) m
same_within a b at n place m same le j lt =
    let e : at + place + j ≡ at + (place + j) = omega arith in
    ap (slice_index a) e ∙ same (place + j) (omega arith) ∙ sym (ap (slice_index b) e)

pub field_same : (a b : List ℕ) (count at : ℕ) → at + count ≤ length a → at + count ≤ length b → SameBytes a b at count → field count at a ≡ field count at b
field_same a b count at fits_a fits_b same = ap le_number (part_same a b at count fits_a fits_b same)

kind_same : (a b : List ℕ) (at : ℕ) → SameBytes a b at 15 → (head_of a at).kind ≡ (head_of b at).kind
unfolding head_of
kind_same a b at same =
    let e : at ≡ at + 0 = omega arith in
    ap (slice_index a) e ∙ same 0 (omega arith) ∙ sym (ap (slice_index b) e)

pub head_same : (a b : List ℕ) (at : ℕ) → at + 15 ≤ length a → at + 15 ≤ length b → SameBytes a b at 15 → head_of a at ≡ head_of b at
unfolding head_of
head_same a b at fits_a fits_b same =
    let kind = kind_same a b at same in
    let size = field_same a b 2 (at + 1) (omega arith) (omega arith) (same_within a b at 15 1 2 same (omega arith)) in
    let next = field_same a b 8 (at + 7) (omega arith) (omega arith) (same_within a b at 15 7 8 same (omega arith)) in
    λ i. record { kind = kind i; size = size i; next = next i }

pub first_same : (a b : List ℕ) (kind : ℕ) (places : List ℕ) → SameHeads a b places → first_of_kind a kind places ≡ first_of_kind b kind places
first_same a b kind [] same = refl
first_same a b kind (place ∷ places) same =
    ap (λ (k : ℕ). cond (eqb k kind) (Some place) (first_of_kind a kind places)) (kind_same a b place same.0)
    ∙ ap (λ (rest : Option ℕ). cond (eqb (head_of b place).kind kind) (Some place) rest) (first_same a b kind places same.1)

heads_more : (a b : List ℕ) (met : List ℕ) (place : ℕ) → SameHeads a b met → SameBytes a b place 15 → SameHeads a b (met ++ place ∷ [])
heads_more a b [] place same here = (here, tt)
heads_more a b (first ∷ met) place same here = (same.0, heads_more a b met place same.1 here)

record_same : (a b : List ℕ) (len more : ℕ) (met : List ℕ) (at : ℕ) → len ≤ more → len ≤ length a → more ≤ length b → SameHeads a b met → SameBytes a b at 15
    → first_failing (record_tests a len met at) ≡ None → (first_failing (record_tests b more met at) ≡ None) × (head_of a at ≡ head_of b at)
record_same a b len more met at le fits_a fits_b same here passes =
    let p = parts (length met) (is_some (first_of_kind a 1 met)) (is_some (first_of_kind a 3 met)) len at (head_of a at) passes in
    let begins : at + 23 ≤ len = p.begins in
    let head = head_same a b at (omega arith) (omega arith) here in
    let p1 = longer (length met) (is_some (first_of_kind a 1 met)) (is_some (first_of_kind a 3 met)) len more at (head_of a at) le p in
    let p2 = subst (λ (h : Head). Passes (length met) (is_some (first_of_kind a 1 met)) (is_some (first_of_kind a 3 met)) more at h) head p1 in
    let p3 = subst (λ (found : Option ℕ). Passes (length met) (is_some found) (is_some (first_of_kind a 3 met)) more at (head_of b at)) (first_same a b 1 met same) p2 in
    let p4 = subst (λ (found : Option ℕ). Passes (length met) (is_some (first_of_kind b 1 met)) (is_some found) more at (head_of b at)) (first_same a b 3 met same) p3 in
    (whole (length met) (is_some (first_of_kind b 1 met)) (is_some (first_of_kind b 3 met)) more at (head_of b at) p4, head)

-- the records follow each other in the other file too
pub follow_same : (a b : List ℕ) (len more : ℕ) (met : List ℕ) (at : ℕ) (places : List ℕ) (next : ℕ) → len ≤ more → len ≤ length a → more ≤ length b
    → SameHeads a b met → SameHeads a b places → Follow a len met at places next → Follow b more met at places next
follow_same a b len more met at [] next le fits_a fits_b same heads follow = follow
follow_same a b len more met at (place ∷ places) next le fits_a fits_b same heads follow =
    let here = record_same a b len more met place le fits_a fits_b same heads.0 follow.2 in
    let rest = follow_same a b len more (met ++ place ∷ []) (head_of a place).next places next le fits_a fits_b (heads_more a b met place same heads.0) heads.1 follow.3 in
    (follow.0, follow.1, here.0, subst (λ (h : Head). Follow b more (met ++ place ∷ []) h.next places next) here.1 rest)

-- a file that agrees on what each record begins with and is no shorter has the same chain
pub places_same : (a b : List ℕ) (len more first : ℕ) (places : List ℕ) → len ≤ more → len ≤ length a → more ≤ length b
    → places_along a len first ≡ Ok places → SameHeads a b places → places_along b more first ≡ Ok places
places_same a b len more first places le fits_a fits_b e heads =
    follow_places b more first places (follow_same a b len more [] first places 0 le fits_a fits_b tt heads (places_follow a len first places e))

-- and its records take the same bytes
pub spans_same : (a b : List ℕ) (len : ℕ) (met : List ℕ) (at : ℕ) (places : List ℕ) (next : ℕ) → len ≤ length a → len ≤ length b
    → SameHeads a b met → SameHeads a b places → Follow a len met at places next → map (span_of a) places ≡ map (span_of b) places
spans_same a b len met at [] next fits_a fits_b same heads follow = refl
spans_same a b len met at (place ∷ places) next fits_a fits_b same heads follow =
    let here = record_same a b len len met place (omega arith) fits_a fits_b same heads.0 follow.2 in
    let rest = spans_same a b len (met ++ place ∷ []) (head_of a place).next places next fits_a fits_b (heads_more a b met place same heads.0) heads.1 follow.3 in
    ap (λ (h : Head). record { at = place; len = h.size } ∷ map (span_of a) places) here.1 ∙ ap (λ (spans : List Span). record { at = place; len = (head_of b place).size } ∷ spans) rest

-- where the fields of the block map and the signature agree, so do the records
pub map_same : (a b : List ℕ) (at : ℕ) → at + 12 ≤ length a → at + 12 ≤ length b → SameBytes a b at 12 → map_fields a at ≡ map_fields b at
map_same a b at fits_a fits_b same =
    let base = field_same a b 8 at (omega arith) (omega arith) (λ j lt. same j (omega arith)) in
    let count = field_same a b 4 (at + 8) (omega arith) (omega arith) (same_within a b at 12 8 4 same (omega arith)) in
    λ i. record { base = base i; count = count i }

pub sig_same : (a b : List ℕ) (at : ℕ) → at + 24 ≤ length a → at + 24 ≤ length b → SameBytes a b at 24 → sig_fields a at ≡ sig_fields b at
sig_same a b at fits_a fits_b same =
    let sig_size = field_same a b 4 at (omega arith) (omega arith) (λ j lt. same j (omega arith)) in
    let sig_at = field_same a b 8 (at + 4) (omega arith) (omega arith) (same_within a b at 24 4 8 same (omega arith)) in
    let tree_size = field_same a b 4 (at + 12) (omega arith) (omega arith) (same_within a b at 24 12 4 same (omega arith)) in
    let tree_at = field_same a b 8 (at + 16) (omega arith) (omega arith) (same_within a b at 24 16 8 same (omega arith)) in
    λ i. record { sig_size = sig_size i; sig_at = sig_at i; tree_size = tree_size i; tree_at = tree_at i }
