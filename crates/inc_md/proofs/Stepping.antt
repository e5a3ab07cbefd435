-- The places of a chain, record by record.
use Rattle.std.proofs.Common.{◌≡◌, ℕ, suc, ◌+◌, ◌-◌, ◌<◌, ◌≤◌, Bool, true, false, cond, ◌&&◌, eqb, leb, ltb, List, [], ◌∷◌, ◌++◌, length, map, Option, Some, None, refl, sym, ap, ◌∙◌, subst, arith, append_assoc}
use Rattle.std.specs.Prelude.{not, is_some, option_map, IfSome, slice_index}
use Rattle.std.specs.Option.{option_or}
use Rattle.std.proofs.lemmas.List.Folds.{find-append}
use Rattle.std.proofs.lemmas.List.{length-append}
use Rattle.std.proofs.Math.Seq.{get_or-append_seam}
use Rattle.inc_bytes.specs.Tests.{first_failing}
use Rattle.inc_bytes.specs.declared.span.Span.{Span}
use Rattle.inc_bytes.proofs.Judging.{passed}
use Rattle.inc_md.specs.declared.fault.ChainFault.TheVariants.{TooMany, Outside, BadSize, TwoMaps, TwoSignatures}
use Rattle.inc_md.specs.declared.head.Head.{Head}
use Rattle.inc_md.specs.declared.records.Records.{Records}
use Rattle.inc_md.specs.Record.{head_of, is_size, place_tests, head_tests, map_fields, sig_fields, status_fields, span_of}
use Rattle.inc_md.specs.Chain.{first_of_kind, record_tests, Follow, records_of}
use Rattle.inc_md.specs.Step.{least_size, tests_after, with_fields, with_record}

-- ---- a front of a chain grows

pub append_none : (xs : List ℕ) → xs ++ [] ≡ xs
append_none [] = refl
append_none (x ∷ xs) = ap (λ (ys : List ℕ). x ∷ ys) (append_none xs)

pub Follow-more : (bytes : List ℕ) (len : ℕ) (met : List ℕ) (at : ℕ) (places : List ℕ) (next : ℕ)
    → Follow bytes len met at places next → 0 < next → first_failing (record_tests bytes len (met ++ places) next) ≡ None
    → Follow bytes len met at (places ++ next ∷ []) (head_of bytes next).next
Follow-more bytes len met at [] next follow there passes =
    (follow, there, subst (λ (xs : List ℕ). first_failing (record_tests bytes len xs next) ≡ None) (append_none met) passes, refl)
Follow-more bytes len met at (place ∷ places) next follow there passes = (
  follow.0,
  follow.1,
  follow.2,
  Follow-more bytes len (met ++ place ∷ []) (head_of bytes place).next places next follow.3 there
      (subst (λ (xs : List ℕ). first_failing (record_tests bytes len xs next) ≡ None) (sym (append_assoc met (place ∷ []) places)) passes),
)

-- ---- what the records say grows with them

found_more : (bytes : List ℕ) (kind : ℕ) (places : List ℕ) (at : ℕ)
    → first_of_kind bytes kind (places ++ at ∷ []) ≡ option_or (first_of_kind bytes kind places) (cond (eqb (head_of bytes at).kind kind) (Some at) None)
found_more bytes kind places at = find-append (λ place. eqb (head_of bytes place).kind kind) places (at ∷ [])

module _ {A : Type 0} (f : ℕ → A) (at : ℕ) where
  -- a second one isn't there
  only_one : (found : Option ℕ) (here : Bool) → not (is_some found && here) ≡ true
      → option_map f (option_or found (cond here (Some at) None)) ≡ cond here (Some (f at)) (option_map f found)
  only_one None true h = refl
  only_one None false h = refl
  only_one (Some place) true h = absurd cc
  only_one (Some place) false h = refl

  first_one : (found : Option ℕ) (here : Bool)
      → option_map f (option_or found (cond here (Some at) None)) ≡ cond here (option_or (option_map f found) (Some (f at))) (option_map f found)
  first_one None true = refl
  first_one None false = refl
  first_one (Some place) true = refl
  first_one (Some place) false = refl

is_some-map : {A : Type 0} (f : ℕ → A) (found : Option ℕ) → is_some (option_map f found) ≡ is_some found
is_some-map f None = refl
is_some-map f (Some place) = refl

map-more : (f : ℕ → Span) (places : List ℕ) (at : ℕ) → map f (places ++ at ∷ []) ≡ map f places ++ f at ∷ []
map-more f [] at = refl
map-more f (place ∷ places) at = ap (λ (spans : List Span). f place ∷ spans) (map-more f places at)

pub length-spans : (bytes places : List ℕ) → length (records_of bytes places).spans ≡ length places
unfolding records_of
length-spans bytes [] = refl
length-spans bytes (place ∷ places) = ap suc (length-spans bytes places)

last-more : (places : List ℕ) (at : ℕ) → slice_index (places ++ at ∷ []) (length (places ++ at ∷ []) - 1) ≡ at
last-more places at =
    let last : length (places ++ at ∷ []) - 1 ≡ length places = omega (arith, length-append places (at ∷ [])) in
    rw last (get_or-append_seam places at [] 0)

-- what the tests say of a second map and of a second signature
record IsFirst (bytes : List ℕ) (at : ℕ) (records : Records) : Type 0 where
  map : not (is_some records.map && eqb (head_of bytes at).kind 1) ≡ true
  signature : not (is_some records.signature && eqb (head_of bytes at).kind 3) ≡ true

is_first : (records : Records) (bytes : List ℕ) (len at : ℕ) → first_failing (tests_after records bytes len at) ≡ None → IsFirst bytes at records
unfolding head_tests
is_first records bytes len at passes =
    let head = head_of bytes at in
    let t1 = passed (ltb (length records.spans) 1024) _ TooMany passes in
    let t2 = passed (leb (at + 23) len) _ (Outside at) t1.1 in
    let t3 = passed (is_size head.kind head.size) _ (BadSize at) t2.1 in
    let t4 = passed (leb (at + head.size) len) _ (Outside at) t3.1 in
    let t5 = passed (not (is_some records.map && eqb head.kind 1)) _ (TwoMaps at) t4.1 in
    let t6 = passed (not (is_some records.signature && eqb head.kind 3)) _ (TwoSignatures at) t5.1 in
    record { map = t5.0; signature = t6.0 }

pub records_more : (bytes : List ℕ) (len : ℕ) (places : List ℕ) (at : ℕ)
    → first_failing (tests_after (records_of bytes places) bytes len at) ≡ None
    → with_record bytes at (records_of bytes places) ≡ records_of bytes (places ++ at ∷ [])
unfolding records_of with_record
records_more bytes len places at passes =
    let first = is_first (records_of bytes places) bytes len at passes in
    let map_first = rw is_some-map at first.map in
    let signature_first = rw is_some-map at first.signature in
    let map_is = ap (option_map (λ (place : ℕ). map_fields bytes (place + 23))) (found_more bytes 1 places at) ∙ only_one (λ place. map_fields bytes (place + 23)) at (first_of_kind bytes 1 places) (eqb (head_of bytes at).kind 1) map_first in
    let signature_is = ap (option_map (λ (place : ℕ). sig_fields bytes (place + 23))) (found_more bytes 3 places at) ∙ only_one (λ place. sig_fields bytes (place + 23)) at (first_of_kind bytes 3 places) (eqb (head_of bytes at).kind 3) signature_first in
    let status_is = ap (option_map (λ (place : ℕ). status_fields bytes (place + 23))) (found_more bytes 4 places at) ∙ first_one (λ place. status_fields bytes (place + 23)) at (first_of_kind bytes 4 places) (eqb (head_of bytes at).kind 4) in
    let spans_is = map-more (span_of bytes) places at in
    let last_is = last-more places at in
    λ i. record { map = sym map_is i; signature = sym signature_is i; status = sym status_is i; spans = sym spans_is i; last = sym last_is i }

-- the tests after the records at these places are those after what they said
pub same_tests : (bytes : List ℕ) (len : ℕ) (places : List ℕ) (at : ℕ) → tests_after (records_of bytes places) bytes len at ≡ record_tests bytes len places at
unfolding records_of
same_tests bytes len places at =
    let count = length-spans bytes places in
    let mapped = is_some-map (λ (place : ℕ). map_fields bytes (place + 23)) (first_of_kind bytes 1 places) in
    let signed = is_some-map (λ (place : ℕ). sig_fields bytes (place + 23)) (first_of_kind bytes 3 places) in
    rw (mapped, signed) (ap (λ (n : ℕ). place_tests n len at ++ head_tests (is_some (first_of_kind bytes 1 places)) (is_some (first_of_kind bytes 3 places)) len at (head_of bytes at)) count)

-- ---- a step, of a file that may tell its bytes

stepped : (bytes : List ℕ) (at : ℕ) (head : Head) (before fields : Records) (spans : List Span)
    → head ≡ head_of bytes at → fields ≡ with_fields bytes at head.kind before → spans ≡ fields.spans ++ record { at = at; len = head.size } ∷ []
    → record fields { spans = spans; last = at } ≡ with_record bytes at before
unfolding with_record
stepped bytes at head before fields spans head-is fields-is spans-is =
    let same : fields ≡ with_fields bytes at (head_of bytes at).kind before = fields-is ∙ ap (λ (h : Head). with_fields bytes at h.kind before) head-is in
    let added : spans ≡ before.spans ++ span_of bytes at ∷ [] = spans-is ∙ ap (λ (f : Records). f.spans ++ record { at = at; len = head.size } ∷ []) fields-is ∙ ap (λ (h : Head). before.spans ++ record { at = at; len = h.size } ∷ []) head-is in
    λ i. record (same i) { spans = added i; last = at }

pub told_record : (told : Option (List ℕ)) (len at : ℕ) (head : Head) (before fields : Records) (spans : List Span)
    → at + 23 ≤ len → at + least_size head.kind ≤ len → spans ≡ fields.spans ++ record { at = at; len = head.size } ∷ []
    → IfSome told (λ bytes. len ≡ length bytes)
    → IfSome told (λ bytes. at + 23 ≤ length bytes → head ≡ head_of bytes at)
    → IfSome told (λ bytes. at + least_size head.kind ≤ length bytes → fields ≡ with_fields bytes at head.kind before)
    → IfSome told (λ bytes. record fields { spans = spans; last = at } ≡ with_record bytes at before)
told_record None len at head before fields spans inside whole added len-is head-is fields-is = tt
told_record (Some bytes) len at head before fields spans inside whole added len-is head-is fields-is =
    stepped bytes at head before fields spans (head-is (subst (λ (n : ℕ). at + 23 ≤ n) len-is inside)) (fields-is (subst (λ (n : ℕ). at + least_size head.kind ≤ n) len-is whole)) added

-- there is a map exactly where a record is one
pub mapped_places : (bytes places : List ℕ) → is_some (records_of bytes places).map ≡ is_some (first_of_kind bytes 1 places)
unfolding records_of
mapped_places bytes places = is_some-map _ (first_of_kind bytes 1 places)
