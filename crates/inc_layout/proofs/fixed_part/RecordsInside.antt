-- The records of a chain lie inside the file.
use Rattle.std.proofs.Common.{◌≡◌, ℕ, ◌+◌, ◌≤◌, Bool, List, [], ◌∷◌, ◌++◌, length, map, None, refl, sym, ◌∙◌, ap, subst}
use Rattle.std.specs.Prelude.{All, nat_le, is_some}
use Rattle.std.proofs.lemmas.Bool.{leb-true}
use Rattle.std.proofs.lemmas.List.Elements.{All-nil, All-cons}
use Rattle.inc_bytes.proofs.Judging.{passed, passed_both}
use Rattle.inc_bytes.specs.Tests.{first_failing}
use Rattle.inc_bytes.specs.declared.span.Span.{Span}
use Rattle.inc_md.specs.Chain.{Follow, first_of_kind, record_tests, records_of}
use Rattle.inc_md.specs.Outcome.{IsChain}
use Rattle.inc_md.specs.Record.{head_of, head_tests, place_tests, span_of}
use Rattle.inc_md.specs.declared.head.Head.{Head}
use Rattle.inc_md.specs.declared.records.Records.{Records}
use Rattle.inc_entry.specs.Spans.{IsInside}

head_ends : (mapped signed : Bool) (len at : ℕ) (head : Head) → first_failing (head_tests mapped signed len at head) ≡ None → at + head.size ≤ len
unfolding head_tests
head_ends mapped signed len at head e =
    let sized = passed _ _ _ e in
    leb-true (at + head.size) len (passed (nat_le (at + head.size) len) _ _ sized.1).0

record_ends : (bytes : List ℕ) (len : ℕ) (met : List ℕ) (at : ℕ) → first_failing (record_tests bytes len met at) ≡ None → at + (head_of bytes at).size ≤ len
record_ends bytes len met at e =
    head_ends (is_some (first_of_kind bytes 1 met)) (is_some (first_of_kind bytes 3 met)) len at (head_of bytes at)
    (passed_both (place_tests (length met) len at) (head_tests (is_some (first_of_kind bytes 1 met)) (is_some (first_of_kind bytes 3 met)) len at (head_of bytes at)) e).1

follow_inside : (bytes : List ℕ) (len : ℕ) (met : List ℕ) (at : ℕ) (places : List ℕ) (next : ℕ) → Follow bytes len met at places next → All (IsInside len) (map (span_of bytes) places)
follow_inside bytes len met at [] next follow = All-nil (IsInside len)
follow_inside bytes len met at (place ∷ places) next follow =
    All-cons (IsInside len) (span_of bytes place) (map (span_of bytes) places) (λ some. record_ends bytes len met place follow.2)
    (follow_inside bytes len (met ++ place ∷ []) (head_of bytes place).next places next follow.3)

spans_said : (bytes places : List ℕ) → (records_of bytes places).spans ≡ map (span_of bytes) places
unfolding records_of
spans_said bytes places = refl

pub spans_inside : (bytes : List ℕ) (len first : ℕ) (need : Bool) (records : Records) → IsChain bytes len first need records → All (IsInside len) records.spans
spans_inside bytes len first need records chain =
    let is : records.spans ≡ map (span_of bytes) chain.places = ap (λ (r : Records). r.spans) chain.said ∙ spans_said bytes chain.places in
    subst (λ (spans : List Span). All (IsInside len) spans) (sym is) (follow_inside bytes len [] first chain.places 0 chain.whole)
