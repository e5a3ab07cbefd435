-- Of a fixed part that stands, all areas are inside the file and apart.
use Rattle.std.proofs.Common.{◌≡◌, ℕ, ◌≤◌, true, List, [], ◌∷◌, length, take, Option, Some, None, Ok, refl, sym, subst, arith, length-take}
use Rattle.std.specs.Prelude.{All, nat_le, not}
use Rattle.std.proofs.lemmas.Bool.{and_parts, leb-true}
use Rattle.std.proofs.lemmas.List.Elements.{All-nil, All-cons, All-append}
use Rattle.inc_bytes.proofs.Judging.{judged_ok, passed}
use Rattle.inc_bytes.specs.Tests.{first_failing}
use Rattle.inc_bytes.specs.declared.span.Span.{Span}
use Rattle.inc_header.specs.Header.{header_in, header_of, header_tests}
use Rattle.inc_header.specs.declared.header.Header.{Header}
use Rattle.inc_md.specs.declared.records.SigRecord.{SigRecord}
use Rattle.inc_signature.specs.declared.signature.SigInfo.{SigInfo}
use Rattle.inc_entry.specs.Entry.{Places, areas_of, map_span, tree_span}
use Rattle.inc_entry.specs.Keeps.{IsLayout}
use Rattle.inc_entry.specs.Spans.{IsInside, in_spans}
use Rattle.inc_md.specs.Staying.{in_counts}
use Rattle.inc_layout.specs.fixed.Fixed.{Fixed, IsFixed, IsSigned, blob_span, blob_spans, header_span}
use Rattle.inc_layout.specs.fixed.SameFixed.{is_fixed_byte}
use Rattle.inc_layout.proofs.fixed_part.RecordsInside.{spans_inside}

header_there : (bytes : List ℕ) (header : Header) → header_of (take 56 bytes) ≡ Ok header → 56 ≤ length bytes
unfolding header_of header_tests
header_there bytes header e =
    let none = (judged_ok (first_failing (header_tests (take 56 bytes))) (header_in (take 56 bytes)) header e).0 in
    omega (arith, leb-true 56 (length (take 56 bytes)) (passed (nat_le 56 (length (take 56 bytes))) _ _ none).0, length-take 56 bytes)

one : (len : ℕ) (span : Span) → IsInside len span → All (IsInside len) (span ∷ [])
one len span inside = All-cons (IsInside len) span [] inside (All-nil (IsInside len))

blob_inside : (bytes : List ℕ) (signature : Option SigRecord) (sig : Option SigInfo) → IsSigned bytes signature sig → All (IsInside (length bytes)) (blob_spans signature)
blob_inside bytes None sig signed = All-nil (IsInside (length bytes))
blob_inside bytes (Some signature) None signed = absurd signed
blob_inside bytes (Some signature) (Some sig) signed = one (length bytes) (blob_span signature) signed.inside

spans_inside_file : (bytes : List ℕ) (fixed : Fixed) → IsFixed bytes fixed → All (IsInside (length bytes)) fixed.places.spans
spans_inside_file bytes fixed stands =
    let front : IsInside (length bytes) header_span = λ some. header_there bytes fixed.header stands.front.header_is in
    let before = All-cons (IsInside (length bytes)) header_span fixed.records.spans front (spans_inside bytes (length bytes) stands.first _ fixed.records stands.chain) in
    let all = All-append (IsInside (length bytes)) (header_span ∷ fixed.records.spans) (blob_spans fixed.records.signature) before (blob_inside bytes fixed.records.signature fixed.sig stands.signed) in
    subst (λ (p : Places). All (IsInside (length bytes)) p.spans) (sym stands.placed) all

areas_inside : (bytes : List ℕ) (fixed : Fixed) → IsFixed bytes fixed → All (IsInside (length bytes)) (areas_of fixed.places)
areas_inside bytes fixed stands =
    All-append (IsInside (length bytes)) fixed.places.spans (map_span fixed.places ∷ tree_span fixed.places ∷ []) (spans_inside_file bytes fixed stands)
    (All-cons (IsInside (length bytes)) (map_span fixed.places) (tree_span fixed.places ∷ []) stands.map_inside (one (length bytes) (tree_span fixed.places) stands.tree_inside))

pub layout_stands : (bytes : List ℕ) (fixed : Fixed) → IsFixed bytes fixed → IsLayout fixed.places (is_fixed_byte fixed) (length bytes)
layout_stands bytes fixed stands = record {
  inside = areas_inside bytes fixed stands;
  all_apart = stands.all_apart;
  header = subst (λ (p : Places). in_spans p.spans 0 ≡ true) (sym stands.placed) refl;
  fixed_in = λ j here. (and_parts (in_spans fixed.places.spans j) (not (in_counts fixed.records.status j)) here).0;
}
