-- The fixed part of a file, as its tests compute it and in words.
use Rattle.std.proofs.Common.{◌≡◌, ℕ, ◌*◌, ◌≤◌, Bool, true, false, cond, ◌&&◌, List, length, take, Option, Some, None, Result, Ok, Err, refl, sym, ap, ◌∙◌, subst}
use Rattle.std.specs.Prelude.{◌==◌, nat_le, is_some, not, IfOk}
use Rattle.std.proofs.lemmas.Bool.{eqb-true, eq-eqb}
use Rattle.inc_bytes.specs.Tests.{first_failing, judge}
use Rattle.inc_bytes.proofs.Judging.{judged_ok, passed}
use Rattle.inc_tree.specs.shape.Geometry.{hash_blocks}
use Rattle.inc_tree.specs.shape.Limits.{most_size}
use Rattle.inc_header.specs.Header.{header_of, place_of}
use Rattle.inc_header.specs.declared.header.Header.{Header}
use Rattle.inc_header.specs.declared.header.HeaderFault.{HeaderFault}
use Rattle.inc_header.specs.declared.header.HeaderKind.{HeaderKind}
use Rattle.inc_header.specs.declared.header.HeaderKind.TheVariants as kind
use Rattle.inc_md.specs.Chain.{chain_of, first_of_kind, records_of, records_if_mapped}
use Rattle.inc_md.specs.Outcome.{IsChain}
use Rattle.inc_md.specs.declared.fault.ChainFault.{ChainFault}
use Rattle.inc_md.specs.declared.fault.ChainFault.TheVariants.{NoMap}
use Rattle.inc_md.specs.declared.records.Records.{Records}
use Rattle.inc_md.specs.declared.records.SigRecord.{SigRecord}
use Rattle.inc_md.proofs.ChainLaws.{follow_places}
use Rattle.inc_md.proofs.ChainSaid.{chain_said}
use Rattle.inc_md.proofs.Stepping.{mapped_places}
use Rattle.inc_signature.specs.Signature.{signature_of}
use Rattle.inc_signature.specs.declared.signature.SigFault.{SigFault}
use Rattle.inc_signature.specs.declared.signature.SigInfo.{SigInfo}
use Rattle.inc_entry.specs.Entry.{Places, areas_of, block_bytes, entries, map_span, tree_span}
use Rattle.inc_entry.specs.Spans.{AreApart, IsInside, are_apart, is_inside}
use Rattle.inc_entry.proofs.SpanLemmas.{apart_means, means_apart, inside_means, means_inside}
use Rattle.inc_layout.specs.opening.Faults.{told_header, told_sig}
use Rattle.inc_layout.specs.fixed.Fixed.{Fixed, IsFixed, IsHeaderOf, IsSigned, area_tests, blob_in, blob_span, blob_span_tests, fixed_from, fixed_of, front_of, hash_size, if_passed, map_count, most_blob, most_length, needs_map, places_in, plain_kind, plain_of, sig_in, tests_with, with_chain, with_front, with_plain, with_sig}
use Rattle.inc_layout.specs.declared.fault.LayoutFault.{LayoutFault}
use Rattle.inc_layout.specs.declared.fault.LayoutFault.TheVariants.{TooLarge, TooLong}
use Rattle.inc_layout.proofs.BoolLemmas.{is_le, le_true}

-- ---- from the tests to the words

-- what is known once the header was read
record HasHeader (bytes : List ℕ) (header : Header) (first : ℕ) : Type 0 where
  front : IsHeaderOf bytes header
  plain : header.kind ≡ kind.Plain first
  small : header.size ≤ most_size

-- and the chain
record HasChain (bytes : List ℕ) (header : Header) (first : ℕ) (records : Records) : Type 0 where
  front : HasHeader bytes header first
  chain : IsChain bytes (length bytes) first (needs_map header) records

-- the tests of the blob's place
record HasBlob (len : ℕ) (signature : SigRecord) : Type 0 where
  blob_short : signature.sig_size ≤ most_blob
  blob_inside : IsInside len (blob_span signature)

pub record HasAreas (len : ℕ) (places : Places) (count tree_size : ℕ) : Type 0 where
  pub map_counted : count ≡ entries places
  pub map_inside : IsInside len (map_span places)
  pub tree_sized : tree_size ≡ block_bytes * hash_blocks places.shape
  pub tree_inside : IsInside len (tree_span places)
  pub all_apart : AreApart (areas_of places)

blob_from : (len : ℕ) (signature : SigRecord) → first_failing (blob_span_tests len signature) ≡ None → HasBlob len signature
unfolding blob_span_tests
blob_from len signature none =
    let one = passed (nat_le signature.sig_size most_blob) _ _ none in
    let two = passed (is_inside len (blob_span signature)) _ _ one.1 in
    record { blob_short = le_true _ _ one.0; blob_inside = inside_means len (blob_span signature) two.0 }

pub areas_from : (len : ℕ) (places : Places) (count tree_size : ℕ) → first_failing (area_tests len places count tree_size) ≡ None → HasAreas len places count tree_size
unfolding area_tests
areas_from len places count tree_size none =
    let one = passed (count == entries places) _ _ none in
    let two = passed (is_inside len (map_span places)) _ _ one.1 in
    let three = passed (tree_size == block_bytes * hash_blocks places.shape) _ _ two.1 in
    let four = passed (is_inside len (tree_span places)) _ _ three.1 in
    let five = passed (are_apart (areas_of places)) _ _ four.1 in
    record {
      map_counted = eqb-true _ _ one.0;
      map_inside = inside_means len (map_span places) two.0;
      tree_sized = eqb-true _ _ three.0;
      tree_inside = inside_means len (tree_span places) four.0;
      all_apart = apart_means (areas_of places) five.0;
    }

built : (bytes : List ℕ) (header : Header) (first : ℕ) (records : Records) (sig : Option SigInfo) → HasChain bytes header first records → IsSigned bytes records.signature sig
    → HasAreas (length bytes) (places_in header.size records) (map_count records.map) (hash_size records.signature) → IsFixed bytes (fixed_from header records sig)
built bytes header first records sig c signed a = record {
  first = first;
  front = c.front.front;
  plain = c.front.plain;
  small = c.front.small;
  chain = c.chain;
  signed = signed;
  placed = refl;
  map_counted = a.map_counted;
  map_inside = a.map_inside;
  tree_sized = a.tree_sized;
  tree_inside = a.tree_inside;
  all_apart = a.all_apart;
}

-- the signature that was found is that of the record
signed_blob : (bytes : List ℕ) (signature : SigRecord) (sig : Option SigInfo) → HasBlob (length bytes) signature
    → (read : Result SigInfo SigFault) → signature_of (blob_in bytes signature) ≡ read → told_sig read ≡ Ok sig → IsSigned bytes (Some signature) sig
signed_blob bytes signature sig b (Ok found) is e =
    let same : Some found ≡ sig = cc in
    subst (λ (s : Option SigInfo). IsSigned bytes (Some signature) s) same (record { short = b.blob_short; inside = b.blob_inside; spelled = is })
signed_blob bytes signature sig b (Err fault) is e = absurd cc

signed_tests : (bytes : List ℕ) (signature : SigRecord) (sig : Option SigInfo) → (failing : Option LayoutFault) → first_failing (blob_span_tests (length bytes) signature) ≡ failing
    → if_passed failing (told_sig (signature_of (blob_in bytes signature))) ≡ Ok sig → IsSigned bytes (Some signature) sig
signed_tests bytes signature sig None none e = signed_blob bytes signature sig (blob_from _ _ none) _ refl e
signed_tests bytes signature sig (Some fault) fails e = absurd cc

pub signed_from : (bytes : List ℕ) (signature : Option SigRecord) (sig : Option SigInfo) → sig_in bytes signature ≡ Ok sig → IsSigned bytes signature sig
signed_from bytes None sig e = let same : None ≡ sig = cc in subst (λ (s : Option SigInfo). IsSigned bytes None s) same tt
signed_from bytes (Some signature) sig e = signed_tests bytes signature sig _ refl e

from_sig : (bytes : List ℕ) (header : Header) (first : ℕ) (records : Records) (fixed : Fixed) → HasChain bytes header first records
    → (found : Result (Option SigInfo) LayoutFault) → sig_in bytes records.signature ≡ found → with_sig (length bytes) header records found ≡ Ok fixed → IsFixed bytes fixed
from_sig bytes header first records fixed c (Ok sig) is e =
    let j = judged_ok _ _ fixed e in
    subst (λ (f : Fixed). IsFixed bytes f) j.1 (built bytes header first records sig c (signed_from bytes records.signature sig is) (areas_from _ _ _ _ j.0))
from_sig bytes header first records fixed c (Err fault) is e = absurd cc

from_chain : (bytes : List ℕ) (header : Header) (first : ℕ) (fixed : Fixed) → HasHeader bytes header first
    → (found : Result Records ChainFault) → IfOk found (λ records. IsChain bytes (length bytes) first (needs_map header) records)
    → with_chain bytes header found ≡ Ok fixed → IsFixed bytes fixed
from_chain bytes header first fixed h (Ok records) is e = from_sig bytes header first records fixed (record { front = h; chain = is }) _ refl e
from_chain bytes header first fixed h (Err fault) is e = absurd cc

from_header : (bytes : List ℕ) (header : Header) (first : ℕ) (fixed : Fixed) → HasHeader bytes header first
    → with_chain bytes header (chain_of bytes (length bytes) (place_of header.kind) (needs_map header)) ≡ Ok fixed → IsFixed bytes fixed
from_header bytes header first fixed h e =
    let at : place_of header.kind ≡ first = ap place_of h.plain in
    from_chain bytes header first fixed h (chain_of bytes (length bytes) first (needs_map header)) (chain_said bytes (length bytes) first (needs_map header))
    (rw at at e)

from_size : (bytes : List ℕ) (header : Header) (first : ℕ) (fixed : Fixed) → IsHeaderOf bytes header → header.kind ≡ kind.Plain first
    → (small : Bool) → nat_le header.size most_size ≡ small → with_plain bytes (cond small (Ok header) (Err TooLarge)) ≡ Ok fixed → IsFixed bytes fixed
from_size bytes header first fixed front plain true small e = from_header bytes header first fixed (record { front = front; plain = plain; small = le_true _ _ small }) e
from_size bytes header first fixed front plain false small e = absurd cc

from_kind : (bytes : List ℕ) (header : Header) (fixed : Fixed) → IsHeaderOf bytes header
    → (k : HeaderKind) → header.kind ≡ k → with_plain bytes (plain_kind header k) ≡ Ok fixed → IsFixed bytes fixed
from_kind bytes header fixed front (kind.Plain first) k e = from_size bytes header first fixed front k _ refl e
from_kind bytes header fixed front (kind.Mapped offset) k e = absurd cc

-- what is read of the front stands
header_front : (bytes : List ℕ) (header : Header) → length bytes ≤ most_length → (read : Result Header HeaderFault) → header_of (take 56 bytes) ≡ read → told_header read ≡ Ok header → IsHeaderOf bytes header
header_front bytes header le (Ok found) is e = let same : found ≡ header = cc in subst (λ (h : Header). IsHeaderOf bytes h) same (record { short = le; header_is = is })
header_front bytes header le (Err fault) is e = absurd cc

length_front : (bytes : List ℕ) (header : Header) → (short : Bool) → nat_le (length bytes) most_length ≡ short → cond short (told_header (header_of (take 56 bytes))) (Err TooLong) ≡ Ok header → IsHeaderOf bytes header
length_front bytes header true is e = header_front bytes header (le_true _ _ is) _ refl e
length_front bytes header false is e = absurd cc

pub front_stands : (bytes : List ℕ) (header : Header) → front_of bytes ≡ Ok header → IsHeaderOf bytes header
unfolding front_of
front_stands bytes header e = length_front bytes header _ refl e

from_front : (bytes : List ℕ) (fixed : Fixed) → (read : Result Header LayoutFault) → front_of bytes ≡ read → with_front bytes read ≡ Ok fixed → IsFixed bytes fixed
unfolding plain_of
from_front bytes fixed (Ok header) is e = from_kind bytes header fixed (front_stands bytes header is) _ refl e
from_front bytes fixed (Err fault) is e = absurd cc

-- what the tests find stands
pub fixed_stands : (bytes : List ℕ) (fixed : Fixed) → fixed_of bytes ≡ Ok fixed → IsFixed bytes fixed
unfolding fixed_of
fixed_stands bytes fixed e = from_front bytes fixed _ refl e

-- ---- from the words to the tests

chain_from : (bytes : List ℕ) (len first : ℕ) (needs : Bool) (records : Records) → IsChain bytes len first needs records → chain_of bytes len first needs ≡ Ok records
unfolding chain_of
chain_from bytes len first needs records c =
    ap (records_if_mapped bytes needs) (follow_places bytes len first c.places c.whole) ∙ ended needs (is_some (first_of_kind bytes 1 c.places)) mapped ∙ ap (λ (r : Records). Ok r) (sym c.said)
  where
    ended : (need has : Bool) → (need ≡ true → has ≡ true) → cond (need && not has) (Err NoMap) (Ok (records_of bytes c.places)) ≡ Ok (records_of bytes c.places)
    ended true true h = refl
    ended true false h = absurd (let e : false ≡ true = h refl in cc)
    ended false has h = refl

    mapped : needs ≡ true → is_some (first_of_kind bytes 1 c.places) ≡ true
    mapped e = sym (mapped_places bytes c.places) ∙ ap (λ (r : Records). is_some r.map) (sym c.said) ∙ c.mapped e

blob_to : (len : ℕ) (signature : SigRecord) → HasBlob len signature → first_failing (blob_span_tests len signature) ≡ None
unfolding blob_span_tests
blob_to len signature b = rw (is_le _ _ b.blob_short, means_inside len (blob_span signature) b.blob_inside) refl

signed_to : (bytes : List ℕ) (signature : Option SigRecord) (sig : Option SigInfo) → IsSigned bytes signature sig → sig_in bytes signature ≡ Ok sig
signed_to bytes None None s = refl
signed_to bytes None (Some sig) s = absurd s
signed_to bytes (Some signature) None s = absurd s
signed_to bytes (Some signature) (Some sig) s =
    let passes : first_failing (blob_span_tests (length bytes) signature) ≡ None = blob_to (length bytes) signature (record { blob_short = s.short; blob_inside = s.inside }) in
    ap (λ (failing : Option LayoutFault). if_passed failing (told_sig (signature_of (blob_in bytes signature)))) passes ∙ ap told_sig s.spelled

areas_to : (len : ℕ) (places : Places) (count tree_size : ℕ) → HasAreas len places count tree_size → first_failing (area_tests len places count tree_size) ≡ None
unfolding area_tests
areas_to len places count tree_size a =
    rw (eq-eqb _ _ a.map_counted, means_inside len (map_span places) a.map_inside, eq-eqb _ _ a.tree_sized, means_inside len (tree_span places) a.tree_inside, means_apart (areas_of places) a.all_apart) refl

pub stands_front : (bytes : List ℕ) (header : Header) → IsHeaderOf bytes header → front_of bytes ≡ Ok header
unfolding front_of
stands_front bytes header f = rw (is_le _ _ f.short, f.header_is) refl

plain_to : (header : Header) (first : ℕ) → header.kind ≡ kind.Plain first → header.size ≤ most_size → plain_of header ≡ Ok header
unfolding plain_of
plain_to header first plain small = rw (plain, is_le _ _ small) refl

-- what stands is what the tests find
pub stands_fixed : (bytes : List ℕ) (fixed : Fixed) → IsFixed bytes fixed → fixed_of bytes ≡ Ok fixed
unfolding fixed_of
stands_fixed bytes fixed f =
    let at : place_of fixed.header.kind ≡ f.first = ap place_of f.plain in
    let chain : chain_of bytes (length bytes) (place_of fixed.header.kind) (needs_map fixed.header) ≡ Ok fixed.records
    = ap (λ (n : ℕ). chain_of bytes (length bytes) n (needs_map fixed.header)) at ∙ chain_from bytes (length bytes) f.first (needs_map fixed.header) fixed.records f.chain in
    let told : HasAreas (length bytes) fixed.places (map_count fixed.records.map) (hash_size fixed.records.signature)
    = record { map_counted = f.map_counted; map_inside = f.map_inside; tree_sized = f.tree_sized; tree_inside = f.tree_inside; all_apart = f.all_apart } in
    let areas : first_failing (tests_with (length bytes) fixed.header fixed.records) ≡ None
    = ap (λ (p : Places). first_failing (area_tests (length bytes) p (map_count fixed.records.map) (hash_size fixed.records.signature))) (sym f.placed) ∙ areas_to _ _ _ _ told in
    let same : fixed_from fixed.header fixed.records fixed.sig ≡ fixed = λ i. record { header = fixed.header; records = fixed.records; sig = fixed.sig; places = sym f.placed i } in
    ap (with_front bytes) (stands_front bytes fixed.header f.front)
    ∙ ap (with_plain bytes) (plain_to fixed.header f.first f.plain f.small)
    ∙ ap (with_chain bytes fixed.header) chain
    ∙ ap (with_sig (length bytes) fixed.header fixed.records) (signed_to bytes fixed.records.signature fixed.sig f.signed)
    ∙ ap (λ (failing : Option LayoutFault). judge failing (fixed_from fixed.header fixed.records fixed.sig)) areas
    ∙ ap (λ (x : Fixed). Ok x) same
