-- A file that agrees with another on the bytes that its fixed part rests on, and is no shorter, has the same fixed part.
use Rattle.std.proofs.Common.{◌≡◌, ℕ, zero, suc, ◌+◌, ◌<◌, ◌≤◌, Bool, true, false, ◌&&◌, ◌||◌, List, [], ◌∷◌, ◌++◌, length, take, drop, Option, Some, None, Ok, inl, inr, refl, sym, ap, ◌∙◌, subst, arith, append_assoc}
use Rattle.std.specs.Prelude.{All, nat_le, not, slice_index}
use Rattle.std.specs.List.{list_any}
use Rattle.std.proofs.Math.Seq.{get_or-append_seam}
use Rattle.std.proofs.lemmas.Bool.Decides.{nat_tests}
use Rattle.std.proofs.lemmas.List.{length-append, length-take}
use Rattle.inc_bytes.specs.declared.span.Span.{Span}
use Rattle.inc_bytes.specs.Tests.{first_failing}
use Rattle.inc_bytes.proofs.Judging.{judged_ok, passed}
use Rattle.inc_header.specs.Header.{header_in, header_of, header_tests}
use Rattle.inc_header.specs.declared.header.Header.{Header}
use Rattle.inc_header.specs.declared.header.HeaderFault.TheVariants.{Short}
use Rattle.inc_md.specs.Outcome.{IsChain}
use Rattle.inc_md.specs.Staying.{HasSameChain, in_counts, in_span, is_chain_byte}
use Rattle.inc_md.specs.declared.records.Records.{Records}
use Rattle.inc_md.specs.declared.records.SigRecord.{SigRecord}
use Rattle.inc_md.specs.declared.records.StatusRecord.{StatusRecord}
use Rattle.inc_md.proofs.ChainLaws.{SameBytes, part_same}
use Rattle.inc_md.proofs.SameChain.{HasCounts, HasSpan, chain_stays, counts_within}
use Rattle.inc_signature.specs.Signature.{signature_of}
use Rattle.inc_signature.specs.declared.signature.SigInfo.{SigInfo}
use Rattle.inc_entry.specs.Spans.{AreApart, IsDisjoint, IsInside, in_spans}
use Rattle.inc_entry.specs.Entry.{Places, map_span, tree_span}
use Rattle.inc_layout.specs.fixed.Fixed.{Fixed, IsFixed, IsSigned, blob_span, blob_spans, hash_size, header_span, map_count, most_length, needs_map, places_in}
use Rattle.inc_entry.specs.Stored.{part}
use Rattle.inc_layout.specs.fixed.SameFixed.{AgreesOnFixed, HasSameFixed}
use Rattle.inc_layout.proofs.BoolLemmas.{le_true}

-- ---- spans apart from the counts

-- one of the spans has P, and Q as all of them
record HasBoth (P Q : Span → Type 0) : Type 0 where
  span : Span
  first : P span
  second : Q span

all_rest : (Q : Span → Type 0) (x : Span) (xs : List Span) → All Q (x ∷ xs) → All Q xs
all_rest Q x xs each k d lt = each (suc k) d (omega (arith, lt))

found_in : (P Q : Span → Type 0) (xs ys : List Span) → HasSpan P xs → All Q (xs ++ ys) → HasBoth P Q
found_in P Q [] ys has each = absurd has
found_in P Q (x ∷ xs) ys (inl here) each = record { span = x; first = here; second = each 0 x (omega arith) }
found_in P Q (x ∷ xs) ys (inr later) each = found_in P Q xs ys later (all_rest Q x (xs ++ ys) each)

-- a span behind them is apart from each of them
apart_in : (P : Span → Type 0) (xs : List Span) (y : Span) (ys : List Span) → HasSpan P xs → AreApart (xs ++ y ∷ ys) → HasBoth P (λ span. IsDisjoint y span.at span.len)
apart_in P [] y ys has apart = absurd has
apart_in P (x ∷ xs) y ys (inl here) apart =
    let lt : length xs < length (xs ++ y ∷ ys) = omega (arith, length-append xs (y ∷ ys)) in
    let at_seam = apart.0 (length xs) x lt in
    record { span = x; first = here; second = subst (λ (s : Span). IsDisjoint s x.at x.len) (get_or-append_seam xs y ys x) at_seam }
apart_in P (x ∷ xs) y ys (inr later) apart = apart_in P xs y ys later apart.1

in_counts_means : (status : StatusRecord) (j : ℕ) → in_counts (Some status) j ≡ true → (status.at ≤ j) × (j < status.at + 8)
in_counts_means status j e = grind (arith, nat_tests)

not_true : (b : Bool) → (b ≡ true → ⊥) → b ≡ false
not_true true never = absurd (never refl)
not_true false never = refl

-- no byte of the header is one of the counts
clear_header : (status : StatusRecord) (j : ℕ) → HasBoth (HasCounts status.at) (λ span. IsDisjoint span 0 56) → j < 56 → in_counts (Some status) j ≡ false
clear_header status j has lt = not_true (in_counts (Some status) j) (λ e.
    let counts = in_counts_means status j e in
    let begins = has.first.begins in
    let ends = has.first.ends in
    has.second j (omega (arith, counts.0, begins)) (omega (arith, counts.1, ends)) (omega arith) (omega arith))

-- and none of a span apart from the records
clear_blob : (blob : Span) (status : StatusRecord) (j : ℕ) → HasBoth (HasCounts status.at) (λ span. IsDisjoint blob span.at span.len)
    → blob.at ≤ j → j < blob.at + blob.len → in_counts (Some status) j ≡ false
clear_blob blob status j has ge lt = not_true (in_counts (Some status) j) (λ e.
    let counts = in_counts_means status j e in
    let begins = has.first.begins in
    let ends = has.first.ends in
    has.second j ge lt (omega (arith, counts.0, begins)) (omega (arith, counts.1, ends)))

-- ---- the bytes on which two files agree

both_true : (a b : Bool) → a ≡ true → b ≡ false → (a && not b) ≡ true
both_true a b e f = cc

or_second : (a b : Bool) → b ≡ true → (a || b) ≡ true
or_second true b e = refl
or_second false b e = e

or_first : (a b : Bool) → a ≡ true → (a || b) ≡ true
or_first a b e = ap (λ x. x || b) e

any_front : (p : Span → Bool) (xs ys : List Span) → list_any p xs ≡ true → list_any p (xs ++ ys) ≡ true
any_front p [] ys = λ e. absurd (cc)
any_front p (x ∷ xs) ys =
    elim (p x) as (λ b. p x ≡ b → (b || list_any p xs) ≡ true → (p x || list_any p (xs ++ ys)) ≡ true) [
      | true ↦ λ is e. or_first (p x) _ is
      | false ↦ λ is e. or_second (p x) _ (any_front p xs ys e)
    ] refl

any_last : (p : Span → Bool) (xs : List Span) (y : Span) → p y ≡ true → list_any p (xs ++ y ∷ []) ≡ true
any_last p [] y e = or_first (p y) false e
any_last p (x ∷ xs) y e = or_second (p x) _ (any_last p xs y e)

in_span_is : (j at len : ℕ) → at ≤ j → j < at + len → in_span j (record { at = at; len = len }) ≡ true
in_span_is j at len ge lt = grind (arith, nat_tests)

-- the records' spans and the blob's, behind the header's
abbrev spans_with : List Span → Option SigRecord → List Span
spans_with spans signature = header_span ∷ spans ++ blob_spans signature

abbrev SameHeader : List ℕ → List ℕ → Type 0
SameHeader a b = (j : ℕ) → j < 56 → slice_index a j ≡ slice_index b j

-- of a signed file
abbrev SameBlob : List ℕ → List ℕ → Option SigRecord → Type 0
SameBlob a b None = Unit {0}
SameBlob a b (Some signature) = SameBytes a b signature.sig_at signature.sig_size

-- the counts are no bytes of the blob
abbrev SparesBlob : Option StatusRecord → Option SigRecord → Type 0
SparesBlob status None = Unit {0}
SparesBlob status (Some signature) = (j : ℕ) → signature.sig_at ≤ j → j < signature.sig_at + signature.sig_size → in_counts status j ≡ false

abbrev AgreeOn : List ℕ → List ℕ → List Span → Option StatusRecord → Type 0
AgreeOn a b spans status = (j : ℕ) → (in_spans spans j && not (in_counts status j)) ≡ true → slice_index a j ≡ slice_index b j

header_agrees : (a b : List ℕ) (spans : List Span) (signature : Option SigRecord) (status : Option StatusRecord) → AgreeOn a b (spans_with spans signature) status
    → ((j : ℕ) → j < 56 → in_counts status j ≡ false) → SameHeader a b
header_agrees a b spans signature status agrees clear j lt =
    agrees j (both_true _ _ (or_first (in_span j header_span) _ (in_span_is j 0 56 (omega arith) (omega arith))) (clear j lt))

blob_agrees : (a b : List ℕ) (spans : List Span) (signature : Option SigRecord) (status : Option StatusRecord) → AgreeOn a b (spans_with spans signature) status → SparesBlob status signature → SameBlob a b signature
blob_agrees a b spans None status agrees clear = tt
blob_agrees a b spans (Some signature) status agrees clear = λ j lt.
    let here = in_span_is (signature.sig_at + j) signature.sig_at signature.sig_size (omega arith) (omega arith) in
    agrees (signature.sig_at + j) (both_true _ _ (or_second (in_span (signature.sig_at + j) header_span) _ (any_last (in_span (signature.sig_at + j)) spans (blob_span signature) here))
    (clear (signature.sig_at + j) (omega arith) (omega arith)))

chain_agrees : (a b : List ℕ) (records : Records) → AgreeOn a b (spans_with records.spans records.signature) records.status
    → (j : ℕ) → is_chain_byte records j ≡ true → slice_index a j ≡ slice_index b j
chain_agrees a b records agrees j e =
    agrees j (wider (list_any (in_span j) records.spans) _ _ (λ is. or_second (in_span j header_span) _ (any_front (in_span j) records.spans (blob_spans records.signature) is)) e)
  where
    wider : (x y z : Bool) → (x ≡ true → y ≡ true) → (x && z) ≡ true → (y && z) ≡ true
    wider true y z so e = ap (λ b. b && z) (so refl) ∙ e
    wider false y z so e = absurd (cc)

-- ---- the part of the other file

long_enough : (bytes : List ℕ) (header : Header) → header_of bytes ≡ Ok header → 56 ≤ length bytes
unfolding header_of header_tests
long_enough bytes header e =
    let none = judged_ok (first_failing (header_tests bytes)) (header_in bytes) header e in
    le_true 56 (length bytes) (passed (nat_le 56 (length bytes)) _ Short none.0).0

header_same : (a b : List ℕ) (header : Header) → header_of (take 56 a) ≡ Ok header → length a ≤ length b → SameHeader a b → header_of (take 56 b) ≡ Ok header
header_same a b header e le same =
    let long : 56 ≤ length (take 56 a) = long_enough (take 56 a) header e in
    let long_a : 56 ≤ length a = omega (arith, length-take 56 a, long) in
    let parts : take 56 (drop 0 a) ≡ take 56 (drop 0 b) = part_same a b 0 56 (omega arith) (omega arith) (λ j lt. ap (slice_index a) (zero_plus j) ∙ same j lt ∙ sym (ap (slice_index b) (zero_plus j))) in
    ap header_of (sym parts) ∙ e
  where
    zero_plus : (j : ℕ) → 0 + j ≡ j
    zero_plus j = omega arith

blob_part : (a b : List ℕ) (at len : ℕ) → (0 < len → at + len ≤ length a) → length a ≤ length b → SameBytes a b at len → part len at b ≡ part len at a
blob_part a b at zero inside le same = refl
blob_part a b at (suc n) inside le same =
    let ends = inside (omega arith) in
    sym (part_same a b at (suc n) ends (omega (arith, ends, le)) same)

longer_inside : (len more : ℕ) (span : Span) → len ≤ more → IsInside len span → IsInside more span
longer_inside len more span le inside some = let ends = inside some in omega (arith, ends, le)

signed_same : (a b : List ℕ) (signature : Option SigRecord) (sig : Option SigInfo) → length a ≤ length b → SameBlob a b signature → IsSigned a signature sig → IsSigned b signature sig
signed_same a b None None le same is = tt
signed_same a b None (Some sig) le same is = absurd is
signed_same a b (Some signature) None le same is = absurd is
signed_same a b (Some signature) (Some sig) le same is = record {
  short = is.short;
  inside = longer_inside (length a) (length b) (blob_span signature) le is.inside;
  spelled = ap signature_of (blob_part a b signature.sig_at signature.sig_size is.inside le same) ∙ is.spelled;
}

-- where the counts lie against header and blob
record SparesCounts (status : Option StatusRecord) (signature : Option SigRecord) : Type 0 where
  header : (j : ℕ) → j < 56 → in_counts status j ≡ false
  blob : SparesBlob status signature

none_spared : (signature : Option SigRecord) → SparesBlob None signature
none_spared None = tt
none_spared (Some signature) = λ j ge lt. refl

blob_spared : (status : StatusRecord) (spans : List Span) (signature : Option SigRecord) (more : List Span) → HasSpan (HasCounts status.at) spans → AreApart (spans ++ blob_spans signature ++ more)
    → SparesBlob (Some status) signature
blob_spared status spans None more has apart = tt
blob_spared status spans (Some signature) more has apart = λ j ge lt.
    let later : AreApart (spans ++ blob_span signature ∷ more) = subst (λ (xs : List Span). AreApart xs) (append_assoc spans (blob_span signature ∷ []) more) apart in
    clear_blob (blob_span signature) status j (apart_in (HasCounts status.at) spans (blob_span signature) more has later) ge lt

spares_counts : (bytes : List ℕ) (first : ℕ) (need_map : Bool) (records : Records) (more : List Span) → IsChain bytes (length bytes) first need_map records
    → AreApart (spans_with records.spans records.signature ++ more) → (status : Option StatusRecord) → records.status ≡ status → SparesCounts status records.signature
spares_counts bytes first need_map records more chain apart None e = record { header = λ j lt. refl; blob = none_spared records.signature }
spares_counts bytes first need_map records more chain apart (Some status) e =
    let has = counts_within bytes (length bytes) first need_map records status chain e in
    let joined : (records.spans ++ blob_spans records.signature) ++ more ≡ records.spans ++ (blob_spans records.signature ++ more) = append_assoc records.spans (blob_spans records.signature) more in
    let of_header : All (λ span. IsDisjoint span 0 56) (records.spans ++ (blob_spans records.signature ++ more)) = subst (λ (spans : List Span). All (λ span. IsDisjoint span 0 56) spans) joined apart.0 in
    record {
      header = λ j lt. clear_header status j (found_in (HasCounts status.at) (λ span. IsDisjoint span 0 56) records.spans (blob_spans records.signature ++ more) has of_header) lt;
      blob = blob_spared status records.spans records.signature more has apart.1;
    }

-- the fixed part that the other file's chain makes
abbrev with_records : Fixed → Records → Fixed
with_records fixed records = record { header = fixed.header; records = records; sig = fixed.sig; places = fixed.places }

places_too : (size : ℕ) (records other : Records) → other.map ≡ records.map → other.spans ≡ records.spans → other.signature ≡ records.signature → places_in size records ≡ places_in size other
places_too size records other map spans signature = cc

fixed_too : (a b : List ℕ) (fixed : Fixed) → (is : IsFixed a fixed) → length a ≤ length b → length b ≤ most_length → SameHeader a b → SameBlob a b fixed.records.signature
    → (has : HasSameChain b (length b) is.first (needs_map fixed.header) fixed.records) → HasSameFixed b fixed
fixed_too a b fixed is le short header blob has = record {
  found = with_records fixed has.found;
  stands = record {
    first = is.first;
    front = record { short = short; header_is = header_same a b fixed.header is.front.header_is le header };
    plain = is.plain;
    small = is.small;
    chain = has.chain;
    signed = subst (λ (s : Option SigRecord). IsSigned b s fixed.sig) (sym has.same.signature) (signed_same a b fixed.records.signature fixed.sig le blob is.signed);
    placed = is.placed ∙ places_too fixed.header.size fixed.records has.found has.same.map has.same.spans has.same.signature;
    map_counted = ap map_count has.same.map ∙ is.map_counted;
    map_inside = longer_inside (length a) (length b) (map_span fixed.places) le is.map_inside;
    tree_sized = ap hash_size has.same.signature ∙ is.tree_sized;
    tree_inside = longer_inside (length a) (length b) (tree_span fixed.places) le is.tree_inside;
    all_apart = is.all_apart;
  };
  same = record { header = refl; records = has.same; sig = refl; places = refl };
}

pub fixed_stays : (a b : List ℕ) (fixed : Fixed) → IsFixed a fixed → AgreesOnFixed fixed a b → length a ≤ length b → length b ≤ most_length → HasSameFixed b fixed
fixed_stays a b fixed is agrees le short =
    let records : Records = fixed.records in
    let spans_are : fixed.places.spans ≡ spans_with records.spans records.signature = ap (λ (places : Places). places.spans) is.placed in
    let agrees' = subst (λ (spans : List Span). AgreeOn a b spans records.status) spans_are agrees in
    let more = map_span fixed.places ∷ tree_span fixed.places ∷ [] in
    let apart : AreApart (spans_with records.spans records.signature ++ more) = subst (λ (spans : List Span). AreApart (spans ++ more)) spans_are is.all_apart in
    let spares = spares_counts a is.first (needs_map fixed.header) records more is.chain apart records.status refl in
    let has = chain_stays a b (length a) (length b) is.first (needs_map fixed.header) records le (omega arith) (omega arith) is.chain (chain_agrees a b records agrees') in
    fixed_too a b fixed is le short
    (header_agrees a b records.spans records.signature records.status agrees' spares.header)
    (blob_agrees a b records.spans records.signature records.status agrees' spares.blob)
    has
