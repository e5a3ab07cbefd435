-- A file whose status record has other counts is the same file but for them.
use Rattle.std.proofs.Common.{◌≡◌, inl, inr, ℕ, ◌+◌, ◌<◌, ◌≤◌, ◌^◌, Bool, true, false, ◌&&◌, ◌||◌, List, [], ◌∷◌, ◌++◌, length, take, drop, Option, Some, None, refl, sym, ◌∙◌, ap, subst, arith, append_assoc, length-append, length-take}
use Rattle.std.specs.Prelude.{nat_le, nat_lt, not, option_map, slice_index}
use Rattle.std.specs.List.{list_any}
use Rattle.std.proofs.lemmas.Bool.Decides.{nat_tests}
use Rattle.inc_bytes.specs.Fields.{field, le_bytes}
use Rattle.inc_bytes.specs.declared.span.Span.{Span}
use Rattle.inc_bytes.proofs.Numbers.{field-put, length-le_bytes}
use Rattle.inc_md.specs.Chain.{first_of_kind, records_of}
use Rattle.inc_md.specs.Outcome.{IsChain}
use Rattle.inc_md.specs.Record.{status_fields}
use Rattle.inc_md.specs.Staying.{IsSameChain, in_counts, in_span}
use Rattle.inc_md.specs.declared.records.Records.{Records}
use Rattle.inc_md.specs.declared.records.StatusRecord.{StatusRecord}
use Rattle.inc_md.proofs.SameChain.{HasCounts, HasSpan, counts_within}
use Rattle.inc_entry.specs.Entry.{Places, class_of, entries, entry_at, entry_from, past_end}
use Rattle.inc_entry.specs.declared.classes.Class.{Class}
use Rattle.inc_entry.specs.declared.classes.Class.TheVariants.{OpenAt, Closed, Compressed, Damaged}
use Rattle.inc_disk.specs.Disk.{overwritten}
use Rattle.inc_entry.specs.Spans.{in_spans}
use Rattle.inc_entry.specs.Stored.{class_at, digest_of, is_past, stored_digest}
use Rattle.inc_layout.specs.Backing.{IsBackingFile, fixed_in}
use Rattle.inc_layout.specs.fixed.Fixed.{Fixed, IsFixed, blob_spans, header_span, needs_map}
use Rattle.inc_layout.specs.fixed.SameFixed.{IsSameFixed, is_fixed_byte}
use Rattle.inc_layout.specs.declared.opened.Opened.{Opened}
use Rattle.inc_entry.proofs.BlockLemmas.{open_inside}
use Rattle.inc_layout.proofs.fixed_part.LayoutMeaning.{layout_stands}
use Rattle.inc_layout.proofs.fixed_part.SameFixedLemmas.{fixed_stays}
use Rattle.inc_fill.specs.Steps.{count_bytes}
use Rattle.inc_fill.proofs.Areas.{block_or_spans, in_map, spans_inside, spans_or_map}
use Rattle.inc_fill.proofs.Classes.{open_parts}
use Rattle.inc_fill.proofs.Entries.{same_digest, same_entry}
use Rattle.inc_recover.specs.Mounting.{counted, open_data, open_hash, records_with, status_with}

-- ---- where the counts lie

counts_mean : (status : StatusRecord) (j : ℕ) → in_counts (Some status) j ≡ true → (status.at ≤ j) × (j < status.at + 8)
counts_mean status j e = grind (arith, nat_tests)

span_has : (at j : ℕ) (span : Span) → HasCounts at span → at ≤ j → j < at + 8 → in_span j span ≡ true
span_has at j span has ge lt = let begins = has.begins in let ends = has.ends in within span.at span.len j (omega arith) (omega arith)
  where
    within : (from len place : ℕ) → from ≤ place → place < from + len → (nat_le from place && nat_lt place (from + len)) ≡ true
    within from len place ge lt = grind (arith, nat_tests)

or_here : (a b : Bool) → a ≡ true → (a || b) ≡ true
or_here a b e = ap (λ x. x || b) e

or_later : (a b : Bool) → b ≡ true → (a || b) ≡ true
or_later true b e = refl
or_later false b e = e

spans_have : (at j : ℕ) (spans more : List Span) → HasSpan (HasCounts at) spans → at ≤ j → j < at + 8 → list_any (in_span j) (spans ++ more) ≡ true
spans_have at j [] more has ge lt = absurd has
spans_have at j (span ∷ spans) more (inl here) ge lt = or_here (in_span j span) _ (span_has at j span here ge lt)
spans_have at j (span ∷ spans) more (inr later) ge lt = or_later (in_span j span) _ (spans_have at j spans more later ge lt)

-- the counts lie in a record
counts_in_spans : (bytes : List ℕ) (fixed : Fixed) (j : ℕ) → IsFixed bytes fixed → (status : Option StatusRecord) → fixed.records.status ≡ status → in_counts status j ≡ true → in_spans fixed.places.spans j ≡ true
counts_in_spans bytes fixed j stands None e here = absurd cc
counts_in_spans bytes fixed j stands (Some status) e here =
    let has = counts_within bytes (length bytes) stands.first (needs_map fixed.header) fixed.records status stands.chain e in
    let means = counts_mean status j here in
    let among = or_later (in_span j header_span) _ (spans_have status.at j fixed.records.spans (blob_spans fixed.records.signature) has means.0 means.1) in
    subst (λ (places : Places). in_spans places.spans j ≡ true) (sym stands.placed) among

-- so they are inside the file
pub counts_inside : (bytes : List ℕ) (fixed : Fixed) (status : StatusRecord) → IsFixed bytes fixed → fixed.records.status ≡ Some status → status.at + 8 ≤ length bytes
counts_inside bytes fixed status stands is =
    let last : in_counts (Some status) (status.at + 7) ≡ true = within status.at in
    let there = spans_inside fixed.places (is_fixed_byte fixed) (length bytes) (status.at + 7) (layout_stands bytes fixed stands) (counts_in_spans bytes fixed (status.at + 7) stands (Some status) is last) in
    omega (arith, there)
  where
    within : (at : ℕ) → (nat_le at (at + 7) && nat_lt (at + 7) (at + 8)) ≡ true
    within at = grind (arith, nat_tests)

-- ---- the bytes that a file of other counts keeps

abbrev pub OthersSame : Option StatusRecord → List ℕ → List ℕ → Type 0
OthersSame status bytes other = (j : ℕ) → in_counts status j ≡ false → slice_index other j ≡ slice_index bytes j

by_cases : (b : Bool) → (b ≡ true → ⊥) → b ≡ false
by_cases true never = absurd (never refl)
by_cases false never = refl

both_parts : (a b : Bool) → (a && not b) ≡ true → b ≡ false
both_parts a b e = grind arith

-- an entry has none of the counts
spares_entry : (bytes : List ℕ) (fixed : Fixed) (i k : ℕ) → IsFixed bytes fixed → i < entries fixed.places → k < 10 → in_counts fixed.records.status (entry_at fixed.places i + k) ≡ false
spares_entry bytes fixed i k stands lt small = by_cases _ (λ here.
    spans_or_map fixed.places (is_fixed_byte fixed) (length bytes) (entry_at fixed.places i + k) (layout_stands bytes fixed stands)
    (counts_in_spans bytes fixed (entry_at fixed.places i + k) stands fixed.records.status refl here) (in_map fixed.places i k lt small))

entry_same : (bytes other : List ℕ) (fixed : Fixed) (i : ℕ) → IsFixed bytes fixed → OthersSame fixed.records.status bytes other → i < entries fixed.places
    → entry_from other (entry_at fixed.places i) ≡ entry_from bytes (entry_at fixed.places i)
entry_same bytes other fixed i stands same lt =
    same_entry other bytes (entry_at fixed.places i) (λ k small. same (entry_at fixed.places i + k) (spares_entry bytes fixed i k stands lt small))

-- nor has an open block
digest_same : (bytes other : List ℕ) (fixed : Fixed) (i : ℕ) (class : Class) → IsFixed bytes fixed → OthersSame fixed.records.status bytes other → length other ≡ length bytes → i < entries fixed.places
    → class_at fixed.places bytes i ≡ class → digest_of fixed.places other i class ≡ digest_of fixed.places bytes i class
digest_same bytes other fixed i (OpenAt place size) stands same len lt is =
    let parts = open_parts fixed.places (length bytes) i (entry_from bytes (entry_at fixed.places i)) place size is in
    let inside = open_inside fixed.places bytes i place size is in
    let least = parts.least in
    ap Some (same_digest fixed.places other bytes i place (omega arith) inside (λ k small. same (place + k) (by_cases _ (λ here.
    block_or_spans fixed.places (is_fixed_byte fixed) (length bytes) i place size k (layout_stands bytes fixed stands) lt parts.most parts.here (omega arith)
    (counts_in_spans bytes fixed (place + k) stands fixed.records.status refl here)))))
digest_same bytes other fixed i Compressed stands same len lt is = refl
digest_same bytes other fixed i Damaged stands same len lt is = refl
digest_same bytes other fixed i Closed stands same len lt is = refl

-- ---- the other file

pub record StillStands (bytes other : List ℕ) (fixed : Fixed) : Type 0 where
  pub found : Fixed
  pub stands : IsFixed other found
  pub same : IsSameFixed fixed found
  pub class_is : (i : ℕ) → i < entries fixed.places → class_at fixed.places other i ≡ class_at fixed.places bytes i
  pub past_is : (i : ℕ) → i < entries fixed.places → is_past fixed.places other i ≡ is_past fixed.places bytes i
  pub digest_is : (i : ℕ) → i < entries fixed.places → stored_digest fixed.places other i ≡ stored_digest fixed.places bytes i

pub still_stands : (bytes other : List ℕ) (fixed : Fixed) → IsFixed bytes fixed → length other ≡ length bytes → OthersSame fixed.records.status bytes other → StillStands bytes other fixed
still_stands bytes other fixed stands len same =
    let short = stands.front.short in
    let has = fixed_stays bytes other fixed stands (λ j here. sym (same j (both_parts (in_spans fixed.places.spans j) (in_counts fixed.records.status j) here))) (omega arith) (omega arith) in
    record {
      found = has.found;
      stands = has.stands;
      same = has.same;
      class_is = class_is;
      past_is = λ i lt. (λ d. past_end fixed.places (len d) i (entry_same bytes other fixed i stands same lt d));
      digest_is = λ i lt. ap (digest_of fixed.places other i) (class_is i lt) ∙ digest_same bytes other fixed i (class_at fixed.places bytes i) stands same len lt refl;
    }
  where
    class_is : (i : ℕ) → i < entries fixed.places → class_at fixed.places other i ≡ class_at fixed.places bytes i
    class_is i lt = λ d. class_of fixed.places (len d) i (entry_same bytes other fixed i stands same lt d)

-- what an opened file tells it tells too, with the records of the other fixed part
abbrev pub reopened : Opened → Records → Opened
reopened opened records = record {
  header = opened.header;
  records = records;
  sig = opened.sig;
  areas = opened.areas;
  classes = opened.classes;
  digests = opened.digests;
  len = opened.len;
}

fixed_again : (fixed found : Fixed) → IsSameFixed fixed found → found ≡ record { header = fixed.header; records = found.records; sig = fixed.sig; places = fixed.places }
fixed_again fixed found same = λ d. record { header = same.header d; records = found.records; sig = same.sig d; places = same.places d }

pub opened_again : (bytes other : List ℕ) (opened : Opened) → IsBackingFile bytes opened → length other ≡ length bytes → (still : StillStands bytes other (fixed_in opened))
    → IsBackingFile other (reopened opened still.found.records)
opened_again bytes other opened stands len still = record {
  laid = record {
    fixed = subst (λ (fixed : Fixed). IsFixed other fixed) (fixed_again (fixed_in opened) still.found still.same) still.stands;
    len_is = stands.laid.len_is ∙ sym len;
    area_len = stands.laid.area_len ∙ sym len;
    none_past = λ i lt. still.past_is i lt ∙ stands.laid.none_past i lt;
    class_count = stands.laid.class_count;
    each_class = λ i lt. stands.laid.each_class i lt ∙ sym (still.class_is i lt);
  };
  digest_count = stands.digest_count;
  each_digest = λ i lt. stands.each_digest i lt ∙ sym (still.digest_is i lt);
}

-- ---- with counts that were written

abbrev status_in : List ℕ → Option ℕ → Option StatusRecord
status_in bytes found = option_map (λ place. status_fields bytes (place + 23)) found

status_from : (bytes : List ℕ) (s : Option ℕ) (status : StatusRecord) → status_in bytes s ≡ Some status → status ≡ status_fields bytes status.at
status_from bytes None status e = absurd cc
status_from bytes (Some s) status e =
    let is : status_fields bytes (s + 23) ≡ status = cc in
    sym is ∙ ap (λ (r : StatusRecord). status_fields bytes r.at) is

-- a status record tells what the file has at its place
status_read : (bytes : List ℕ) (len first : ℕ) (need : Bool) (records : Records) (status : StatusRecord) → IsChain bytes len first need records → records.status ≡ Some status
    → status ≡ status_fields bytes status.at
unfolding records_of
status_read bytes len first need records status chain is =
    status_from bytes (first_of_kind bytes 4 chain.places) status (sym (ap (λ (r : Records). r.status) chain.said) ∙ is)

append_parts : (a b c d : List ℕ) → (a ++ (b ++ c)) ++ d ≡ a ++ (b ++ (c ++ d))
append_parts a b c d = append_assoc a (b ++ c) d ∙ ap (λ (rest : List ℕ). a ++ rest) (append_assoc b c d)

counts_read : (at data_count hash_count : ℕ) (bytes : List ℕ) → at ≤ length bytes → data_count < 2 ^ 32 → hash_count < 2 ^ 32
    → status_fields (overwritten at (count_bytes data_count hash_count) bytes) at ≡ record { at = at; data_written = data_count; hash_written = hash_count }
counts_read at data_count hash_count bytes le data_small hash_small =
    let rest : List ℕ = drop (at + length (count_bytes data_count hash_count)) bytes in
    let front : length (take at bytes) ≡ at = omega (arith, length-take at bytes) in
    let all : overwritten at (count_bytes data_count hash_count) bytes ≡ take at bytes ++ (le_bytes 4 data_count ++ (le_bytes 4 hash_count ++ rest)) = append_parts (take at bytes) (le_bytes 4 data_count) (le_bytes 4 hash_count) rest in
    let first : field 4 at (overwritten at (count_bytes data_count hash_count) bytes) ≡ data_count =
    ap (field 4 at) all ∙ field-put 4 data_count (take at bytes) (le_bytes 4 hash_count ++ rest) at front (omega arith) in
    let longer : length (take at bytes ++ le_bytes 4 data_count) ≡ at + 4 = omega (arith, length-append (take at bytes) (le_bytes 4 data_count), length-le_bytes 4 data_count, front) in
    let second : field 4 (at + 4) (overwritten at (count_bytes data_count hash_count) bytes) ≡ hash_count =
    ap (field 4 (at + 4)) (all ∙ sym (append_assoc (take at bytes) (le_bytes 4 data_count) (le_bytes 4 hash_count ++ rest)))
    ∙ field-put 4 hash_count (take at bytes ++ le_bytes 4 data_count) rest (at + 4) longer (omega arith) in
    λ d. record { at = at; data_written = first d; hash_written = second d }

some_at : (status : StatusRecord) (found : Option StatusRecord) → option_map (λ (s : StatusRecord). s.at) found ≡ option_map (λ (s : StatusRecord). s.at) (Some status) → (s : StatusRecord) × (found ≡ Some s) × (s.at ≡ status.at)
some_at status None e = absurd cc
some_at status (Some s) e = (s, refl, cc)

records_again : (records found : Records) (data_count hash_count : ℕ) (bytes : List ℕ) (len first : ℕ) (need : Bool) (status : StatusRecord) → IsChain bytes len first need found → IsSameChain records found
    → records.status ≡ Some status → status_fields bytes status.at ≡ record { at = status.at; data_written = data_count; hash_written = hash_count }
    → found ≡ records_with data_count hash_count records
records_again records found data_count hash_count bytes len first need status chain same is written =
    let has = some_at status found.status (same.status ∙ ap (option_map (λ (s : StatusRecord). s.at)) is) in
    let read : has.0 ≡ status_with data_count hash_count status = status_read bytes len first need found has.0 chain has.1 ∙ ap (status_fields bytes) has.2 ∙ written in
    let status_is : found.status ≡ option_map (status_with data_count hash_count) records.status =
    has.1 ∙ ap (λ (s : StatusRecord). Some s) read ∙ sym (ap (option_map (status_with data_count hash_count)) is) in
    λ d. record { map = same.map d; signature = same.signature d; status = status_is d; spans = same.spans d; last = same.last d }

pub counted_stands : (bytes : List ℕ) (opened : Opened) (status : StatusRecord) (other : List ℕ) → IsBackingFile bytes opened → length other ≡ length bytes → (still : StillStands bytes other (fixed_in opened))
    → opened.records.status ≡ Some status → open_data opened < 2 ^ 32 → open_hash opened < 2 ^ 32 → status.at ≤ length bytes → other ≡ overwritten status.at (count_bytes (open_data opened) (open_hash opened)) bytes
    → IsBackingFile other (counted opened)
counted_stands bytes opened status other stands len still is data_small hash_small le written =
    let read = ap (λ (b : List ℕ). status_fields b status.at) written ∙ counts_read status.at (open_data opened) (open_hash opened) bytes le data_small hash_small in
    let records = records_again opened.records still.found.records (open_data opened) (open_hash opened) other (length other) still.stands.first (needs_map still.found.header) status still.stands.chain still.same.records is read in
    subst (λ (r : Records). IsBackingFile other (reopened opened r)) records (opened_again bytes other opened stands len still)
