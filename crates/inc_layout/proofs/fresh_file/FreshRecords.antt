-- The chain of a fresh file: three records, each naming the next, and what they say.
use Rattle.std.proofs.Common.{◌≡◌, ℕ, ◌+◌, ◌^◌, ◌<◌, ◌≤◌, Bool, true, false, cond, eqb, List, [], ◌∷◌, length, map, Some, None, refl, sym, ap, ◌∙◌, arith}
use Rattle.std.specs.Prelude.{is_some, option_map}
use Rattle.inc_bytes.specs.Fields.{le_bytes, field}
use Rattle.inc_bytes.specs.Tests.{first_failing}
use Rattle.inc_bytes.specs.declared.span.Span.{Span}
use Rattle.inc_bytes.proofs.Numbers.{le_number-le_bytes}
use Rattle.inc_md.specs.declared.head.Head.{Head}
use Rattle.inc_md.specs.declared.records.MapRecord.{MapRecord}
use Rattle.inc_md.specs.declared.records.SigRecord.{SigRecord}
use Rattle.inc_md.specs.declared.records.StatusRecord.{StatusRecord}
use Rattle.inc_md.specs.declared.records.Records.{Records}
use Rattle.inc_md.specs.Record.{head_of, map_fields, sig_fields, status_fields, span_of}
use Rattle.inc_md.specs.Chain.{first_of_kind, record_tests, records_of}
use Rattle.inc_md.specs.Outcome.{IsChain}
use Rattle.inc_md.proofs.ChainLaws.{Passes, whole}
use Rattle.inc_tree.specs.shape.Geometry.{Shape}
use Rattle.inc_layout.specs.Fresh.{blob_place, entry_count, map_place, map_record, second_record_place, signature_record, status_record, third_record_place, tree_bytes, tree_place}
use Rattle.inc_layout.proofs.fresh_file.FreshPieces.{map_record-length, signature_record-length, status_record-length}
use Rattle.inc_layout.proofs.fresh_file.FreshStands.{Pieces, field_there, head_there}

-- ---- what the records say

abbrev pub fresh_map : Shape → ℕ → MapRecord
fresh_map shape blob_size = record { base = map_place blob_size; count = entry_count shape }

abbrev pub fresh_signature : Shape → ℕ → SigRecord
fresh_signature shape blob_size = record { sig_size = blob_size; sig_at = blob_place; tree_size = tree_bytes shape; tree_at = tree_place shape blob_size }

abbrev pub fresh_status : StatusRecord
fresh_status = record { at = 161; data_written = 0; hash_written = 0 }

abbrev pub fresh_spans : List Span
fresh_spans = record { at = 56; len = 35 } ∷ record { at = second_record_place; len = 47 } ∷ record { at = third_record_place; len = 55 } ∷ []

abbrev pub fresh_records : Shape → ℕ → Records
fresh_records shape blob_size = record {
  map = Some (fresh_map shape blob_size);
  signature = Some (fresh_signature shape blob_size);
  status = Some fresh_status;
  spans = fresh_spans;
  last = third_record_place;
}

abbrev places : List ℕ
places = 56 ∷ second_record_place ∷ third_record_place ∷ []

-- the numbers of the records fit their fields
pub record Fitting (shape : Shape) (blob_size : ℕ) : Type 0 where
  pub blob : blob_size ≤ 8096
  pub count : entry_count shape < 2 ^ 32
  pub tree : tree_bytes shape < 2 ^ 32
  pub place : tree_place shape blob_size < 2 ^ 64

pub map_head : (base count : ℕ) → head_of (map_record base count) 0 ≡ record { kind = 1; size = 35; next = second_record_place }
unfolding head_of map_record le_bytes
map_head base count = refl

signature_head : (blob_size tree_size tree_at : ℕ) → head_of (signature_record blob_size tree_size tree_at) 0 ≡ record { kind = 3; size = 47; next = third_record_place }
unfolding head_of signature_record le_bytes
signature_head blob_size tree_size tree_at = refl

pub status_head : head_of status_record 0 ≡ record { kind = 4; size = 55; next = 0 }
unfolding head_of status_record le_bytes
status_head = refl

pub map_base : (base count : ℕ) → base < 2 ^ 64 → field 8 23 (map_record base count) ≡ base
unfolding map_record le_bytes
map_base base count lt = le_number-le_bytes 8 base lt

pub map_entries : (base count : ℕ) → count < 2 ^ 32 → field 4 31 (map_record base count) ≡ count
unfolding map_record le_bytes
map_entries base count lt = le_number-le_bytes 4 count lt

blob_size_in : (blob_size tree_size tree_at : ℕ) → blob_size < 2 ^ 32 → field 4 23 (signature_record blob_size tree_size tree_at) ≡ blob_size
unfolding signature_record le_bytes
blob_size_in blob_size tree_size tree_at lt = le_number-le_bytes 4 blob_size lt

blob_at_in : (blob_size tree_size tree_at : ℕ) → field 8 27 (signature_record blob_size tree_size tree_at) ≡ blob_place
unfolding signature_record le_bytes
blob_at_in blob_size tree_size tree_at = refl

tree_size_in : (blob_size tree_size tree_at : ℕ) → tree_size < 2 ^ 32 → field 4 35 (signature_record blob_size tree_size tree_at) ≡ tree_size
unfolding signature_record le_bytes
tree_size_in blob_size tree_size tree_at lt = le_number-le_bytes 4 tree_size lt

tree_at_in : (blob_size tree_size tree_at : ℕ) → tree_at < 2 ^ 64 → field 8 39 (signature_record blob_size tree_size tree_at) ≡ tree_at
unfolding signature_record le_bytes
tree_at_in blob_size tree_size tree_at lt = le_number-le_bytes 8 tree_at lt

pub status_data : field 4 23 status_record ≡ 0
unfolding status_record le_bytes
status_data = refl

pub status_hash : field 4 27 status_record ≡ 0
unfolding status_record le_bytes
status_hash = refl

-- ---- in the file

pub record Heads (bytes : List ℕ) : Type 0 where
  pub at_map : head_of bytes 56 ≡ record { kind = 1; size = 35; next = second_record_place }
  pub at_signature : head_of bytes second_record_place ≡ record { kind = 3; size = 47; next = third_record_place }
  pub at_status : head_of bytes third_record_place ≡ record { kind = 4; size = 55; next = 0 }

pub heads_of : (shape : Shape) (id blob bytes : List ℕ) → Pieces shape id blob bytes → Heads bytes
heads_of shape id blob bytes p =
    let M = map_record (map_place (length blob)) (entry_count shape) in
    let S = signature_record (length blob) (tree_bytes shape) (tree_place shape (length blob)) in
    let M-len = map_record-length (map_place (length blob)) (entry_count shape) in
    let S-len = signature_record-length (length blob) (tree_bytes shape) (tree_place shape (length blob)) in
    let T-len = status_record-length in
    record {
      at_map = head_there M bytes 56 p.map_there (omega (arith, M-len)) ∙ map_head (map_place (length blob)) (entry_count shape);
      at_signature = head_there S bytes second_record_place p.signature_there (omega (arith, S-len)) ∙ signature_head (length blob) (tree_bytes shape) (tree_place shape (length blob));
      at_status = head_there status_record bytes third_record_place p.status_there (omega (arith, T-len)) ∙ status_head;
    }

map_said : (shape : Shape) (id blob bytes : List ℕ) → Pieces shape id blob bytes → Fitting shape (length blob) → map_fields bytes 79 ≡ fresh_map shape (length blob)
map_said shape id blob bytes p f =
    let M = map_record (map_place (length blob)) (entry_count shape) in
    let M-len = map_record-length (map_place (length blob)) (entry_count shape) in
    let base = field_there M bytes 56 23 8 p.map_there (omega (arith, M-len)) ∙ map_base (map_place (length blob)) (entry_count shape) (omega (arith, f.blob)) in
    let count = field_there M bytes 56 31 4 p.map_there (omega (arith, M-len)) ∙ map_entries (map_place (length blob)) (entry_count shape) f.count in
    λ i. record { base = base i; count = count i }

signature_said : (shape : Shape) (id blob bytes : List ℕ) → Pieces shape id blob bytes → Fitting shape (length blob) → sig_fields bytes 114 ≡ fresh_signature shape (length blob)
signature_said shape id blob bytes p f =
    let b = length blob in
    let z = tree_bytes shape in
    let t = tree_place shape b in
    let S = signature_record b z t in
    let S-len = signature_record-length b z t in
    let sig_size = field_there S bytes second_record_place 23 4 p.signature_there (omega (arith, S-len)) ∙ blob_size_in b z t (omega (arith, f.blob)) in
    let sig_at = field_there S bytes second_record_place 27 8 p.signature_there (omega (arith, S-len)) ∙ blob_at_in b z t in
    let tree_size = field_there S bytes second_record_place 35 4 p.signature_there (omega (arith, S-len)) ∙ tree_size_in b z t f.tree in
    let tree_at = field_there S bytes second_record_place 39 8 p.signature_there (omega (arith, S-len)) ∙ tree_at_in b z t f.place in
    λ i. record { sig_size = sig_size i; sig_at = sig_at i; tree_size = tree_size i; tree_at = tree_at i }

status_said : (shape : Shape) (id blob bytes : List ℕ) → Pieces shape id blob bytes → status_fields bytes 161 ≡ fresh_status
status_said shape id blob bytes p =
    let T-len = status_record-length in
    let data_written = field_there status_record bytes third_record_place 23 4 p.status_there (omega (arith, T-len)) ∙ status_data in
    let hash_written = field_there status_record bytes third_record_place 27 4 p.status_there (omega (arith, T-len)) ∙ status_hash in
    λ i. record { at = 161; data_written = data_written i; hash_written = hash_written i }

-- ---- the first record of each kind

first_is : (bytes : List ℕ) (kind : ℕ) → Heads bytes → first_of_kind bytes kind places ≡ cond (eqb 1 kind) (Some 56) (cond (eqb 3 kind) (Some second_record_place) (cond (eqb 4 kind) (Some third_record_place) None))
first_is bytes kind h = rw (h.at_map, h.at_signature, h.at_status) refl

spans_are : (bytes : List ℕ) → Heads bytes → map (span_of bytes) places ≡ fresh_spans
spans_are bytes h = rw (h.at_map, h.at_signature, h.at_status) refl

pub records_are : (shape : Shape) (id blob bytes : List ℕ) → Pieces shape id blob bytes → Fitting shape (length blob) → records_of bytes places ≡ fresh_records shape (length blob)
unfolding records_of
records_are shape id blob bytes p f =
    let h = heads_of shape id blob bytes p in
    let m = ap (option_map (λ place. map_fields bytes (place + 23))) (first_is bytes 1 h) ∙ ap (λ (r : MapRecord). Some r) (map_said shape id blob bytes p f) in
    let s = ap (option_map (λ place. sig_fields bytes (place + 23))) (first_is bytes 3 h) ∙ ap (λ (r : SigRecord). Some r) (signature_said shape id blob bytes p f) in
    let t = ap (option_map (λ place. status_fields bytes (place + 23))) (first_is bytes 4 h) ∙ ap (λ (r : StatusRecord). Some r) (status_said shape id blob bytes p) in
    let spans = spans_are bytes h in
    λ i. record { map = m i; signature = s i; status = t i; spans = spans i; last = third_record_place }

-- ---- each record passes its tests

one_met : (bytes : List ℕ) (kind : ℕ) → Heads bytes → first_of_kind bytes kind (56 ∷ []) ≡ cond (eqb 1 kind) (Some 56) None
one_met bytes kind h = rw h.at_map refl

two_met : (bytes : List ℕ) (kind : ℕ) → Heads bytes → first_of_kind bytes kind (56 ∷ second_record_place ∷ []) ≡ cond (eqb 1 kind) (Some 56) (cond (eqb 3 kind) (Some second_record_place) None)
two_met bytes kind h = rw (h.at_map, h.at_signature) refl

pub passes_with : (bytes : List ℕ) (len : ℕ) (met : List ℕ) (at : ℕ) (mapped signed : Bool) (head : Head) → head_of bytes at ≡ head
    → is_some (first_of_kind bytes 1 met) ≡ mapped → is_some (first_of_kind bytes 3 met) ≡ signed → Passes (length met) mapped signed len at head → first_failing (record_tests bytes len met at) ≡ None
passes_with bytes len met at mapped signed head is map-is signature-is p =
    rw (is, map-is, signature-is) (whole (length met) mapped signed len at head p)

pub fresh_chain : (shape : Shape) (id blob bytes : List ℕ) (need_map : Bool) → Pieces shape id blob bytes → Fitting shape (length blob) → blob_place ≤ length bytes
    → IsChain bytes (length bytes) 56 need_map (fresh_records shape (length blob))
fresh_chain shape id blob bytes need_map p f long =
    let h = heads_of shape id blob bytes p in
    let len = length bytes in
    let map_passes = passes_with bytes len [] 56 false false (record { kind = 1; size = 35; next = second_record_place }) h.at_map refl refl
    (record { few = omega arith; begins = omega arith; sized = refl; ends = omega arith; one_map = refl; one_signature = refl; rises = refl }) in
    let signature_passes = passes_with bytes len (56 ∷ []) second_record_place true false (record { kind = 3; size = 47; next = third_record_place }) h.at_signature
    (ap is_some (one_met bytes 1 h)) (ap is_some (one_met bytes 3 h))
    (record { few = omega arith; begins = omega arith; sized = refl; ends = omega arith; one_map = refl; one_signature = refl; rises = refl }) in
    let status_passes = passes_with bytes len (56 ∷ second_record_place ∷ []) third_record_place true true (record { kind = 4; size = 55; next = 0 }) h.at_status
    (ap is_some (two_met bytes 1 h)) (ap is_some (two_met bytes 3 h))
    (record { few = omega arith; begins = omega arith; sized = refl; ends = omega arith; one_map = refl; one_signature = refl; rises = refl }) in
    let next_of = λ (head : Head). head.next in
    record {
      places = places;
      whole = (refl, omega arith, map_passes, (ap next_of h.at_map, omega arith, signature_passes, (ap next_of h.at_signature, omega arith, status_passes, ap next_of h.at_status)));
      few = omega arith;
      said = sym (records_are shape id blob bytes p f);
      mapped = λ _. refl;
    }
