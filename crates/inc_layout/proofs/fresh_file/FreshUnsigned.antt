-- A fresh unsigned file is a backing file whose entries are all closed.
use Rattle.std.proofs.Common.{◌≡◌, ℕ, ◌+◌, ◌*◌, ◌≤◌, Bool, true, false, cond, eqb, List, [], ◌∷◌, length, map, Some, None, refl, sym, ap, ◌∙◌, subst, arith}
use Rattle.std.specs.Prelude.{is_some, option_map}
use Rattle.std.proofs.lemmas.List.{get_or-replicate}
use Rattle.inc_bytes.specs.declared.span.Span.{Span}
use Rattle.inc_tree.specs.shape.Geometry.{blocks_of, flat_of, hash_blocks, level_counts}
use Rattle.inc_tree.specs.shape.Limits.{most_size}
use Rattle.inc_header.specs.Header.{IsHeader}
use Rattle.inc_md.specs.declared.head.Head.{Head}
use Rattle.inc_md.specs.declared.records.MapRecord.{MapRecord}
use Rattle.inc_md.specs.declared.records.StatusRecord.{StatusRecord}
use Rattle.inc_md.specs.declared.records.Records.{Records}
use Rattle.inc_md.specs.Record.{head_of, map_fields, sig_fields, status_fields, span_of}
use Rattle.inc_md.specs.Chain.{first_of_kind, records_of}
use Rattle.inc_md.specs.Outcome.{IsChain}
use Rattle.inc_entry.specs.Entry.{Places, areas_of, map_span, tree_span}
use Rattle.inc_entry.specs.Spans.{AreApart}
use Rattle.inc_entry.specs.declared.classes.Class.TheVariants.{Closed, Damaged}
use Rattle.inc_layout.specs.fixed.Fixed.{Fixed, IsFixed, needs_map, places_in}
use Rattle.inc_layout.specs.Fresh.{IsFreshFile, entry_count, fresh_header, map_record, second_record_place, status_record, unsigned_map_place, unsigned_of, zeros}
use Rattle.inc_layout.proofs.fresh_file.FreshEntries.{HasZeroMap, clear_behind, fresh_backing, fresh_opened}
use Rattle.inc_layout.proofs.fresh_file.FreshMeaning.{header_in}
use Rattle.inc_layout.proofs.fresh_file.FreshPieces.{map_record-length, status_record-length}
use Rattle.inc_layout.proofs.fresh_file.FreshRecords.{map_base, map_entries, map_head, passes_with, status_data, status_hash, status_head}
use Rattle.inc_layout.proofs.fresh_file.FreshStands.{StandsAt, UnsignedPieces, field_there, head_there, unsigned_pieces}

flat_hash : (size : ℕ) → hash_blocks (flat_of size) ≡ 0
unfolding level_counts
flat_hash size = refl

-- ---- what the records say

abbrev unsigned_records : ℕ → Records
unsigned_records size = record {
  map = Some (record { base = unsigned_map_place; count = blocks_of size });
  signature = None;
  status = Some (record { at = 114; data_written = 0; hash_written = 0 });
  spans = record { at = 56; len = 35 } ∷ record { at = second_record_place; len = 55 } ∷ [];
  last = second_record_place;
}

abbrev places : List ℕ
places = 56 ∷ second_record_place ∷ []

record TwoHeads (bytes : List ℕ) : Type 0 where
  at_map : head_of bytes 56 ≡ record { kind = 1; size = 35; next = second_record_place }
  at_status : head_of bytes second_record_place ≡ record { kind = 4; size = 55; next = 0 }

heads_of : (size : ℕ) (id bytes : List ℕ) → UnsignedPieces size id bytes → TwoHeads bytes
heads_of size id bytes p =
    let M = map_record unsigned_map_place (blocks_of size) in
    let M-len = map_record-length unsigned_map_place (blocks_of size) in
    let T-len = status_record-length in
    record {
      at_map = head_there M bytes 56 p.map_there (omega (arith, M-len)) ∙ map_head unsigned_map_place (blocks_of size);
      at_status = head_there status_record bytes second_record_place p.status_there (omega (arith, T-len)) ∙ status_head;
    }

map_said : (size : ℕ) (id bytes : List ℕ) → UnsignedPieces size id bytes → size ≤ most_size → map_fields bytes 79 ≡ record { base = unsigned_map_place; count = blocks_of size }
map_said size id bytes p small =
    let M = map_record unsigned_map_place (blocks_of size) in
    let M-len = map_record-length unsigned_map_place (blocks_of size) in
    let base = field_there M bytes 56 23 8 p.map_there (omega (arith, M-len)) ∙ map_base unsigned_map_place (blocks_of size) (omega arith) in
    let count = field_there M bytes 56 31 4 p.map_there (omega (arith, M-len)) ∙ map_entries unsigned_map_place (blocks_of size) (omega arith) in
    λ i. record { base = base i; count = count i }

status_said : (size : ℕ) (id bytes : List ℕ) → UnsignedPieces size id bytes → status_fields bytes 114 ≡ record { at = 114; data_written = 0; hash_written = 0 }
status_said size id bytes p =
    let T-len = status_record-length in
    let data_written = field_there status_record bytes second_record_place 23 4 p.status_there (omega (arith, T-len)) ∙ status_data in
    let hash_written = field_there status_record bytes second_record_place 27 4 p.status_there (omega (arith, T-len)) ∙ status_hash in
    λ i. record { at = 114; data_written = data_written i; hash_written = hash_written i }

first_is : (bytes : List ℕ) (kind : ℕ) → TwoHeads bytes → first_of_kind bytes kind places ≡ cond (eqb 1 kind) (Some 56) (cond (eqb 4 kind) (Some second_record_place) None)
first_is bytes kind h = rw (h.at_map, h.at_status) refl

spans_are : (bytes : List ℕ) → TwoHeads bytes → map (span_of bytes) places ≡ record { at = 56; len = 35 } ∷ record { at = second_record_place; len = 55 } ∷ []
spans_are bytes h = rw (h.at_map, h.at_status) refl

records_are : (size : ℕ) (id bytes : List ℕ) → UnsignedPieces size id bytes → size ≤ most_size → records_of bytes places ≡ unsigned_records size
unfolding records_of
records_are size id bytes p small =
    let h = heads_of size id bytes p in
    let m = ap (option_map (λ place. map_fields bytes (place + 23))) (first_is bytes 1 h) ∙ ap (λ (r : MapRecord). Some r) (map_said size id bytes p small) in
    let s = ap (option_map (λ place. sig_fields bytes (place + 23))) (first_is bytes 3 h) in
    let t = ap (option_map (λ place. status_fields bytes (place + 23))) (first_is bytes 4 h) ∙ ap (λ (r : StatusRecord). Some r) (status_said size id bytes p) in
    let spans = spans_are bytes h in
    λ i. record { map = m i; signature = s i; status = t i; spans = spans i; last = second_record_place }

one_met : (bytes : List ℕ) (kind : ℕ) → TwoHeads bytes → first_of_kind bytes kind (56 ∷ []) ≡ cond (eqb 1 kind) (Some 56) None
one_met bytes kind h = rw h.at_map refl

chain : (size : ℕ) (id bytes : List ℕ) (need_map : Bool) → UnsignedPieces size id bytes → size ≤ most_size → IsChain bytes (length bytes) 56 need_map (unsigned_records size)
chain size id bytes need_map p small =
    let h = heads_of size id bytes p in
    let len = length bytes in
    let long : unsigned_map_place ≤ len = omega (arith, p.whole) in
    let map_passes = passes_with bytes len [] 56 false false (record { kind = 1; size = 35; next = second_record_place }) h.at_map refl refl
    (record { few = omega arith; begins = omega arith; sized = refl; ends = omega arith; one_map = refl; one_signature = refl; rises = refl }) in
    let status_passes = passes_with bytes len (56 ∷ []) second_record_place true false (record { kind = 4; size = 55; next = 0 }) h.at_status
    (ap is_some (one_met bytes 1 h)) (ap is_some (one_met bytes 3 h))
    (record { few = omega arith; begins = omega arith; sized = refl; ends = omega arith; one_map = refl; one_signature = refl; rises = refl }) in
    let next_of = λ (head : Head). head.next in
    record {
      places = places;
      whole = (refl, omega arith, map_passes, (ap next_of h.at_map, omega arith, status_passes, ap next_of h.at_status));
      few = omega arith;
      said = sym (records_are size id bytes p small);
      mapped = λ _. refl;
    }

-- ---- the file

unsigned_places : ℕ → Places
unsigned_places size = places_in size (unsigned_records size)

apart : (size : ℕ) → AreApart (areas_of (unsigned_places size))
unfolding unsigned_places
apart size =
    let none = flat_hash size in
    let r1 : Span = record { at = 56; len = 35 } in
    let r2 : Span = record { at = second_record_place; len = 55 } in
    let m = map_span (unsigned_places size) in
    let t = tree_span (unsigned_places size) in (
      clear_behind (r1 ∷ r2 ∷ m ∷ t ∷ []) 0 56 (λ _. omega arith, (λ _. omega arith, (λ _. omega arith, (λ some. absurd (omega (arith, none)), tt)))),
      (
        clear_behind (r2 ∷ m ∷ t ∷ []) 56 35 (λ _. omega arith, (λ _. omega arith, (λ some. absurd (omega (arith, none)), tt))),
        (
          clear_behind (m ∷ t ∷ []) second_record_place 55 (λ _. omega arith, (λ some. absurd (omega (arith, none)), tt)),
          (
            clear_behind (t ∷ []) m.at m.len (λ some. absurd (omega (arith, none)), tt),
            (clear_behind [] t.at t.len tt, tt),
          ),
        ),
      ),
    )

fixed_part : ℕ → List ℕ → Fixed
fixed_part size id = record { header = fresh_header size id; records = unsigned_records size; sig = None; places = unsigned_places size }

fixed_stands : (size : ℕ) (id bytes : List ℕ) → size ≤ most_size → IsHeader (fresh_header size id) → UnsignedPieces size id bytes → IsFixed bytes (fixed_part size id)
unfolding unsigned_places fixed_part
fixed_stands size id bytes small fits p =
    let none = flat_hash size in
    record {
      first = 56;
      front = record { short = omega (arith, p.whole); header_is = header_in size id bytes fits p.header };
      plain = refl;
      small = small;
      chain = chain size id bytes (needs_map (fresh_header size id)) p small;
      signed = tt;
      placed = refl;
      map_counted = omega (arith, none);
      map_inside = λ _. omega (arith, p.whole, none);
      tree_sized = omega (arith, none);
      tree_inside = λ some. absurd (omega (arith, none));
      all_apart = apart size;
    }

abbrev HasZeros : List ℕ → ℕ → Type 0
HasZeros bytes n = StandsAt (zeros (10 * n)) bytes unsigned_map_place

pub unsigned_stands : (size : ℕ) (id bytes : List ℕ) → size ≤ most_size → IsHeader (fresh_header size id) → bytes ≡ unsigned_of size id → IsFreshFile size id None bytes
unfolding fresh_opened fixed_part unsigned_places
unsigned_stands size id bytes small fits is =
    let p : UnsignedPieces size id bytes = subst (λ (x : List ℕ). UnsignedPieces size id x) (sym is) (unsigned_pieces size id fits.id_length) in
    let count : blocks_of size ≡ entry_count (flat_of size) = omega (arith, flat_hash size) in
    let zero_map : HasZeroMap bytes (unsigned_places size) = subst (λ (n : ℕ). HasZeros bytes n) count p.entries_there in
    record {
      opened = fresh_opened bytes (fixed_part size id);
      stands = fresh_backing bytes (fixed_part size id) (fixed_stands size id bytes small fits p) zero_map;
      header = refl;
      sig = tt;
      all_closed = λ i lt. get_or-replicate (entry_count (flat_of size)) i Closed Damaged lt;
      none_stored = λ i lt. get_or-replicate (entry_count (flat_of size)) i None None lt;
    }
