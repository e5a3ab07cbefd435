-- A file whose fixed part stands and whose map has zeros alone is a backing file whose entries are all closed.
use Rattle.std.proofs.Common.{◌≡◌, ℕ, ◌+◌, ◌*◌, ◌<◌, ◌≤◌, false, List, [], ◌∷◌, length, replicate, get_or, None, inl, inr, refl, sym, ap, ◌∙◌, arith}
use Rattle.std.proofs.lemmas.Bool.{cases_lt, lt-ltb, le-ltb, ne_eqb}
use Rattle.std.proofs.lemmas.List.{length-replicate, get_or-replicate}
use Rattle.std.proofs.lemmas.List.Elements.{All-cons, All-nil}
use Rattle.inc_bytes.specs.Fields.{le_number}
use Rattle.inc_bytes.specs.declared.span.Span.{Span}
use Rattle.inc_tree.specs.shape.Geometry.{Shape, block_len, data_blocks}
use Rattle.inc_entry.specs.Entry.{Places, asks, class_of, entries, entry_from, has_size, is_closed, is_compressed, is_open, past_end}
use Rattle.inc_entry.specs.Spans.{IsClear, IsDisjoint}
use Rattle.inc_entry.specs.Stored.{class_at, digest_of, is_past, stored_digest}
use Rattle.inc_entry.specs.declared.classes.Class.TheVariants.{Closed, Damaged}
use Rattle.inc_entry.specs.declared.entry.Entry.{Entry}
use Rattle.inc_layout.specs.Backing.{IsBackingFile, areas_with}
use Rattle.inc_layout.specs.fixed.Fixed.{Fixed, IsFixed}
use Rattle.inc_layout.specs.Fresh.{zeros}
use Rattle.inc_layout.specs.declared.opened.Opened.{Opened}
use Rattle.inc_layout.proofs.fresh_file.FreshStands.{StandsAt, byte_there}

-- ---- spans behind each other

-- each of these spans stands behind a place
abbrev pub AreBehind : ℕ → List Span → Type 0
AreBehind end [] = Unit {0}
AreBehind end (span ∷ spans) = (0 < span.len → end ≤ span.at) × AreBehind end spans

pub clear_behind : (spans : List Span) (at len : ℕ) → AreBehind (at + len) spans → IsClear spans at len
clear_behind [] at len h = All-nil (λ span. IsDisjoint span at len)
clear_behind (span ∷ spans) at len h =
    let here : IsDisjoint span at len = λ j b1 b2 b3 b4. (let some : 0 < span.len = omega arith in omega (arith, h.0 some)) in
    All-cons (λ span. IsDisjoint span at len) span spans here (clear_behind spans at len h.1)

-- ---- entries

zero_entry : Entry
zero_entry = record { offset = 0; low = 0; high = 0; flags = 0 }

zero_at : (count : ℕ) (bytes : List ℕ) (at i j : ℕ) → StandsAt (zeros (10 * count)) bytes at → i < count → j < 10 → get_or bytes (at + 10 * i + j) 0 ≡ 0
zero_at count bytes at i j s lt inner =
    let e : at + 10 * i + j ≡ at + (10 * i + j) = omega arith in
    let len = length-replicate {A = ℕ} (10 * count) 0 in
    ap (λ (n : ℕ). get_or bytes n 0) e ∙ byte_there (zeros (10 * count)) bytes at (10 * i + j) s (omega (arith, len)) ∙ get_or-replicate (10 * count) (10 * i + j) 0 0 (omega arith)

entry_zero : (count : ℕ) (bytes : List ℕ) (at i : ℕ) → StandsAt (zeros (10 * count)) bytes at → i < count → entry_from bytes (at + 10 * i) ≡ zero_entry
unfolding entry_from zero_entry
entry_zero count bytes at i s lt =
    let z = λ (j : ℕ) (w : j < 10). zero_at count bytes at i j s lt w in
    let b0 = z 0 (omega arith) in
    let b1 = z 1 (omega arith) in
    let b2 = z 2 (omega arith) in
    let b3 = z 3 (omega arith) in
    let b4 = z 4 (omega arith) in
    let b5 = z 5 (omega arith) in
    let b6 = z 6 (omega arith) in
    let b7 = z 7 (omega arith) in
    let b8 = z 8 (omega arith) in
    let b9 = z 9 (omega arith) in
    λ k. record {
      offset = le_number (b0 k ∷ b1 k ∷ b2 k ∷ b3 k ∷ b4 k ∷ b5 k ∷ []);
      low = b6 k;
      high = b7 k;
      flags = le_number (b8 k ∷ b9 k ∷ []);
    }

-- no block is empty
some_len : (shape : Shape) (i : ℕ) → 0 < block_len shape i
some_len shape i =
    elim (cases_lt i (data_blocks shape)) [
      | inl lt ↦ rw (lt-ltb i (data_blocks shape) lt) (omega arith)
      | inr le ↦ rw (le-ltb i (data_blocks shape) le) (omega arith)
    ]

no_size : (places : Places) (i : ℕ) → has_size places i 0 ≡ false
unfolding has_size
no_size places i = let some = some_len places.shape i in ne_eqb 0 (block_len places.shape i) (λ e. omega (arith, e, some))

zero_closed : (places : Places) (len i : ℕ) → class_of places len i zero_entry ≡ Closed
unfolding class_of is_open asks is_compressed is_closed zero_entry
zero_closed places len i = rw (no_size places i) refl

zero_not_past : (places : Places) (len i : ℕ) → past_end places len i zero_entry ≡ false
unfolding past_end asks zero_entry
zero_not_past places len i = rw (no_size places i) refl

-- ---- the file

-- the map of these places has zeros alone
abbrev pub HasZeroMap : List ℕ → Places → Type 0
HasZeroMap bytes places = StandsAt (zeros (10 * entries places)) bytes places.map_at

unfoldable pub fresh_opened : List ℕ → Fixed → Opened
fresh_opened bytes fixed = record {
  header = fixed.header;
  records = fixed.records;
  sig = fixed.sig;
  areas = areas_with (length bytes) fixed.places;
  classes = replicate (entries fixed.places) Closed;
  digests = replicate (entries fixed.places) None;
  len = length bytes;
}

class_closed : (bytes : List ℕ) (places : Places) (i : ℕ) → HasZeroMap bytes places → i < entries places → class_at places bytes i ≡ Closed
class_closed bytes places i map lt =
    ap (class_of places (length bytes) i) (entry_zero (entries places) bytes places.map_at i map lt) ∙ zero_closed places (length bytes) i

entry_not_past : (bytes : List ℕ) (places : Places) (i : ℕ) → HasZeroMap bytes places → i < entries places → is_past places bytes i ≡ false
entry_not_past bytes places i map lt =
    ap (past_end places (length bytes) i) (entry_zero (entries places) bytes places.map_at i map lt) ∙ zero_not_past places (length bytes) i

none_stored : (bytes : List ℕ) (places : Places) (i : ℕ) → HasZeroMap bytes places → i < entries places → stored_digest places bytes i ≡ None
none_stored bytes places i map lt = ap (digest_of places bytes i) (class_closed bytes places i map lt)

pub fresh_backing : (bytes : List ℕ) (fixed : Fixed) → IsFixed bytes fixed → HasZeroMap bytes fixed.places → IsBackingFile bytes (fresh_opened bytes fixed)
unfolding fresh_opened
fresh_backing bytes fixed is map = record {
  laid = record {
    fixed = is;
    len_is = refl;
    area_len = refl;
    none_past = λ i lt. entry_not_past bytes fixed.places i map lt;
    class_count = length-replicate (entries fixed.places) Closed;
    each_class = λ i lt. get_or-replicate (entries fixed.places) i Closed Damaged lt ∙ sym (class_closed bytes fixed.places i map lt);
  };
  digest_count = length-replicate (entries fixed.places) None;
  each_digest = λ i lt. get_or-replicate (entries fixed.places) i None None lt ∙ sym (none_stored bytes fixed.places i map lt);
}
