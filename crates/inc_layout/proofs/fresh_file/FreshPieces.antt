-- The pieces of a fresh file, appended one after another, and how many zeros stand behind the blob.
use Rattle.std.proofs.Common.{◌≡◌, ◌⊎◌, ℕ, ◌+◌, ◌-◌, ◌*◌, ◌<◌, ◌≤◌, true, false, eqb, List, [], ◌∷◌, ◌++◌, length, inl, inr, refl, sym, ap, ◌∙◌, append_assoc, arith}
use Rattle.std.proofs.lemmas.Bool.{eq-eqb, eqb-true, eqb-false, ne_eqb}
use Rattle.std.proofs.lemmas.List.{length-append, replicate-append-replicate}
use Rattle.inc_bytes.specs.Fields.{le_bytes}
use Rattle.inc_tree.specs.shape.Geometry.{Shape, blocks_of, hash_blocks}
use Rattle.inc_header.specs.Header.{header_bytes}
use Rattle.inc_header.proofs.Spelling.{header_bytes-length}
use Rattle.inc_layout.specs.Fresh.{blob_place, block_start, entry_count, fresh_header, fresh_length, fresh_of, gap, map_end, map_place, map_record, record_head, second_record_place, signature_record, status_record, third_record_place, tree_bytes, tree_place, unsigned_length, unsigned_map_place, unsigned_of, zeros}

-- ---- places

-- where the tree lies
pub record HasHashTree (shape : Shape) (blob_size : ℕ) : Type 0 where
  pub some : 0 < hash_blocks shape
  pub place : tree_place shape blob_size ≡ block_start (map_end shape blob_size)
  pub between : map_end shape blob_size + gap shape blob_size ≡ tree_place shape blob_size
  pub whole : fresh_length shape blob_size ≡ tree_place shape blob_size + tree_bytes shape

pub record HasNoTree (shape : Shape) (blob_size : ℕ) : Type 0 where
  pub none : hash_blocks shape ≡ 0
  pub place : tree_place shape blob_size ≡ 0
  pub between : gap shape blob_size ≡ 0
  pub whole : fresh_length shape blob_size ≡ map_end shape blob_size

start_behind : (at : ℕ) → at ≤ block_start at
start_behind at = omega arith

without_tree : (shape : Shape) (blob_size : ℕ) → hash_blocks shape ≡ 0 → HasNoTree shape blob_size
unfolding tree_place gap fresh_length
without_tree shape blob_size e = record {
  none = e;
  place = rw (eq-eqb _ _ e) refl;
  between = rw (eq-eqb _ _ e) refl;
  whole = rw (eq-eqb _ _ e) refl;
}

with_tree : (shape : Shape) (blob_size : ℕ) → 0 < hash_blocks shape → HasHashTree shape blob_size
unfolding tree_place gap fresh_length
with_tree shape blob_size some =
    let ne : eqb (hash_blocks shape) 0 ≡ false = ne_eqb (hash_blocks shape) 0 (λ e. omega (arith, e, some)) in
    record {
      some = some;
      place = rw ne refl;
      between = rw ne (omega (arith, start_behind (map_end shape blob_size)));
      whole = rw ne refl;
    }

positive : (n : ℕ) → eqb n 0 ≡ false → 0 < n
positive n e = let ne = eqb-false n 0 e in omega arith

none_or_some : (n : ℕ) → (n ≡ 0) ⊎ (0 < n)
none_or_some n = elim (eqb n 0) as (λ b. eqb n 0 ≡ b → (n ≡ 0) ⊎ (0 < n)) [ true ↦ λ e. inl (eqb-true n 0 e) | false ↦ λ e. inr (positive n e) ] refl

pub tree_or_none : (shape : Shape) (blob_size : ℕ) → HasNoTree shape blob_size ⊎ HasHashTree shape blob_size
tree_or_none shape blob_size = elim (none_or_some (hash_blocks shape)) [ inl none ↦ inl (without_tree shape blob_size none) | inr some ↦ inr (with_tree shape blob_size some) ]

-- map, gap and tree end with the file
pub all_zeros : (shape : Shape) (blob_size : ℕ) → map_place blob_size + (10 * entry_count shape + gap shape blob_size + tree_bytes shape) ≡ fresh_length shape blob_size
all_zeros shape blob_size =
    elim (tree_or_none shape blob_size) [
      | inl t ↦ omega (arith, t.none, t.between, t.whole)
      | inr t ↦ omega (arith, t.between, t.whole)
    ]

-- ---- appending

pub head_appended : (kind size next : ℕ) (old b1 b2 b3 b4 b5 : List ℕ) → b1 ≡ old ++ kind ∷ [] → b2 ≡ b1 ++ le_bytes 2 size → b3 ≡ b2 ++ le_bytes 4 0 → b4 ≡ b3 ++ le_bytes 8 next → b5 ≡ b4 ++ le_bytes 8 0
    → b5 ≡ old ++ record_head kind size next
head_appended kind size next old b1 b2 b3 b4 b5 e1 e2 e3 e4 e5 = rw (e5, e4, e3, e2, e1) (simp append_assoc)

pub map_appended : (base count : ℕ) (old b1 b2 b3 : List ℕ) → b1 ≡ old ++ record_head 1 35 second_record_place → b2 ≡ b1 ++ le_bytes 8 base → b3 ≡ b2 ++ le_bytes 4 count → b3 ≡ old ++ map_record base count
unfolding map_record
map_appended base count old b1 b2 b3 e1 e2 e3 =
    let head = record_head 1 35 second_record_place in
    e3 ∙ ap (λ (x : List ℕ). x ++ le_bytes 4 count) (e2 ∙ ap (λ (x : List ℕ). x ++ le_bytes 8 base) e1 ∙ append_assoc old head (le_bytes 8 base)) ∙ append_assoc old (head ++ le_bytes 8 base) (le_bytes 4 count)

pub signature_appended : (blob_size tree_size tree_at : ℕ) (old b1 b2 b3 b4 b5 : List ℕ) → b1 ≡ old ++ record_head 3 47 third_record_place → b2 ≡ b1 ++ le_bytes 4 blob_size → b3 ≡ b2 ++ le_bytes 8 blob_place → b4 ≡ b3 ++ le_bytes 4 tree_size → b5 ≡ b4 ++ le_bytes 8 tree_at
    → b5 ≡ old ++ signature_record blob_size tree_size tree_at
unfolding signature_record
signature_appended blob_size tree_size tree_at old b1 b2 b3 b4 b5 e1 e2 e3 e4 e5 =
    let head = record_head 3 47 third_record_place in
    e5
    ∙ ap (λ (x : List ℕ). x ++ le_bytes 8 tree_at) (e4
    ∙ ap (λ (x : List ℕ). x ++ le_bytes 4 tree_size) (e3
    ∙ ap (λ (x : List ℕ). x ++ le_bytes 8 blob_place) (e2
    ∙ ap (λ (x : List ℕ). x ++ le_bytes 4 blob_size) e1
    ∙ append_assoc old head (le_bytes 4 blob_size))
    ∙ append_assoc old (head ++ le_bytes 4 blob_size) (le_bytes 8 blob_place))
    ∙ append_assoc old (head ++ le_bytes 4 blob_size ++ le_bytes 8 blob_place) (le_bytes 4 tree_size))
    ∙ append_assoc old (head ++ le_bytes 4 blob_size ++ le_bytes 8 blob_place ++ le_bytes 4 tree_size) (le_bytes 8 tree_at)

pub status_appended : (old b1 b2 : List ℕ) → b1 ≡ old ++ record_head 4 55 0 → b2 ≡ b1 ++ zeros 32 → b2 ≡ old ++ status_record
unfolding status_record
status_appended old b1 b2 e1 e2 = e2 ∙ ap (λ (x : List ℕ). x ++ zeros 32) e1 ∙ append_assoc old (record_head 4 55 0) (zeros 32)

-- ---- the whole file

pub map_record-length : (base count : ℕ) → length (map_record base count) ≡ 35
unfolding map_record le_bytes
map_record-length base count = refl

pub signature_record-length : (blob_size tree_size tree_at : ℕ) → length (signature_record blob_size tree_size tree_at) ≡ 47
unfolding signature_record le_bytes
signature_record-length blob_size tree_size tree_at = refl

pub status_record-length : length status_record ≡ 55
unfolding status_record le_bytes
status_record-length = refl

-- header and records
abbrev pub front_of : Shape → List ℕ → ℕ → List ℕ
front_of shape id blob_size =
    header_bytes (fresh_header shape.size id)
    ++ map_record (map_place blob_size) (entry_count shape)
    ++ signature_record blob_size (tree_bytes shape) (tree_place shape blob_size)
    ++ status_record

pub front-length : (shape : Shape) (id : List ℕ) (blob_size : ℕ) → length id ≡ 16 → length (front_of shape id blob_size) ≡ blob_place
front-length shape id blob_size len =
    let H = header_bytes (fresh_header shape.size id) in
    let M = map_record (map_place blob_size) (entry_count shape) in
    let S = signature_record blob_size (tree_bytes shape) (tree_place shape blob_size) in
    omega (
      arith,
      header_bytes-length (fresh_header shape.size id) len,
      map_record-length (map_place blob_size) (entry_count shape),
      signature_record-length blob_size (tree_bytes shape) (tree_place shape blob_size),
      status_record-length,
      length-append (H ++ M ++ S) status_record,
      length-append (H ++ M) S,
      length-append H M,
    )

-- the zeros behind the blob are those of map, gap and tree
zeros_apart : (front : List ℕ) (a b c : ℕ) → front ++ zeros a ++ zeros b ++ zeros c ≡ front ++ zeros (a + b + c)
zeros_apart front a b c =
    append_assoc (front ++ zeros a) (zeros b) (zeros c)
    ∙ append_assoc front (zeros a) (zeros b ++ zeros c)
    ∙ ap (λ (x : List ℕ). front ++ x) (
    ap (λ (x : List ℕ). zeros a ++ x) (replicate-append-replicate b c 0)
    ∙ replicate-append-replicate a (b + c) 0
    ∙ ap zeros (let e : a + (b + c) ≡ a + b + c = omega arith in e))

pub image_whole : (shape : Shape) (id blob front : List ℕ) (len : ℕ) → length id ≡ 16 → front ≡ front_of shape id (length blob) ++ blob → len ≡ fresh_length shape (length blob)
    → (front ++ zeros (len - length front) ≡ fresh_of shape id blob) × (length front ≤ len)
unfolding fresh_of
image_whole shape id blob front len id-len is whole =
    let all = front_of shape id (length blob) ++ blob in
    let all-len : length all ≡ map_place (length blob) = omega (arith, length-append (front_of shape id (length blob)) blob, front-length shape id (length blob) id-len) in
    let front-len : length front ≡ map_place (length blob) = ap length is ∙ all-len in
    let ends = all_zeros shape (length blob) in
    let count : len - length front ≡ 10 * entry_count shape + gap shape (length blob) + tree_bytes shape = omega (arith, front-len, ends, whole) in (
      (λ i. is i ++ zeros (count i)) ∙ sym (zeros_apart all (10 * entry_count shape) (gap shape (length blob)) (tree_bytes shape)),
      omega (arith, front-len, ends, whole),
    )

-- from the numbers of the plan
pub front_built : (shape : Shape) (id blob : List ℕ) (said map_at entries tree_size tree_at : ℕ) (front : List ℕ) → said ≡ shape.size
    → map_at ≡ map_place (length blob) → entries ≡ entry_count shape → tree_size ≡ tree_bytes shape → tree_at ≡ tree_place shape (length blob)
    → front ≡ header_bytes (fresh_header said id) ++ map_record map_at entries ++ signature_record (length blob) tree_size tree_at ++ status_record ++ blob
    → front ≡ front_of shape id (length blob) ++ blob
front_built shape id blob said map_at entries tree_size tree_at front e1 e2 e3 e4 e5 is =
    is ∙ (λ i. header_bytes (fresh_header (e1 i) id) ++ map_record (e2 i) (e3 i) ++ signature_record (length blob) (e4 i) (e5 i) ++ status_record ++ blob)

-- ---- an unsigned file

unfoldable pub unsigned_front : ℕ → List ℕ → List ℕ
unsigned_front size id = header_bytes (fresh_header size id) ++ map_record unsigned_map_place (blocks_of size) ++ status_record

pub unsigned_front-length : (size : ℕ) (id : List ℕ) → length id ≡ 16 → length (unsigned_front size id) ≡ unsigned_map_place
unfolding unsigned_front
unsigned_front-length size id len =
    let H = header_bytes (fresh_header size id) in
    let M = map_record unsigned_map_place (blocks_of size) in
    omega (arith, header_bytes-length (fresh_header size id) len, map_record-length unsigned_map_place (blocks_of size), status_record-length, length-append (H ++ M) status_record, length-append H M)

pub unsigned_whole : (size : ℕ) (id front : List ℕ) (said blocks len : ℕ) → length id ≡ 16 → said ≡ size → blocks ≡ blocks_of size
    → front ≡ header_bytes (fresh_header said id) ++ map_record unsigned_map_place blocks ++ status_record → len ≡ unsigned_length size
    → (front ++ zeros (len - length front) ≡ unsigned_of size id) × (length front ≤ len)
unfolding unsigned_front unsigned_of
unsigned_whole size id front said blocks len id-len e1 e2 is whole =
    let built : front ≡ unsigned_front size id = is ∙ (λ i. header_bytes (fresh_header (e1 i) id) ++ map_record unsigned_map_place (e2 i) ++ status_record) in
    let front-len : length front ≡ unsigned_map_place = ap length built ∙ unsigned_front-length size id id-len in
    let count : len - length front ≡ 10 * blocks_of size = omega (arith, front-len, whole) in
    ((λ i. built i ++ zeros (count i)), omega (arith, front-len, whole))
