-- A fresh signed file is a backing file whose entries are all closed.
use Rattle.std.proofs.Common.{◌≡◌, ℕ, ◌+◌, ◌*◌, ◌<◌, ◌≤◌, List, [], ◌∷◌, length, take, None, Some, Ok, inl, inr, refl, sym, ap, ◌∙◌, subst, arith}
use Rattle.std.proofs.lemmas.List.{get_or-replicate, take_all}
use Rattle.inc_bytes.specs.declared.span.Span.{Span}
use Rattle.inc_tree.specs.shape.Geometry.{Shape, tree_of}
use Rattle.inc_tree.specs.shape.Limits.{most_size}
use Rattle.inc_tree.proofs.LevelLemmas.{hash_small}
use Rattle.inc_header.specs.Header.{IsHeader, header_bytes, header_of}
use Rattle.inc_header.proofs.Spelling.{header_bytes-length, is_accepted}
use Rattle.inc_signature.specs.Signature.{signature_of}
use Rattle.inc_signature.specs.declared.signature.SigInfo.{SigInfo}
use Rattle.inc_entry.specs.Entry.{Places, areas_of, map_span, tree_span}
use Rattle.inc_entry.specs.Spans.{AreApart}
use Rattle.inc_entry.specs.declared.classes.Class.TheVariants.{Closed, Damaged}
use Rattle.inc_layout.specs.fixed.Fixed.{Fixed, IsFixed, needs_map, places_in}
use Rattle.inc_layout.specs.Fresh.{IsFreshFile, blob_place, entry_count, fresh_header, fresh_length, fresh_of, map_end, map_place, second_record_place, third_record_place, tree_bytes, tree_place}
use Rattle.inc_layout.proofs.fresh_file.FreshEntries.{clear_behind, fresh_backing, fresh_opened}
use Rattle.inc_layout.proofs.fresh_file.FreshPieces.{tree_or_none}
use Rattle.inc_layout.proofs.fresh_file.FreshRecords.{Fitting, fresh_chain, fresh_records}
use Rattle.inc_layout.proofs.fresh_file.FreshStands.{Pieces, StandsAt, piece_there, pieces_of}

-- ---- places

-- the tree lies behind the map and ends with the file, or there is none
record Ends (shape : Shape) (blob_size : ℕ) : Type 0 where
  map_ends : map_end shape blob_size ≤ fresh_length shape blob_size
  tree_begins : 0 < tree_bytes shape → map_end shape blob_size ≤ tree_place shape blob_size
  tree_ends : 0 < tree_bytes shape → tree_place shape blob_size + tree_bytes shape ≤ fresh_length shape blob_size
  place_low : tree_place shape blob_size ≤ map_end shape blob_size + 4095
  low : fresh_length shape blob_size ≤ map_end shape blob_size + 4095 + tree_bytes shape

ends_of : (shape : Shape) (blob_size : ℕ) → Ends shape blob_size
ends_of shape blob_size =
    elim (tree_or_none shape blob_size) [
      | inl t ↦ record {
        map_ends = omega (arith, t.whole);
        tree_begins = λ some. omega (arith, t.none, some);
        tree_ends = λ some. omega (arith, t.none, some);
        place_low = omega (arith, t.place);
        low = omega (arith, t.whole);
      }
      | inr t ↦ record {
        map_ends = omega (arith, t.whole, t.between);
        tree_begins = λ some. omega (arith, t.between);
        tree_ends = λ some. omega (arith, t.whole);
        place_low = omega (arith, t.place);
        low = omega (arith, t.whole, t.place);
      }
    ]

fitting_of : (size blob_size : ℕ) → size ≤ most_size → blob_size ≤ 8096 → Fitting (tree_of size) blob_size
fitting_of size blob_size small short =
    let few = hash_small (tree_of size) small in
    let ends = ends_of (tree_of size) blob_size in
    record { blob = short; count = omega (arith, few); tree = omega (arith, few); place = omega (arith, few, ends.place_low) }

fresh_places : ℕ → ℕ → Places
fresh_places size blob_size = places_in size (fresh_records (tree_of size) blob_size)

apart : (size blob_size : ℕ) → AreApart (areas_of (fresh_places size blob_size))
unfolding fresh_places
apart size blob_size =
    let shape : Shape = tree_of size in
    let ends = ends_of shape blob_size in
    let tree = λ (some : 0 < tree_bytes shape). ends.tree_begins some in
    let r1 : Span = record { at = 56; len = 35 } in
    let r2 : Span = record { at = second_record_place; len = 47 } in
    let r3 : Span = record { at = third_record_place; len = 55 } in
    let b : Span = record { at = blob_place; len = blob_size } in
    let m = map_span (fresh_places size blob_size) in
    let t = tree_span (fresh_places size blob_size) in (
      clear_behind (r1 ∷ r2 ∷ r3 ∷ b ∷ m ∷ t ∷ []) 0 56 (λ _. omega arith, (λ _. omega arith, (λ _. omega arith, (λ _. omega arith, (λ _. omega arith, (λ some. omega (arith, tree some), tt)))))),
      (
        clear_behind (r2 ∷ r3 ∷ b ∷ m ∷ t ∷ []) 56 35 (λ _. omega arith, (λ _. omega arith, (λ _. omega arith, (λ _. omega arith, (λ some. omega (arith, tree some), tt))))),
        (
          clear_behind (r3 ∷ b ∷ m ∷ t ∷ []) second_record_place 47 (λ _. omega arith, (λ _. omega arith, (λ _. omega arith, (λ some. omega (arith, tree some), tt)))),
          (
            clear_behind (b ∷ m ∷ t ∷ []) third_record_place 55 (λ _. omega arith, (λ _. omega arith, (λ some. omega (arith, tree some), tt))),
            (
              clear_behind (m ∷ t ∷ []) blob_place blob_size (λ _. omega arith, (λ some. omega (arith, tree some), tt)),
              (
                clear_behind (t ∷ []) (map_place blob_size) (10 * entry_count shape) (λ some. omega (arith, tree some), tt),
                (clear_behind [] (tree_place shape blob_size) (tree_bytes shape) tt, tt),
              ),
            ),
          ),
        ),
      ),
    )

-- ---- the file

-- the parts that never move
fixed_part : ℕ → List ℕ → ℕ → SigInfo → Fixed
fixed_part size id blob_size sig = record { header = fresh_header size id; records = fresh_records (tree_of size) blob_size; sig = Some sig; places = fresh_places size blob_size }

-- the header, in the front of the file
pub header_in : (size : ℕ) (id bytes : List ℕ) → IsHeader (fresh_header size id) → StandsAt (header_bytes (fresh_header size id)) bytes 0 → header_of (take 56 bytes) ≡ Ok (fresh_header size id)
header_in size id bytes fits there =
    let h = fresh_header size id in
    let len : length (header_bytes h) ≡ 56 = header_bytes-length h fits.id_length in
    let front : take 56 bytes ≡ header_bytes h = ap (λ (n : ℕ). take n bytes) (sym len) ∙ piece_there (header_bytes h) bytes 0 there in
    ap header_of front ∙ is_accepted (header_bytes h) (header_of (header_bytes h)) refl h fits (take_all 56 (header_bytes h) (omega (arith, len)))

fixed_stands : (size : ℕ) (id blob bytes : List ℕ) (sig : SigInfo) → size ≤ most_size → length blob ≤ 8096 → IsHeader (fresh_header size id) → signature_of blob ≡ Ok sig → Pieces (tree_of size) id blob bytes
    → IsFixed bytes (fixed_part size id (length blob) sig)
unfolding fresh_places fixed_part
fixed_stands size id blob bytes sig small short fits sig-is p =
    let few = hash_small (tree_of size) small in
    let ends = ends_of (tree_of size) (length blob) in
    record {
      first = 56;
      front = record { short = omega (arith, few, ends.low, p.whole); header_is = header_in size id bytes fits p.header };
      plain = refl;
      small = small;
      chain = fresh_chain (tree_of size) id blob bytes (needs_map (fresh_header size id)) p (fitting_of size (length blob) small short) (omega (arith, ends.map_ends, p.whole));
      signed = record { short = short; inside = λ _. omega (arith, ends.map_ends, p.whole); spelled = ap signature_of (piece_there blob bytes blob_place p.blob_there) ∙ sig-is };
      placed = refl;
      map_counted = refl;
      map_inside = λ _. omega (arith, ends.map_ends, p.whole);
      tree_sized = refl;
      tree_inside = λ some. omega (arith, ends.tree_ends some, p.whole);
      all_apart = apart size (length blob);
    }

pub fresh_stands : (size : ℕ) (id blob bytes : List ℕ) (sig : SigInfo) → size ≤ most_size → length blob ≤ 8096 → IsHeader (fresh_header size id) → signature_of blob ≡ Ok sig
    → bytes ≡ fresh_of (tree_of size) id blob → IsFreshFile size id (Some blob) bytes
unfolding fresh_opened fixed_part fresh_places
fresh_stands size id blob bytes sig small short fits sig-is is =
    let p : Pieces (tree_of size) id blob bytes = subst (λ (x : List ℕ). Pieces (tree_of size) id blob x) (sym is) (pieces_of (tree_of size) id blob fits.id_length) in
    record {
      opened = fresh_opened bytes (fixed_part size id (length blob) sig);
      stands = fresh_backing bytes (fixed_part size id (length blob) sig) (fixed_stands size id blob bytes sig small short fits sig-is p) p.entries_there;
      header = refl;
      sig = sig-is;
      all_closed = λ i lt. get_or-replicate (entry_count (tree_of size)) i Closed Damaged lt;
      none_stored = λ i lt. get_or-replicate (entry_count (tree_of size)) i None None lt;
    }
