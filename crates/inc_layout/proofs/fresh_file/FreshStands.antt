-- Where the pieces of a fresh file stand in it, and what its fields then are.
use Rattle.std.proofs.Common.{◌≡◌, ℕ, ◌+◌, ◌-◌, ◌*◌, ◌<◌, ◌≤◌, List, [], ◌++◌, length, take, drop, get_or, refl, sym, ap, ◌∙◌, append_assoc, arith}
use Rattle.std.proofs.lemmas.List.{append-nil, length-append, length-replicate, get_or-drop, get_or-take, drop-append-le, drop-drop, drop_at, length-drop, take-append-le, take_all}
use Rattle.inc_bytes.specs.Fields.{le_number, field}
use Rattle.inc_md.specs.Record.{head_of}
use Rattle.inc_header.specs.Header.{header_bytes}
use Rattle.inc_header.proofs.Spelling.{header_bytes-length}
use Rattle.inc_tree.specs.shape.Geometry.{Shape, blocks_of}
use Rattle.inc_layout.specs.Fresh.{blob_place, entry_count, fresh_header, fresh_length, fresh_of, gap, map_place, map_record, second_record_place, signature_record, status_record, third_record_place, tree_bytes, tree_place, unsigned_length, unsigned_map_place, unsigned_of, zeros}
use Rattle.inc_entry.specs.Stored.{part}
use Rattle.inc_layout.proofs.fresh_file.FreshPieces.{all_zeros, front-length, map_record-length, signature_record-length, unsigned_front, unsigned_front-length}

-- ---- a piece in a list

pub record StandsAt (piece bytes : List ℕ) (at : ℕ) : Type 0 where
  pub front : List ℕ
  pub back : List ℕ
  pub is : bytes ≡ front ++ (piece ++ back)
  pub len : length front ≡ at

last_piece : (front piece : List ℕ) (at : ℕ) → length front ≡ at → StandsAt piece (front ++ piece) at
last_piece front piece at len = record { front = front; back = []; is = ap (λ (x : List ℕ). front ++ x) (sym (append-nil piece)); len = len }

with_more : (piece bytes more : List ℕ) (at : ℕ) → StandsAt piece bytes at → StandsAt piece (bytes ++ more) at
with_more piece bytes more at s = record {
  front = s.front;
  back = s.back ++ more;
  is = ap (λ (x : List ℕ). x ++ more) s.is ∙ append_assoc s.front (piece ++ s.back) more ∙ ap (λ (x : List ℕ). s.front ++ x) (append_assoc piece s.back more);
  len = s.len;
}

-- a part of the piece
pub part_there : (piece bytes : List ℕ) (at k n : ℕ) → StandsAt piece bytes at → k + n ≤ length piece → part n (at + k) bytes ≡ part n k piece
part_there piece bytes at k n s le =
    let rest : length (drop k piece) ≡ length piece - k = length-drop k piece in
    let begins : k ≤ length piece = omega arith in
    let within : n ≤ length (drop k piece) = omega (arith, rest) in
    ap (take n) (
    sym (drop-drop k at bytes)
    ∙ ap (λ (x : List ℕ). drop k (drop at x)) s.is
    ∙ ap (drop k) (drop_at s.front (piece ++ s.back) at s.len)
    ∙ drop-append-le k piece s.back begins)
    ∙ take-append-le n (drop k piece) s.back within

pub piece_there : (piece bytes : List ℕ) (at : ℕ) → StandsAt piece bytes at → part (length piece) at bytes ≡ piece
piece_there piece bytes at s =
    let e : at + 0 ≡ at = omega arith in
    ap (λ (k : ℕ). part (length piece) k bytes) (sym e) ∙ part_there piece bytes at 0 (length piece) s (omega arith) ∙ take_all (length piece) piece (omega arith)

pub field_there : (piece bytes : List ℕ) (at k n : ℕ) → StandsAt piece bytes at → k + n ≤ length piece → field n (at + k) bytes ≡ field n k piece
field_there piece bytes at k n s le = ap le_number (part_there piece bytes at k n s le)

pub byte_there : (piece bytes : List ℕ) (at k : ℕ) → StandsAt piece bytes at → k < length piece → get_or bytes (at + k) 0 ≡ get_or piece k 0
byte_there piece bytes at k s lt =
    let whole = piece_there piece bytes at s in
    sym (get_or-drop at bytes k 0)
    ∙ sym (get_or-take (length piece) (drop at bytes) k 0 lt)
    ∙ ap (λ (x : List ℕ). get_or x k 0) whole

pub head_there : (piece bytes : List ℕ) (at : ℕ) → StandsAt piece bytes at → 15 ≤ length piece → head_of bytes at ≡ head_of piece 0
unfolding head_of
head_there piece bytes at s le =
    let e : at ≡ at + 0 = omega arith in
    let kind = ap (λ (n : ℕ). get_or bytes n 0) e ∙ byte_there piece bytes at 0 s (omega arith) in
    let size = field_there piece bytes at 1 2 s (omega arith) in
    let next = field_there piece bytes at 7 8 s (omega arith) in
    λ i. record { kind = kind i; size = size i; next = next i }

-- ---- the pieces of a fresh file

pub record Pieces (shape : Shape) (id blob bytes : List ℕ) : Type 0 where
  pub header : StandsAt (header_bytes (fresh_header shape.size id)) bytes 0
  pub map_there : StandsAt (map_record (map_place (length blob)) (entry_count shape)) bytes 56
  pub signature_there : StandsAt (signature_record (length blob) (tree_bytes shape) (tree_place shape (length blob))) bytes second_record_place
  pub status_there : StandsAt status_record bytes third_record_place
  pub blob_there : StandsAt blob bytes blob_place
  pub entries_there : StandsAt (zeros (10 * entry_count shape)) bytes (map_place (length blob))
  pub whole : length bytes ≡ fresh_length shape (length blob)

pub pieces_of : (shape : Shape) (id blob : List ℕ) → length id ≡ 16 → Pieces shape id blob (fresh_of shape id blob)
unfolding fresh_of
pieces_of shape id blob id-len =
    let H = header_bytes (fresh_header shape.size id) in
    let M = map_record (map_place (length blob)) (entry_count shape) in
    let S = signature_record (length blob) (tree_bytes shape) (tree_place shape (length blob)) in
    let T = status_record in
    let E = zeros (10 * entry_count shape) in
    let G = zeros (gap shape (length blob)) in
    let R = zeros (tree_bytes shape) in
    let H-len : length H ≡ 56 = header_bytes-length (fresh_header shape.size id) id-len in
    let M-len : length M ≡ 35 = map_record-length (map_place (length blob)) (entry_count shape) in
    let S-len : length S ≡ 47 = signature_record-length (length blob) (tree_bytes shape) (tree_place shape (length blob)) in
    let HM-len : length (H ++ M) ≡ second_record_place = omega (arith, H-len, M-len, length-append H M) in
    let HMS-len : length (H ++ M ++ S) ≡ third_record_place = omega (arith, HM-len, S-len, length-append (H ++ M) S) in
    let front-len : length (H ++ M ++ S ++ T) ≡ blob_place = front-length shape id (length blob) id-len in
    let B-len : length (H ++ M ++ S ++ T ++ blob) ≡ map_place (length blob) = omega (arith, front-len, length-append (H ++ M ++ S ++ T) blob) in
    let more = λ (piece bytes : List ℕ) (at : ℕ) (s : StandsAt piece bytes at). with_more piece (bytes ++ E ++ G) R at (with_more piece (bytes ++ E) G at (with_more piece bytes E at s)) in
    record {
      header = more H (H ++ M ++ S ++ T ++ blob) 0 (with_more H (H ++ M ++ S ++ T) blob 0 (with_more H (H ++ M ++ S) T 0 (with_more H (H ++ M) S 0 (with_more H H M 0 (last_piece [] H 0 refl)))));
      map_there = more M (H ++ M ++ S ++ T ++ blob) 56 (with_more M (H ++ M ++ S ++ T) blob 56 (with_more M (H ++ M ++ S) T 56 (with_more M (H ++ M) S 56 (last_piece H M 56 H-len))));
      signature_there = more S (H ++ M ++ S ++ T ++ blob) second_record_place (with_more S (H ++ M ++ S ++ T) blob second_record_place (with_more S (H ++ M ++ S) T second_record_place (last_piece (H ++ M) S second_record_place HM-len)));
      status_there = more T (H ++ M ++ S ++ T ++ blob) third_record_place (with_more T (H ++ M ++ S ++ T) blob third_record_place (last_piece (H ++ M ++ S) T third_record_place HMS-len));
      blob_there = more blob (H ++ M ++ S ++ T ++ blob) blob_place (last_piece (H ++ M ++ S ++ T) blob blob_place front-len);
      entries_there = with_more E (H ++ M ++ S ++ T ++ blob ++ E ++ G) R (map_place (length blob)) (with_more E (H ++ M ++ S ++ T ++ blob ++ E) G (map_place (length blob)) (last_piece (H ++ M ++ S ++ T ++ blob) E (map_place (length blob)) B-len));
      whole = omega (
        arith,
        B-len,
        all_zeros shape (length blob),
        length-append (H ++ M ++ S ++ T ++ blob ++ E ++ G) R,
        length-append (H ++ M ++ S ++ T ++ blob ++ E) G,
        length-append (H ++ M ++ S ++ T ++ blob) E,
        length-replicate {A = ℕ} (10 * entry_count shape) 0,
        length-replicate {A = ℕ} (gap shape (length blob)) 0,
        length-replicate {A = ℕ} (tree_bytes shape) 0,
      );
    }

-- ---- the pieces of a fresh unsigned file

pub record UnsignedPieces (size : ℕ) (id bytes : List ℕ) : Type 0 where
  pub header : StandsAt (header_bytes (fresh_header size id)) bytes 0
  pub map_there : StandsAt (map_record unsigned_map_place (blocks_of size)) bytes 56
  pub status_there : StandsAt status_record bytes second_record_place
  pub entries_there : StandsAt (zeros (10 * blocks_of size)) bytes unsigned_map_place
  pub whole : length bytes ≡ unsigned_length size

pub unsigned_pieces : (size : ℕ) (id : List ℕ) → length id ≡ 16 → UnsignedPieces size id (unsigned_of size id)
unfolding unsigned_of unsigned_front
unsigned_pieces size id id-len =
    let H = header_bytes (fresh_header size id) in
    let M = map_record unsigned_map_place (blocks_of size) in
    let T = status_record in
    let E = zeros (10 * blocks_of size) in
    let H-len : length H ≡ 56 = header_bytes-length (fresh_header size id) id-len in
    let M-len : length M ≡ 35 = map_record-length unsigned_map_place (blocks_of size) in
    let HM-len : length (H ++ M) ≡ second_record_place = omega (arith, H-len, M-len, length-append H M) in
    let front-len : length (H ++ M ++ T) ≡ unsigned_map_place = unsigned_front-length size id id-len in
    record {
      header = with_more H (H ++ M ++ T) E 0 (with_more H (H ++ M) T 0 (with_more H H M 0 (last_piece [] H 0 refl)));
      map_there = with_more M (H ++ M ++ T) E 56 (with_more M (H ++ M) T 56 (last_piece H M 56 H-len));
      status_there = with_more T (H ++ M ++ T) E second_record_place (last_piece (H ++ M) T second_record_place HM-len);
      entries_there = last_piece (H ++ M ++ T) E unsigned_map_place front-len;
      whole = omega (arith, front-len, length-append (H ++ M ++ T) E, length-replicate {A = ℕ} (10 * blocks_of size) 0);
    }
