-- What was read into a room of its own is what the file has at that place.
use Rattle.std.proofs.Common.{◌≡◌, ℕ, ◌+◌, ◌≤◌, List, length, take, drop, Option, Some, None, ap, ◌∙◌, arith}
use Rattle.std.specs.Prelude.{IfSome, slice_index}
use Rattle.std.proofs.lemmas.List.{drop-drop, get_or-take, get_or-drop}
use Rattle.inc_bytes.specs.Fields.{field}
use Rattle.inc_bytes.proofs.Numbers.{field-take}
use Rattle.inc_md.specs.declared.head.Head.{Head}
use Rattle.inc_md.specs.declared.records.MapRecord.{MapRecord}
use Rattle.inc_md.specs.declared.records.SigRecord.{SigRecord}
use Rattle.inc_md.specs.declared.records.StatusRecord.{StatusRecord}
use Rattle.inc_md.specs.Record.{head_of, map_fields, sig_fields, status_fields}

-- a field of a part of the bytes
pub field_part : (count place at n : ℕ) (bytes : List ℕ) → place + count ≤ n → field count place (take n (drop at bytes)) ≡ field count (at + place) bytes
field_part count place at n bytes le = field-take count place n (drop at bytes) le ∙ ap (λ (x : List ℕ). field count 0 x) (drop-drop place at bytes)

pub head_part : (at : ℕ) (bytes : List ℕ) → head_of (take 23 (drop at bytes)) 0 ≡ head_of bytes at
unfolding head_of
head_part at bytes =
    let kind : slice_index (take 23 (drop at bytes)) 0 ≡ slice_index bytes at = get_or-take 23 (drop at bytes) 0 0 (omega arith) ∙ get_or-drop at bytes 0 0 ∙ ap (slice_index bytes) (omega arith) in
    let size = field_part 2 1 at 23 bytes (omega arith) in
    let next = field_part 8 7 at 23 bytes (omega arith) in
    λ i. record { kind = kind i; size = size i; next = next i }

first_part : (count at n : ℕ) (bytes : List ℕ) → count ≤ n → field count 0 (take n (drop at bytes)) ≡ field count at bytes
first_part count at n bytes le = field_part count 0 at n bytes (omega arith) ∙ ap (λ (place : ℕ). field count place bytes) (omega arith)

map_part : (at : ℕ) (bytes : List ℕ) → map_fields (take 12 (drop at bytes)) 0 ≡ map_fields bytes at
map_part at bytes =
    let base = first_part 8 at 12 bytes (omega arith) in
    let count = field_part 4 8 at 12 bytes (omega arith) in
    λ i. record { base = base i; count = count i }

sig_part : (at : ℕ) (bytes : List ℕ) → sig_fields (take 24 (drop at bytes)) 0 ≡ sig_fields bytes at
sig_part at bytes =
    let sig_size = first_part 4 at 24 bytes (omega arith) in
    let sig_at = field_part 8 4 at 24 bytes (omega arith) in
    let tree_size = field_part 4 12 at 24 bytes (omega arith) in
    let tree_at = field_part 8 16 at 24 bytes (omega arith) in
    λ i. record { sig_size = sig_size i; sig_at = sig_at i; tree_size = tree_size i; tree_at = tree_at i }

status_part : (at : ℕ) (bytes : List ℕ) → record (status_fields (take 8 (drop at bytes)) 0) { at = at } ≡ status_fields bytes at
status_part at bytes =
    let data_written = first_part 4 at 8 bytes (omega arith) in
    let hash_written = field_part 4 4 at 8 bytes (omega arith) in
    λ i. record { at = at; data_written = data_written i; hash_written = hash_written i }

-- ---- of a file that may tell its bytes

pub told_head : (told : Option (List ℕ)) (at : ℕ) (room : List ℕ) (head : Head) → head ≡ head_of room 0
    → IfSome told (λ bytes. at + 23 ≤ length bytes → room ≡ take 23 (drop at bytes))
    → IfSome told (λ bytes. at + 23 ≤ length bytes → head ≡ head_of bytes at)
told_head None at room head is filled = tt
told_head (Some bytes) at room head is filled = λ le. is ∙ ap (λ (x : List ℕ). head_of x 0) (filled le) ∙ head_part at bytes

pub told_map : (told : Option (List ℕ)) (at : ℕ) (room : List ℕ) (fields : MapRecord) → fields ≡ map_fields room 0
    → IfSome told (λ bytes. at + 12 ≤ length bytes → room ≡ take 12 (drop at bytes))
    → IfSome told (λ bytes. at + 12 ≤ length bytes → fields ≡ map_fields bytes at)
told_map None at room fields is filled = tt
told_map (Some bytes) at room fields is filled = λ le. is ∙ ap (λ (x : List ℕ). map_fields x 0) (filled le) ∙ map_part at bytes

pub told_signature : (told : Option (List ℕ)) (at : ℕ) (room : List ℕ) (fields : SigRecord) → fields ≡ sig_fields room 0
    → IfSome told (λ bytes. at + 24 ≤ length bytes → room ≡ take 24 (drop at bytes))
    → IfSome told (λ bytes. at + 24 ≤ length bytes → fields ≡ sig_fields bytes at)
told_signature None at room fields is filled = tt
told_signature (Some bytes) at room fields is filled = λ le. is ∙ ap (λ (x : List ℕ). sig_fields x 0) (filled le) ∙ sig_part at bytes

pub told_status : (told : Option (List ℕ)) (at : ℕ) (room : List ℕ) (fields : StatusRecord) → fields ≡ record (status_fields room 0) { at = at }
    → IfSome told (λ bytes. at + 8 ≤ length bytes → room ≡ take 8 (drop at bytes))
    → IfSome told (λ bytes. at + 8 ≤ length bytes → fields ≡ status_fields bytes at)
told_status None at room fields is filled = tt
told_status (Some bytes) at room fields is filled = λ le. is ∙ ap (λ (x : List ℕ). record (status_fields x 0) { at = at }) (filled le) ∙ status_part at bytes
