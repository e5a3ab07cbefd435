-- The front of a room that is filled from an input piece by piece, over an input that may not be told.
use Rattle.std.proofs.Common.{◌≡◌, ℕ, zero, suc, ◌+◌, ◌-◌, ◌<◌, ◌≤◌, List, ◌++◌, length, take, drop, Option, Some, None, refl, sym, ap, ◌∙◌, subst, arith, append_assoc, length-drop, length-take-le, take_all}
use Rattle.std.proofs.Math.Seq.{take-add, take-append-add}
use Rattle.std.proofs.lemmas.List.{drop-drop, take-append-le, take-take}
use borrow.Rule.Slice.PartMut.{mid_of, put_mid, same_len_mid}
use Rattle.std.specs.Prelude.{IfSome, option_map}
use Rattle.inc_cmd.specs.Commands.Make.{blob_of}

-- so much of the room is filled, and the rest of the input is left
pub record Filled (given : List ℕ) (rest : Option (List ℕ)) (room : List ℕ) (end : ℕ) : Type 0 where
  pub enough : end ≤ length given
  pub front : take end room ≡ take end given
  pub left : rest ≡ Some (drop end given)

pub filled_none : (given : Option (List ℕ)) (room : List ℕ) → IfSome given (λ bytes. Filled bytes given room 0)
filled_none None room = tt
filled_none (Some bytes) room = record { enough = omega arith; front = refl; left = refl }

-- the rest of a room
pub rest_length : (end : ℕ) (room : List ℕ) → end ≤ length room → length (take (length room - end) (drop end room)) ≡ length room - end
rest_length end room le =
    let same : length (drop end room) ≡ length room - end = length-drop end room in
    length-take-le (length room - end) (drop end room) (omega arith)

-- a room whose rest was written has as many bytes as before
pub within_room : (end count : ℕ) (room piece : List ℕ) → end ≤ length room → length piece ≡ length (mid_of end (length room - end) room) → count ≤ length (mid_of end (length room - end) room)
    → end + count ≤ length (put_mid end (length room - end) room piece)
within_room end count room piece le same few =
    let all : length (put_mid end (length room - end) room piece) ≡ length room = same_len_mid end (length room - end) room piece same in
    let mid : length (mid_of end (length room - end) room) ≡ length room - end = rest_length end room le in
    omega arith

-- the front of a room whose end was written
joined : (end count : ℕ) (room piece behind : List ℕ) → end ≤ length room → take (end + count) (take end room ++ (piece ++ behind)) ≡ take end room ++ take count (piece ++ behind)
joined end count room piece behind le =
    subst (λ (n : ℕ). take (n + count) (take end room ++ (piece ++ behind)) ≡ take end room ++ take count (piece ++ behind)) (length-take-le end room le)
    (take-append-add (take end room) (piece ++ behind) count)

-- the front of a piece that was read
read_front : (count : ℕ) (left piece tail behind : List ℕ) → count ≤ length left → piece ≡ take count left ++ tail → take count (piece ++ behind) ≡ take count left
read_front count left piece tail behind le is =
    let len : length (take count left) ≡ count = length-take-le count left le in
    ap (λ (xs : List ℕ). take count (xs ++ behind)) is ∙ ap (take count) (append_assoc (take count left) tail behind)
    ∙ take-append-le count (take count left) (tail ++ behind) (omega arith) ∙ take_all count (take count left) (omega arith)

filled_by : (given : List ℕ) (rest more : Option (List ℕ)) (room piece tail behind : List ℕ) (end count : ℕ) → Filled given rest room end → end ≤ length room → more ≡ option_map (drop count) rest
    → IfSome rest (λ left. count ≤ length left) → IfSome rest (λ left. piece ≡ take count left ++ tail) → Filled given more (take end room ++ (piece ++ behind)) (end + count)
filled_by given rest more room piece tail behind end count f le gives enough is =
    let few : count ≤ length (drop end given) = subst (λ (r : Option (List ℕ)). IfSome r (λ left. count ≤ length left)) f.left enough in
    let piece_is : piece ≡ take count (drop end given) ++ tail = subst (λ (r : Option (List ℕ)). IfSome r (λ left. piece ≡ take count left ++ tail)) f.left is in
    record {
      enough = (let same : length (drop end given) ≡ length given - end = length-drop end given in let before : end ≤ length given = f.enough in omega arith);
      front = joined end count room piece behind le
          ∙ ap (λ (xs : List ℕ). take end room ++ xs) (read_front count (drop end given) piece tail behind few piece_is)
          ∙ ap (λ (xs : List ℕ). xs ++ take count (drop end given)) f.front
          ∙ sym (take-add end count given);
      left = gives ∙ ap (option_map (drop count)) f.left ∙ ap (λ (xs : List ℕ). Some xs) (drop-drop count end given);
    }

pub filled_more : (given rest more : Option (List ℕ)) (room piece tail behind : List ℕ) (end count : ℕ) → IfSome given (λ bytes. Filled bytes rest room end) → end ≤ length room
    → more ≡ option_map (drop count) rest → IfSome rest (λ left. count ≤ length left) → IfSome rest (λ left. piece ≡ take count left ++ tail)
    → IfSome given (λ bytes. Filled bytes more (take end room ++ (piece ++ behind)) (end + count))
filled_more None rest more room piece tail behind end count f le gives enough is = tt
filled_more (Some bytes) rest more room piece tail behind end count f le gives enough is = filled_by bytes rest more room piece tail behind end count f le gives enough is

-- no byte came for some room: the input has no more
pub filled_end : (given rest : Option (List ℕ)) (room piece behind : List ℕ) (end count most room_left : ℕ) → IfSome given (λ bytes. Filled bytes rest room end) → end ≤ length room → end ≤ most → count ≡ 0 → 0 < room_left
    → IfSome rest (λ left. 0 < room_left → 0 < length left → 0 < count) → IfSome given (λ bytes. take end (take end room ++ (piece ++ behind)) ≡ take most bytes)
filled_end None rest room piece behind end count most room_left f le small nothing some more = tt
filled_end (Some given) rest room piece behind end count most room_left f le small nothing some more =
    let next : 0 < room_left → 0 < length (drop end given) → 0 < count = subst (λ (r : Option (List ℕ)). IfSome r (λ left. 0 < room_left → 0 < length left → 0 < count)) f.left more in
    let none : length (drop end given) ≡ 0 = empty (length (drop end given)) (λ there. no_less count nothing (next some there)) in
    let short : length given ≤ end = (let same : length (drop end given) ≡ length given - end = length-drop end given in omega arith) in
    let len : length (take end room) ≡ end = length-take-le end room le in
    take-append-le end (take end room) (piece ++ behind) (omega arith) ∙ take_all end (take end room) (omega arith) ∙ f.front ∙ take_all end given short
    ∙ sym (take_all most given (omega arith))
  where
    empty : (n : ℕ) → (0 < n → ⊥) → n ≡ 0
    empty zero none = refl
    empty (suc n) none = absurd (none (omega arith))

    no_less : (count : ℕ) → count ≡ 0 → 0 < count → ⊥
    no_less count nothing less = omega arith

-- the room is full
pub filled_all : (given rest : Option (List ℕ)) (room : List ℕ) (end most : ℕ) → IfSome given (λ bytes. Filled bytes rest room end) → end ≡ most → IfSome given (λ bytes. take end room ≡ take most bytes)
filled_all None rest room end most f all = tt
filled_all (Some given) rest room end most f all = f.front ∙ ap (λ (n : ℕ). take n given) all

pub told_blob : (told : Option (List ℕ)) (count most len : ℕ) (room behind blob : List ℕ) → IfSome told (λ given. take count room ≡ take most given) → most ≡ 8097 → count ≤ len → count ≤ length room
    → blob ≡ take count (take len (room ++ behind)) → IfSome told (λ given. blob ≡ blob_of given)
told_blob None count most len room behind blob read all few short is = tt
told_blob (Some given) count most len room behind blob read all few short is =
    is ∙ take-take count len (room ++ behind) few ∙ take-append-le count room behind short ∙ read ∙ ap (λ (n : ℕ). take n given) all

-- ---- how much was taken

pub taken_none : (before : Option (List ℕ)) → before ≡ option_map (drop 0) before
taken_none None = refl
taken_none (Some bytes) = refl

pub taken_more : (before between after : Option (List ℕ)) (end count : ℕ) → between ≡ option_map (drop end) before → after ≡ option_map (drop count) between
    → after ≡ option_map (drop (end + count)) before
taken_more None between after end count first next = next ∙ ap (option_map (drop count)) first
taken_more (Some bytes) between after end count first next = next ∙ ap (option_map (drop count)) first ∙ ap (λ (xs : List ℕ). Some xs) (drop-drop count end bytes)
