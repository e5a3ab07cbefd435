-- The new file for a content: its id, and that it is short enough to be mounted.
use Rattle.std.proofs.Common.{◌≡◌, inl, inr, ℕ, ◌-◌, ◌≤◌, ◌^◌, List, [], ◌∷◌, ◌++◌, length, take, drop, Ok, refl, ap, ◌∙◌, arith, append-nil, length-append}
use Rattle.std.proofs.lemmas.List.{drop_all, length-drop, length-replicate, take_at}
use Rattle.inc_bytes.specs.Fields.{le_bytes}
use Rattle.inc_bytes.proofs.Numbers.{length-le_bytes}
use Rattle.inc_signature.specs.Signature.{signature_of}
use Rattle.inc_signature.specs.declared.signature.SigInfo.{SigInfo}
use Rattle.inc_signature.proofs.Printing.{is_short}
use Rattle.inc_tree.specs.shape.Geometry.{tree_of}
use Rattle.inc_tree.specs.shape.Limits.{most_size}
use Rattle.inc_tree.proofs.LevelLemmas.{hash_small}
use Rattle.inc_layout.specs.Fresh.{fresh_length, image_of, zeros}
use Rattle.inc_layout.specs.declared.fresh.FreshImage.{FreshImage}
use Rattle.inc_layout.proofs.fresh_file.FreshPieces.{tree_or_none}
use Rattle.inc_cmd.specs.Commands.Big.{big_id}

-- ---- the id

-- two numbers are written one behind the other over sixteen bytes
pub two_numbers : (old mid new : List ℕ) (number size : ℕ) → length old ≡ 16 → mid ≡ take 0 old ++ le_bytes 8 number ++ drop 8 old → new ≡ take 8 mid ++ le_bytes 8 size ++ drop 16 mid → new ≡ big_id number size
two_numbers old mid new number size long first second =
    let begins : mid ≡ le_bytes 8 number ++ drop 8 old = first ∙ ap (λ (l : List ℕ). l ++ le_bytes 8 number ++ drop 8 old) (none old) in
    let front : take 8 mid ≡ le_bytes 8 number = ap (take 8) begins ∙ take_at (le_bytes 8 number) (drop 8 old) 8 (length-le_bytes 8 number) in
    let whole : length mid ≤ 16 = (let both = length-append (le_bytes 8 number) (drop 8 old) in let eight = length-le_bytes 8 number in let rest = eight_left old long in let same = ap length begins in omega (arith, both, eight, rest, same)) in
    second ∙ ap (λ (l : List ℕ). l ++ le_bytes 8 size ++ drop 16 mid) front ∙ ap (λ (l : List ℕ). le_bytes 8 number ++ le_bytes 8 size ++ l) (drop_all 16 mid whole) ∙ append-nil (le_bytes 8 number ++ le_bytes 8 size)
  where
    none : (old : List ℕ) → take 0 old ≡ []
    none [] = refl
    none (byte ∷ old) = refl

    eight_left : (old : List ℕ) → length old ≡ 16 → length (drop 8 old) ≡ 8
    eight_left old long = length-drop 8 old ∙ ap (λ (n : ℕ). n - 8) long

-- ---- the length

fresh_short : (size blob_size : ℕ) → size ≤ most_size → blob_size ≤ 8096 → fresh_length (tree_of size) blob_size ≤ 2 ^ 46
fresh_short size blob_size small short =
    let few = hash_small (tree_of size) small in
    elim (tree_or_none (tree_of size) blob_size) [
      | inl t ↦ omega (arith, few, t.whole)
      | inr t ↦ omega (arith, few, t.whole, t.place)
    ]

pub image_short : (size : ℕ) (blob : List ℕ) (image : FreshImage) (sig : SigInfo) → size ≤ most_size → signature_of blob ≡ Ok sig → image.len ≡ fresh_length (tree_of size) (length blob) → length image.front ≤ image.len
    → length (image_of image) ≤ 2 ^ 46
image_short size blob image sig small read sized fits =
    let short : length blob ≤ 8096 = is_short blob (Ok sig) read in
    let fresh = fresh_short size (length blob) small short in
    omega (arith, length-append image.front (zeros (image.len - length image.front)), length-replicate {A = ℕ} (image.len - length image.front) 0, sized, fits, fresh)
