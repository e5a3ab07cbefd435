-- At most four numbers in a value of one size: zeros stand behind those that count.
use Rattle.std.specs.Prelude.{◌≡◌, ℕ, ◌-◌, ◌≤◌, List, ◌++◌, length, replicate, take}
use Rattle.std.proofs.Common.{sym, ap, ◌∙◌, arith}
use Rattle.std.proofs.lemmas.List.{length-take}
use Rattle.inc_cell.specs.declared.words.number_list.NumberList.TheInside.{Inside}

pub record HoldsNumbers (numbers : List ℕ) (count : ℕ) : Type 0 where
  pub each : length numbers ≡ 4
  pub small : count ≤ 4
  pub zeros : numbers ≡ take count numbers ++ replicate (4 - count) 0

-- what a list of these numbers keeps
abbrev pub kept_numbers : List ℕ → Inside
kept_numbers list = record { numbers = list ++ replicate (4 - length list) 0; count = length list }

same_numbers : (a b : List ℕ) (m n : ℕ) → a ≡ b → m ≡ n → (let made : Inside = record { numbers = a; count = m } in made) ≡ record { numbers = b; count = n }
same_numbers a b m n ea em = cc

pub kept_again : (inside : Inside) → HoldsNumbers inside.numbers inside.count → kept_numbers (take inside.count inside.numbers) ≡ inside
kept_again inside h =
    let len : length (take inside.count inside.numbers) ≡ inside.count = omega (arith, length-take inside.count inside.numbers, h.each, h.small) in
    same_numbers (take inside.count inside.numbers ++ replicate (4 - length (take inside.count inside.numbers)) 0) inside.numbers (length (take inside.count inside.numbers)) inside.count
    (ap (λ (n : ℕ). take inside.count inside.numbers ++ replicate (4 - n) 0) len ∙ sym h.zeros) len
