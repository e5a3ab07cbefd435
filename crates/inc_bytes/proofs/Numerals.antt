-- The number that decimal digits spell.
use Rattle.std.proofs.Common.{◌≡◌, ℕ, ◌+◌, ◌-◌, ◌*◌, ◌^◌, ◌<◌, ◌≤◌, true, false, ◌&&◌, List, [], ◌∷◌, length, Some, None, refl, ap, arith, rules, inl, inr}
use Rattle.std.specs.Prelude.{nat_le}
use Rattle.std.specs.Fmt.{decimal}
use Rattle.std.specs.Str.{all_ascii_digits}
use Rattle.std.proofs.lemmas.Bool.{and_from, cases_Bool, le-leb}
use Rattle.std.proofs.lemmas.Bool.Decides.{nat_tests}
use Rattle.std.proofs.lemmas.Fmt.{decimal_nonempty, digits_decimal, digits_value-decimal, length-decimal-le}
use Rattle.std.proofs.lemmas.Str.Parse.{IsNumeralModel, numerals_by_fold}
use Rattle.inc_bytes.specs.Decimals.{is_numeral, numeral_from, numeral_of}

is_le : (m n : ℕ) → m ≤ n → nat_le m n ≡ true
is_le m n le = grind (arith, nat_tests)

not_le : (m n : ℕ) → n < m → nat_le m n ≡ false
not_le m n lt = grind (arith, nat_tests)

-- more digits make no number smaller
grows : (value : ℕ) (digits : List ℕ) → value ≤ numeral_from value digits
grows value [] = omega arith
grows value (digit ∷ digits) = let more = grows (10 * value + (digit - 48)) digits in omega arith

pub not_a_numeral : (most : ℕ) (word : List ℕ) → is_numeral word ≡ false → numeral_of most word ≡ None
unfolding numeral_of
not_a_numeral most word is = rw is refl

pub too_great : (most : ℕ) (word : List ℕ) (value digit : ℕ) (digits : List ℕ) → is_numeral word ≡ true → numeral_from value (digit ∷ digits) ≡ numeral_from 0 word
    → most < 10 * value + (digit - 48) → numeral_of most word ≡ None
unfolding numeral_of
too_great most word value digit digits is same great =
    let more = grows (10 * value + (digit - 48)) digits in
    let over : most < numeral_from 0 word = omega (arith, same) in
    rw (is, not_le (numeral_from 0 word) most over) refl

small_enough : (most : ℕ) (word : List ℕ) (value : ℕ) → is_numeral word ≡ true → value ≡ numeral_from 0 word → value ≤ most → Some value ≡ numeral_of most word
unfolding numeral_of
small_enough most word value is same small =
    let within : numeral_from 0 word ≤ most = omega (arith, same) in
    rw (is, is_le (numeral_from 0 word) most within) (ap (λ (v : ℕ). Some v) same)

-- no digit is left
pub number_all : (most : ℕ) (word rest : List ℕ) (value : ℕ) → is_numeral word ≡ true → numeral_from value rest ≡ numeral_from 0 word → length rest < 1 → value ≤ most → Some value ≡ numeral_of most word
number_all most word [] value is same none small = small_enough most word value is same small
number_all most word (digit ∷ digits) value is same none small = absurd (omega arith)

-- ---- what is a numeral, and that the digits of a number spell it

pub numeral_is : (most : ℕ) (word : List ℕ) (number : ℕ) → numeral_of most word ≡ Some number → is_numeral word ≡ true
unfolding numeral_of
numeral_is most word number h = elim (cases_Bool (is_numeral word)) [
  | inl is ↦ is
  | inr other ↦ absurd (let e : ◌≡◌ None (Some number) = rw other at h in cc)
]

digits : IsNumeralModel (λ word. all_ascii_digits word ≡ true) (numeral_from 0)
digits = numerals_by_fold _ (search rules) numeral_from (search rules)

pub decimal_is : (most number : ℕ) → number ≤ most → most < 2 ^ 64 → numeral_of most (decimal number) ≡ Some number
unfolding numeral_of
decimal_is most number le small =
    let fits : number < 2 ^ 64 = omega arith in
    let short : length (decimal number) ≤ 20 = length-decimal-le 20 number (omega arith) (omega arith) fits in
    let some = decimal_nonempty number fits in
    let is : is_numeral (decimal number) ≡ true = and_from (nat_le 1 (length (decimal number)) && nat_le (length (decimal number)) 20) (all_ascii_digits (decimal number))
    (and_from (nat_le 1 (length (decimal number))) (nat_le (length (decimal number)) 20) (le-leb 1 (length (decimal number)) some) (le-leb (length (decimal number)) 20 short)) (digits_decimal digits number fits) in
    rw (is, digits_value-decimal digits number fits, le-leb number most le) refl
