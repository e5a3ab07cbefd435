-- Words without a space, a dash or a line feed, and the fields that they are read as.
use Rattle.std.proofs.Common.{◌≡◌, ℕ, zero, suc, ◌<◌, ◌≤◌, Bool, true, false, cond, ◌&&◌, not, eqb, List, [], ◌∷◌, ◌++◌, length, Some, refl, sym, ap, ◌∙◌, arith, append-nil, length-append, inl, inr}
use Rattle.std.specs.Prelude.{nat_le}
use Rattle.std.specs.List.{AllByRecursion, list_all}
use Rattle.std.specs.Str.{all_ascii_digits}
use Rattle.std.proofs.lemmas.Bool.{and_parts, eqb-false, leb-true, ne_eqb}
use Rattle.std.proofs.lemmas.Bool.Decides.{eqb_tells}
use Rattle.std.proofs.lemmas.Str.Parse.{tells_all_ascii_digits}
use Rattle.inc_io.specs.Names.{IsName, is_name, is_name_byte}
use Rattle.inc_script.specs.Lines.{fields_from, fields_of, lines_of, part_before, part_from, tail_fields}
use Rattle.inc_bytes.specs.Decimals.{numeral_of}
use Rattle.inc_bytes.proofs.Numerals.{numeral_is}
use Rattle.inc_script.specs.Spelling.{IsSpaced, spaces}
use Rattle.inc_script.proofs.LineLemmas.{first_field, line_before, no_space}

-- whether this byte doesn't stand in a word
abbrev pub lacks : ℕ → List ℕ → Bool
lacks stop [] = true
lacks stop (byte ∷ bytes) = cond (eqb byte stop) false (lacks stop bytes)

lacks_parts : (stop byte : ℕ) (bytes : List ℕ) → lacks stop (byte ∷ bytes) ≡ true → (eqb byte stop ≡ false) × (lacks stop bytes ≡ true)
lacks_parts stop byte bytes h = elim (eqb_tells byte stop) [
  | inl is ↦ absurd (let e : false ≡ true = rw is.0 at h in cc)
  | inr other ↦ (other.0, rw other.0 at h)
]

lacks_from : (stop byte : ℕ) (bytes : List ℕ) → eqb byte stop ≡ false → lacks stop bytes ≡ true → lacks stop (byte ∷ bytes) ≡ true
lacks_from stop byte bytes test rest = rw test rest

pub lacks-append : (stop : ℕ) (word more : List ℕ) → lacks stop word ≡ true → lacks stop more ≡ true → lacks stop (word ++ more) ≡ true
lacks-append stop [] more here there = there
lacks-append stop (byte ∷ bytes) more here there =
    let parts = lacks_parts stop byte bytes here in
    lacks_from stop byte (bytes ++ more) parts.0 (lacks-append stop bytes more parts.1 there)

-- ---- where such a word is cut

pub before_alone : (stop : ℕ) (word : List ℕ) → lacks stop word ≡ true → part_before stop word ≡ word
before_alone stop [] h = refl
before_alone stop (byte ∷ bytes) h = let parts = lacks_parts stop byte bytes h in rw parts.0 (ap (λ (xs : List ℕ). byte ∷ xs) (before_alone stop bytes parts.1))

pub from_alone : (stop : ℕ) (word : List ℕ) → lacks stop word ≡ true → part_from stop word ≡ []
from_alone stop [] h = refl
from_alone stop (byte ∷ bytes) h = let parts = lacks_parts stop byte bytes h in rw parts.0 (from_alone stop bytes parts.1)

pub before_stop : (stop : ℕ) (word rest : List ℕ) → eqb stop stop ≡ true → lacks stop word ≡ true → part_before stop (word ++ stop ∷ rest) ≡ word
before_stop stop [] rest same h = rw same refl
before_stop stop (byte ∷ bytes) rest same h = let parts = lacks_parts stop byte bytes h in rw parts.0 (ap (λ (xs : List ℕ). byte ∷ xs) (before_stop stop bytes rest same parts.1))

pub from_stop : (stop : ℕ) (word rest : List ℕ) → eqb stop stop ≡ true → lacks stop word ≡ true → part_from stop (word ++ stop ∷ rest) ≡ stop ∷ rest
from_stop stop [] rest same h = rw same refl
from_stop stop (byte ∷ bytes) rest same h = let parts = lacks_parts stop byte bytes h in rw parts.0 (from_stop stop bytes rest same parts.1)

pub first_line_is : (line rest : List ℕ) → lacks 10 line ≡ true → lines_of (line ++ 10 ∷ rest) ≡ line ∷ lines_of rest
first_line_is line rest h =
    let some : 0 < length (line ++ 10 ∷ rest) = omega (arith, length-append line (10 ∷ rest)) in
    line_before (line ++ 10 ∷ rest) line rest 10 some (sym (before_stop 10 line rest refl h)) (sym (from_stop 10 line rest refl h))

-- ---- a line of such words

pub record IsWord (word : List ℕ) : Type 0 where
  pub some : 0 < length word
  pub plain : lacks 32 word ≡ true

field_alone : (word : List ℕ) → lacks 32 word ≡ true → fields_of word ≡ word ∷ []
field_alone word h = first_field word ∙ ap (λ (rest : List ℕ). part_before 32 word ∷ tail_fields rest) (from_alone 32 word h) ∙ ap (λ (xs : List ℕ). xs ∷ []) (before_alone 32 word h)

field_then : (word rest : List ℕ) → lacks 32 word ≡ true → fields_of (word ++ 32 ∷ rest) ≡ word ∷ fields_from true rest
field_then word rest h =
    first_field (word ++ 32 ∷ rest) ∙ ap (λ (xs : List ℕ). part_before 32 (word ++ 32 ∷ rest) ∷ tail_fields xs) (from_stop 32 word rest refl h)
    ∙ ap (λ (xs : List ℕ). xs ∷ fields_from true rest) (before_stop 32 word rest refl h)

gap_passed : (more : ℕ) (rest : List ℕ) → fields_from true (spaces more ++ rest) ≡ fields_from true rest
gap_passed zero rest = refl
gap_passed (suc more) rest = gap_passed more rest

-- a line of words begins with a byte of its first word
Begins : List ℕ → Type 0
Begins line = (byte : ℕ) × (bytes : List ℕ) × (line ≡ byte ∷ bytes) × (byte ≡ 32 → ⊥)

begins_as : (line word rest : List ℕ) → IsWord word → line ≡ word ++ rest → Begins line
unfolding Begins
begins_as line [] rest is e = absurd (let some = is.some in omega arith)
begins_as line (byte ∷ bytes) rest is e = (byte, bytes ++ rest, e, eqb-false byte 32 (lacks_parts 32 byte bytes is.plain).0)

begins : (words : List (List ℕ)) (line : List ℕ) → AllByRecursion IsWord words → IsSpaced words line → Begins line
begins [] line are spaced = absurd spaced
begins (word ∷ words) line are (inl alone) = begins_as line word [] are.0 (alone.1 ∙ sym (append-nil word))
begins (word ∷ words) line are (inr more) = begins_as line word (32 ∷ (spaces more.0 ++ more.1)) are.0 more.2

gap_ends : (line : List ℕ) → Begins line → fields_from true line ≡ fields_of line
unfolding Begins
gap_ends line b = ap (fields_from true) b.2 ∙ no_space b.0 b.1 b.3 ∙ ap fields_of (sym b.2)

-- the fields of a line of words are these words
pub words_read : (words : List (List ℕ)) (line : List ℕ) → AllByRecursion IsWord words → IsSpaced words line → fields_of line ≡ words
words_read [] line are spaced = absurd spaced
words_read (word ∷ words) line are (inl alone) = ap fields_of alone.1 ∙ field_alone word are.0.plain ∙ ap (λ (ws : List (List ℕ)). word ∷ ws) (sym alone.0)
words_read (word ∷ words) line are (inr more) =
    ap fields_of more.2 ∙ field_then word (spaces more.0 ++ more.1) are.0.plain
    ∙ ap (λ (ws : List (List ℕ)). word ∷ ws) (gap_passed more.0 more.1 ∙ gap_ends more.1 (begins words more.1 are.1 more.3) ∙ words_read words more.1 are.1 more.3)

-- ---- numbers and names are such words

digits_lack : (stop : ℕ) (word : List ℕ) → stop < 48 → all_ascii_digits word ≡ true → lacks stop word ≡ true
digits_lack stop [] low h = refl
digits_lack stop (digit ∷ digits) low h =
    let parts = tells_all_ascii_digits.parts digit digits h in
    let high : 48 ≤ digit = parts.0.0 in
    lacks_from stop digit digits (ne_eqb digit stop (λ e. omega arith)) (digits_lack stop digits low parts.1)

pub number_lacks : (stop most : ℕ) (word : List ℕ) (number : ℕ) → stop < 48 → numeral_of most word ≡ Some number → lacks stop word ≡ true
number_lacks stop most word number low h =
    digits_lack stop word low (and_parts (nat_le 1 (length word) && nat_le (length word) 20) (all_ascii_digits word) (numeral_is most word number h)).1

number_some : (most : ℕ) (word : List ℕ) (number : ℕ) → numeral_of most word ≡ Some number → 0 < length word
number_some most word number h =
    let both = and_parts (nat_le 1 (length word) && nat_le (length word) 20) (all_ascii_digits word) (numeral_is most word number h) in
    let first = and_parts (nat_le 1 (length word)) (nat_le (length word) 20) both.0 in
    let some : 1 ≤ length word = leb-true 1 (length word) first.0 in
    omega arith

pub number_word : (most : ℕ) (word : List ℕ) (number : ℕ) → numeral_of most word ≡ Some number → IsWord word
number_word most word number h = record { some = number_some most word number h; plain = number_lacks 32 most word number (omega arith) h }

-- two numbers with a dash between them
pub dashed_word : (most : ℕ) (first last : List ℕ) (low high : ℕ) → numeral_of most first ≡ Some low → numeral_of most last ≡ Some high → IsWord (first ++ 45 ∷ last)
dashed_word most first last low high first_is last_is = record {
  some = omega (arith, length-append first (45 ∷ last));
  plain = lacks-append 32 first (45 ∷ last) (number_lacks 32 most first low (omega arith) first_is) (number_lacks 32 most last high (omega arith) last_is);
}

names_lack : (stop : ℕ) (name : List ℕ) → stop < 33 → list_all is_name_byte name ≡ true → lacks stop name ≡ true
names_lack stop [] low h = refl
names_lack stop (byte ∷ bytes) low h =
    let parts = and_parts (is_name_byte byte) (list_all is_name_byte bytes) h in
    let high : 33 ≤ byte = leb-true 33 byte (and_parts (nat_le 33 byte) (not (eqb byte 47)) parts.0).0 in
    lacks_from stop byte bytes (ne_eqb byte stop (λ e. omega arith)) (names_lack stop bytes low parts.1)

record NameParts (name : List ℕ) : Type 0 where
  some : 0 < length name
  bytes : list_all is_name_byte name ≡ true

name_parts : (name : List ℕ) → IsName name → NameParts name
unfolding is_name
name_parts name is =
    let five = and_parts _ _ is in
    let four = and_parts _ _ five.0 in
    let three = and_parts _ _ four.0 in
    let bytes = and_parts _ _ three.0 in
    let sized = and_parts (nat_le 1 (length name)) (nat_le (length name) 255) bytes.0 in
    let some : 1 ≤ length name = leb-true 1 (length name) sized.0 in
    record { some = omega arith; bytes = bytes.1 }

pub name_lacks : (stop : ℕ) (name : List ℕ) → stop < 33 → IsName name → lacks stop name ≡ true
name_lacks stop name low is = names_lack stop name low (name_parts name is).bytes

pub name_word : (name : List ℕ) → IsName name → IsWord name
name_word name is = record { some = (name_parts name is).some; plain = name_lacks 32 name (omega arith) is }
