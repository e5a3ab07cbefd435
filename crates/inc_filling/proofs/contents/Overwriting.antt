-- Two writes to ranges that have no byte in common: whichever comes first.
use Rattle.std.proofs.Common.{◌≡◌, inl, inr, ℕ, ◌+◌, ◌-◌, ◌<◌, ◌≤◌, List, length, get_or, sym, ap, ◌∙◌, arith}
use Rattle.std.proofs.lemmas.Bool.{cases_lt}
use Rattle.std.proofs.lemmas.List.{ext_get_or}
use Rattle.inc_disk.specs.Disk.{overwritten}
use Rattle.inc_disk.proofs.States.{length-overwritten, overwritten_after, overwritten_before, written_byte}

abbrev pub HaveNoneInCommon : ℕ → ℕ → ℕ → ℕ → Type 0
HaveNoneInCommon a m b n = (j : ℕ) → a ≤ j → j < a + m → b ≤ j → j < b + n → ⊥

pub byte_outside : (at : ℕ) (piece bytes : List ℕ) (j : ℕ) → at ≤ length bytes → (at ≤ j → j < at + length piece → ⊥) → get_or (overwritten at piece bytes) j 0 ≡ get_or bytes j 0
byte_outside at piece bytes j le out =
    elim (cases_lt j at) [
      | inl lt ↦ overwritten_before at piece bytes j le lt
      | inr ge ↦ elim (cases_lt j (at + length piece)) [
        | inl lt ↦ absurd (out ge lt)
        | inr past ↦ overwritten_after at piece bytes j le past
      ]
    ]

byte_inside : (at : ℕ) (piece bytes : List ℕ) (j : ℕ) → at ≤ length bytes → at ≤ j → j < at + length piece → get_or (overwritten at piece bytes) j 0 ≡ get_or piece (j - at) 0
byte_inside at piece bytes j le from until =
    let same : at + (j - at) ≡ j = omega arith in
    ap (λ (n : ℕ). get_or (overwritten at piece bytes) n 0) (sym same) ∙ written_byte at piece bytes (j - at) le (omega arith)

module _ (a : ℕ) (x : List ℕ) (b : ℕ) (y bytes : List ℕ) (inside : a + length x ≤ length bytes) (there : b ≤ length bytes) (apart : HaveNoneInCommon a (length x) b (length y)) where
  abbrev first : List ℕ
  first = overwritten a x bytes

  abbrev second : List ℕ
  second = overwritten b y bytes

  first_length : length first ≡ length bytes
  first_length = omega (arith, length-overwritten a x bytes (omega arith))

  later : length bytes ≤ length second
  later = omega (arith, length-overwritten b y bytes there)

  first_room : a ≤ length second
  first_room = let le = later in omega arith

  second_room : b ≤ length first
  second_room = let e = first_length in omega arith

  same_length : length (overwritten a x second) ≡ length (overwritten b y first)
  same_length =
      let e = first_length in
      let le = later in
      omega (arith, length-overwritten a x second first_room, length-overwritten b y first second_room, length-overwritten b y bytes there)

  same_byte : (j : ℕ) → get_or (overwritten a x second) j 0 ≡ get_or (overwritten b y first) j 0
  same_byte j =
      elim (cases_lt j a) [
        | inl below ↦ outside (λ from until. omega arith)
        | inr from ↦ elim (cases_lt j (a + length x)) [
          | inl until ↦
              byte_inside a x second j first_room from until
              ∙ sym (byte_outside b y first j second_room (apart j from until) ∙ byte_inside a x bytes j (omega arith) from until)
          | inr past ↦ outside (λ from until. omega arith)
        ]
      ]
    where
      outside : (a ≤ j → j < a + length x → ⊥) → get_or (overwritten a x second) j 0 ≡ get_or (overwritten b y first) j 0
      outside out =
          byte_outside a x second j first_room out
          ∙ elim (cases_lt j b) [
            | inl below ↦ overwritten_before b y bytes j there below ∙ sym (overwritten_before b y first j second_room below ∙ byte_outside a x bytes j (omega arith) out)
            | inr from ↦ elim (cases_lt j (b + length y)) [
              | inl until ↦ byte_inside b y bytes j there from until ∙ sym (byte_inside b y first j second_room from until)
              | inr past ↦ overwritten_after b y bytes j there past ∙ sym (overwritten_after b y first j second_room past ∙ byte_outside a x bytes j (omega arith) out)
            ]
          ]

  pub either_first : overwritten a x (overwritten b y bytes) ≡ overwritten b y (overwritten a x bytes)
  either_first = ext_get_or 0 (overwritten a x second) (overwritten b y first) same_length (λ j lt. same_byte j)
