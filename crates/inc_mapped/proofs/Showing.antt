-- What a mapped file shows, as numbers and in words.
use Rattle.std.proofs.Common.{◌≡◌, ℕ, ◌+◌, ◌-◌, ◌*◌, ◌/◌, ◌%◌, ◌<◌, min, nat_lt, Bool, true, false, if◌then◌else◌, Option, Some, None, refl, subst, arith}
use Rattle.std.proofs.lemmas.Bool.Decides.{nat_tests}
use Rattle.inc_mapped.specs.Mapping.{Mapping, ShowsPart, part_shown}

same_shown : (one other : ℕ × ℕ) → Some one ≡ Some other → one ≡ other
same_shown one other e = cc

shows_part : (mapping : Mapping) (index : ℕ) → mapping.offset % 4096 ≡ 0 → 4096 * index < mapping.size → ShowsPart mapping index (mapping.offset / 4096 + index, min 4096 (mapping.size - 4096 * index))
shows_part mapping index start lt = record {
  begins = omega arith;
  each = λ byte small. (λ below. omega arith, λ inside. omega arith);
  some = omega arith;
  most = omega arith;
}

pub part_shows : (mapping : Mapping) (index : ℕ) (shown : ℕ × ℕ) → mapping.offset % 4096 ≡ 0 → part_shown mapping index ≡ Some shown → ShowsPart mapping index shown
part_shows mapping index shown start e =
    elim (nat_lt (4096 * index) mapping.size) as (λ b. nat_lt (4096 * index) mapping.size ≡ b
    → (if b then Some (mapping.offset / 4096 + index, min 4096 (mapping.size - 4096 * index)) else None) ≡ Some shown → ShowsPart mapping index shown) [
      | true ↦ λ lt is. let here : 4096 * index < mapping.size = grind (arith, nat_tests) in
          subst (ShowsPart mapping index) (same_shown (mapping.offset / 4096 + index, min 4096 (mapping.size - 4096 * index)) shown is) (shows_part mapping index start here)
      | false ↦ λ lt is. absurd (cc)
    ] refl e
