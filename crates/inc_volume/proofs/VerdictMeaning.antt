-- What the verdicts mean.
use Rattle.std.proofs.Common.{◌≡◌, ℕ, ◌+◌, ◌<◌, ◌≤◌, List, Bool, true, false, if◌then◌else◌, Option, Some, None, refl, sym, ap, ◌∙◌, subst, arith, nat_le}
use Rattle.std.specs.Prelude.{IfSome}
use Rattle.std.specs.Str.{bytes_eq}
use Rattle.std.specs.Ordering.{nat_cmp, is_eq, ordering_reverse}
use Rattle.std.specs.declared.cmp.Ordering.TheVariants.{Less, Equal, Greater}
use Rattle.std.specs.Cmp.Lexicographic.{slice_cmp, nat_list_cmp_total}
use Rattle.std.proofs.lemmas.Map.Text.{is_eq-slice_cmp}
use Rattle.std.proofs.lemmas.Slice.Eq.{bytes_eq-Decides}
use Rattle.std.proofs.lemmas.Bool.Decides.{nat_tests}
use Rattle.inc_io.specs.Contents.{Contents}
use Rattle.inc_volume.specs.Verdicts.{IsHolder, IsVerdict, holder_of, part_verdict, plain_verdict, size_held, size_of_any, standing_at, verdict_with}
use Rattle.inc_volume.specs.declared.holder.Holder.{Holder}
use Rattle.inc_volume.specs.declared.standing.Standing.{Standing}
use Rattle.inc_volume.specs.declared.standing.Standing.TheVariants as standing
use Rattle.inc_volume.specs.declared.verdict.Verdict.{Verdict}
use Rattle.inc_volume.specs.declared.verdict.Verdict.TheVariants.{Plain, Mapped, SameId, PastOriginal}
use Rattle.inc_volume.proofs.Keeping.{holder_keeps, none_keeps}

pub own_size : (files : Contents) (name id : List ℕ) (size : ℕ) (complete : Bool) → standing_at files name ≡ Some (standing.Plain id size complete) → size_held files id name ≡ Some size
own_size files name id size complete own =
    ap (size_of_any id) own ∙ ap (λ (b : Bool). if b then Some size else None) ((bytes_eq-Decides id id).1 refl)

-- a plain file with the id of which another one is the first stands behind it
behind_holder : (files : Contents) (name id : List ℕ) (size : ℕ) (holder : Holder) → size_held files id name ≡ Some size → IsHolder files id holder → bytes_eq holder.name name ≡ false
    → slice_cmp nat_cmp holder.name name ≡ Less
behind_holder files name id size holder held holds other =
    elim (slice_cmp nat_cmp holder.name name) as (λ o. slice_cmp nat_cmp holder.name name ≡ o → o ≡ Less) [
      | Less ↦ λ e. refl
      | Equal ↦ λ e. absurd (let same : bytes_eq holder.name name ≡ true = sym (is_eq-slice_cmp holder.name name) ∙ ap is_eq e in cc)
      | Greater ↦ λ e. absurd (
          let lower : slice_cmp nat_cmp name holder.name ≡ Less = nat_list_cmp_total.antisymm name holder.name ∙ ap ordering_reverse e in
          let none = holds.first name lower in cc)
    ] refl

same_size : (held : Option ℕ) (one other : ℕ) → held ≡ Some one → held ≡ Some other → one ≡ other
same_size held one other e f = cc

plain_means : (files : Contents) (name id : List ℕ) (size : ℕ) (complete : Bool) → standing_at files name ≡ Some (standing.Plain id size complete)
    → (found : Option Holder) → holder_of files id ≡ found → IsVerdict files name (plain_verdict name id complete found)
plain_means files name id size complete own None found =
    absurd (let none = none_keeps files id found name in let held = own_size files name id size complete own in cc)
plain_means files name id size complete own (Some holder) found =
    let holds = holder_keeps files id holder found in
    let held = own_size files name id size complete own in
    elim (bytes_eq holder.name name) as (λ b. bytes_eq holder.name name ≡ b → IsVerdict files name (if b then Plain id complete else SameId id)) [
      | true ↦ λ e. record {
        size = size;
        own = own;
        holds = record {
          stands = held;
          first = let same : holder.name ≡ name = (bytes_eq-Decides holder.name name).0 e in
              subst (λ (n : List ℕ). (other : List ℕ) → slice_cmp nat_cmp other n ≡ Less → size_held files id other ≡ None) same holds.first;
        };
      }
      | false ↦ λ e. record { size = size; complete = complete; own = own; holder = holder; holds = holds; lower = behind_holder files name id size holder held holds e }
    ] refl

part_means : (files : Contents) (name original : List ℕ) (offset size : ℕ) → standing_at files name ≡ Some (standing.Part original offset size)
    → (found : Option Holder) → holder_of files original ≡ found → IsVerdict files name (part_verdict original offset size found)
part_means files name original offset size own None found = record { offset = offset; size = size; own = own; none = none_keeps files original found }
part_means files name original offset size own (Some holder) found =
    let holds = holder_keeps files original holder found in
    elim (nat_le (offset + size) holder.size) as (λ b. nat_le (offset + size) holder.size ≡ b → IsVerdict files name (if b then Mapped original offset size else PastOriginal original)) [
      | true ↦ λ e. let fits : offset + size ≤ holder.size = grind (arith, nat_tests) in record { own = own; holder = holder; holds = holds; fits = fits }
      | false ↦ λ e. let past : holder.size < offset + size = grind (arith, nat_tests) in record { offset = offset; size = size; own = own; holder = holder; holds = holds; past = past }
    ] refl

pub verdict_means : (files : Contents) (name : List ℕ) (found : Standing) → standing_at files name ≡ Some found → IsVerdict files name (verdict_with (holder_of files) name found)
verdict_means files name (standing.Plain id size complete) own = plain_means files name id size complete own (holder_of files id) refl
verdict_means files name (standing.Part original offset size) own = part_means files name original offset size own (holder_of files original) refl
verdict_means files name (standing.Refused fault) own = own

pub judged_means : (told : Option Contents) (name : List ℕ) (given : Option Standing) (found : Standing) (verdict : Verdict) → given ≡ Some found → IfSome told (λ files. given ≡ standing_at files name)
    → IfSome told (λ files. verdict ≡ verdict_with (holder_of files) name found) → IfSome told (λ files. IsVerdict files name verdict)
judged_means None name given found verdict is stands judged = tt
judged_means (Some files) name given found verdict is stands judged = rw judged (verdict_means files name found (sym stands ∙ is))
