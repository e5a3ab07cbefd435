-- What the targets of names tell of the files that are to be mounted.
use Rattle.std.proofs.Common.{◌≡◌, ℕ, ◌+◌, ◌≤◌, nat_le, List, [], ◌∷◌, length, Bool, true, false, if◌then◌else◌, Option, Some, None, Result, Ok, Err, refl, sym, ap, ◌∙◌, subst, arith}
use Rattle.std.specs.Prelude.{◌^◌, IfSome, IfOk, option_map}
use Rattle.std.specs.FinMap.{get}
use Rattle.std.specs.Str.{bytes_eq}
use Rattle.std.proofs.lemmas.Bool.Decides.{nat_tests}
use Rattle.inc_disk.specs.Log.{Log, contents_of}
use Rattle.inc_io.specs.Contents.{Contents}
use Rattle.inc_layout.specs.Backing.{laid_of}
use Rattle.inc_layout.specs.declared.opened.Layout.{Layout}
use Rattle.inc_volume.specs.mounting.Planned.{ArePlanned, IsPlanned}
use Rattle.inc_volume.specs.Standings.{standing_of, standing_with}
use Rattle.inc_volume.specs.mounting.Targets.{if_short, is_short, part_target, plain_target, target_by, target_by_holder, target_in, target_files, target_of, targets_of, unless_too_long, with_target}
use Rattle.inc_volume.specs.Verdicts.{holder_of, part_verdict, plain_verdict, size_of_any, size_with, standing_at, verdict_of, verdict_with}
use Rattle.inc_volume.specs.declared.holder.Holder.{Holder}
use Rattle.inc_volume.specs.declared.mounting.refusal.MountRefusal.{MountRefusal}
use Rattle.inc_volume.specs.declared.mounting.refusal.MountRefusal.TheVariants.{Bad}
use Rattle.inc_volume.specs.declared.standing.Standing.{Standing}
use Rattle.inc_volume.specs.declared.standing.Standing.TheVariants as standing
use Rattle.inc_volume.specs.declared.mounting.target.Target.{Target}
use Rattle.inc_volume.specs.declared.verdict.Verdict.{Verdict}
use Rattle.inc_volume.specs.declared.verdict.Verdict.TheVariants as verdict
use Rattle.inc_volume.proofs.volumes.Differing.{same_bytes}
use Rattle.inc_volume.proofs.Headers.{no_other}
use Rattle.inc_volume.proofs.Keeping.{holder_keeps, none_keeps}
use Rattle.inc_volume.proofs.VerdictMeaning.{own_size}

-- ---- a file that keeps an id, and isn't too long

record HasLayout (bytes id : List ℕ) : Type 0 where
  layout : Layout
  laid : laid_of bytes ≡ Ok layout
  id_is : layout.header.id ≡ id

own_layout : (bytes id : List ℕ) (size : ℕ) → size_with id (standing_of bytes) ≡ Some size → HasLayout bytes id
unfolding standing_of
own_layout bytes id size held =
    elim (laid_of bytes) as (λ r. laid_of bytes ≡ r → size_with id (standing_with r bytes) ≡ Some size → HasLayout bytes id) [
      | Ok layout ↦ λ laid is. record { layout = layout; laid = laid; id_is = own_id layout is }
      | Err found ↦ λ laid is. absurd (let none = no_other id bytes found in cc)
    ] refl held
  where
    own_id : (layout : Layout) → (if bytes_eq layout.header.id id then Some layout.header.size else None) ≡ Some size → layout.header.id ≡ id
    own_id layout is =
        elim (bytes_eq layout.header.id id) as (λ b. bytes_eq layout.header.id id ≡ b → (if b then Some layout.header.size else None) ≡ Some size → layout.header.id ≡ id) [
          | true ↦ λ e some. same_bytes layout.header.id id e
          | false ↦ λ e none. absurd (cc)
        ] refl is

abbrev as_found : {T : Type 0} → T → Result T MountRefusal
as_found value = Ok value

same_target : (one other : Target) → as_found one ≡ as_found other → one ≡ other
same_target one other e = cc

-- the file of a target keeps an id
record HoldsSome (files : Contents) (name : List ℕ) : Type 0 where
  id : List ℕ
  holder : Holder
  found : holder_of files id ≡ Some holder
  named : holder.name ≡ name

stands_planned : (files : Contents) (name bytes : List ℕ) → HoldsSome files name → get files name ≡ Some bytes → length bytes ≤ 2 ^ 46 → IsPlanned files name
stands_planned files name bytes holds there short =
    let keeps = holder_keeps files holds.id holds.holder holds.found in
    let stands : size_of_any holds.id (standing_at files name) ≡ Some holds.holder.size = subst (λ (n : List ℕ). size_of_any holds.id (standing_at files n) ≡ Some holds.holder.size) holds.named keeps.stands in
    let own = own_layout bytes holds.id holds.holder.size (sym (ap (λ (b : Option (List ℕ)). size_of_any holds.id (option_map standing_of b)) there) ∙ stands) in
    record {
      bytes = bytes;
      there = there;
      short = short;
      layout = own.layout;
      laid = own.laid;
      holds = ap (λ (i : List ℕ). option_map (λ (holder : Holder). holder.name) (holder_of files i)) own.id_is
          ∙ ap (option_map (λ (holder : Holder). holder.name)) holds.found ∙ ap (λ (n : List ℕ). Some n) holds.named;
    }

short_planned : (files : Contents) (target given : Target) (bytes : Option (List ℕ)) → HoldsSome files target.file → get files target.file ≡ bytes
    → unless_too_long target (option_map is_short bytes) ≡ Ok given → IsPlanned files given.file
short_planned files target given None holds there is = absurd (cc)
short_planned files target given (Some bytes) holds there is =
    elim (nat_le (length bytes) (2 ^ 46)) as (λ b. nat_le (length bytes) (2 ^ 46) ≡ b → if_short target b ≡ Ok given → IsPlanned files given.file) [
      | true ↦ λ e same.
          let short : length bytes ≤ 2 ^ 46 = grind (arith, nat_tests) in
          subst (λ (t : Target). IsPlanned files t.file) (same_target target given same) (stands_planned files target.file bytes holds there short)
      | false ↦ λ e other. absurd (cc)
    ] refl is

-- ---- which verdicts have a target

same_plain : (one other : Verdict) → Some one ≡ Some other → one ≡ other
same_plain one other e = cc

plain_holds : (files : Contents) (name id : List ℕ) (size : ℕ) (complete : Bool) → standing_at files name ≡ Some (standing.Plain id size complete)
    → (found : Option Holder) → holder_of files id ≡ found → (own : List ℕ) (whole : Bool) → plain_verdict name id complete found ≡ verdict.Plain own whole → HoldsSome files name
plain_holds files name id size complete stands None found own whole is =
    absurd (let none = none_keeps files id found name in let held = own_size files name id size complete stands in cc)
plain_holds files name id size complete stands (Some holder) found own whole is =
    elim (bytes_eq holder.name name) as (λ b. bytes_eq holder.name name ≡ b → (if b then verdict.Plain id complete else verdict.SameId id) ≡ verdict.Plain own whole → HoldsSome files name) [
      | true ↦ λ e same. record { id = id; holder = holder; found = found; named = same_bytes holder.name name e }
      | false ↦ λ e other. absurd (cc)
    ] refl is

never_plain : (original : List ℕ) (offset size : ℕ) (holder : Option Holder) (own : List ℕ) (whole : Bool) → part_verdict original offset size holder ≡ verdict.Plain own whole → ⊥
never_plain original offset size None own whole is = absurd (cc)
never_plain original offset size (Some holder) own whole is =
    elim (nat_le (offset + size) holder.size) as (λ b. (if b then verdict.Mapped original offset size else verdict.PastOriginal original) ≡ verdict.Plain own whole → ⊥) [
      | true ↦ λ e. absurd (cc)
      | false ↦ λ e. absurd (cc)
    ] is

verdict_holds : (files : Contents) (name : List ℕ) (stands : Option Standing) → standing_at files name ≡ stands → (own : List ℕ) (whole : Bool)
    → option_map (verdict_with (holder_of files) name) stands ≡ Some (verdict.Plain own whole) → HoldsSome files name
verdict_holds files name None stands own whole is = absurd (cc)
verdict_holds files name (Some (standing.Plain id size complete)) stands own whole is =
    plain_holds files name id size complete stands (holder_of files id) refl own whole (same_plain (plain_verdict name id complete (holder_of files id)) (verdict.Plain own whole) is)
verdict_holds files name (Some (standing.Part original offset size)) stands own whole is =
    absurd (never_plain original offset size (holder_of files original) own whole (same_plain (part_verdict original offset size (holder_of files original)) (verdict.Plain own whole) is))
verdict_holds files name (Some (standing.Refused fault)) stands own whole is = absurd (cc)

by_holder : (files : Contents) (name original : List ℕ) (offset size : ℕ) (given : Target) (found : Option Holder) → holder_of files original ≡ found
    → target_by_holder files name original offset size found ≡ Ok given → IsPlanned files given.file
by_holder files name original offset size given None found is = absurd (cc)
by_holder files name original offset size given (Some holder) found is =
    elim (nat_le (offset + size) holder.size) as (λ b. (if b then target_in files name offset size holder else Err (Bad name (verdict.PastOriginal original))) ≡ Ok given → IsPlanned files given.file) [
      | true ↦ λ e. short_planned files (part_target name holder.name offset size) given (get files holder.name) (record { id = original; holder = holder; found = found; named = refl }) refl e
      | false ↦ λ e. absurd (cc)
    ] is

by_verdict : (files : Contents) (name : List ℕ) (given : Target) (judged : Option Verdict) → verdict_of files name ≡ judged → target_by files name judged ≡ Ok given → IsPlanned files given.file
by_verdict files name given None judged is = absurd (cc)
by_verdict files name given (Some (verdict.Plain id complete)) judged is =
    short_planned files (plain_target name) given (get files name) (verdict_holds files name (standing_at files name) refl id complete judged) refl is
by_verdict files name given (Some (verdict.Mapped original offset size)) judged is = by_holder files name original offset size given (holder_of files original) refl is
by_verdict files name given (Some (verdict.SameId id)) judged is = absurd (cc)
by_verdict files name given (Some (verdict.NoOriginal original)) judged is = absurd (cc)
by_verdict files name given (Some (verdict.PastOriginal original)) judged is = absurd (cc)
by_verdict files name given (Some (verdict.Refused fault)) judged is = absurd (cc)

target_planned : (files : Contents) (name : List ℕ) (given : Target) → target_of files name ≡ Ok given → IsPlanned files given.file
target_planned files name given is = by_verdict files name given (verdict_of files name) refl is

same_targets : (one other : List Target) → as_found one ≡ as_found other → one ≡ other
same_targets one other e = cc

with_rest_planned : (files : Contents) (name : List ℕ) (targets : List Target) (first : Result Target MountRefusal) (rest : Result (List Target) MountRefusal) → target_of files name ≡ first
    → ((given : List Target) → rest ≡ Ok given → ArePlanned files (target_files given)) → with_target first rest ≡ Ok targets → ArePlanned files (target_files targets)
with_rest_planned files name targets (Err refusal) rest one more is = absurd (cc)
with_rest_planned files name targets (Ok target) (Err refusal) one more is = absurd (cc)
with_rest_planned files name targets (Ok target) (Ok given) one more is =
    subst (λ (t : List Target). ArePlanned files (target_files t)) (same_targets (target ∷ given) targets is) (target_planned files name target one, more given refl)

pub targets_planned : (files : Contents) (names : List (List ℕ)) (targets : List Target) → targets_of files names ≡ Ok targets → ArePlanned files (target_files targets)
targets_planned files [] targets is = subst (λ (t : List Target). ArePlanned files (target_files t)) (same_targets [] targets is) tt
targets_planned files (name ∷ names) targets is = with_rest_planned files name targets (target_of files name) (targets_of files names) refl (λ given e. targets_planned files names given e) is

-- over a shelf that may not tell its files
pub planned_files : (told : Option Contents) (log : Option Log) (names : List (List ℕ)) (found : Result (List Target) MountRefusal) → told ≡ option_map contents_of log
    → IfSome told (λ files. found ≡ targets_of files names) → IfSome log (λ entries. IfOk found (λ targets. ArePlanned (contents_of entries) (target_files targets)))
planned_files told None names found told_is is = tt
planned_files told (Some log) names found told_is is =
    by_found found (subst (λ (t : Option Contents). IfSome t (λ files. found ≡ targets_of files names)) told_is is)
  where
    by_found : (found : Result (List Target) MountRefusal) → found ≡ targets_of (contents_of log) names → IfOk found (λ targets. ArePlanned (contents_of log) (target_files targets))
    by_found (Ok targets) is = targets_planned (contents_of log) names targets (sym is)
    by_found (Err refusal) is = tt
