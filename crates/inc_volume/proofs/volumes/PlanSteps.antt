-- The targets of names, one name after the other.
use Rattle.std.proofs.Common.{◌≡◌, ℕ, List, [], ◌∷◌, ◌++◌, Option, Some, None, Result, Ok, Err, refl, sym, ap, ◌∙◌, append_assoc}
use Rattle.std.specs.Prelude.{IfSome}
use Rattle.std.proofs.lemmas.List.{append-nil}
use Rattle.inc_io.specs.Contents.{Contents}
use Rattle.inc_volume.specs.mounting.Targets.{target_of, targets_of, with_target}
use Rattle.inc_volume.specs.declared.mounting.refusal.MountRefusal.{MountRefusal}
use Rattle.inc_volume.specs.declared.mounting.target.Target.{Target}

-- the targets found so far, and then the others
abbrev pub with_front : List Target → Result (List Target) MountRefusal → Result (List Target) MountRefusal
with_front front (Ok rest) = Ok (front ++ rest)
with_front front (Err refusal) = Err refusal

step : (front : List Target) (target : Target) (rest : Result (List Target) MountRefusal) → with_front (front ++ target ∷ []) rest ≡ with_front front (with_target (Ok target) rest)
step front target (Ok rest) = ap (λ (all : List Target). Ok all) (append_assoc front (target ∷ []) rest)
step front target (Err refusal) = refl

step_of : (files : Contents) (front : List Target) (target : Target) (name : List ℕ) (after names : List (List ℕ)) → target_of files name ≡ Ok target
    → with_front front (targets_of files (name ∷ after)) ≡ targets_of files names → with_front (front ++ target ∷ []) (targets_of files after) ≡ targets_of files names
step_of files front target name after names is so =
    step front target (targets_of files after) ∙ sym (ap (λ (first : Result Target MountRefusal). with_front front (with_target first (targets_of files after))) is) ∙ so

pub one_more : (told : Option Contents) (front : List Target) (target : Target) (name : List ℕ) (after names : List (List ℕ)) → IfSome told (λ files. Ok target ≡ target_of files name)
    → IfSome told (λ files. with_front front (targets_of files (name ∷ after)) ≡ targets_of files names) → IfSome told (λ files. with_front (front ++ target ∷ []) (targets_of files after) ≡ targets_of files names)
one_more None front target name after names is so = tt
one_more (Some files) front target name after names is so = step_of files front target name after names (sym is) so

refused_of : (files : Contents) (front : List Target) (refusal : MountRefusal) (name : List ℕ) (after names : List (List ℕ)) → Err refusal ≡ target_of files name
    → with_front front (targets_of files (name ∷ after)) ≡ targets_of files names → Err refusal ≡ targets_of files names
refused_of files front refusal name after names is so = ap (λ (first : Result Target MountRefusal). with_front front (with_target first (targets_of files after))) is ∙ so

-- the first refusal is that of all names
pub one_refused : (told : Option Contents) (front : List Target) (refusal : MountRefusal) (name : List ℕ) (after names : List (List ℕ)) → IfSome told (λ files. Err refusal ≡ target_of files name)
    → IfSome told (λ files. with_front front (targets_of files (name ∷ after)) ≡ targets_of files names) → IfSome told (λ files. Err refusal ≡ targets_of files names)
one_refused None front refusal name after names is so = tt
one_refused (Some files) front refusal name after names is so = refused_of files front refusal name after names is so

-- all names have theirs
pub all_found : (told : Option Contents) (front : List Target) (names : List (List ℕ)) → IfSome told (λ files. with_front front (targets_of files []) ≡ targets_of files names)
    → IfSome told (λ files. Ok front ≡ targets_of files names)
all_found None front names so = tt
all_found (Some files) front names so = sym (ap (λ (all : List Target). Ok all) (append-nil front)) ∙ so
