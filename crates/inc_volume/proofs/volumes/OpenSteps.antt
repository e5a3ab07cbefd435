-- The files of targets are mounted one after the other.
use Rattle.std.proofs.Common.{◌≡◌, ℕ, ◌≤◌, ◌<◌, List, [], ◌∷◌, length, get_or, drop, take, ◌-◌, length-drop, Bool, true, ◌||◌, Option, Some, None, refl, sym, ap, ◌∙◌, subst, arith}
use Rattle.std.specs.Prelude.{IfSome}
use Rattle.std.specs.List.{list_any}
use Rattle.std.specs.Str.{bytes_eq}
use Rattle.std.proofs.lemmas.List.{take_all}
use Rattle.inc_disk.specs.Log.{Log, contents_of}
use Rattle.inc_volume.specs.mounting.Cells.{with_name_once}
use Rattle.inc_volume.specs.mounting.Planned.{ArePlanned, IsPlanned}
use Rattle.inc_volume.specs.mounting.Targets.{target_files}
use Rattle.inc_volume.specs.declared.mounting.target.Target.{Target}
use Rattle.inc_volume.proofs.volumes.Differing.{added, added_next, bytes_self}
use Rattle.inc_volume.proofs.Keeping.{true_after}

pub first_and_rest : {X : Type 0} (all : List X) (first : X) → 1 ≤ length all → first ≡ get_or all 0 first → all ≡ first ∷ drop 1 all
first_and_rest [] first some is = absurd (omega arith)
first_and_rest (other ∷ rest) first some is = ap (λ (x : _). x ∷ rest) (sym is)

-- those behind the first
abbrev pub left : List Target → List Target
left targets = take (length targets - 1) (drop 1 targets)

left_is : (targets : List Target) → left targets ≡ drop 1 targets
left_is targets = take_all (length targets - 1) (drop 1 targets) (omega (arith, length-drop 1 targets))

-- what is planned of all of them is so of those that are left
behind_planned : (log : Option Log) (targets : List Target) → IfSome log (λ entries. ArePlanned (contents_of entries) (target_files targets))
    → IfSome log (λ entries. ArePlanned (contents_of entries) (target_files (drop 1 targets)))
behind_planned None targets all = tt
behind_planned (Some log) [] all = tt
behind_planned (Some log) (target ∷ targets) all = all.1

pub left_planned : (log : Option Log) (targets : List Target) → IfSome log (λ entries. ArePlanned (contents_of entries) (target_files targets))
    → IfSome log (λ entries. ArePlanned (contents_of entries) (target_files (left targets)))
left_planned log targets all =
    subst (λ (ts : List Target). IfSome log (λ entries. ArePlanned (contents_of entries) (target_files ts))) (sym (left_is targets)) (behind_planned log targets all)

pub next_planned : (log : Option Log) (targets : List Target) (target : Target) → targets ≡ target ∷ drop 1 targets → IfSome log (λ entries. ArePlanned (contents_of entries) (target_files targets))
    → IfSome log (λ entries. IsPlanned (contents_of entries) target.file)
next_planned None targets target is all = tt
next_planned (Some log) targets target is all = (subst (λ (ts : List Target). ArePlanned (contents_of log) (target_files ts)) is all).0

behind_within : (targets : List Target) (wanted : List (List ℕ)) → ((name : List ℕ) → list_any (bytes_eq name) (target_files targets) ≡ true → list_any (bytes_eq name) wanted ≡ true)
    → (name : List ℕ) → list_any (bytes_eq name) (target_files (drop 1 targets)) ≡ true → list_any (bytes_eq name) wanted ≡ true
behind_within [] wanted within name there = absurd (cc)
behind_within (target ∷ targets) wanted within name there = within name (true_after (bytes_eq name target.file) (list_any (bytes_eq name) (target_files targets)) there)

pub left_within : (targets : List Target) (wanted : List (List ℕ)) → ((name : List ℕ) → list_any (bytes_eq name) (target_files targets) ≡ true → list_any (bytes_eq name) wanted ≡ true)
    → (name : List ℕ) → list_any (bytes_eq name) (target_files (left targets)) ≡ true → list_any (bytes_eq name) wanted ≡ true
left_within targets wanted within name there =
    behind_within targets wanted within name (subst (λ (ts : List Target). list_any (bytes_eq name) (target_files ts) ≡ true) (left_is targets) there)

pub next_within : (targets : List Target) (target : Target) (wanted : List (List ℕ)) → targets ≡ target ∷ drop 1 targets
    → ((name : List ℕ) → list_any (bytes_eq name) (target_files targets) ≡ true → list_any (bytes_eq name) wanted ≡ true) → list_any (bytes_eq target.file) wanted ≡ true
next_within targets target wanted is within =
    within target.file (subst (λ (ts : List Target). list_any (bytes_eq target.file) (target_files ts) ≡ true) (sym is) (ap (λ (b : Bool). b || list_any (bytes_eq target.file) (target_files (drop 1 targets))) (bytes_self target.file)))

pub left_added : (targets : List Target) (target : Target) (taken : List (List ℕ)) → targets ≡ target ∷ drop 1 targets
    → added (with_name_once taken target.file) (target_files (left targets)) ≡ added taken (target_files targets)
left_added targets target taken is =
    ap (λ (ts : List Target). added (with_name_once taken target.file) (target_files ts)) (left_is targets)
    ∙ sym (added_next target.file taken (target_files (drop 1 targets))) ∙ sym (ap (λ (ts : List Target). added taken (target_files ts)) is)

pub none_left : (targets : List Target) (taken : List (List ℕ)) → length targets < 1 → added taken (target_files targets) ≡ taken
none_left [] taken none = refl
none_left (target ∷ targets) taken none = absurd (omega arith)
