-- Disks that go back to their shelf one after the other, the first of them first.
use Rattle.std.proofs.Common.{◌≡◌, ℕ, ◌+◌, ◌<◌, List, [], ◌∷◌, ◌++◌, Bool, true, false, ◌||◌, cond, length, get_or, Option, Some, None, refl, ap, ◌∙◌, arith}
use Rattle.std.specs.Prelude.{option_map}
use Rattle.std.specs.List.{list_any, remove}
use Rattle.std.specs.Str.{bytes_eq}
use Rattle.std.proofs.lemmas.Slice.Eq.{bytes_eq-Decides}
use Rattle.inc_disk.specs.Disk.{DiskState}
use Rattle.inc_disk.specs.Log.{Log, entries_of}
use Rattle.inc_io.specs.Causes.{Joins}
use Rattle.inc_io.specs.Names.{without}
use Rattle.inc_io.specs.Outside.{IsOut}
use Rattle.inc_layout.specs.declared.mounted.Mounted.{Mounted}
use Rattle.inc_volume.proofs.volumes.Differing.{differ_first}
use Rattle.inc_volume.specs.mounting.Cells.{AreDifferent, AreOut, faults_in, returned}

pub head_is : {X : Type 0} (cells rest : List X) (first : X) → 0 < length cells → first ≡ get_or cells 0 first → rest ≡ remove cells 0 → cells ≡ first ∷ rest
head_is [] rest first some at left = absurd (omega arith)
head_is (cell ∷ cells) rest first some at left = cc

pub first_out : (out : Option (List (List ℕ))) (name : List ℕ) (names : List (List ℕ)) → AreOut out (name ∷ names) → IsOut name out
first_out None name names are = tt
first_out (Some told) name names are = rw are (0, omega arith, refl)

-- a name that isn't there takes none away
without_new : (name : List ℕ) (names : List (List ℕ)) → list_any (bytes_eq name) names ≡ false → without name names ≡ names
without_new name [] new = refl
without_new name (other ∷ names) new =
    elim (bytes_eq name other) as (λ b. (b || list_any (bytes_eq name) names) ≡ false → cond b (without name names) (other ∷ without name names) ≡ other ∷ names) [
      | true ↦ λ e. absurd (cc)
      | false ↦ λ e. ap (λ (more : List (List ℕ)). other ∷ more) (without_new name names e)
    ] new

without_first : (name : List ℕ) (names : List (List ℕ)) → list_any (bytes_eq name) names ≡ false → without name (name ∷ names) ≡ names
without_first name names new =
    ap (λ (b : Bool). cond b (without name names) (name ∷ without name names)) ((bytes_eq-Decides name name).1 refl) ∙ without_new name names new

pub rest_out : (old new : Option (List (List ℕ))) (name : List ℕ) (names : List (List ℕ)) → AreDifferent (name ∷ names) → AreOut old (name ∷ names) → new ≡ option_map (without name) old → AreOut new names
rest_out None new name names distinct are back = rw back tt
rest_out (Some told) new name names distinct are back = rw (back, are) (without_first name names (differ_first name names distinct))

pub logged_more : {D : Type 0} (states : D → List DiskState) (cell : List ℕ × Mounted D) (cells : List (List ℕ × Mounted D)) (old new : Option Log)
    → new ≡ option_map (λ (log : Log). entries_of cell.0 (states cell.1.disk) ++ log) old → option_map (returned states cells) new ≡ option_map (returned states (cell ∷ cells)) old
logged_more states cell cells None new back = rw back refl
logged_more states cell cells (Some log) new back = rw back refl

pub joined_more : (before mid now lent rest : ℕ) → Joins before lent mid → Joins mid rest now → Joins before (lent + rest) now
joined_more before mid now lent rest one more = record {
  later = omega (arith, one.later, more.later);
  all = omega (arith, one.all, more.all);
  none = λ e. let first : lent ≡ 0 = omega arith in let second : rest ≡ 0 = omega arith in more.none second ∙ one.none first;
}

pub all_joined : {D : Type 0} (faults : D → ℕ) (before count : ℕ) (all rest : List (List ℕ × Mounted D)) → length rest ≡ 0 → ((now : ℕ) → Joins count (faults_in faults rest) now → Joins before (faults_in faults all) now)
    → Joins before (faults_in faults all) count
all_joined faults before count all [] none joins = joins count (record { later = omega arith; all = omega arith; none = λ e. refl })
all_joined faults before count all (cell ∷ cells) none joins = absurd (omega arith)
