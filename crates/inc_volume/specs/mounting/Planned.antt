-- What a plan knows of the files that are to be mounted, on a shelf that tells them, and what is known of those that are.
use Rattle.std.specs.Prelude.{◌≡◌, ◌⊎◌, ℕ, ◌^◌, ◌≤◌, List, [], ◌∷◌, ◌++◌, length, Option, Some, option_map, IfSome, Result, Ok, Err}
use Rattle.std.specs.FinMap.{get}
use Rattle.std.specs.Option.{option_to_list}
use Rattle.inc_io.specs.Contents.{Contents}
use Rattle.inc_disk.specs.Disk.{DiskState}
use Rattle.inc_disk.specs.Log.{Log, contents_of, entries_of, newest_of}
use Rattle.inc_layout.specs.Backing.{laid_of}
use Rattle.inc_layout.specs.declared.mounted.Mounted.{Mounted}
use Rattle.inc_layout.specs.declared.opened.Layout.{Layout}
use Rattle.inc_volume.specs.mounting.Cells.{AreCells, AreDifferent, AreOut, MountsFrom, ids_in, names_in}
use Rattle.inc_volume.specs.mounting.MountRuns.{MountRun}
use Rattle.inc_volume.specs.Verdicts.{holder_of}
use Rattle.inc_volume.specs.declared.holder.Holder.{Holder}
use Rattle.inc_volume.specs.declared.mounting.refusal.MountRefusal.{MountRefusal}
use Rattle.inc_volume.specs.declared.mounting.target.Target.{Target}
use Rattle.inc_volume.specs.declared.mounting.volume.Volume.{Volume}

-- ---- before the first file is mounted

-- the file of this name keeps the id
abbrev pub IsHeldBy : Contents → List ℕ → List ℕ → Type 0
IsHeldBy files id name = option_map (λ (holder : Holder). holder.name) (holder_of files id) ≡ Some name

-- it stands, isn't too long, and keeps its id
pub record IsPlanned (files : Contents) (name : List ℕ) : Type 0 where
  pub bytes : List ℕ
  pub there : get files name ≡ Some bytes
  pub short : length bytes ≤ 2 ^ 46
  pub layout : Layout
  pub laid : laid_of bytes ≡ Ok layout
  pub holds : IsHeldBy files layout.header.id name

abbrev pub ArePlanned : Contents → List (List ℕ) → Type 0
ArePlanned files [] = Unit {0}
ArePlanned files (name ∷ names) = IsPlanned files name × ArePlanned files names

-- ---- the files that are mounted

abbrev pub AreHolders : {D : Type 0} → Contents → List (List ℕ × Mounted D) → Type 0
AreHolders files [] = Unit {0}
AreHolders files (cell ∷ cells) = IsHeldBy files cell.1.opened.header.id cell.0 × AreHolders files cells

-- they are out, differ from each other, and were mounted from what stood under their names
pub record AreMounted {D : Type 0} (states : D → List DiskState) (faults : D → ℕ) (log : Option Log) (out : Option (List (List ℕ))) (cells : List (List ℕ × Mounted D)) : Type 0 where
  pub names : AreDifferent (names_in cells)
  pub ids : AreDifferent (ids_in cells)
  pub out_is : AreOut out (names_in cells)
  pub mounted : AreCells states faults log cells
  pub holders : IfSome log (λ entries. AreHolders (contents_of entries) cells)

-- ---- a mount that fails

-- one file's disk went through these states
pub record IsOneRun (name : List ℕ) (before after : Log) : Type 0 where
  pub run : MountRun
  pub name_is : run.name ≡ name
  pub made : MountsFrom (option_to_list (newest_of name before)) run.states run.result
  pub after_is : after ≡ entries_of name run.states ++ before

abbrev pub LeavesOneRun : List ℕ → Log → Log → Type 0
LeavesOneRun name before after = (after ≡ before) ⊎ IsOneRun name before after

-- ---- the outer answer

abbrev pub result_targets : {D : Type 0} → Result (Volume D) MountRefusal → Result (List Target) MountRefusal
result_targets (Ok volume) = Ok volume.targets
result_targets (Err refusal) = Err refusal
