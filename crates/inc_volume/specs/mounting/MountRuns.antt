-- What a mount that is refused may have left on its shelf: of some files that were to be mounted the states that their disks went through.
use Rattle.std.specs.Prelude.{◌≡◌, ℕ, true, List, [], ◌∷◌, ◌++◌, map, Result}
use Rattle.std.specs.List.{list_any}
use Rattle.std.specs.Option.{option_to_list}
use Rattle.std.specs.Str.{bytes_eq}
use Rattle.inc_disk.specs.Disk.{DiskState}
use Rattle.inc_disk.specs.Log.{Log, entries_of, newest_of}
use Rattle.inc_layout.specs.declared.opened.Opened.{Opened}
use Rattle.inc_recover.specs.declared.fault.MountFault.{MountFault}
use Rattle.inc_volume.specs.mounting.Cells.{AreDifferent, MountsFrom}

-- the mount of one file: its name, the states of its disk, newest first, and the answer
pub record MountRun : Type 0 where
  pub name : List ℕ
  pub states : List DiskState
  pub result : Result Opened MountFault

abbrev pub run_names : List MountRun → List (List ℕ)
run_names runs = map (λ (run : MountRun). run.name) runs

-- Each began in the newest state that its name had. So nothing but its status counts may read otherwise, and what a crash leaves of it is what it
-- might have left before, or differs from that in the counts alone.
abbrev pub AreMountRuns : Log → List MountRun → Type 0
AreMountRuns log [] = Unit {0}
AreMountRuns log (run ∷ runs) = MountsFrom (option_to_list (newest_of run.name log)) run.states run.result × AreMountRuns log runs

-- the shelf after them
abbrev pub with_runs : List MountRun → Log → Log
with_runs [] log = log
with_runs (run ∷ runs) log = with_runs runs (entries_of run.name run.states ++ log)

-- some of these files were mounted, each once, and nothing else has changed
pub record LeavesRuns (wanted : List (List ℕ)) (before after : Log) : Type 0 where
  pub runs : List MountRun
  pub made : AreMountRuns before runs
  pub differ : AreDifferent (run_names runs)
  pub within : (name : List ℕ) → list_any (bytes_eq name) (run_names runs) ≡ true → list_any (bytes_eq name) wanted ≡ true
  pub after_is : after ≡ with_runs runs before
