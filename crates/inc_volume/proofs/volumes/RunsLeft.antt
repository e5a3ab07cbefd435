-- What a mount that fails leaves of its shelf.
use Rattle.std.proofs.Common.{◌≡◌, ◌⊎◌, inl, inr, ℕ, List, [], ◌∷◌, ◌++◌, Bool, true, false, ◌||◌, Option, Some, None, Result, Ok, refl, sym, ap, ◌∙◌, subst}
use Rattle.std.specs.Prelude.{IfSome, option_map}
use Rattle.std.specs.List.{list_any}
use Rattle.std.specs.Option.{option_to_list}
use Rattle.std.specs.Str.{bytes_eq}
use Rattle.inc_disk.specs.Disk.{DiskState}
use Rattle.inc_disk.specs.Log.{Log, entries_of, newest_of}
use Rattle.inc_layout.specs.declared.mounted.Mounted.{Mounted}
use Rattle.inc_layout.specs.declared.opened.Opened.{Opened}
use Rattle.inc_recover.specs.declared.fault.MountFault.{MountFault}
use Rattle.inc_volume.specs.mounting.Cells.{AreCells, AreDifferent, MountsFrom, names_in, returned}
use Rattle.inc_volume.specs.mounting.MountRuns.{AreMountRuns, LeavesRuns, MountRun, run_names, with_runs}
use Rattle.inc_volume.specs.mounting.Planned.{AreMounted, LeavesOneRun}
use Rattle.inc_volume.proofs.volumes.Differing.{differ_with, same_bytes}

-- ---- one file

pub no_run : (before after : Option Log) (name : List ℕ) → after ≡ before → IfSome before (λ log. IfSome after (LeavesOneRun name log))
no_run None after name same = tt
no_run (Some log) after name same = rw same (inl refl)

pub one_run : (before mid after : Option Log) (name : List ℕ) (new : List DiskState) (result : Result Opened MountFault)
    → IfSome before (λ log. MountsFrom (option_to_list (newest_of name log)) new result) → mid ≡ before → after ≡ option_map (λ (log : Log). entries_of name new ++ log) mid
    → IfSome before (λ log. IfSome after (LeavesOneRun name log))
one_run None mid after name new result made same is = tt
one_run (Some log) mid after name new result made same is =
    rw (is ∙ ap (option_map (λ (entries : Log). entries_of name new ++ entries)) same)
    (inr (record { run = record { name = name; states = new; result = result }; name_is = refl; made = made; after_is = refl }))

-- ---- all that were mounted before go back

either : (a b : Bool) → (a || b) ≡ true → (a ≡ true) ⊎ (b ≡ true)
either true b e = inl refl
either false b e = inr e

module _ {D : Type 0} (states : D → List DiskState) (faults : D → ℕ) where
  abbrev runs_of : List (List ℕ × Mounted D) → List MountRun
  runs_of [] = []
  runs_of (cell ∷ cells) = record { name = cell.0; states = states cell.1.disk; result = Ok cell.1.opened } ∷ runs_of cells

  names_of_runs : (cells : List (List ℕ × Mounted D)) → run_names (runs_of cells) ≡ names_in cells
  names_of_runs [] = refl
  names_of_runs (cell ∷ cells) = ap (λ (more : List (List ℕ)). cell.0 ∷ more) (names_of_runs cells)

  returned_runs : (cells : List (List ℕ × Mounted D)) (log : Log) → returned states cells log ≡ with_runs (runs_of cells) log
  returned_runs [] log = refl
  returned_runs (cell ∷ cells) log = returned_runs cells (entries_of cell.0 (states cell.1.disk) ++ log)

  cells_runs : (log : Log) (cells : List (List ℕ × Mounted D)) → AreCells states faults (Some log) cells → AreMountRuns log (runs_of cells)
  cells_runs log [] all = tt
  cells_runs log (cell ∷ cells) all = (all.0.lent, cells_runs log cells all.1)

  -- the files among these
  abbrev Within : List (List ℕ) → List (List ℕ) → Type 0
  Within names wanted = (name : List ℕ) → list_any (bytes_eq name) names ≡ true → list_any (bytes_eq name) wanted ≡ true

  all_runs : (log : Log) (cells : List (List ℕ × Mounted D)) (wanted : List (List ℕ)) → AreCells states faults (Some log) cells → AreDifferent (names_in cells) → Within (names_in cells) wanted
      → LeavesRuns wanted log (returned states cells log)
  all_runs log cells wanted all differ within = record {
    runs = runs_of cells;
    made = cells_runs log cells all;
    differ = subst AreDifferent (sym (names_of_runs cells)) differ;
    within = λ name there. within name (subst (λ (names : List (List ℕ)). list_any (bytes_eq name) names ≡ true) (names_of_runs cells) there);
    after_is = returned_runs cells log;
  }

  runs_with : (log : Log) (run : MountRun) (cells : List (List ℕ × Mounted D)) (wanted : List (List ℕ)) → MountsFrom (option_to_list (newest_of run.name log)) run.states run.result
      → AreCells states faults (Some log) cells → AreDifferent (names_in cells) → list_any (bytes_eq run.name) (names_in cells) ≡ false → list_any (bytes_eq run.name) wanted ≡ true → Within (names_in cells) wanted
      → LeavesRuns wanted log (returned states cells (entries_of run.name run.states ++ log))
  runs_with log run cells wanted made all differ new there within = record {
    runs = run ∷ runs_of cells;
    made = (made, cells_runs log cells all);
    differ = subst (λ (names : List (List ℕ)). AreDifferent (run.name ∷ names)) (sym (names_of_runs cells)) (differ_with run.name (names_in cells) new differ);
    within = λ name is.
        let is_in : list_any (bytes_eq name) (run.name ∷ names_in cells) ≡ true = subst (λ (names : List (List ℕ)). list_any (bytes_eq name) (run.name ∷ names) ≡ true) (names_of_runs cells) is in
        elim (either (bytes_eq name run.name) (list_any (bytes_eq name) (names_in cells)) is_in) [
          | inl same ↦ subst (λ (n : List ℕ). list_any (bytes_eq n) wanted ≡ true) (sym (same_bytes name run.name same)) there
          | inr more ↦ within name more
        ];
    after_is = returned_runs cells (entries_of run.name run.states ++ log);
  }

  pub leaves_runs : (before mid after : Option Log) (out : Option (List (List ℕ))) (name : List ℕ) (cells : List (List ℕ × Mounted D)) (wanted : List (List ℕ)) → AreMounted states faults before out cells
      → list_any (bytes_eq name) (names_in cells) ≡ false → list_any (bytes_eq name) wanted ≡ true → ((other : List ℕ) → list_any (bytes_eq other) (names_in cells) ≡ true → list_any (bytes_eq other) wanted ≡ true)
      → IfSome before (λ log. IfSome mid (LeavesOneRun name log)) → after ≡ option_map (returned states cells) mid → IfSome before (λ log. IfSome after (LeavesRuns wanted log))
  leaves_runs None mid after out name cells wanted all new there within run is = tt
  leaves_runs (Some log) None after out name cells wanted all new there within run is = rw is tt
  leaves_runs (Some log) (Some now) after out name cells wanted all new there within (inl same) is =
      rw (is, same) (all_runs log cells wanted all.mounted all.names within)
  leaves_runs (Some log) (Some now) after out name cells wanted all new there within (inr one) is =
      rw (is, one.after_is)
      (subst (λ (n : List ℕ). LeavesRuns wanted log (returned states cells (entries_of n one.run.states ++ log))) one.name_is
      (runs_with log one.run cells wanted (subst (λ (n : List ℕ). MountsFrom (option_to_list (newest_of n log)) one.run.states one.run.result) (sym one.name_is) one.made) all.mounted all.names
      (subst (λ (n : List ℕ). list_any (bytes_eq n) (names_in cells) ≡ false) (sym one.name_is) new) (subst (λ (n : List ℕ). list_any (bytes_eq n) wanted ≡ true) (sym one.name_is) there) within))
