-- The files of a volume, whose disks are out: their names and ids, what was found in each, and what their disks have come to since they
-- were lent.
use Rattle.std.specs.Prelude.{◌≡◌, ℕ, ◌+◌, ◌^◌, ◌≤◌, Bool, true, IsTrue, not, ◌&&◌, if◌then◌else◌, List, [], ◌∷◌, ◌++◌, map, Option, IfSome, Result, Ok, is_some}
use Rattle.std.specs.List.{list_any}
use Rattle.std.specs.Option.{option_to_list}
use Rattle.std.specs.Str.{bytes_eq}
use Rattle.inc_io.specs.Names.{without}
use Rattle.inc_disk.specs.Disk.{DiskState, Now, settled}
use Rattle.inc_disk.specs.Log.{Log, entries_of, newest_of}
use Rattle.inc_layout.specs.opening.Opening.{IsSoundOpened}
use Rattle.inc_layout.specs.state.Reopening.{IsMountedOn}
use Rattle.inc_layout.specs.declared.mounted.Mounted.{Mounted}
use Rattle.inc_layout.specs.declared.opened.Opened.{Opened}
use Rattle.inc_recover.specs.Mounting.{Mounts}
use Rattle.inc_recover.specs.Reopening.{Reopens}
use Rattle.inc_recover.specs.declared.fault.MountFault.{MountFault}

-- ---- names and ids

abbrev pub names_in : {T : Type 0} → List (List ℕ × T) → List (List ℕ)
names_in cells = map (λ cell. cell.0) cells

abbrev pub ids_in : {D : Type 0} → List (List ℕ × Mounted D) → List (List ℕ)
ids_in cells = map (λ cell. cell.1.opened.header.id) cells

-- each of these names, or ids, stands once
abbrev pub all_differ : List (List ℕ) → Bool
all_differ [] = true
all_differ (name ∷ names) = not (list_any (bytes_eq name) names) && all_differ names

abbrev pub AreDifferent : List (List ℕ) → Type 0
AreDifferent names = IsTrue (all_differ names)

-- the names in their order, each at its first place alone
abbrev pub each_once : List (List ℕ) → List (List ℕ)
each_once [] = []
each_once (name ∷ names) = name ∷ without name (each_once names)

-- with one more, unless it is there
abbrev pub with_name_once : List (List ℕ) → List ℕ → List (List ℕ)
with_name_once names name = if list_any (bytes_eq name) names then names else names ++ name ∷ []

-- of a shelf that tells it, these names are out
abbrev pub AreOut : Option (List (List ℕ)) → List (List ℕ) → Type 0
AreOut out names = IfSome out (λ told. told ≡ names)

-- ---- what was found

-- A disk that was lent in these states has come to those by being mounted: what a mount promises of its answer, of what the disk reads as,
-- of what a crash meanwhile leaves and of what is kept over crashes.
pub record MountsFrom (old new : List DiskState) (result : Result Opened MountFault) : Type 0 where
  pub mounts : Now old (λ state. Mounts old new result state.reads)
  pub reopens : Reopens old new result

-- A file of a volume. Its disk is settled, tells what was found in it, and hasn't failed. On a shelf that tells its files it was lent in the
-- newest state of its name.
pub record IsCell {D : Type 0} (states : D → List DiskState) (faults : D → ℕ) (log : Option Log) (name : List ℕ) (mounted : Mounted D) : Type 0 where
  pub sound : IsSoundOpened mounted.opened
  pub short : mounted.opened.len ≤ 2 ^ 46
  pub opened : Now (states mounted.disk) (IsMountedOn settled mounted.opened)
  pub fresh : faults mounted.disk ≡ 0
  pub there : IfSome log (λ entries. is_some (newest_of name entries) ≡ true)
  pub lent : IfSome log (λ entries. MountsFrom (option_to_list (newest_of name entries)) (states mounted.disk) (Ok mounted.opened))

abbrev pub AreCells : {D : Type 0} → (D → List DiskState) → (D → ℕ) → Option Log → List (List ℕ × Mounted D) → Type 0
AreCells states faults log [] = Unit {0}
AreCells states faults log (cell ∷ cells) = IsCell states faults log cell.0 cell.1 × AreCells states faults log cells

-- ---- what stands on the shelf once the disks are back

-- the states of each disk, in the order in which the disks go back
abbrev pub returned : {D : Type 0} → (D → List DiskState) → List (List ℕ × Mounted D) → Log → Log
returned states [] log = log
returned states (cell ∷ cells) log = returned states cells (entries_of cell.0 (states cell.1.disk) ++ log)

-- how often calls of the disks have failed
abbrev pub faults_in : {D : Type 0} → (D → ℕ) → List (List ℕ × Mounted D) → ℕ
faults_in faults [] = 0
faults_in faults (cell ∷ cells) = faults cell.1.disk + faults_in faults cells
