-- Which files have to be mounted so that some names can be read, and the first of the names that can't.
use Rattle.std.specs.Prelude.{◌≡◌, ℕ, ◌+◌, ◌^◌, nat_le, Bool, true, false, if◌then◌else◌, List, [], ◌∷◌, length, map, Option, Some, None, option_map, Result, Ok, Err}
use Rattle.std.specs.Str.{bytes_eq}
use Rattle.std.specs.FinMap.{get}
use Rattle.inc_io.specs.Contents.{Contents}
use Rattle.inc_io.specs.declared.failed.LendFault.{LendFault}
use Rattle.inc_io.specs.declared.failed.LendFault.TheVariants as lend
use Rattle.inc_layout.specs.declared.fault.LayoutFault.TheVariants.{TooLong}
use Rattle.inc_mapped.specs.Mapping.{Mapping}
use Rattle.inc_volume.specs.Verdicts.{IsByFile, holder_of, verdict_of}
use Rattle.inc_volume.specs.declared.holder.Holder.{Holder}
use Rattle.inc_volume.specs.declared.mounting.refusal.MountRefusal.{MountRefusal}
use Rattle.inc_volume.specs.declared.mounting.refusal.MountRefusal.TheVariants.{Missing, Bad, Fault, OutOfMemory}
use Rattle.inc_volume.specs.declared.mounting.target.Target.{Target}
use Rattle.inc_volume.specs.declared.verdict.Verdict.{Verdict}
use Rattle.inc_volume.specs.declared.verdict.Verdict.TheVariants.{Plain, Mapped, SameId, NoOriginal, PastOriginal, Refused}

-- ---- one name

-- A file of over 2 ^ 46 bytes isn't mounted.
abbrev pub is_short : List ℕ → Bool
is_short bytes = nat_le (length bytes) (2 ^ 46)

abbrev pub is_short_at : Contents → List ℕ → Option Bool
is_short_at files name = option_map is_short (get files name)

abbrev pub if_short : Target → Bool → Result Target MountRefusal
if_short target true = Ok target
if_short target false = Err (Bad target.file (Refused TooLong))

-- of a mapped name its original may be too long
abbrev pub unless_too_long : Target → Option Bool → Result Target MountRefusal
unless_too_long target None = Err (Missing target.file)
unless_too_long target (Some short) = if_short target short

abbrev pub plain_target : List ℕ → Target
plain_target name = record { name = name; file = name; part = None }

abbrev pub part_target : List ℕ → List ℕ → ℕ → ℕ → Target
part_target name file offset size = record { name = name; file = file; part = Some (record { offset = offset; size = size }) }

abbrev pub target_in : Contents → List ℕ → ℕ → ℕ → Holder → Result Target MountRefusal
target_in files name offset size holder = unless_too_long (part_target name holder.name offset size) (is_short_at files holder.name)

-- for a mapped name the file that keeps its original's id is mounted
abbrev pub target_by_holder : Contents → List ℕ → List ℕ → ℕ → ℕ → Option Holder → Result Target MountRefusal
target_by_holder files name original offset size None = Err (Bad name (NoOriginal original))
target_by_holder files name original offset size (Some holder) =
    if nat_le (offset + size) holder.size then target_in files name offset size holder else Err (Bad name (PastOriginal original))

-- a plain file is mounted itself; any other verdict refuses
abbrev pub target_by : Contents → List ℕ → Option Verdict → Result Target MountRefusal
target_by files name None = Err (Missing name)
target_by files name (Some (Plain id complete)) = unless_too_long (plain_target name) (is_short_at files name)
target_by files name (Some (Mapped original offset size)) = target_by_holder files name original offset size (holder_of files original)
target_by files name (Some (SameId id)) = Err (Bad name (SameId id))
target_by files name (Some (NoOriginal original)) = Err (Bad name (NoOriginal original))
target_by files name (Some (PastOriginal original)) = Err (Bad name (PastOriginal original))
target_by files name (Some (Refused fault)) = Err (Bad name (Refused fault))

abbrev pub target_of : Contents → List ℕ → Result Target MountRefusal
target_of files name = target_by files name (verdict_of files name)

-- ---- all names

abbrev pub with_target : Result Target MountRefusal → Result (List Target) MountRefusal → Result (List Target) MountRefusal
with_target (Err refusal) rest = Err refusal
with_target (Ok target) (Ok rest) = Ok (target ∷ rest)
with_target (Ok target) (Err refusal) = Err refusal

-- the targets of all names, or the refusal of the first that has none
abbrev pub targets_of : Contents → List (List ℕ) → Result (List Target) MountRefusal
targets_of files [] = Ok []
targets_of files (name ∷ names) = with_target (target_of files name) (targets_of files names)

abbrev pub target_names : List Target → List (List ℕ)
target_names targets = map (λ (target : Target). target.name) targets

abbrev pub target_files : List Target → List (List ℕ)
target_files targets = map (λ (target : Target). target.file) targets

-- the files that are to be mounted: none where a name is refused
abbrev pub files_for : Result (List Target) MountRefusal → List (List ℕ)
files_for (Ok targets) = target_files targets
files_for (Err refusal) = []

-- ---- what a mapped name shows

abbrev pub part_in_file : List ℕ → Option Mapping → Option (List ℕ × Mapping)
part_in_file file None = None
part_in_file file (Some part) = Some (file, part)

-- of the first of these targets that is this name's, the original's name and the part
abbrev pub shown_by : List Target → List ℕ → Option (List ℕ × Mapping)
shown_by [] name = None
shown_by (target ∷ targets) name = if bytes_eq target.name name then part_in_file target.file target.part else shown_by targets name

-- ---- what is answered

-- the answer is this one, or a failing device or want of memory, whose causes are clauses of their own
abbrev pub GivesTarget : {T : Type 0} → Result T MountRefusal → Result T MountRefusal → Type 0
GivesTarget (Ok target) wanted = wanted ≡ Ok target
GivesTarget (Err (Missing name)) wanted = wanted ≡ Err (Missing name)
GivesTarget (Err (Bad name verdict)) wanted = wanted ≡ Err (Bad name verdict)
GivesTarget (Err Fault) wanted = Unit {0}
GivesTarget (Err OutOfMemory) wanted = Unit {0}

-- a verdict that refuses, and is so by the file alone
abbrev pub IsRefusing : Verdict → Type 0
IsRefusing (Plain id complete) = ⊥
IsRefusing (Mapped original offset size) = ⊥
IsRefusing verdict = IsByFile verdict

-- a name is refused for what stands there
abbrev pub IsJudged : MountRefusal → Type 0
IsJudged (Missing name) = Unit {0}
IsJudged (Bad name verdict) = IsRefusing verdict
IsJudged Fault = ⊥
IsJudged OutOfMemory = ⊥

abbrev pub IsOwnRefusal : MountRefusal → Type 0
IsOwnRefusal (Bad name verdict) = IsRefusing verdict
IsOwnRefusal refusal = Unit {0}

-- the device failed, or memory: no file is refused
abbrev pub IsNoVerdict : MountRefusal → Type 0
IsNoVerdict Fault = Unit {0}
IsNoVerdict OutOfMemory = Unit {0}
IsNoVerdict refusal = ⊥

abbrev pub refusal_by_lend : LendFault → MountRefusal
refusal_by_lend lend.Failed = Fault
refusal_by_lend lend.OutOfMemory = OutOfMemory
