-- What has stood on a shelf that lends disks: the states of all its files in one list, newest first.
use Rattle.std.specs.Prelude.{◌≡◌, ◌⊎◌, ◌≤◌, ℕ, suc, if◌then◌else◌, List, [], ◌∷◌, length, map, Option, None, Some, Result, Ok, Err, option_map}
use Rattle.std.specs.Str.{bytes_eq}
use Rattle.std.specs.FinMap.{from_entries}
use Rattle.inc_io.specs.Contents.{Contents}
use Rattle.inc_disk.specs.Disk.{DiskState, IsImage, MayHaveLeft, settled}

-- An entry is a name and a state that its file has come to. The shelf's moment is how many there are.
abbrev pub Log : Type 0
Log = List (List ℕ × DiskState)

-- the newest state of a name; a name with no entry has no file
abbrev pub newest_of : List ℕ → Log → Option DiskState
newest_of name [] = None
newest_of name (entry ∷ log) = if bytes_eq name entry.0 then Some entry.1 else newest_of name log

abbrev pub contents_of : Log → Contents
contents_of log = from_entries (map (λ entry. (entry.0, entry.1.reads)) log)

-- what a crash leaves of a file: some bytes, or no file where there is none
abbrev pub IsImageOf : Option DiskState → Option (List ℕ) → Type 0
IsImageOf None image = image ≡ None
IsImageOf (Some disk) None = ⊥
IsImageOf (Some disk) (Some image) = IsImage disk image

-- a crash at this moment of the shelf or later might have left this under the name
abbrev pub MayHaveLeftOf : List ℕ → ℕ → Log → Option (List ℕ) → Type 0
MayHaveLeftOf name moment [] image = (moment ≤ 0) × (image ≡ None)
MayHaveLeftOf name moment (entry ∷ past) image =
    ((moment ≤ suc (length past)) × IsImageOf (newest_of name (entry ∷ past)) image) ⊎ MayHaveLeftOf name moment past image

-- a crash of a disk in these states, at this moment of the disk or later, might have left this of its file
abbrev pub MayHaveLeftFile : ℕ → List DiskState → Option (List ℕ) → Type 0
MayHaveLeftFile moment states None = ⊥
MayHaveLeftFile moment states (Some bytes) = MayHaveLeft moment states bytes

-- the states of one file, as entries
abbrev pub entries_of : List ℕ → List DiskState → Log
entries_of name states = map (λ disk. (name, disk)) states

-- a file comes to stand whole, and empty, exactly where a disk is lent
abbrev pub Creates : {D E : Type 0} → List ℕ → Option Log → Option Log → Result (Option D) E → Type 0
Creates name before after (Ok (Some disk)) = after ≡ option_map (λ log. (name, settled []) ∷ log) before
Creates name before after (Ok None) = after ≡ before
Creates name before after (Err fault) = after ≡ before

-- where no disk is lent, nothing has changed
abbrev pub KeepsUnlessLent : {K D E : Type 0} → K → K → Result (Option D) E → Type 0
KeepsUnlessLent before after (Ok (Some disk)) = Unit {0}
KeepsUnlessLent before after (Ok None) = after ≡ before
KeepsUnlessLent before after (Err fault) = after ≡ before
