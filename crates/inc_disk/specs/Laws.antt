-- How the images of a disk go together over a run of calls, and those of a shelf's names over the time in which a disk is lent.
use Rattle.std.specs.Prelude.{◌≡◌, ◌≢◌, ◌⊎◌, ◌-◌, ◌≤◌, ℕ, suc, List, ◌∷◌, ◌++◌, length, Option, Some, Result, OnOk, OnErr}
use Rattle.inc_disk.specs.Disk.{DiskState, IsImage, IsSound, MayHaveLeft, Now, settled}
use Rattle.inc_disk.specs.Log.{Log, MayHaveLeftOf, MayHaveLeftFile, entries_of, newest_of}

-- whatever a crash in this state leaves has P
abbrev pub EachImage : DiskState → (List ℕ → Type 0) → Type 0
EachImage disk P = (image : List ℕ) → IsImage disk image → P image

-- whatever a crash at this moment or later left has P
abbrev pub HoldsSince : ℕ → List DiskState → (List ℕ → Type 0) → Type 0
HoldsSince moment states P = (image : List ℕ) → MayHaveLeft moment states image → P image

-- Time goes on by at most one state: a crash might have left what it might have left before, or what it may leave now.
pub record GoesOn (old new : List DiskState) : Type 0 where
  pub later : length old ≤ length new
  pub keeps : (moment : ℕ) (image : List ℕ) → MayHaveLeft moment old image → MayHaveLeft moment new image
  pub nothing_else : (moment : ℕ) (image : List ℕ) → MayHaveLeft moment new image → MayHaveLeft moment old image ⊎ Now new (λ disk. IsImage disk image)

-- A crash at any moment of the run, its first and its last among them, leaves what has P.
pub record LeavesOnly (old new : List DiskState) (P : List ℕ → Type 0) : Type 0 where
  pub later : length old ≤ length new
  pub each : HoldsSince (length old) new P
  -- for a run that began earlier
  pub before : (moment : ℕ) (image : List ℕ) → moment ≤ length old → MayHaveLeft moment new image → MayHaveLeft moment old image ⊎ P image
  pub grew : (more : List DiskState) × (new ≡ more ++ old)

-- a call that leads from a state with `failed` to one with `done`, or to one with `failed` where it fails, and leaves at any moment what has P
pub record Goes {T E : Type 0} (old new : List DiskState) (result : Result T E) (done failed : DiskState → Type 0) (P : List ℕ → Type 0) : Type 0 where
  pub ok : OnOk result (Now new done)
  pub err : OnErr result (Now new failed)
  pub moments : LeavesOnly old new P

-- what has been left since a moment was left before the later states, or since the first of them
abbrev pub SplitsAtMoment : Type 0
SplitsAtMoment =
    (moment : ℕ) (more old : List DiskState) (image : List ℕ) → MayHaveLeft moment (more ++ old) image
    → MayHaveLeft moment old image ⊎ MayHaveLeft (suc (length old)) (more ++ old) image

-- after a sync the one image is what a read gives
abbrev pub SyncLeavesOne : Type 0
SyncLeavesOne = (bytes image : List ℕ) → IsImage (settled bytes) image → image ≡ bytes

abbrev pub SyncLeavesWhatItReads : Type 0
SyncLeavesWhatItReads = (bytes : List ℕ) → IsSound (settled bytes)

-- A file goes on to these states: those of a disk that is given back, or the one that it is created or put with. The images of the name
-- since a moment are then those that it had on the shelf since that moment and those of the disk, and no others. The disk's own moments count from the log's end.
pub record JoinsImages (name : List ℕ) (states : List DiskState) (log : Log) : Type 0 where
  pub newest : (disk : DiskState) (past : List DiskState) → states ≡ disk ∷ past → newest_of name (entries_of name states ++ log) ≡ Some disk
  pub each : (moment : ℕ) (image : Option (List ℕ)) → MayHaveLeftOf name moment (entries_of name states ++ log) image
      → MayHaveLeftOf name moment log image ⊎ MayHaveLeftFile (moment - length log) states image
  pub shelf : (moment : ℕ) (image : Option (List ℕ)) → MayHaveLeftOf name moment log image → MayHaveLeftOf name moment (entries_of name states ++ log) image
  pub disk : (moment : ℕ) (image : Option (List ℕ)) → MayHaveLeftFile (moment - length log) states image → MayHaveLeftOf name moment (entries_of name states ++ log) image

-- Every other name keeps its newest state, and its images since each moment up to then.
pub record KeepsOthers (name : List ℕ) (states : List DiskState) (log : Log) : Type 0 where
  pub newest : (other : List ℕ) → other ≢ name → newest_of other (entries_of name states ++ log) ≡ newest_of other log
  pub each : (other : List ℕ) (moment : ℕ) (image : Option (List ℕ)) → other ≢ name → moment ≤ length log
      → MayHaveLeftOf other moment (entries_of name states ++ log) image → MayHaveLeftOf other moment log image
  pub kept : (other : List ℕ) (moment : ℕ) (image : Option (List ℕ)) → MayHaveLeftOf other moment log image → MayHaveLeftOf other moment (entries_of name states ++ log) image
