-- What a crash may leave of a file that is being made: the header's magic number comes last, so bytes without it are refused, and bytes
-- with it are the whole file.
use Rattle.std.specs.Prelude.{◌≡◌, ◌⊎◌, ℕ, ◌-◌, ◌<◌, ◌≤◌, max, false, List, ◌++◌, length, take, replicate, Result, Ok, Err}
use Rattle.inc_bytes.specs.Fields.{AreBytes, field}
use Rattle.inc_header.specs.Header.{header_of}
use Rattle.inc_header.specs.declared.header.HeaderFault.TheVariants.{Short, BadMagic}
use Rattle.inc_disk.specs.Disk.{DiskState, is_dirty}
use Rattle.inc_layout.specs.fixed.Fixed.{header_len, most_length}

-- eight zeros stand in for the magic number
abbrev pub blank : List ℕ
blank = replicate 8 0

-- a reader refuses its first bytes as too few, or as no magic number
abbrev pub IsRefused : List ℕ → Type 0
IsRefused left = (header_of (take header_len left) ≡ Err Short) ⊎ (header_of (take header_len left) ≡ Err BadMagic)

-- what is left is refused, or is the whole file
abbrev pub MayBeLeft : List ℕ → List ℕ → Type 0
MayBeLeft image left = AreBytes left → IsRefused left ⊎ (left ≡ image)

-- the disk comes back in either case
abbrev pub given_back : {D E : Type 0} → Result D (E × D) → D
given_back (Ok disk) = disk
given_back (Err failed) = failed.1

-- what the steps rest on: an image with a header's bytes and a good magic number
pub record HasMagic (image : List ℕ) : Type 0 where
  pub long : header_len ≤ length image
  pub short : length image ≤ most_length
  pub magic : field 8 0 image ≡ 0x5346434e49
  pub bytes : AreBytes image

-- ---- the file before its magic number, which is written piece by piece

-- the disk reads as zeros where the magic number will be, and then as these bytes; those zeros are settled, and no write has touched them
pub record IsUnmarked (rest : List ℕ) (disk : DiskState) : Type 0 where
  pub reads_is : disk.reads ≡ blank ++ rest
  pub synced_is : disk.synced ≡ blank
  pub untouched : (j : ℕ) → j < 8 → is_dirty disk.dirty j ≡ false

-- ---- the pieces of a file that is described by its front and its length: zeros stand behind the front

abbrev pub image_with : List ℕ → ℕ → List ℕ
image_with front len = front ++ replicate (len - length front) 0

-- a front may be shorter than a magic number, of which the last three bytes are zeros
abbrev pub magic_in : List ℕ → List ℕ
magic_in front = take 8 (front ++ blank)

-- how many zeros stand behind the magic number and the front
abbrev pub zeros_in : List ℕ → ℕ → ℕ
zeros_in front len = len - max 8 (length front)
