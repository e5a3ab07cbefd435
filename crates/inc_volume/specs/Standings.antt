-- What a file's bytes say without any other file: a plain file that stands by itself, a part of another file's content, or neither.
use Rattle.std.specs.Prelude.{◌≡◌, ◌≢◌, ◌+◌, ◌%◌, ◌^◌, ◌<◌, ◌≤◌, ℕ, Bool, false, List, [], ◌∷◌, take, Result, Ok, Err}
use Rattle.std.specs.List.{list_all}
use Rattle.inc_tree.specs.shape.Geometry.{data_blocks}
use Rattle.inc_tree.specs.shape.Limits.{most_size}
use Rattle.inc_header.specs.declared.header.Header.{Header}
use Rattle.inc_header.specs.declared.header.HeaderKind.{HeaderKind}
use Rattle.inc_header.specs.declared.header.HeaderKind.TheVariants as kind
use Rattle.inc_entry.specs.Stored.{is_open_class}
use Rattle.inc_layout.specs.Backing.{laid_of}
use Rattle.inc_layout.specs.fixed.Fixed.{front_of}
use Rattle.inc_layout.specs.opening.Faults.{IsOwnFault}
use Rattle.inc_layout.specs.declared.fault.LayoutFault.{LayoutFault}
use Rattle.inc_layout.specs.declared.fault.LayoutFault.TheVariants as fault
use Rattle.inc_layout.specs.declared.opened.Layout.{Layout}
use Rattle.inc_io.specs.declared.failed.LendFault.{LendFault}
use Rattle.inc_io.specs.declared.failed.LendFault.TheVariants.{Failed, OutOfMemory}
use Rattle.inc_volume.specs.declared.standing.Standing.{Standing}
use Rattle.inc_volume.specs.declared.standing.Standing.TheVariants.{Plain, Part, Refused}

-- all data blocks of the file are there
abbrev pub is_complete : Layout → Bool
is_complete layout = list_all is_open_class (take (data_blocks layout.areas.geometry) layout.classes)

abbrev pub plain_standing : Layout → Standing
plain_standing layout = Plain layout.header.id layout.header.size (is_complete layout)

-- a header that is no plain one
abbrev pub part_in : Header → HeaderKind → Standing
part_in header (kind.Mapped offset) = Part header.id offset header.size
part_in header (kind.Plain first) = Refused fault.Mapped

abbrev pub part_standing : Result Header LayoutFault → Standing
part_standing (Ok header) = part_in header header.kind
part_standing (Err found) = Refused found

-- where a file has no layout, for being a part of another one or by the first test that it fails
abbrev pub other_standing : LayoutFault → List ℕ → Standing
other_standing fault.Mapped bytes = part_standing (front_of bytes)
other_standing found bytes = Refused found

abbrev pub standing_with : Result Layout LayoutFault → List ℕ → Standing
standing_with (Ok layout) bytes = plain_standing layout
standing_with (Err found) bytes = other_standing found bytes

unfoldable pub standing_of : List ℕ → Standing
standing_of bytes = standing_with (laid_of bytes) bytes

-- ---- what a fault says

-- a fault of the file is what it says of itself; one of the device, or want of memory, says nothing of it
abbrev pub standing_by_fault : LayoutFault → Result Standing LendFault
standing_by_fault fault.ReadFault = Err Failed
standing_by_fault fault.OutOfMemory = Err OutOfMemory
standing_by_fault found = Ok (Refused found)

-- a fault that the file has by itself: no failing device and no want of memory, not of a part of it either
pub record IsFileFault (found : LayoutFault) : Type 0 where
  pub own : IsOwnFault found
  pub device : found ≢ fault.ReadFault
  pub memory : found ≢ fault.OutOfMemory

abbrev pub HasFileFault : Standing → Type 0
HasFileFault (Plain id size complete) = Unit {0}
HasFileFault (Part original offset size) = Unit {0}
HasFileFault (Refused found) = IsFileFault found

abbrev pub HaveFileFaults : List (List ℕ × Standing) → Type 0
HaveFileFaults [] = Unit {0}
HaveFileFaults (row ∷ rows) = HasFileFault row.1 × HaveFileFaults rows

-- the same of whether a file may be one that is looked for, by its header: one without a header isn't
abbrev pub headless : LayoutFault → Result Bool LendFault
headless fault.ReadFault = Err Failed
headless fault.OutOfMemory = Err OutOfMemory
headless found = Ok false

-- ---- what is promised whether the file's bytes are told or not

-- a plain file is no larger than its format allows. A part begins at a block's start, and ends below 2 ^ 64
abbrev pub HasPart : Standing → Type 0
HasPart (Plain id size complete) = size ≤ most_size
HasPart (Part original offset size) = (offset % 4096 ≡ 0) × (offset + size < 2 ^ 64)
HasPart (Refused found) = Unit {0}
