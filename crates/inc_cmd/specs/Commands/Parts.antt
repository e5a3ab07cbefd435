-- What a name shows of a file: all of its own, or, where it is a mapped name, a part of its original's content. A block of a mapped name is
-- the front of one of the original's blocks, and is read and proved as that one is.
use Rattle.std.specs.Prelude.{◌≡◌, ℕ, ◌+◌, ◌%◌, ◌≤◌, List, take, Option, Some, None, option_map, Result, Ok, Err}
use Rattle.inc_tree.specs.shape.Geometry.{blocks_of, data_blocks}
use Rattle.inc_mapped.specs.Mapping.{Mapping, ShowsPart, part_shown}
use Rattle.inc_layout.specs.Backing.{laid_of}
use Rattle.inc_layout.specs.reading.StaticRead.{IsContent, static_reading}
use Rattle.inc_layout.specs.declared.opened.Layout.{Layout}
use Rattle.inc_layout.specs.declared.reading.static_error.StaticError.{StaticError}
use Rattle.inc_layout.specs.declared.reading.static_error.StaticError.TheVariants.{OutOfRange}

-- so many of the first bytes of what was read
abbrev pub front_read : ℕ → Result (List ℕ) StaticError → Result (List ℕ) StaticError
front_read count (Ok content) = Ok (take count content)
front_read count (Err error) = Err error

-- of a block of the original, which is given by its number and by how many bytes of it are shown
abbrev pub part_reading : List ℕ → Layout → Option (ℕ × ℕ) → Result (List ℕ) StaticError
part_reading bytes layout None = Err OutOfRange
part_reading bytes layout (Some shown) = front_read shown.1 (static_reading bytes layout shown.0)

-- the block that a name has at an index, over the file that it shows all or a part of
abbrev pub name_reading : List ℕ → Layout → Option Mapping → ℕ → Result (List ℕ) StaticError
name_reading bytes layout None index = static_reading bytes layout index
name_reading bytes layout (Some mapping) index = part_reading bytes layout (part_shown mapping index)

-- how many blocks it has
abbrev pub name_blocks : Layout → Option Mapping → ℕ
name_blocks layout None = data_blocks layout.areas.geometry
name_blocks layout (Some mapping) = blocks_of mapping.size

-- the file's block behind it
abbrev pub block_behind : Option Mapping → ℕ → Option ℕ
block_behind None index = Some index
block_behind (Some mapping) index = option_map (λ (shown : ℕ × ℕ). shown.0) (part_shown mapping index)

-- ---- in words

-- so many of the first bytes of a block's content, as the block is stored and proved in the file
pub record IsFrontContent (bytes : List ℕ) (layout : Layout) (block count : ℕ) (text : List ℕ) : Type 0 where
  pub whole : List ℕ
  pub content : IsContent bytes layout block whole
  pub front : text ≡ take count whole

-- the block of the original that begins at the same byte, as far as the part has it
pub record IsPartContent (bytes : List ℕ) (layout : Layout) (mapping : Mapping) (index : ℕ) (text : List ℕ) : Type 0 where
  pub shown : ℕ × ℕ
  pub shows : ShowsPart mapping index shown
  pub content : IsFrontContent bytes layout shown.0 shown.1 text

abbrev pub IsNameContent : List ℕ → Layout → Option Mapping → ℕ → List ℕ → Type 0
IsNameContent bytes layout None index text = IsContent bytes layout index text
IsNameContent bytes layout (Some mapping) index text = IsPartContent bytes layout mapping index text

-- ---- what a part rests on

-- it ends in the content of the file with these bytes
abbrev pub EndsIn : List ℕ → Mapping → Type 0
EndsIn bytes mapping = (layout : Layout) → laid_of bytes ≡ Ok layout → mapping.offset + mapping.size ≤ layout.header.size

-- it begins at a block's start
abbrev pub BeginsBlock : Option Mapping → Type 0
BeginsBlock None = Unit {0}
BeginsBlock (Some mapping) = mapping.offset % 4096 ≡ 0
