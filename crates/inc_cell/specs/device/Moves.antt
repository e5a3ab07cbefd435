-- What one entry leaves of the file's disk: how the state after it stands there, and what a crash meanwhile leaves.
use Rattle.std.specs.Prelude.{◌≡◌, ◌⊎◌, ℕ, ◌+◌, ◌<◌, nat_lt, Option, if◌then◌else◌, List, length, take}
use Rattle.inc_tree.specs.shape.Geometry.{block_len, data_blocks}
use Rattle.inc_tree.specs.read_block.Path.{block_digest}
use Rattle.inc_entry.specs.Entry.{Places, area_places, entries}
use Rattle.inc_disk.specs.Disk.{DiskState}
use Rattle.inc_disk.specs.Laws.{LeavesOnly}
use Rattle.inc_layout.specs.state.Preserves.{Preserves}
use Rattle.inc_layout.specs.state.State.{StateParts}
use Rattle.inc_layout.specs.declared.opened.Opened.{Opened}
use Rattle.inc_model.specs.relation.State.{Digests}
use Rattle.inc_model.specs.declared.words.event.Event.{Event}
use Rattle.inc_model.specs.declared.words.event.Event.TheVariants.{PutData}
use Rattle.inc_model.specs.declared.words.file_state.FileState.{FileState}
use Rattle.inc_model.specs.declared.words.file_state.FlightRow.{FlightRow}
use Rattle.inc_model.specs.declared.words.reply.Reply.{Reply}
use Rattle.inc_model.specs.declared.words.reply.Reply.TheVariants.{Put}
use Rattle.inc_cell.specs.seen.Parts.{parts_of}
use Rattle.inc_cell.specs.seen.Seen.{StandsNow}

-- a crash at any moment keeps the state before or the one after
abbrev pub LeavesEither : List DiskState → List DiskState → FileState → FileState → Type 0
LeavesEither old new s t = LeavesOnly old new (λ image. Preserves image (parts_of s) ⊎ Preserves image (parts_of t))

pub record Moves (opened : Opened) (before parts : StateParts) (digests : Digests) (flight : List FlightRow) (failed : Option ℕ) (spot : ℕ → ℕ) (end : ℕ) (old new : List DiskState) : Type 0 where
  pub standing : StandsNow opened parts digests flight failed spot end new
  pub moments : LeavesOnly old new (λ image. Preserves image before ⊎ Preserves image parts)

abbrev pub MovesTo : Opened → FileState → FileState → (ℕ → ℕ) → ℕ → List DiskState → List DiskState → Type 0
MovesTo opened s t spot end old new = Moves opened (parts_of s) (parts_of t) t.map t.flight t.failed spot end old new

-- where the next data block goes then
abbrev pub end_with : Places → ℕ → ℕ → Reply → ℕ
end_with places end index (Put place digest) = if nat_lt index (data_blocks places.shape) then end + 4096 else end
end_with places end index reply = end

abbrev pub end_then : Places → ℕ → Event → Reply → ℕ
end_then places end (PutData window index digest) reply = end_with places end index reply
end_then places end event reply = end

-- the event's digest is that of the block that it brings, as it is stored
pub record BringsBlock (opened : Opened) (index : ℕ) (digest block : List ℕ) : Type 0 where
  pub whole : length block ≡ 4096
  pub hashed : index < entries (area_places opened.areas) → digest ≡ block_digest (take (block_len opened.areas.geometry index) block)

abbrev pub Brings : Opened → Event → List ℕ → Type 0
Brings opened (PutData window index digest) block = BringsBlock opened index digest block
Brings opened event block = Unit {0}
