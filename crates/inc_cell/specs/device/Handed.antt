-- What is handed out of a file: a data block, with the hash blocks of its path that whoever asks doesn't know.
use Rattle.std.specs.Prelude.{◌≡◌, ℕ, ◌+◌, ◌≤◌, ◌==◌, Bool, true, false, not, List, length, map, filter, take, Option, Some, None, IfSome}
use Rattle.std.specs.List.{list_any}
use Rattle.inc_pending.specs.Polling.{read_of}
use Rattle.inc_pending.specs.declared.reads.ReadRow.{ReadRow}
use Rattle.inc_tree.specs.shape.Geometry.{Shape, block_len, depth, path_block}
use Rattle.inc_tree.specs.read_block.Path.{block_digest, padded}
use Rattle.inc_entry.specs.Entry.{area_places, tree_span}
use Rattle.inc_entry.specs.Spans.{IsInside}
use Rattle.inc_entry.specs.Stored.{stored_content}
use Rattle.inc_entry.specs.declared.areas.Areas.{Areas}
use Rattle.inc_disk.specs.Disk.{DiskState, Now, reads_of}
use Rattle.inc_layout.specs.opening.Listed.{listed}
use Rattle.inc_layout.specs.reading.StaticRead.{hash_block}
use Rattle.inc_model.specs.declared.words.reply.Reply.{Reply}
use Rattle.inc_model.specs.declared.words.reply.Reply.TheVariants.{Fault, Handed, NotYet}
use Rattle.inc_cell.specs.seen.Seen.{Seen, spots_now, state_now}
use Rattle.inc_cell.specs.declared.words.answer.CellReply.{CellReply}
use Rattle.inc_cell.specs.declared.words.answer.CellReply.TheVariants.{Done}
use Rattle.inc_cell.specs.declared.words.answer.HandedBytes.{HandedBytes}

-- ---- the path

abbrev pub is_known : List ℕ → ℕ → Bool
is_known known hash = list_any (λ number. number == hash) known

-- the numbers of the hash blocks on so many levels of a data block's path, leaf level first, without those that are known
abbrev pub unknown_below : Shape → ℕ → List ℕ → ℕ → List ℕ
unknown_below shape block known levels = filter (λ hash. not (is_known known hash)) (listed (path_block shape block) levels)

-- on its whole path
abbrev pub unknown_hashes : Shape → ℕ → List ℕ → List ℕ
unknown_hashes shape block known = unknown_below shape block known (depth shape)

-- those blocks in the bytes of a file
abbrev pub unknown_path : List ℕ → Areas → ℕ → List ℕ → List (List ℕ)
unknown_path bytes areas block known = map (hash_block bytes areas) (unknown_hashes areas.geometry block known)

-- ---- what is read

-- a block's own bytes at its place, with zeros after them
abbrev pub block_from : List ℕ → Areas → ℕ → ℕ → List ℕ
block_from bytes areas block place = padded (stored_content (area_places areas) bytes block place)

-- what the asker gets, by what the disk tells: the bytes as stored, if the block lies inside the file, and the blocks of its path, if the tree does
pub record IsReadFrom (states : List DiskState) (areas : Areas) (block place : ℕ) (known : List ℕ) (handed : HandedBytes) : Type 0 where
  pub len_is : handed.block.len ≡ block_len areas.geometry block
  pub hashed : handed.block.digest ≡ block_digest (take handed.block.len handed.block.bytes)
  pub path_count : length handed.path ≡ length (unknown_hashes areas.geometry block known)
  pub block_is : IfSome (reads_of states) (λ bytes. place + block_len areas.geometry block ≤ length bytes → handed.block.bytes ≡ block_from bytes areas block place)
  pub path_is : IfSome (reads_of states) (λ bytes. IsInside (length bytes) (tree_span (area_places areas)) → handed.path ≡ unknown_path bytes areas block known)

-- ---- what a poll hands out

-- by the read of this asker with this serial
pub record IsHandedTo (old : Seen) (who serial : ℕ) (known : List ℕ) (reply : CellReply) (handed : HandedBytes) : Type 0 where
  pub row : ReadRow
  pub row_is : read_of who serial (state_now old).reads ≡ Some row
  -- the reply has the digest of the bytes
  pub digest_is : reply ≡ Done (Handed handed.block.digest)
  pub len_is : handed.block.len ≡ block_len old.opened.areas.geometry row.block
  pub path_count : length handed.path ≡ length (unknown_hashes old.opened.areas.geometry row.block known)
  -- where the disk tells what it holds: the bytes at the place of the read's block, and the hash blocks from the tree
  pub block_is : Now old.states (λ disk. handed.block.bytes ≡ block_from disk.reads old.opened.areas row.block (spots_now old row.block))
  pub path_is : Now old.states (λ disk. handed.path ≡ unknown_path disk.reads old.opened.areas row.block known)

abbrev pub MayHand : Seen → ℕ → ℕ → List ℕ → CellReply → Option HandedBytes → Type 0
MayHand old who serial known reply None = Unit {0}
MayHand old who serial known reply (Some handed) = IsHandedTo old who serial known reply handed

-- ---- how the disk answers for the reply that the table gives to a poll

abbrev pub is_waiting : Reply → Bool
is_waiting NotYet = true
is_waiting reply = false

-- the block of a read, if there is one
abbrev pub block_of : Option ReadRow → ℕ
block_of None = 0
block_of (Some row) = row.block

abbrev pub IfHanded : Reply → Type 0 → Type 0
IfHanded (Handed digest) P = P
IfHanded reply P = Unit {0}

-- where it hands out, what was read with its digest, or a fault of the disk
abbrev pub HandsRead : (HandedBytes → Type 0) → Reply → Option HandedBytes → Type 0
HandsRead Reads (Handed digest) (Some handed) = (digest ≡ handed.block.digest) × Reads handed
HandsRead Reads (Fault count) None = Unit {0}
HandsRead Reads reply handed = ⊥

abbrev pub HandsOf : (HandedBytes → Type 0) → Reply → Reply → Option HandedBytes → Type 0
HandsOf Reads (Handed wanted) reply handed = HandsRead Reads reply handed
HandsOf Reads wanted reply handed = (reply ≡ wanted) × (handed ≡ None)
