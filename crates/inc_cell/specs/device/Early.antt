-- What an ask may hand out early: the bytes of a block that is there, so that they are hashed before they are polled for.
use Rattle.std.specs.Prelude.{◌≡◌, ◌⊎◌, ℕ, ◌≤◌, Bool, true, false, List, length, Option, Some, None}
use Rattle.inc_io.specs.Causes.{Rose}
use Rattle.inc_disk.specs.Disk.{Now}
use Rattle.inc_model.specs.relation.State.{is_in}
use Rattle.inc_model.specs.declared.words.reply.Reply.TheVariants.{Asked}
use Rattle.inc_cell.specs.device.Handed.{block_from}
use Rattle.inc_cell.specs.seen.Seen.{Seen, spots_now, state_now}
use Rattle.inc_cell.specs.declared.words.answer.CellReply.{CellReply}
use Rattle.inc_cell.specs.declared.words.answer.CellReply.TheVariants.{Done}

-- the block is there, and where the disk tells what it holds these are the bytes at the block's place
pub record IsEarlyFrom (seen : Seen) (block : ℕ) (early : List ℕ) : Type 0 where
  pub there : is_in block (state_now seen).map ≡ true
  pub whole : length early ≡ 4096
  pub block_is : Now seen.states (λ disk. early ≡ block_from disk.reads seen.opened.areas block (spots_now seen block))

-- the block is there, and its read failed
pub record FailsEarly (before : ℕ) (seen : Seen) (block : ℕ) : Type 0 where
  pub there : is_in block (state_now seen).map ≡ true
  pub later : before ≤ seen.count
  pub rose : Rose before seen.count

-- By the cell after the read. Bytes come where the ask was taken, and the disk's count of faults rises only where they don't.
abbrev pub MayEarly : ℕ → Seen → ℕ → Option (List ℕ) → Type 0
MayEarly before seen block (Some early) = (seen.count ≡ before) × IsEarlyFrom seen block early
MayEarly before seen block None = (seen.count ≡ before) ⊎ FailsEarly before seen block

abbrev pub is_asked_reply : CellReply → Bool
is_asked_reply (Done (Asked serial)) = true
is_asked_reply reply = false

-- and by what the ask was answered: where it wasn't taken nothing is read
abbrev pub HandsEarly : ℕ → Seen → ℕ → CellReply → Option (List ℕ) → Type 0
HandsEarly before seen block (Done (Asked serial)) early = MayEarly before seen block early
HandsEarly before seen block reply early = (seen.count ≡ before) × (early ≡ None)

-- the cell but for the disk's count of faults
abbrev pub with_count : ℕ → Seen → Seen
with_count count seen = record seen { count = count }
