-- What a poll answers. The read is looked at as `inc_pending` does it; where its block is handed out, all hash blocks of its path have to be
-- there too, and else the lowest that isn't is named.
use Rattle.std.specs.Prelude.{◌≡◌, ℕ, zero, suc, ◌+◌, ◌<◌, Bool, true, false, List, Option, Some, None, if◌then◌else◌}
use Rattle.inc_tree.specs.shape.Geometry.{shape_of, depth, path_block}
use Rattle.inc_pending.specs.declared.reads.Decision.{Decision}
use Rattle.inc_pending.specs.declared.reads.Decision.TheVariants.{Stranger as no_read, Hand, TimedOut as late, NotYet as waits}
use Rattle.inc_pending.specs.Polling.{decision_of, read_of}
use Rattle.inc_model.specs.declared.words.file_state.FileState.{FileState}
use Rattle.inc_model.specs.declared.words.reply.Reply.{Reply}
use Rattle.inc_model.specs.declared.words.reply.Reply.TheVariants.{Stranger, NoPath, Handed, TimedOut, NotYet}
use Rattle.inc_pending.specs.Keyed.{lookup}
use Rattle.inc_model.specs.relation.State.{Digests, is_in}

-- ---- the path of a data block: the levels of a file follow from its numbers of data and hash blocks, and without hash blocks there are none

abbrev pub levels_over : ℕ → ℕ → ℕ
levels_over n m = depth (shape_of n m)

-- the hash block of a level, and whether it is there
abbrev pub hash_on_path : ℕ → ℕ → ℕ → ℕ → ℕ
hash_on_path n m block level = path_block (shape_of n m) block level

abbrev pub is_hash_there : ℕ → ℕ → Digests → ℕ → ℕ → Bool
is_hash_there n m digests block level = is_in (n + hash_on_path n m block level) digests

-- in words: the hash block of this level isn't there, and those of all lower levels are
pub record IsLowestAbsent (n m : ℕ) (digests : Digests) (block hash : ℕ) : Type 0 where
  pub level : ℕ
  pub within : level < levels_over n m
  pub is : hash ≡ hash_on_path n m block level
  pub absent : is_hash_there n m digests block level ≡ false
  pub lower : (below : ℕ) → below < level → is_hash_there n m digests block below ≡ true

abbrev pub IsPathThere : ℕ → ℕ → Digests → ℕ → Type 0
IsPathThere n m digests block = (level : ℕ) → level < levels_over n m → is_hash_there n m digests block level ≡ true

-- the lowest absent one from a level on, where so many levels are left
unfoldable pub absent_from : ℕ → ℕ → Digests → ℕ → ℕ → ℕ → Option ℕ
absent_from n m digests block zero level = None
absent_from n m digests block (suc left) level =
    if is_hash_there n m digests block level then absent_from n m digests block left (level + 1) else Some (hash_on_path n m block level)

unfoldable pub absent_hash : ℕ → ℕ → Digests → ℕ → Option ℕ
absent_hash n m digests block = absent_from n m digests block (levels_over n m) 0

-- ---- the reply

-- A block that is handed out and isn't in the map is met in no state that a legal history reaches.
abbrev pub hand_reply : Option ℕ → Option (List ℕ) → Reply
hand_reply (Some hash) digest = NoPath hash
hand_reply None (Some digest) = Handed digest
hand_reply None None = NotYet

abbrev pub decided_reply : FileState → Decision → Reply
decided_reply s no_read = Stranger
decided_reply s (Hand block) = hand_reply (absent_hash s.n s.m s.map block) (lookup block s.map)
decided_reply s (late deadline) = TimedOut deadline
decided_reply s waits = NotYet

abbrev pub poll_reply : FileState → ℕ → ℕ → ℕ → Reply
poll_reply s who serial at = decided_reply s (decision_of (read_of who serial s.reads) at)
