-- `make NAME SIZE ID`: the signature blob in the input is judged first, then the size, then the name. With `--unsigned` there is no blob.
use Rattle.std.specs.Prelude.{◌≡◌, ℕ, suc, nat_le, Bool, true, false, if◌then◌else◌, List, ◌++◌, length, take, Option, Some, None, is_some, Result, Ok, Err}
use Rattle.std.specs.FinMap.{get, insert}
use Rattle.inc_io.specs.Contents.{Contents}
use Rattle.inc_signature.specs.Signature.{signature_of}
use Rattle.inc_signature.specs.declared.signature.SigFault.{SigFault}
use Rattle.inc_signature.specs.declared.signature.SigInfo.{SigInfo}
use Rattle.inc_tree.specs.shape.Geometry.{Shape, data_blocks, flat_of, hash_blocks, tree_of}
use Rattle.inc_tree.specs.shape.Limits.{most_size}
use Rattle.inc_disk.specs.Disk.{DiskState, settled}
use Rattle.inc_disk.specs.Log.{Log, MayHaveLeftOf, entries_of, newest_of}
use Rattle.inc_layout.specs.Fresh.{fresh_of, unsigned_of}
use Rattle.inc_recover.specs.Making.{MayBeLeft}
use Rattle.inc_words.specs.Endings.{Answer, leaving, refused, refused_by}
use Rattle.inc_words.specs.Refusals.{exists, signature_word, too_large}
use Rattle.inc_words.specs.Texts.{made_line}

-- at most this much of the input is read: one byte more than a blob may have, so that a longer one is refused
abbrev pub most_taken : ℕ
most_taken = 8097

abbrev pub blob_of : List ℕ → List ℕ
blob_of given = take most_taken given

-- the new file
abbrev pub new_file : ℕ → List ℕ → Bool → List ℕ → List ℕ
new_file size id true given = unsigned_of size id
new_file size id false given = fresh_of (tree_of size) id (blob_of given)

-- ---- what is answered, over these files and what the name has among them

abbrev pub made_text : List ℕ → Shape → List ℕ → List ℕ
made_text name shape fresh = made_line name (data_blocks shape) (hash_blocks shape) (length fresh)

abbrev pub made : List ℕ → Shape → List ℕ → Contents → Option (List ℕ) → Answer
made name shape fresh files None = record { status = 0; text = made_text name shape fresh; after = insert files name fresh }
made name shape fresh files (Some stored) = leaving files (refused name exists)

abbrev pub sized : List ℕ → Shape → List ℕ → Contents → Answer
sized name shape fresh files = if nat_le shape.size most_size then made name shape fresh files (get files name) else leaving files (refused name too_large)

abbrev pub blob_judged : List ℕ → Shape → List ℕ → Contents → Result SigInfo SigFault → Answer
blob_judged name shape fresh files (Ok sig) = sized name shape fresh files
blob_judged name shape fresh files (Err fault) = leaving files (refused_by name (signature_word fault))

abbrev pub make_answer : List ℕ → ℕ → List ℕ → Bool → Contents → List ℕ → Answer
make_answer name size id true files given = sized name (flat_of size) (unsigned_of size id) files
make_answer name size id false files given = blob_judged name (tree_of size) (fresh_of (tree_of size) id (blob_of given)) files (signature_of (blob_of given))

-- ---- what is left on the shelf

-- a file that is there stays as it is, and no other name changes
pub record AddsOnly (name : List ℕ) (before after : Log) : Type 0 where
  pub untouched : is_some (newest_of name before) ≡ true → after ≡ before
  pub own : (states : List DiskState) × (after ≡ entries_of name states ++ before)

-- no file, or what a crash may leave of one while it is made
abbrev pub MayBeMade : List ℕ → Option (List ℕ) → Type 0
MayBeMade fresh None = Unit {0}
MayBeMade fresh (Some bytes) = MayBeLeft fresh bytes

-- a crash at any moment since the file came to stand leaves no file, or bytes that are refused by their first ones, or the whole file
abbrev pub LeavesNew : List ℕ → List ℕ → Log → Log → Type 0
LeavesNew name fresh before after = (image : Option (List ℕ)) → MayHaveLeftOf name (suc (length before)) after image → MayBeMade fresh image

-- the whole file stands under its name, and a crash leaves nothing else of it
abbrev pub IsMade : List ℕ → List ℕ → Log → Type 0
IsMade name fresh after = newest_of name after ≡ Some (settled fresh)
