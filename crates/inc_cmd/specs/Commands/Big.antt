-- `big NAME NUMBER SIZE`: a new file for the generated content of this number and size, with all of its hash blocks and then all of its data
-- blocks, and a check of what then stands against the content's root. The size is judged first, and then the name.
use Rattle.std.specs.Prelude.{ℕ, ◌^◌, ◌≤◌, nat_le, if◌then◌else◌, List, [], ◌++◌, length, Option, Some, None, Result, Ok, Err}
use Rattle.std.specs.FinMap.{get, insert}
use Rattle.inc_bytes.specs.Fields.{le_bytes}
use Rattle.inc_frame.specs.declared.piece.Piece.{Piece}
use Rattle.inc_io.specs.Contents.{Contents}
use Rattle.inc_signature.specs.Signature.{printed}
use Rattle.inc_tree.specs.content_tree.Root.{root_of}
use Rattle.inc_tree.specs.shape.Geometry.{data_blocks, hash_blocks, tree_of}
use Rattle.inc_tree.specs.shape.Limits.{most_size}
use Rattle.inc_layout.specs.Fresh.{IsFreshFile, fresh_of}
use Rattle.inc_layout.specs.declared.fault.LayoutFault.{LayoutFault}
use Rattle.inc_layout.specs.declared.opened.Opened.{Opened}
use Rattle.inc_loader.specs.Content.{generated_content}
use Rattle.inc_loader.specs.ContentPieces.{pieces_of}
use Rattle.inc_loader.specs.declared.loader_file.LoaderFile.{LoaderFile}
use Rattle.inc_recover.specs.Mounting.{counted, counted_bytes}
use Rattle.inc_filling.specs.Contents.{FilledFile, filled_file}
use Rattle.inc_cmd.specs.Commands.Check.{check_ending}
use Rattle.inc_cmd.specs.Commands.Fill.{fillable_of}
use Rattle.inc_cmd.specs.Commands.Inspect.{root_line}
use Rattle.inc_words.specs.Endings.{Answer, Ending, leaving, refused}
use Rattle.inc_words.specs.Refusals.{exists, too_large}
use Rattle.inc_words.specs.Texts.{big_line, written_line}

-- ---- the file

-- the number and the size as two 8-byte numbers
abbrev pub big_id : ℕ → ℕ → List ℕ
big_id number size = le_bytes 8 number ++ le_bytes 8 size

abbrev pub big_file : ℕ → ℕ → LoaderFile
big_file number size = record { id = big_id number size; size = size; root = root_of (generated_content number size) }

-- its signing info is empty
abbrev pub fresh_file : LoaderFile → List ℕ
fresh_file file = fresh_of (tree_of file.size) file.id (printed file.root [])

abbrev pub big_fresh : ℕ → ℕ → List ℕ
big_fresh number size = fresh_file (big_file number size)

abbrev pub big_pieces : ℕ → ℕ → List Piece
big_pieces number size = pieces_of (big_file number size) (generated_content number size)

-- the pieces go in once the file has the counts of its blocks
abbrev pub filled_opened : List Piece → List ℕ → Result Opened LayoutFault → FilledFile
filled_opened pieces fresh (Ok opened) = filled_file (counted opened) (counted_bytes opened fresh) pieces
filled_opened pieces fresh (Err fault) = record { bytes = fresh; written = 0; present = 0 }

-- the new file with these pieces
unfoldable pub filled_fresh : List Piece → List ℕ → FilledFile
filled_fresh pieces fresh = filled_opened pieces fresh (fillable_of fresh)

abbrev pub big_filled : ℕ → ℕ → FilledFile
big_filled number size = filled_fresh (big_pieces number size) (big_fresh number size)

-- in words: a new file for such a content, none of whose blocks is there, that may be mounted
pub record IsFileFor (file : LoaderFile) (fresh : List ℕ) : Type 0 where
  pub blob : List ℕ
  pub stands : IsFreshFile file.size file.id (Some blob) fresh
  pub short : length fresh ≤ 2 ^ 46

-- ---- what is answered

abbrev pub big_text : List ℕ → LoaderFile → ℕ → List ℕ → List ℕ
big_text name file written checked =
    big_line name file.size (data_blocks (tree_of file.size)) (hash_blocks (tree_of file.size)) ++ root_line file.root ++ written_line written ++ checked

-- so many pieces were stored, and a check of what then stands ends so
abbrev pub big_ending : List ℕ → LoaderFile → ℕ → Ending → Ending
big_ending name file written checked = record { status = checked.status; text = big_text name file written checked.text }

abbrev pub filled_over : List ℕ → LoaderFile → Contents → FilledFile → Ending → Answer
filled_over name file files filled ending = record { status = ending.status; text = ending.text; after = insert files name filled.bytes }

-- over what the name has among the files
abbrev pub big_over : List ℕ → LoaderFile → List Piece → List ℕ → Contents → Option (List ℕ) → Answer
big_over name file pieces fresh files None =
    filled_over name file files (filled_fresh pieces fresh) (big_ending name file (filled_fresh pieces fresh).written (check_ending name (Some file.root) (filled_fresh pieces fresh).bytes))
big_over name file pieces fresh files (Some stored) = leaving files (refused name exists)

abbrev pub big_answer : List ℕ → ℕ → ℕ → Contents → Answer
big_answer name number size files =
    if nat_le size most_size then big_over name (big_file number size) (big_pieces number size) (big_fresh number size) files (get files name) else leaving files (refused name too_large)
