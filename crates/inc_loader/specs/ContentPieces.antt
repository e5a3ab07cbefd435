-- The pieces of contents, file by file: all hash blocks in the order of the hash area, and then all data blocks.
use Rattle.std.specs.Prelude.{◌≡◌, ℕ, ◌==◌, Bool, true, false, List, [], ◌++◌, length, map, take, Option, Some, None, slice_index_or}
use Rattle.std.specs.Option.{unwrap_or}
use Rattle.std.specs.List.{flat_map, range_with_len}
use Rattle.inc_frame.specs.declared.piece.Piece.{Piece}
use Rattle.inc_tree.specs.shape.Geometry.{blocks_of}
use Rattle.inc_tree.specs.content_tree.Root.{area_of, content_block}
use Rattle.inc_loader.specs.Content.{generated_content}
use Rattle.inc_loader.specs.Marks.{mark_of}
use Rattle.inc_loader.specs.declared.loader_file.LoaderFile.{LoaderFile}
use Rattle.inc_loader.specs.declared.mark.PieceMark.{PieceMark}

-- an uncompressed block of a file: a data block has no byte after the content's end
abbrev pub plain_piece : LoaderFile → Bool → ℕ → List ℕ → Piece
plain_piece file hash number bytes = record { id = file.id; hash = hash; number = number; compression = 0; bytes = bytes }

unfoldable pub hash_pieces : LoaderFile → List (List ℕ) → List Piece
hash_pieces file area = map (λ k. plain_piece file true k (slice_index_or area k [])) (range_with_len 0 (length area))

unfoldable pub data_pieces : LoaderFile → List ℕ → List Piece
data_pieces file content = map (λ k. plain_piece file false k (content_block content k)) (range_with_len 0 (blocks_of (length content)))

-- of a file with this content
abbrev pub pieces_of : LoaderFile → List ℕ → List Piece
pieces_of file content = hash_pieces file (area_of content) ++ data_pieces file content

-- of files whose contents are those of this number
unfoldable pub all_pieces : ℕ → List LoaderFile → List Piece
all_pieces number files = flat_map (λ file. pieces_of file (generated_content number file.size)) files

-- the files, and none before there are any
abbrev pub files_in : Option (List LoaderFile) → List LoaderFile
files_in prepared = unwrap_or prepared []

-- the marks are those of the first pieces
abbrev pub AreFirstMarks : ℕ → List LoaderFile → List PieceMark → Type 0
AreFirstMarks number files given = given ≡ map (mark_of files) (take (length given) (all_pieces number files))

-- there were files, and as many pieces were given as these have
abbrev pub gave_all : ℕ → Option (List LoaderFile) → List PieceMark → Bool
gave_all number None given = false
gave_all number (Some files) given = length given == length (all_pieces number files)
