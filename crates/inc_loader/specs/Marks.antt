-- How a given piece is known: by its fields, the number of its bytes, and the digest that its block has once it is stored.
use Rattle.std.specs.Prelude.{ℕ, if◌then◌else◌, List, [], ◌∷◌, length, take, bytes_eq}
use Rattle.inc_tree.specs.shape.Geometry.{block_len, tree_of}
use Rattle.inc_tree.specs.read_block.Path.{block_digest}
use Rattle.inc_frame.specs.declared.piece.Piece.{Piece}
use Rattle.inc_loader.specs.declared.loader_file.LoaderFile.{LoaderFile}
use Rattle.inc_loader.specs.declared.mark.PieceMark.{PieceMark}

-- the length of this data block in the first file with this id, or 4096 where no file has the block
abbrev pub length_in : List LoaderFile → List ℕ → ℕ → ℕ
length_in [] id number = 4096
length_in (file ∷ files) id number = if bytes_eq file.id id then block_len (tree_of file.size) number else length_in files id number

-- the length of the block that a piece is: hash blocks are whole
abbrev pub mark_length : List LoaderFile → Piece → ℕ
mark_length files piece = if piece.hash then 4096 else length_in files piece.id piece.number

-- the bytes after the block's length are zeros once it is stored, whatever the piece has there
abbrev pub mark_of : List LoaderFile → Piece → PieceMark
mark_of files piece = record {
  id = piece.id;
  hash = piece.hash;
  number = piece.number;
  compression = piece.compression;
  len = length piece.bytes;
  digest = block_digest (take (mark_length files piece) piece.bytes);
}
