-- What is still to be given: the rest of the file in work, and then the files that weren't begun.
use Rattle.std.specs.Prelude.{ℕ, List, [], ◌++◌, drop, Option, Some, None}
use Rattle.inc_frame.specs.declared.piece.Piece.{Piece}
use Rattle.inc_loader.specs.Content.{generated_content}
use Rattle.inc_loader.specs.ContentPieces.{pieces_of, all_pieces}
use Rattle.inc_loader.specs.declared.loader_file.LoaderFile.{LoaderFile}
use Rattle.inc_loader.specs.declared.gen_loader.file_in_work.FileInWork.{FileInWork}

abbrev pub left_of : FileInWork → List Piece
left_of work = drop work.next (pieces_of work.file (generated_content work.number work.file.size))

abbrev pub left_in : Option FileInWork → List Piece
left_in None = []
left_in (Some work) = left_of work

-- the first so many of the files were begun
abbrev pub pieces_left : ℕ → Option FileInWork → ℕ → List LoaderFile → List Piece
pieces_left number work begun files = left_in work ++ all_pieces number (drop begun files)
