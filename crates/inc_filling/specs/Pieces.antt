-- What a group of pieces does to a cell, and to the bytes of its file.
use Rattle.std.specs.Prelude.{◌≡◌, ℕ, ◌+◌, ◌-◌, ◌*◌, ◌<◌, ◌≤◌, List, [], ◌∷◌, ◌++◌, length, map, take, Some, None, slice_index_or, Result, Ok, Err}
use Rattle.std.specs.List.{zip}
use Rattle.inc_io.specs.Causes.{Rose}
use Rattle.inc_tree.specs.read_block.Path.{block_digest}
use Rattle.inc_disk.specs.Disk.{DiskState, reads_of}
use Rattle.inc_frame.specs.declared.piece.Piece.{Piece}
use Rattle.inc_layout.specs.declared.opened.Opened.{Opened}
use Rattle.inc_model.specs.declared.words.event.Event.{Event}
use Rattle.inc_model.specs.declared.words.event.Event.TheVariants.{Claim, PutData, Release}
use Rattle.inc_model.specs.declared.words.event.Window.{Window}
use Rattle.inc_cell.specs.device.Digested.{DigestedBlock}
use Rattle.inc_cell.specs.events.Answers.{IsFullCell}
use Rattle.inc_cell.specs.seen.Seen.{Seen, state_now}
use Rattle.inc_filling.specs.Contents.{FilledFile, block_of_piece, content_of_piece, index_of_piece, with_pieces}
use Rattle.inc_filling.specs.Fillable.{IsFillable}
use Rattle.inc_filling.specs.Grouped.{AllOpen, EndReleased, puts_among, stored_of, stores_of}
use Rattle.inc_filling.specs.Refusals.{refusal_of}
use Rattle.inc_filling.specs.Stands.{HasTaken}
use Rattle.inc_filling.specs.declared.filling.Filling.{Filling}
use Rattle.inc_filling.specs.declared.stop.FillStop.{FillStop}
use Rattle.inc_filling.specs.declared.stop.FillStop.TheVariants.{DiskFault, Failed, HistoryFull, OutOfMemory}

-- each of the pieces is taken
abbrev pub AreTaken : Opened → List Piece → Type 0
AreTaken opened pieces = (k : ℕ) (d : Piece) → k < length pieces → refusal_of opened (slice_index_or pieces k d) ≡ None

abbrev pub piece_indices : Opened → List Piece → List ℕ
piece_indices opened pieces = map (index_of_piece opened) pieces

-- the digest of a piece's block: of the bytes that count, filled up with zeros
abbrev pub digest_of_piece : Opened → Piece → List ℕ
digest_of_piece opened piece = block_digest (content_of_piece opened piece)

-- ---- the events

abbrev pub put_of_piece : Opened → Window → Piece → Event
put_of_piece opened window piece = PutData window (index_of_piece opened piece) (digest_of_piece opened piece)

-- of each put its index and digest
abbrev pub piece_puts : Opened → List Piece → List (ℕ × List ℕ)
piece_puts opened pieces = map (λ piece. (index_of_piece opened piece, digest_of_piece opened piece)) pieces

-- so many places of the history are claimed for the pieces
abbrev pub piece_places : List Piece → ℕ
piece_places pieces = 5 * length pieces + 1

-- all events of the pieces, in their order, where these indices were stored
abbrev pub piece_events : Opened → Window → List Piece → List ℕ → List Event
piece_events opened window pieces stored =
    (((Claim window (piece_places pieces) ∷ []) ++ map (put_of_piece opened window) pieces) ++ stores_of window stored) ++ (Release window ∷ [])

-- ---- the bytes

-- The disk reads as the definition says, and the pieces that were stored and those that were there before are counted.
pub record FillsFile (opened : Opened) (pieces : List Piece) (stored : List ℕ) (file : FilledFile) (states : List DiskState) : Type 0 where
  pub reads : reads_of states ≡ Some (with_pieces opened file pieces).bytes
  pub written : (with_pieces opened file pieces).written ≡ file.written + length stored
  pub present : (with_pieces opened file pieces).present ≡ file.present + (length pieces - length stored)

-- where the disk tells what it holds
abbrev pub FillsAs : Opened → List Piece → List ℕ → List DiskState → List DiskState → Type 0
FillsAs opened pieces stored old new = (file : FilledFile) → reads_of old ≡ Some file.bytes → FillsFile opened pieces stored file new

-- ---- the outcome

-- all pieces are in: what was open is open as before, each piece's index is open, and all that is open is acknowledged
pub record PiecesAreIn (old : Seen) (window : Window) (pieces : List Piece) (stored : List ℕ) (new : Seen) : Type 0 where
  pub taken : HasTaken old (piece_events old.opened window pieces stored) new
  pub puts_are : puts_among (piece_events old.opened window pieces stored) ≡ piece_puts old.opened pieces
  pub rest : IsFillable new
  pub sound : (state_now new).failed ≡ None
  pub count : new.count ≡ old.count
  pub stored_are : stored ≡ stored_of (state_now old).map (piece_indices old.opened pieces)
  pub there : AllOpen (state_now new).map (piece_indices old.opened pieces)
  pub contents : FillsAs old.opened pieces stored old.states new.states

-- A front of the pieces was put, and no more: a device call has failed. The window was given up.
pub record FrontIsIn (old : Seen) (window : Window) (pieces : List Piece) (new : Seen) : Type 0 where
  pub front : ℕ
  pub within : front ≤ length pieces
  pub events : List Event
  pub taken : HasTaken old events new
  pub puts_are : puts_among events ≡ piece_puts old.opened (take front pieces)
  pub released : EndReleased window events
  pub rose : Rose old.count new.count

-- Where the file has failed before, the claim alone was entered; for want of room or of memory nothing was.
abbrev pub FillsPieces : {T : Type 0} → Seen → Window → List Piece → Result T FillStop → List ℕ → Seen → Type 0
FillsPieces old window pieces (Ok done) stored new = PiecesAreIn old window pieces stored new
FillsPieces old window pieces (Err DiskFault) stored new = FrontIsIn old window pieces new
FillsPieces old window pieces (Err (Failed at)) stored new = ((state_now old).failed ≡ Some at) × HasTaken old (Claim window (piece_places pieces) ∷ []) new × (new.count ≡ old.count)
FillsPieces old window pieces (Err (HistoryFull entries claimed)) stored new = IsFullCell old (Claim window (piece_places pieces)) entries claimed new
FillsPieces old window pieces (Err OutOfMemory) stored new = new ≡ old

-- ---- what the pieces store, hashed

abbrev pub StoresPiece : Opened → Filling → Piece → Type 0
StoresPiece opened filling piece = (filling.index ≡ index_of_piece opened piece) × (filling.block.bytes ≡ block_of_piece opened piece)

abbrev pub StorePieces : Opened → List Filling → List Piece → Type 0
StorePieces opened [] [] = Unit {0}
StorePieces opened [] (piece ∷ pieces) = ⊥
StorePieces opened (filling ∷ group) [] = ⊥
StorePieces opened (filling ∷ group) (piece ∷ pieces) = StoresPiece opened filling piece × StorePieces opened group pieces

-- each index with its block
abbrev pub fillings_joined : List ℕ → List DigestedBlock → List Filling
fillings_joined indices blocks = map (λ (pair : ℕ × DigestedBlock). record { index = pair.0; block = pair.1 }) (zip indices blocks)
