-- What a loader that reads a stream has made of the bytes that it read.
use Rattle.std.specs.Prelude.{◌≡◌, ℕ, Bool, true, ◌&&◌, ◌||◌, ◌==◌, not, List, [], ◌++◌, length, Option, Some, None, is_some, option_map, IfSome, ⊤}
use Rattle.inc_frame.specs.Fronts.{StreamState, Greeting, Framing, Ended, Faulty, has_ended, stream_front}
use Rattle.inc_frame.specs.declared.piece.Piece.{Piece}
use Rattle.inc_frame.specs.declared.fault.FrameFault.{FrameFault}
use Rattle.inc_frame.specs.declared.fault.FrameFault.TheVariants.{Cut}
use Rattle.inc_loader.specs.declared.turn.Given.{Given}
use Rattle.inc_loader.specs.declared.turn.Given.TheVariants as given

-- these bytes come before what a source still gives, where it tells that
abbrev pub before_rest : List ℕ → Option (List ℕ) → Option (List ℕ)
before_rest bytes rest = option_map (λ left. bytes ++ left) rest

-- the source has met its end and, where it tells what comes, nothing comes
abbrev pub IsAtEnd : Bool → Option (List ℕ) → Type 0
IsAtEnd source_ended coming = (source_ended ≡ true) × IfSome coming (λ bytes. bytes ≡ [])

-- a stream is refused for its own fault, or where its source was at an end before the stream was
abbrev pub IsRefusedStream : StreamState → Bool → Option (List ℕ) → Option FrameFault → Type 0
IsRefusedStream (Faulty own) source_ended coming refused = refused ≡ Some own
IsRefusedStream (Ended count) source_ended coming refused = refused ≡ None
IsRefusedStream (Greeting seen) source_ended coming None = ⊤
IsRefusedStream (Greeting seen) source_ended coming (Some fault) = (fault ≡ Cut (length seen)) × IsAtEnd source_ended coming
IsRefusedStream (Framing limit count rest) source_ended coming None = ⊤
IsRefusedStream (Framing limit count rest) source_ended coming (Some fault) = (fault ≡ Cut count) × IsAtEnd source_ended coming

-- Of an input, where its source tells it, it read these bytes and has the rest to come; of them it gave these pieces and has these
-- whole ones left; and it is refused exactly where these bytes have a fault.
pub record IsReadStream (input : Option (List ℕ)) (read : List ℕ) (gave whole : List Piece) (state : StreamState) (refused : Option FrameFault) (source_ended : Bool)
    (coming : Option (List ℕ)) : Type 0 where
  pub input_is : input ≡ before_rest read coming
  pub front_is : stream_front read ≡ record { pieces = gave ++ whole; state = state }
  pub refused_is : IsRefusedStream state source_ended coming refused

-- it needn't read on: a piece is whole, or the stream has its fault or its end
abbrev pub needs_no_read : List Piece → Option FrameFault → StreamState → Bool
needs_no_read whole refused state = not (length whole == 0) || is_some refused || has_ended state

-- the stream's end has come and every piece before it was given
abbrev pub has_given_all : List Piece → StreamState → Bool
has_given_all whole state = has_ended state && (length whole == 0)

-- the pieces of an answer
abbrev pub pieces_in : Given → List Piece
pieces_in (given.Pieces pieces) = pieces
pieces_in given.Nothing = []
pieces_in given.Done = []
pieces_in (given.Bad fault) = []
pieces_in given.Failed = []
pieces_in given.OutOfMemory = []

-- it never says that it has nothing for now, and gives a fault only after all pieces before it
abbrev pub FollowsStream : Given → List Piece → Type 0
FollowsStream (given.Pieces pieces) whole = ⊤
FollowsStream given.Nothing whole = ⊥
FollowsStream given.Done whole = ⊤
FollowsStream (given.Bad fault) whole = whole ≡ []
FollowsStream given.Failed whole = ⊤
FollowsStream given.OutOfMemory whole = ⊤
