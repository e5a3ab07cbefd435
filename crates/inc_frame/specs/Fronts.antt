-- The front of a stream: the pieces that are whole in the bytes that have come, and where the stream then stands. Bytes come
-- one after another, so a fault is known as soon as its own bytes have come, whatever follows them.
use Rattle.std.specs.Prelude.{ℕ, ◌+◌, ◌-◌, Bool, true, false, ◌&&◌, ◌||◌, List, [], ◌∷◌, ◌++◌, length, slice_index, Option, Some, None, ◌==◌, nat_le, if◌then◌else◌}
use Rattle.inc_frame.specs.Frames.{hello_bytes, stream_limit, frame_length, piece_of}
use Rattle.inc_frame.specs.declared.stage.TheConstants.{HEAD_LEN, MOST_BYTES}
use Rattle.inc_frame.specs.declared.piece.Piece.{Piece}
use Rattle.inc_frame.specs.declared.fault.FrameFault.{FrameFault}
use Rattle.inc_frame.specs.declared.fault.FrameFault.TheVariants.{BadHello, BadKind, BadLength, TooLong}

-- where a stream stands
pub data StreamState : Type 0 where
  -- these bytes of its hello have come
  Greeting : List ℕ → StreamState
  -- its limit, the number of bytes that have come, and those of the frame that isn't whole
  Framing : ℕ → ℕ → List ℕ → StreamState
  -- its end has come, after this number of bytes
  Ended : ℕ → StreamState
  -- its first fault
  Faulty : FrameFault → StreamState

pub record StreamFront : Type 0 where
  pub pieces : List Piece
  pub state : StreamState

-- no piece is whole with these bytes
abbrev pub no_piece : StreamState → StreamFront
no_piece state = record { pieces = []; state = state }

-- one front, and what comes after it
abbrev pub joined_front : List Piece → StreamFront → StreamFront
joined_front pieces front = record { pieces = pieces ++ front.pieces; state = front.state }

-- ---- the hello

abbrev pub is_hello_byte : ℕ → ℕ → Bool
is_hello_byte at byte = if at == 6 then (byte == 1) || (byte == 2) else byte == slice_index (hello_bytes 1) at

unfoldable pub hello_front : List ℕ → ℕ → StreamFront
hello_front seen byte =
    if is_hello_byte (length seen) byte
    then (if length seen == 7 then no_piece (Framing (stream_limit (slice_index seen 6)) 8 []) else no_piece (Greeting (seen ++ byte ∷ [])))
    else no_piece (Faulty (BadHello (length seen)))

-- ---- a frame

-- the fault that a frame's last byte makes, which is at this place of the stream
unfoldable pub frame_fault : List ℕ → ℕ → Option FrameFault
frame_fault frame place =
    if length frame == 1 then (if slice_index frame 0 == 1 then None else Some (BadKind place))
    else (if length frame == 18 then (if nat_le (slice_index frame 17) 1 then None else Some (BadKind place))
    else (if length frame == HEAD_LEN then (if nat_le 1 (frame_length frame) && nat_le (frame_length frame) MOST_BYTES then None else Some (BadLength (place - 1)))
    else None))

abbrev pub unless_fault : Option FrameFault → StreamFront → StreamFront
unless_fault None front = front
unless_fault (Some fault) front = no_piece (Faulty fault)

-- a stream goes on up to its limit
abbrev pub within_limit : ℕ → ℕ → List ℕ → List Piece → StreamFront
within_limit limit count rest pieces = if count == limit then record { pieces = pieces; state = Faulty (TooLong limit) } else record { pieces = pieces; state = Framing limit count rest }

-- a frame with as many bytes as its length says is a piece
unfoldable pub grown_front : ℕ → ℕ → List ℕ → StreamFront
grown_front limit count frame =
    if length frame == HEAD_LEN + frame_length frame
    then within_limit limit count [] (piece_of frame ∷ [])
    else within_limit limit count frame []

abbrev pub ends_stream : List ℕ → Bool
ends_stream frame = (length frame == 1) && (slice_index frame 0 == 2)

unfoldable pub frame_front : ℕ → ℕ → List ℕ → StreamFront
frame_front limit place frame =
    if ends_stream frame
    then no_piece (Ended (place + 1))
    else unless_fault (frame_fault frame place) (grown_front limit (place + 1) frame)

-- ---- bytes

-- what one byte makes of a stream
unfoldable pub byte_front : StreamState → ℕ → StreamFront
byte_front (Greeting seen) byte = hello_front seen byte
byte_front (Framing limit place rest) byte = frame_front limit place (rest ++ byte ∷ [])
byte_front (Ended count) byte = no_piece (Ended count)
byte_front (Faulty fault) byte = no_piece (Faulty fault)

-- what further bytes make of a stream
unfoldable pub front_from : StreamState → List ℕ → StreamFront
front_from state [] = no_piece state
front_from state (byte ∷ bytes) = joined_front (byte_front state byte).pieces (front_from (byte_front state byte).state bytes)

abbrev pub stream_front : List ℕ → StreamFront
stream_front bytes = front_from (Greeting []) bytes

-- the number of bytes that have come, none after the end
abbrev pub byte_count : StreamState → ℕ
byte_count (Greeting seen) = length seen
byte_count (Framing limit count rest) = count
byte_count (Ended count) = count
byte_count (Faulty fault) = 0

abbrev pub has_ended : StreamState → Bool
has_ended (Ended count) = true
has_ended (Greeting seen) = false
has_ended (Framing limit count rest) = false
has_ended (Faulty fault) = false

abbrev pub fault_of : StreamState → Option FrameFault
fault_of (Faulty fault) = Some fault
fault_of (Greeting seen) = None
fault_of (Framing limit count rest) = None
fault_of (Ended count) = None
