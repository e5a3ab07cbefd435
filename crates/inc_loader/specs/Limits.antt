-- How far a stream can go on: its hello ends, and so does the stream, at the latest by the limit of its version.
use Rattle.std.specs.Prelude.{◌^◌, Bool, true, ◌&&◌, length, nat_lt, nat_le}
use Rattle.inc_frame.specs.Fronts.{StreamState, Greeting, Framing, Ended, Faulty}

abbrev pub is_within : StreamState → Bool
is_within (Greeting seen) = nat_lt (length seen) 8
is_within (Framing limit count rest) = nat_lt count limit && nat_le limit (2 ^ 36)
is_within (Ended count) = true
is_within (Faulty fault) = true
