-- What callers see of a reader: where its stream stands, and the pieces before a fault that weren't taken.
use Rattle.std.specs.Prelude.{List, [], length, Result, Ok, Err}
use Rattle.inc_frame.specs.Fronts.{StreamState, Greeting, Framing, Ended, Faulty}
use Rattle.inc_frame.specs.declared.piece.Piece.{Piece}
use Rattle.inc_frame.specs.declared.fault.FrameFault.{FrameFault}
use Rattle.inc_frame.specs.declared.fault.FrameFault.TheVariants.{Cut}

pub record ReaderState : Type 0 where
  pub state : StreamState
  pub taken : List Piece

abbrev pub fresh_reader : ReaderState
fresh_reader = record { state = Greeting []; taken = [] }

-- what an input that ends here is: a whole stream, or cut off, or faulty before
abbrev pub verdict_at_end : StreamState → Result (Unit {0}) FrameFault
verdict_at_end (Ended count) = Ok tt
verdict_at_end (Faulty fault) = Err fault
verdict_at_end (Greeting seen) = Err (Cut (length seen))
verdict_at_end (Framing limit count rest) = Err (Cut count)
