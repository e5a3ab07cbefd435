-- How a fill ends, by what was read of its stream.
use Rattle.std.specs.Prelude.{◌≡◌, ℕ, Bool, true, false, List, length, Option, Some, None}
use Rattle.inc_frame.specs.Fronts.{StreamFront, StreamState, Greeting, Framing, Ended, Faulty, fault_of, has_ended}
use Rattle.inc_frame.specs.declared.fault.FrameFault.TheVariants.{Cut}
use Rattle.inc_layout.specs.declared.opened.Opened.{Opened}
use Rattle.inc_loader.specs.Reading.{IsRefusedStream}
use Rattle.inc_filling.specs.Refusals.{first_refusal}
use Rattle.inc_filling.specs.declared.refusal.PieceRefusal.{PieceRefusal}
use Rattle.inc_filling.specs.declared.from_stream.filled.FillEnd.{FillEnd}
use Rattle.inc_filling.specs.declared.from_stream.filled.FillEnd.TheVariants.{Done, Refused, Stream}

-- By the first refusal of a whole piece, else by the stream's fault, else by its end. A stream is cut only where its source has met its end
-- and, where it tells what is left, leaves nothing.
abbrev pub EndsStream : Opened → StreamFront → Bool → Option (List ℕ) → FillEnd → Type 0
EndsStream opened front source_ended left (Refused refusal) = first_refusal opened front.pieces ≡ Some refusal
EndsStream opened front source_ended left (Stream fault) = (first_refusal opened front.pieces ≡ None) × IsRefusedStream front.state source_ended left (Some fault)
EndsStream opened front source_ended left Done = (first_refusal opened front.pieces ≡ None) × (has_ended front.state ≡ true)

-- nothing in it has ended the fill
pub record FillGoesOn (opened : Opened) (front : StreamFront) : Type 0 where
  pub none_refused : first_refusal opened front.pieces ≡ None
  pub no_fault : fault_of front.state ≡ None
  pub no_end : has_ended front.state ≡ false

-- ---- an input that is told whole

-- the end of an input that ends where this stream does
abbrev pub end_of_state : StreamState → FillEnd
end_of_state (Ended count) = Done
end_of_state (Faulty fault) = Stream fault
end_of_state (Greeting seen) = Stream (Cut (length seen))
end_of_state (Framing limit count rest) = Stream (Cut count)

abbrev pub refused_or_end : Option PieceRefusal → FillEnd → FillEnd
refused_or_end (Some refusal) end = Refused refusal
refused_or_end None end = end

-- the end of a fill from this input: by the first refusal, else by the stream's fault, else by its end
abbrev pub end_of_fill : Opened → StreamFront → FillEnd
end_of_fill opened front = refused_or_end (first_refusal opened front.pieces) (end_of_state front.state)
