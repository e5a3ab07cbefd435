use Rattle.std.proofs.Common.{◌≡◌, ◌+◌, ◌-◌, ◌^◌, ◌++◌, ℕ, List, take, Option, true, if◌then◌else◌}
use Rattle.inc_frame.specs.Fronts.{byte_count}
use Rattle.inc_frame.specs.declared.piece.Piece.{Piece}
use Rattle.inc_loader.specs.Reading.{IsReadStream, before_rest, needs_no_read}
use Rattle.inc_loader.proofs.stream.piece_reader.PieceReader.read_on.Given as goal

abbrev pub invariant-loop-self : goal.invariant-loop-self
invariant-loop-self g l = record {
  front : (input : Option (List ℕ)) (read : List ℕ) (gave : List Piece)
      → IsReadStream input read gave l.initial.self.whole.items l.initial.self.reader.state l.initial.self.refused (g.I.Source.ended l.initial.input)
      (before_rest (take l.initial.self.filled l.initial.self.room.items) (g.I.Source.left l.initial.input))
      → (more : List ℕ) × IsReadStream input (read ++ more) gave l.self.whole.items l.self.reader.state l.self.refused (g.I.Source.ended l.input)
      (before_rest (take l.self.filled l.self.room.items) (g.I.Source.left l.input));
  quiet : g.I.Source.faults l.input ≡ g.I.Source.faults l.initial.input;
  same : needs_no_read l.initial.self.whole.items l.initial.self.refused l.initial.self.reader.state ≡ true → (l.self ≡ l.initial.self) × (l.input ≡ l.initial.input);
}

abbrev pub decreases-loop-self : goal.decreases-loop-self
decreases-loop-self g l =
    if needs_no_read l.self.whole.items l.self.refused l.self.reader.state then 0 else 2 ^ 36 - byte_count l.self.reader.state + 1
