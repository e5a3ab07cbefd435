use Rattle.std.proofs.Common.{◌≡◌, length}
use Rattle.inc_io.proofs.WriteLemmas.{Sent}
use Rattle.inc_io.proofs.outside.sink.write_all.Given as goal

abbrev pub invariant-loop-rest : goal.invariant-loop-rest
invariant-loop-rest g l = record {
  quiet : g.O.Sink.faults l.out ≡ g.O.Sink.faults l.initial.out;
  sent : Sent (g.O.Sink.written l.initial.out) (g.O.Sink.written l.out) l.text l.rest;
}

abbrev pub decreases-loop-rest : goal.decreases-loop-rest
decreases-loop-rest g l = length l.rest
