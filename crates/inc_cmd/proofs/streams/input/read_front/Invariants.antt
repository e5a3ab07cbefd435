use Rattle.std.proofs.Common.{length, drop, ◌-◌, ◌≡◌, ◌≤◌}
use Rattle.std.specs.Prelude.{IfSome, option_map}
use Rattle.inc_cmd.proofs.InputLemmas.{Filled}
use Rattle.inc_cmd.proofs.streams.input.read_front.Given as goal

abbrev pub invariant-loop-end : goal.invariant-loop-end
invariant-loop-end g l = record {
  within : l.end ≤ length l.room;
  quiet : g.I.Source.faults l.input ≡ g.I.Source.faults l.fn.input;
  taken : g.I.Source.left l.input ≡ option_map (drop l.end) (g.I.Source.left l.fn.input);
  filled : IfSome (g.I.Source.left l.fn.input) (λ given. Filled given (g.I.Source.left l.input) l.room l.end);
}

abbrev pub decreases-loop-end : goal.decreases-loop-end
decreases-loop-end g l = length l.initial.room - l.end
