use Rattle.std.proofs.Common.{◌≡◌, ◌+◌, ◌-◌, ◌^◌, []}
use Rattle.inc_filling.specs.Rounds.{IsUnderWay}
use Rattle.inc_filling.proofs.from_stream.fill_groups.Given as goal

abbrev pub invariant-filling : goal.invariant-filling
invariant-filling g l = record {
  under_way : IsUnderWay l.initial.cell l.window (g.I.Source.left l.initial.input) l.totals.written l.totals.present l.pieces (g.I.Source.ended l.input) (g.I.Source.left l.input) l.cell;
  empty : l.waiting.pieces.items ≡ [];
  quiet : g.I.Source.faults l.input ≡ g.I.Source.faults l.initial.input;
}

abbrev pub decreases-filling : goal.decreases-filling
decreases-filling g l = 2 ^ 37 - (l.totals.written + l.totals.present)
