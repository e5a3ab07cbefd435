use Rattle.std.proofs.Common.{◌≡◌, ◌+◌, ◌<◌, Some, rules, arith}
use Rattle.inc_model.specs.declared.words.file_state.FlightRow.{FlightRow}
use Rattle.inc_model.specs.relation.State.{flight_row}
use Rattle.inc_model.proofs.lists.Flight.{row_found}
use Rattle.inc_model.proofs.file_core.FileCore.change_gated.Goals as goal

pub change_gated_row-requires-clause-within : goal.change_gated_row-requires-clause-within
change_gated_row-requires-clause-within g c =
    let flight = c.args.self.now.state.flight in
    let is : flight_row c.args.index flight ≡ Some c.in-Some.row = search rules in
    let found = row_found (λ (r : FlightRow). r.index < c.args.self.now.state.n + c.args.self.now.state.m) c.args.index flight c.in-Some.row is c.requires.within in
    let same = found.0 in
    let inside = found.1 in
    omega arith
