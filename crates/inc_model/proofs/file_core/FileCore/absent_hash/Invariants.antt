-- all lower levels are there
use Rattle.std.specs.Prelude.{◌≡◌, ◌-◌}
use Rattle.inc_model.specs.relation.Polling.{absent_hash, absent_from, levels_over}
use Rattle.inc_model.proofs.file_core.FileCore.absent_hash.Given as goal

abbrev pub invariant-loop-level : goal.invariant-loop-level
invariant-loop-level g l =
    absent_hash l.self.state.n l.self.state.m l.self.state.map l.block ≡ absent_from l.self.state.n l.self.state.m l.self.state.map l.block (levels_over l.self.state.n l.self.state.m - l.level) l.level
