-- the asker has no such read before the place
use Rattle.std.specs.Prelude.{◌≡◌, drop}
use Rattle.inc_pending.specs.Polling.{read_of}
use Rattle.inc_model.proofs.file_core.lookups.find_read.Given as goal

abbrev pub invariant-loop-row : goal.invariant-loop-row
invariant-loop-row l = read_of l.who l.serial l.reads ≡ read_of l.who l.serial (drop l.row-index l.reads)
