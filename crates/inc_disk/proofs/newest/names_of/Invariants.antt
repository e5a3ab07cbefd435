use Rattle.std.proofs.Common.{◌≡◌, take}
use Rattle.std.specs.FinMap.{keys}
use Rattle.inc_disk.specs.Book.{log_of}
use Rattle.inc_disk.specs.Log.{contents_of}
use Rattle.inc_disk.proofs.newest.names_of.Given as goal

abbrev pub invariant-loop-entry : goal.invariant-loop-entry
invariant-loop-entry l = l.names.items ≡ keys (contents_of (log_of (take l.entry-index l.entries)))
