use Rattle.std.proofs.Common.{◌≡◌, take}
use Rattle.std.specs.Option.{option_copied}
use Rattle.inc_disk.specs.Book.{log_of}
use Rattle.inc_disk.specs.Log.{newest_of}
use Rattle.inc_disk.proofs.newest.newest.Given as goal

abbrev pub invariant-loop-entry : goal.invariant-loop-entry
invariant-loop-entry l = option_copied l.found ≡ newest_of l.name (log_of (take l.entry-index l.entries))
