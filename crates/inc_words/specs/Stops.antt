-- What ends a command from outside of the files.
use Rattle.inc_io.specs.declared.failed.LendFault.{LendFault}
use Rattle.inc_io.specs.declared.failed.LendFault.TheVariants as lend
use Rattle.inc_words.specs.declared.stop.Stop.{Stop}
use Rattle.inc_words.specs.declared.stop.Stop.TheVariants.{Fault, OutOfMemory}

abbrev pub lend_stop : LendFault → Stop
lend_stop lend.Failed = Fault
lend_stop lend.OutOfMemory = OutOfMemory
