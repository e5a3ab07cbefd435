-- What stands of a script where so many of its lines are read.
use Rattle.std.specs.Prelude.{Bool, List}
use Rattle.inc_script.specs.declared.script.ReaderLine.{ReaderLine}
use Rattle.inc_script.specs.declared.script.TimesLine.{TimesLine}

pub record DraftState : Type 0 where
  pub times : List TimesLine
  pub readers : List ReaderLine
  -- whether a line has ended the script
  pub ended : Bool
