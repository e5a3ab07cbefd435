use Rattle.std.proofs.Common.{◌≡◌, None}
use Rattle.inc_layout.specs.opening.Listed.{first_below}
use Rattle.inc_layout.specs.reading.StaticRead.{is_missing}
use Rattle.inc_layout.proofs.reading.static_read.check_path_there.Given as goal

abbrev pub invariant-loop-level : goal.invariant-loop-level
invariant-loop-level l = first_below l.level (is_missing l.areas l.classes l.index) ≡ None
