-- what is looked for isn't before the place
use Rattle.std.specs.Prelude.{◌≡◌, drop}
use Rattle.inc_pending.specs.Keyed.{lookup}
use Rattle.inc_model.proofs.state_lists.keyed.times_at.Given as goal

abbrev pub invariant-loop-row : goal.invariant-loop-row
invariant-loop-row l = lookup l.uid l.rows ≡ lookup l.uid (drop l.row-index l.rows)
