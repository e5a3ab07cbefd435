-- what is looked for isn't before the place
use Rattle.std.specs.Prelude.{◌≡◌, drop}
use Rattle.inc_pending.specs.Keyed.{lookup}
use Rattle.inc_model.proofs.state_lists.keyed.kept_digest.Given as goal

abbrev pub invariant-loop-row : goal.invariant-loop-row
invariant-loop-row l = lookup l.index l.rows ≡ lookup l.index (drop l.row-index l.rows)
