use Rattle.std.proofs.Common.{◌∷◌, refl, rules}
use Rattle.inc_disk.specs.declared.history.Call.TheVariants.{NotSynced}
use Rattle.inc_disk.proofs.States.{recorded}
use Rattle.inc_disk.proofs.history.History.fail_sync.Goals as goal

pub invariant_of-self-2 : goal.invariant_of-self-2
invariant_of-self-2 c = record {
  past = c.self.inside.state ∷ c.self.invariant.past;
  ends = recorded c.self.inside.first c.begin.new.first c.self.inside.state _ c.self.inside.calls.items c.push.new.self.items NotSynced _ c.self.invariant.ends c.begin.ensures.first c.in_ok-begin.ensures.kept (search rules) refl;
}
