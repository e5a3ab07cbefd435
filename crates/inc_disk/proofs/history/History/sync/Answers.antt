use Rattle.std.proofs.Common.{◌∷◌, sym, ap, rules}
use Rattle.inc_disk.specs.declared.history.Call.TheVariants.{Synced}
use Rattle.inc_disk.proofs.States.{recorded}
use Rattle.inc_disk.proofs.history.History.sync.Goals as goal

pub invariant_of-self-2 : goal.invariant_of-self-2
invariant_of-self-2 c = record {
  past = c.self.inside.state ∷ c.self.invariant.past;
  ends = recorded c.self.inside.first c.begin.new.first c.self.inside.state _ c.self.inside.calls.items c.push.new.self.items Synced _ c.self.invariant.ends c.begin.ensures.first c.in_ok-begin.ensures.kept (search rules) (ap (λ state. state ∷ (c.self.inside.state ∷ c.self.invariant.past)) (sym c.settle.ensures.value));
}
