use Rattle.inc_pending.proofs.TimesLemmas.{times_there, times_missing}
use Rattle.inc_pending.proofs.timeouts.Timeouts.get.Goals as goal

pub returns-in-Ok : goal.returns-in-Ok
returns-in-Ok c = record { value = times_there _ _ _ c.in-Ok.at c.args.uid c.self.view_is c.as_slice.ensures.value _ c.in-Ok.ensures.there c.index.ensures }

pub returns-in-Err : goal.returns-in-Err
returns-in-Err c = record { value = times_missing _ _ _ c.in-Err.field-0 c.args.uid c.self.view_is c.as_slice.ensures.value c.self.invariant c.in-Err.ensures.missing }
