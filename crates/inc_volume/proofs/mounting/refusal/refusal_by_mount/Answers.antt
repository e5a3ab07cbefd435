use Rattle.std.proofs.Common.{subst}
use Rattle.inc_recover.specs.Mounting.{FaultCause}
use Rattle.inc_recover.specs.declared.fault.MountFault.{MountFault}
use Rattle.inc_volume.proofs.mounting.refusal.refusal_by_mount.Goals as goal

pub returns-in-Layout-clause-quiet : goal.returns-in-Layout-clause-quiet
returns-in-Layout-clause-quiet c = λ before now cause other.
    c.refusal_by_layout.ensures.quiet before now (subst (λ (fault : MountFault). FaultCause before now fault) c.in-Layout.is cause) other
