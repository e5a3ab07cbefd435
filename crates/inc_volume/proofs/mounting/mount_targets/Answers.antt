use Rattle.inc_volume.proofs.mounting.mount_targets.Goals as goal

pub invariant_of-volume : goal.invariant_of-volume
invariant_of-volume g c = record { names = c.in-Ok.ensures.mounted.names; ids = c.in-Ok.ensures.mounted.ids }

pub returns-in-Ok-clause-mounted : goal.returns-in-Ok-clause-mounted
returns-in-Ok-clause-mounted g c = c.in-Ok.ensures.mounted.mounted

pub returns-in-Ok-clause-out : goal.returns-in-Ok-clause-out
returns-in-Ok-clause-out g c = c.in-Ok.ensures.mounted.out_is
