use Rattle.inc_volume.proofs.volumes.RefusalFaults.{layout_quiet, no_layout_fault, own_file_fault}
use Rattle.inc_volume.proofs.mounting.refusal.refusal_by_layout.Goals as goal

pub bad_file-requires : goal.bad_file-requires
bad_file-requires c = own_file_fault c.args.fault c.in_default.not-ReadFault c.requires

pub returns-in_default-clause-only : goal.returns-in_default-clause-only
returns-in_default-clause-only c = λ wanted found is gives. absurd (no_layout_fault c.args.fault c.in_default.not-ReadFault wanted found is gives)

pub returns-in_default-clause-quiet : goal.returns-in_default-clause-quiet
returns-in_default-clause-quiet c = λ before now cause other. layout_quiet c.args.fault c.in_default.not-ReadFault before now cause
