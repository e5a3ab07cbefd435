-- How the faults of the parts of a file are told of the whole.
use Rattle.std.specs.Prelude.{◌≡◌, Option, Some, Result, Ok, Err}
use Rattle.inc_header.specs.declared.header.Header.{Header}
use Rattle.inc_header.specs.declared.header.HeaderFault.{HeaderFault}
use Rattle.inc_md.specs.declared.fault.ChainFault.{ChainFault}
use Rattle.inc_md.specs.declared.fault.ChainFault.TheVariants as chain
use Rattle.inc_signature.specs.declared.signature.SigFault.{SigFault}
use Rattle.inc_signature.specs.declared.signature.SigFault.TheVariants as signature
use Rattle.inc_signature.specs.declared.signature.SigInfo.{SigInfo}
use Rattle.inc_layout.specs.declared.fault.LayoutFault.{LayoutFault}
use Rattle.inc_layout.specs.declared.fault.LayoutFault.TheVariants as faults
use Rattle.inc_layout.specs.declared.fault.LayoutFault.TheVariants.{Chain, Signature, ReadFault, OutOfMemory}

-- a failing device and want of memory are faults of the whole
abbrev pub chain_fault : ChainFault → LayoutFault
chain_fault chain.ReadFault = ReadFault
chain_fault chain.OutOfMemory = OutOfMemory
chain_fault fault = Chain fault

abbrev pub signature_fault : SigFault → LayoutFault
signature_fault signature.OutOfMemory = OutOfMemory
signature_fault fault = Signature fault

-- no failing device and no want of memory is told as a fault of the chain or of the blob
abbrev pub IsOwnFault : LayoutFault → Type 0
IsOwnFault (Chain chain.ReadFault) = ⊥
IsOwnFault (Chain chain.OutOfMemory) = ⊥
IsOwnFault (Signature signature.OutOfMemory) = ⊥
IsOwnFault fault = Unit {0}

-- what a header and a signature blob tell, as answers of the whole
abbrev pub told_header : Result Header HeaderFault → Result Header LayoutFault
told_header (Ok header) = Ok header
told_header (Err fault) = Err (faults.Header fault)

abbrev pub told_sig : Result SigInfo SigFault → Result (Option SigInfo) LayoutFault
told_sig (Ok sig) = Ok (Some sig)
told_sig (Err fault) = Err (Signature fault)

-- the fault is this answer, or one of the device or of memory, whose causes are clauses of their own
abbrev pub GivesLayoutFault : {T : Type 0} → LayoutFault → Result T LayoutFault → Type 0
GivesLayoutFault ReadFault wanted = Unit {0}
GivesLayoutFault OutOfMemory wanted = Unit {0}
GivesLayoutFault fault wanted = wanted ≡ Err fault

-- the answer is this one, or a fault of the device or of memory
abbrev pub GivesOpening : {T : Type 0} → Result T LayoutFault → Result T LayoutFault → Type 0
GivesOpening (Ok opened) wanted = wanted ≡ Ok opened
GivesOpening (Err fault) wanted = GivesLayoutFault fault wanted
