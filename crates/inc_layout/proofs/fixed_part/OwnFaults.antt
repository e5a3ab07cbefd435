-- A fault that passes from a part to the whole is the whole's own, if it is none of the file's bytes.
use Rattle.std.proofs.Common.{◌≡◌, ◌⊎◌, inl, inr, sym, subst}
use Rattle.inc_md.specs.declared.fault.ChainFault.{ChainFault}
use Rattle.inc_md.specs.declared.fault.ChainFault.TheVariants as chain
use Rattle.inc_signature.specs.declared.signature.SigFault.{SigFault}
use Rattle.inc_signature.specs.declared.signature.SigFault.TheVariants as signature
use Rattle.inc_layout.specs.declared.fault.LayoutFault.{LayoutFault}
use Rattle.inc_layout.specs.declared.fault.LayoutFault.TheVariants as faults
use Rattle.inc_layout.specs.opening.Faults.{IsOwnFault, chain_fault, signature_fault}

pub own_chain : (fault : ChainFault) → IsOwnFault (chain_fault fault)
own_chain chain.ReadFault = tt
own_chain chain.OutOfMemory = tt
own_chain fault = tt

pub own_signature : (fault : SigFault) → IsOwnFault (signature_fault fault)
own_signature signature.OutOfMemory = tt
own_signature fault = tt

-- a fault of the device or of memory
pub own_outside : (fault : LayoutFault) → (fault ≡ faults.ReadFault) ⊎ (fault ≡ faults.OutOfMemory) → IsOwnFault fault
own_outside fault (inl e) = subst IsOwnFault (sym e) tt
own_outside fault (inr e) = subst IsOwnFault (sym e) tt
