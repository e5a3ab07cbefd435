-- How the faults of a shelf and of a mount refuse names.
use Rattle.std.proofs.Common.{◌≡◌, ◌≢◌, ℕ, Option, Some, None, Result, Ok, Err, refl, sym, ap, ◌∙◌, arith}
use Rattle.std.specs.Prelude.{IfSome, IfErr}
use Rattle.inc_io.specs.Causes.{HasCauseAt, Joins, Rose}
use Rattle.inc_io.specs.declared.failed.LendFault.{LendFault}
use Rattle.inc_io.specs.declared.failed.LendFault.TheVariants as lend
use Rattle.inc_layout.specs.declared.fault.LayoutFault.{LayoutFault}
use Rattle.inc_layout.specs.declared.fault.LayoutFault.TheVariants as layout
use Rattle.inc_layout.specs.declared.opened.Opened.{Opened}
use Rattle.inc_recover.specs.Mounting.{FaultCause, GivesLayout, HasMountCause, IsOwnMountFault, LayoutCause}
use Rattle.inc_recover.specs.declared.fault.MountFault.{MountFault}
use Rattle.inc_recover.specs.declared.fault.MountFault.TheVariants as mount
use Rattle.inc_volume.specs.Standings.{IsFileFault}
use Rattle.inc_volume.specs.mounting.Targets.{GivesTarget, IsJudged, IsNoVerdict, IsOwnRefusal, refusal_by_lend}
use Rattle.inc_volume.specs.declared.mounting.refusal.MountRefusal.{MountRefusal}
use Rattle.inc_volume.specs.declared.mounting.refusal.MountRefusal.TheVariants.{Missing, Bad, Fault, OutOfMemory}

-- ---- the layout's faults

-- a file that has a layout has no fault but one of the device
pub no_layout_fault : (fault : LayoutFault) → (fault ≡ layout.ReadFault → ⊥) → (wanted : Result Opened LayoutFault) (found : Opened) → wanted ≡ Ok found → GivesLayout fault wanted → ⊥
no_layout_fault layout.ReadFault other wanted found is gives = other refl
no_layout_fault layout.OutOfMemory other wanted found is gives = gives
no_layout_fault fault other wanted found is gives = absurd (let clash : Err fault ≡ Ok found = sym gives ∙ is in cc)

pub own_file_fault : (fault : LayoutFault) → (fault ≡ layout.ReadFault → ⊥) → IsOwnMountFault (mount.Layout fault) → IsFileFault fault
own_file_fault layout.ReadFault other own = absurd (other refl)
own_file_fault layout.OutOfMemory other own = absurd own
own_file_fault fault other own = record { own = own; device = λ e. other e; memory = λ e. absurd (cc) }

pub layout_quiet : (fault : LayoutFault) → (fault ≡ layout.ReadFault → ⊥) → (before now : ℕ) → LayoutCause before now fault → now ≡ before
layout_quiet layout.ReadFault other before now cause = absurd (other refl)
layout_quiet layout.OutOfMemory other before now cause = absurd cause
layout_quiet fault other before now cause = cause

-- ---- a shelf that lends nothing

pub lend_no_verdict : (fault : LendFault) → IsNoVerdict (refusal_by_lend fault)
lend_no_verdict lend.Failed = tt
lend_no_verdict lend.OutOfMemory = tt

pub lend_own : (fault : LendFault) → IsOwnRefusal (refusal_by_lend fault)
lend_own lend.Failed = tt
lend_own lend.OutOfMemory = tt

pub lend_gives : {X T : Type 0} (told : Option X) (fault : LendFault) (wanted : X → Result T MountRefusal) → IfSome told (λ x. GivesTarget (Err (refusal_by_lend fault)) (wanted x))
lend_gives None fault wanted = tt
lend_gives (Some x) lend.Failed wanted = tt
lend_gives (Some x) lend.OutOfMemory wanted = tt

pub lend_cause : {T U : Type 0} (fault : LendFault) (before now : ℕ) → HasCauseAt {T = T} lend.Failed before now (Err fault) → HasCauseAt {T = U} Fault before now (Err (refusal_by_lend fault))
lend_cause lend.Failed before now cause = record { later = cause.later; failed = λ e. cause.failed refl; kept = λ other. absurd (other refl) }
lend_cause lend.OutOfMemory before now cause = record { later = cause.later; failed = λ e. absurd (cc); kept = λ other. cause.kept (λ e. cc) }

-- ---- a plan

pub found_gives : {X T : Type 0} (told : Option X) (found : Result T MountRefusal) (wanted : X → Result T MountRefusal) → IfErr found IsJudged → IfSome told (λ x. found ≡ wanted x)
    → IfSome told (λ x. GivesTarget found (wanted x))
found_gives None found wanted own is = tt
found_gives (Some x) (Ok given) wanted own is = sym is
found_gives (Some x) (Err (Missing name)) wanted own is = sym is
found_gives (Some x) (Err (Bad name verdict)) wanted own is = sym is
found_gives (Some x) (Err Fault) wanted own is = tt
found_gives (Some x) (Err OutOfMemory) wanted own is = tt

pub found_own : {T : Type 0} (found : Result T MountRefusal) → IfErr found IsJudged → IfErr found IsOwnRefusal
found_own (Ok given) own = tt
found_own (Err (Missing name)) own = tt
found_own (Err (Bad name verdict)) own = own
found_own (Err Fault) own = tt
found_own (Err OutOfMemory) own = tt

never_fault : {T : Type 0} (found : Result T MountRefusal) → IfErr found IsJudged → found ≡ Err Fault → ⊥
never_fault (Ok given) own is = absurd (cc)
never_fault (Err (Missing name)) own is = absurd (cc)
never_fault (Err (Bad name verdict)) own is = absurd (cc)
never_fault (Err Fault) own is = own
never_fault (Err OutOfMemory) own is = own

pub found_cause : {T U : Type 0} (found : Result T MountRefusal) (value : U) (before now : ℕ) → IfErr found IsJudged → HasCauseAt lend.Failed before now (Ok value) → HasCauseAt Fault before now found
found_cause found value before now own cause = record {
  later = cause.later;
  failed = λ e. absurd (never_fault found own e);
  kept = λ other. cause.kept (λ e. absurd (cc));
}

-- ---- a mount that fails

abbrev refused_for : {T : Type 0} → MountRefusal → Result T MountRefusal
refused_for refusal = Err refusal

same_refusal : (T : Type 0) (one other : MountRefusal) → refused_for {T = T} one ≡ refused_for other → one ≡ other
same_refusal T one other e = cc

pub mount_cause : {T : Type 0} (before first lent now : ℕ) (fault : MountFault) (refusal : MountRefusal) → first ≡ 0 → HasMountCause first lent (Err fault) → Joins before lent now
    → ((before now : ℕ) → FaultCause before now fault → refusal ≡ Fault → Rose before now) → ((before now : ℕ) → FaultCause before now fault → refusal ≢ Fault → now ≡ before)
    → HasCauseAt {T = T} Fault before now (Err refusal)
mount_cause {T} before first lent now fault refusal fresh cause joins failed quiet = record {
  later = joins.later;
  failed = λ e. let rose : Rose first lent = failed first lent cause.failed (same_refusal T refusal Fault e) in rises before first lent now fresh rose joins;
  kept = λ other. let none : lent ≡ first = quiet first lent cause.failed (λ e. other (ap (λ (r : MountRefusal). refused_for {T = T} r) e)) in joins.none (none ∙ fresh);
}
  where
    rises : (before first lent now : ℕ) → first ≡ 0 → Rose first lent → Joins before lent now → Rose before now
    rises before first lent now fresh rose joins = omega (arith, fresh, rose, joins.all, joins.later)

pub quiet_cause : {T : Type 0} (before now : ℕ) (result : Result T MountRefusal) → now ≡ before → result ≢ Err Fault → HasCauseAt Fault before now result
quiet_cause before now result same never = record { later = omega (arith, same); failed = λ e. absurd (never e); kept = λ other. same }
