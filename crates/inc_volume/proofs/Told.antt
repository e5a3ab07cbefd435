-- What a file says of itself, over bytes that may not be told.
use Rattle.std.proofs.Common.{◌≡◌, ℕ, List, Option, Some, None, Result, Ok, Err, refl, sym, ap, ◌∙◌}
use Rattle.std.specs.Prelude.{IfSome, IfOk}
use Rattle.inc_io.specs.Causes.{HasCauseAt}
use Rattle.inc_io.specs.declared.failed.LendFault.{LendFault}
use Rattle.inc_io.specs.declared.failed.LendFault.TheVariants as lend
use Rattle.inc_layout.specs.Backing.{laid_of}
use Rattle.inc_layout.specs.fixed.Fixed.{front_of}
use Rattle.inc_layout.specs.fixed.Told.{GivesFront}
use Rattle.inc_layout.specs.opening.Faults.{GivesLayoutFault}
use Rattle.inc_layout.specs.declared.fault.LayoutFault.{LayoutFault}
use Rattle.inc_layout.specs.declared.fault.LayoutFault.TheVariants as fault
use Rattle.inc_layout.specs.declared.fixed.part.Front.{Front}
use Rattle.inc_layout.specs.declared.opened.Layout.{Layout}
use Rattle.inc_volume.specs.Standings.{other_standing, part_in, part_standing, plain_standing, standing_by_fault, standing_of, standing_with}
use Rattle.inc_volume.specs.declared.standing.Standing.{Standing}
use Rattle.inc_volume.specs.declared.standing.Standing.TheVariants.{Refused}

-- what the file is refused for is what it says, and else there is no answer
given : (result : Result Standing LendFault) (found : LayoutFault) (wanted : Standing) → wanted ≡ Refused found → result ≡ Ok (Refused found) → IfOk result (λ standing. standing ≡ wanted)
given result found wanted e is = rw is (sym e)

pub refused_told : {T : Type 0} (told : Option (List ℕ)) (found : LayoutFault) (answer : List ℕ → Result T LayoutFault) (wanted : List ℕ → Standing) (result : Result Standing LendFault)
    → ((bytes : List ℕ) → answer bytes ≡ Err found → wanted bytes ≡ Refused found) → IfSome told (λ bytes. GivesLayoutFault found (answer bytes)) → result ≡ standing_by_fault found
    → IfSome told (λ bytes. IfOk result (λ standing. standing ≡ wanted bytes))
refused_told None found answer wanted result says gives is = tt
refused_told (Some bytes) fault.ReadFault answer wanted result says gives is = rw is tt
refused_told (Some bytes) fault.OutOfMemory answer wanted result says gives is = rw is tt
refused_told (Some bytes) found answer wanted result says gives is = given result found (wanted bytes) (says bytes gives) is

pub front_told : (told : Option (List ℕ)) (front : Front) (standing : Standing) → IfSome told (λ bytes. GivesFront bytes (Ok front)) → standing ≡ part_in front.header front.header.kind
    → IfSome told (λ bytes. standing ≡ part_standing (front_of bytes))
front_told None front standing gives is = tt
front_told (Some bytes) front standing gives is = is ∙ sym (ap part_standing gives.0)

pub laid_plain : (told : Option (List ℕ)) (layout : Layout) (standing : Standing) → IfSome told (λ bytes. laid_of bytes ≡ Ok layout) → standing ≡ plain_standing layout
    → IfSome told (λ bytes. standing ≡ standing_of bytes)
unfolding standing_of
laid_plain None layout standing laid is = tt
laid_plain (Some bytes) layout standing laid is = is ∙ sym (ap (λ (r : Result Layout LayoutFault). standing_with r bytes) laid)

pub laid_mapped : (told : Option (List ℕ)) (result : Result Standing LendFault) → IfSome told (λ bytes. laid_of bytes ≡ Err fault.Mapped)
    → IfSome told (λ bytes. IfOk result (λ standing. standing ≡ part_standing (front_of bytes))) → IfSome told (λ bytes. IfOk result (λ standing. standing ≡ standing_of bytes))
unfolding standing_of
laid_mapped None result laid gives = tt
laid_mapped (Some bytes) (Ok standing) laid gives = gives ∙ sym (ap (λ (r : Result Layout LayoutFault). standing_with r bytes) laid)
laid_mapped (Some bytes) (Err fault_of_it) laid gives = tt

-- a fault of the file, but for one that makes it a part of another
pub fault_says : (found : LayoutFault) → (found ≡ fault.Mapped → ⊥) → (bytes : List ℕ) → laid_of bytes ≡ Err found → standing_of bytes ≡ Refused found
unfolding standing_of
fault_says found other bytes laid = ap (λ (r : Result Layout LayoutFault). standing_with r bytes) laid ∙ own found other bytes
  where
    own : (found : LayoutFault) → (found ≡ fault.Mapped → ⊥) → (bytes : List ℕ) → other_standing found bytes ≡ Refused found
    own fault.Mapped other bytes = absurd (other refl)
    own found other bytes = refl

pub front_says : (found : LayoutFault) (bytes : List ℕ) → front_of bytes ≡ Err found → part_standing (front_of bytes) ≡ Refused found
front_says found bytes e = ap part_standing e

-- a failing device ends the call as one, and want of memory as such
pub refused_cause : {T : Type 0} (found : LayoutFault) (before now : ℕ) (result : Result Standing LendFault) → HasCauseAt {T = T} fault.ReadFault before now (Err found) → result ≡ standing_by_fault found
    → HasCauseAt lend.Failed before now result
refused_cause fault.ReadFault before now result cause is = rw is (record { later = cause.later; failed = λ e. cause.failed refl; kept = λ other. absurd (other refl) })
refused_cause fault.OutOfMemory before now result cause is = rw is (record { later = cause.later; failed = λ e. absurd (cc); kept = λ other. cause.kept (λ e. cc) })
refused_cause found before now result cause is = rw is (record { later = cause.later; failed = λ e. absurd (cc); kept = λ other. cause.kept (λ e. cc) })
