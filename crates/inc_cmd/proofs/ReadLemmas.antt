-- A read of a file, over a content that may not be told.
use Rattle.std.proofs.Common.{◌≡◌, ◌⊎◌, ℕ, List, Option, Some, None, Result, Ok, Err, refl, sym, ap, ◌∙◌, subst, arith, inl, inr}
use Rattle.std.specs.Prelude.{IfSome, IfOk}
use Rattle.inc_tree.specs.read_block.Shown.{shown_content}
use Rattle.inc_layout.specs.opening.Faults.{GivesLayoutFault}
use Rattle.inc_layout.specs.reading.StaticRead.{GivesReading}
use Rattle.inc_layout.specs.declared.fault.LayoutFault.{LayoutFault}
use Rattle.inc_layout.specs.declared.fault.LayoutFault.TheVariants as layout
use Rattle.inc_layout.specs.declared.reading.static_error.StaticError.{StaticError}
use Rattle.inc_layout.specs.declared.reading.static_error.StaticError.TheVariants as block
use Rattle.inc_cmd.specs.Commands.Read.{shown}
use Rattle.inc_words.specs.Endings.{Ending, EndsAs, not_shown_by, refused_by, unless_refused}
use Rattle.inc_words.specs.Refusals.{layout_word, reason_of}
use Rattle.inc_words.specs.declared.outcome.CommandOutcome.{CommandOutcome}
use Rattle.inc_words.specs.declared.stop.Stop.{Stop}

-- ---- a file that is none

-- the device or memory ended the call, which has no outcome then
no_outcome : (name : List ℕ) (fault : LayoutFault) (status : ℕ) (wanted : Ending) (result : Result CommandOutcome Stop) → (refused_by name (layout_word fault)).status ≡ status → (status ≡ 3 → ⊥)
    → IfOk result (EndsAs (refused_by name (layout_word fault))) → IfOk result (λ outcome. outcome.status.0 ≡ 3) → IfOk result (EndsAs wanted)
no_outcome name fault status wanted (Ok outcome) is other ends three = absurd (other (sym is ∙ sym ends.status_is ∙ three))
no_outcome name fault status wanted (Err stop) is other ends three = tt

pub refused_file : {T : Type 0} (told : Option (List ℕ)) (name : List ℕ) (fault : LayoutFault) (found : List ℕ → Result T LayoutFault) (ending : List ℕ → Result T LayoutFault → Ending)
    (result : Result CommandOutcome Stop) → ((bytes : List ℕ) → ending bytes (Err fault) ≡ refused_by name (layout_word fault))
    → IfSome told (λ bytes. GivesLayoutFault fault (found bytes)) → IfOk result (EndsAs (refused_by name (layout_word fault))) → IfOk result (λ outcome. outcome.status.0 ≡ 3)
    → IfSome told (λ bytes. IfOk result (EndsAs (ending bytes (found bytes))))
unfolding layout_word
refused_file None name fault found ending result same given ends three = tt
refused_file (Some bytes) name layout.ReadFault found ending result same given ends three =
    no_outcome name layout.ReadFault 5 (ending bytes (found bytes)) result refl (λ e. absurd (omega arith)) ends three
refused_file (Some bytes) name layout.OutOfMemory found ending result same given ends three =
    no_outcome name layout.OutOfMemory 6 (ending bytes (found bytes)) result refl (λ e. absurd (omega arith)) ends three
refused_file (Some bytes) name fault found ending result same given ends three =
    subst (λ (e : Ending). IfOk result (EndsAs e)) (sym (ap (ending bytes) given ∙ same bytes)) ends

-- what the device did, or want of memory, has no outcome
pub unread_file : (told : Option (List ℕ)) (name : List ℕ) (fault : LayoutFault) (wanted : List ℕ → Ending) (result : Result CommandOutcome Stop) → (fault ≡ layout.ReadFault) ⊎ (fault ≡ layout.OutOfMemory)
    → IfOk result (EndsAs (refused_by name (layout_word fault))) → IfOk result (λ outcome. outcome.status.0 ≡ 3) → IfSome told (λ bytes. IfOk result (EndsAs (wanted bytes)))
unfolding layout_word
unread_file None name fault wanted result free ends three = tt
unread_file (Some bytes) name layout.ReadFault wanted result free ends three =
    no_outcome name layout.ReadFault 5 (wanted bytes) result refl (λ e. absurd (omega arith)) ends three
unread_file (Some bytes) name layout.OutOfMemory wanted result free ends three =
    no_outcome name layout.OutOfMemory 6 (wanted bytes) result refl (λ e. absurd (omega arith)) ends three
unread_file (Some bytes) name fault wanted result (inl e) ends three = absurd (cc)
unread_file (Some bytes) name fault wanted result (inr e) ends three = absurd (cc)

-- ---- a block of it

pub passed_sig : (told : Option (List ℕ)) (name : List ℕ) (refusal : Option (List ℕ)) (ending : List ℕ → Ending) (result : Result CommandOutcome Stop) → refusal ≡ None
    → IfSome told (λ bytes. IfOk result (EndsAs (ending bytes))) → IfSome told (λ bytes. IfOk result (EndsAs (unless_refused name refusal (ending bytes))))
passed_sig None name refusal ending result is ends = tt
passed_sig (Some bytes) name refusal ending result is ends = subst (λ (r : Option (List ℕ)). IfOk result (EndsAs (unless_refused name r (ending bytes)))) (sym is) ends

no_block : (index : ℕ) (error : StaticError) (status : ℕ) (wanted : Ending) (result : Result CommandOutcome Stop) → (not_shown_by index (reason_of error)).status ≡ status → (status ≡ 4 → ⊥)
    → IfOk result (EndsAs (not_shown_by index (reason_of error))) → IfOk result (λ outcome. outcome.status.0 ≡ 4) → IfOk result (EndsAs wanted)
no_block index error status wanted (Ok outcome) is other ends four = absurd (other (sym is ∙ sym ends.status_is ∙ four))
no_block index error status wanted (Err stop) is other ends four = tt

pub refused_block : (told : Option (List ℕ)) (index : ℕ) (error : StaticError) (reading : List ℕ → Result (List ℕ) StaticError) (result : Result CommandOutcome Stop)
    → IfSome told (λ bytes. GivesReading shown_content (Err error) (reading bytes)) → IfOk result (EndsAs (not_shown_by index (reason_of error))) → IfOk result (λ outcome. outcome.status.0 ≡ 4)
    → IfSome told (λ bytes. IfOk result (EndsAs (shown index (reading bytes))))
unfolding reason_of
refused_block None index error reading result given ends four = tt
refused_block (Some bytes) index block.ReadFault reading result given ends four = no_block index block.ReadFault 5 (shown index (reading bytes)) result refl (λ e. absurd (omega arith)) ends four
refused_block (Some bytes) index block.OutOfMemory reading result given ends four = no_block index block.OutOfMemory 6 (shown index (reading bytes)) result refl (λ e. absurd (omega arith)) ends four
refused_block (Some bytes) index error reading result given ends four = subst (λ (r : Result (List ℕ) StaticError). IfOk result (EndsAs (shown index r))) (sym given) ends
