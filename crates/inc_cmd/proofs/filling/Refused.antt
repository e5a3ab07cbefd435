-- A file that isn't mounted: by its first fault, or by its length alone.
use Rattle.std.proofs.Common.{◌≡◌, ◌≢◌, ℕ, ◌≤◌, ◌^◌, Bool, true, false, List, length, Option, Some, None, Result, Ok, Err, refl, sym, ◌∙◌, subst, arith}
use Rattle.std.specs.Prelude.{IfSome, IfOk, nat_le}
use Rattle.inc_io.specs.Causes.{HasCauseAt, Rose}
use Rattle.inc_layout.specs.Backing.{laid_of, opened_of, opened_with, digests_in}
use Rattle.inc_layout.specs.opening.Faults.{GivesLayoutFault, GivesOpening}
use Rattle.inc_layout.specs.declared.fault.LayoutFault.{LayoutFault}
use Rattle.inc_layout.specs.declared.fault.LayoutFault.TheVariants as layout
use Rattle.inc_layout.specs.declared.opened.Layout.{Layout}
use Rattle.inc_layout.specs.declared.opened.Opened.{Opened}
use Rattle.inc_recover.specs.Mounting.{GivesLayout, GivesMountFault, LayoutCause, layout_of}
use Rattle.inc_recover.specs.declared.fault.MountFault.TheVariants as mount
use Rattle.inc_words.specs.Endings.{EndsAs, refused, refused_by}
use Rattle.inc_words.specs.Refusals.{layout_word, too_long}
use Rattle.inc_words.specs.declared.outcome.CommandOutcome.{CommandOutcome}
use Rattle.inc_words.specs.declared.stop.Stop.{Stop}
use Rattle.inc_words.specs.declared.stop.Stop.TheVariants as stop
use Rattle.inc_cmd.specs.Commands.Fill.{fillable_of, unless_long}
use Rattle.inc_cmd.specs.FilledDisks.{IsRefusedFile}

-- ---- judged by length

-- a file that is short enough and stands is mounted and filled
pub mounted_fillable : (bytes : List ℕ) (opened : Opened) → layout_of bytes ≡ Ok opened → fillable_of bytes ≡ Ok opened
mounted_fillable bytes opened is = step (nat_le (length bytes) (2 ^ 46)) refl
  where
    step : (b : Bool) → nat_le (length bytes) (2 ^ 46) ≡ b → fillable_of bytes ≡ Ok opened
    step true short = let stands : opened_of bytes ≡ Ok opened = rw short at is in rw (stands, short) refl
    step false long = absurd (let none : Err layout.TooLong ≡ Ok opened = rw long at is in cc)

pub fillable_mounted : (bytes : List ℕ) (opened : Opened) → fillable_of bytes ≡ Ok opened → layout_of bytes ≡ Ok opened
fillable_mounted bytes opened is = step (opened_of bytes) refl
  where
    length_step : (b : Bool) (found : Opened) → nat_le (length bytes) (2 ^ 46) ≡ b → opened_of bytes ≡ Ok found → unless_long bytes (Ok found) ≡ Ok opened → layout_of bytes ≡ Ok opened
    length_step true found short stands e = rw short (stands ∙ (rw short at e))
    length_step false found long stands e = absurd (let none : Err layout.TooLong ≡ Ok opened = rw long at e in cc)

    step : (r : Result Opened LayoutFault) → opened_of bytes ≡ r → layout_of bytes ≡ Ok opened
    step (Ok found) e = length_step (nat_le (length bytes) (2 ^ 46)) found refl e (rw e at is)
    step (Err fault) e = absurd (let none : Err fault ≡ Ok opened = rw e at is in cc)

-- one that is refused when it is mounted, for another cause than its length, is refused so
pub mount_refused : (bytes : List ℕ) (fault : LayoutFault) → layout_of bytes ≡ Err fault → fault ≢ layout.TooLong → fillable_of bytes ≡ Err fault
mount_refused bytes fault is other = step (nat_le (length bytes) (2 ^ 46)) refl
  where
    step : (b : Bool) → nat_le (length bytes) (2 ^ 46) ≡ b → fillable_of bytes ≡ Err fault
    step true short = let falls : opened_of bytes ≡ Err fault = rw short at is in rw falls refl
    step false long = absurd (let long_one : Err layout.TooLong ≡ Err fault = rw long at is in other (cc))

-- ---- by the shape of its layout

shape_refused : (bytes : List ℕ) (fault : LayoutFault) → laid_of bytes ≡ Err fault → fillable_of bytes ≡ Err fault
unfolding opened_of
shape_refused bytes fault is = rw is refl

shape_stands : (bytes : List ℕ) (layout_is : Layout) → laid_of bytes ≡ Ok layout_is → opened_of bytes ≡ Ok (opened_with layout_is (digests_in bytes layout_is.areas))
unfolding opened_of
shape_stands bytes layout_is is = rw is refl

-- too long, and nothing else
only_long : (bytes : List ℕ) (layout_is : Layout) → laid_of bytes ≡ Ok layout_is → layout_of bytes ≡ Err layout.TooLong → fillable_of bytes ≡ Err layout.TooLong
only_long bytes layout_is stands is = step (nat_le (length bytes) (2 ^ 46)) refl
  where
    opened_is : opened_of bytes ≡ Ok (opened_with layout_is (digests_in bytes layout_is.areas))
    opened_is = shape_stands bytes layout_is stands

    step : (b : Bool) → nat_le (length bytes) (2 ^ 46) ≡ b → fillable_of bytes ≡ Err layout.TooLong
    step true short = absurd (let falls : opened_of bytes ≡ Err layout.TooLong = rw short at is in let both : Ok (opened_with layout_is (digests_in bytes layout_is.areas)) ≡ Err layout.TooLong = sym opened_is ∙ falls in cc)
    step false long = rw (opened_is, long) refl

long_word : (name : List ℕ) → refused name too_long ≡ refused_by name (layout_word layout.TooLong)
unfolding layout_word too_long
long_word name = refl

pub long_ends : (told : Option (List ℕ)) (name : List ℕ) (layout_is : Layout) (result : Result CommandOutcome Stop) → IfSome told (λ bytes. GivesOpening (Ok layout_is) (laid_of bytes))
    → IfOk result (EndsAs (refused name too_long)) → IfSome told (λ bytes. layout_of bytes ≡ Err layout.TooLong → IfOk result (IsRefusedFile name bytes))
long_ends None name layout_is result shape ends = tt
long_ends (Some bytes) name layout_is (Ok outcome) shape ends = λ long. record {
  fault = layout.TooLong;
  judged = only_long bytes layout_is shape long;
  ends = subst (λ e. EndsAs e outcome) (long_word name) ends;
}
long_ends (Some bytes) name layout_is (Err stopped) shape ends = λ long. tt

-- ---- by its fault

-- a fault that is worded is one of the file
own_fault : {T : Type 0} (fault : LayoutFault) (wanted : Result T LayoutFault) (name : List ℕ) (outcome : CommandOutcome) → GivesLayoutFault fault wanted → outcome.status.0 ≡ 3
    → EndsAs (refused_by name (layout_word fault)) outcome → wanted ≡ Err fault
unfolding layout_word
own_fault (layout.Header f) wanted name outcome gives only ends = gives
own_fault (layout.Chain f) wanted name outcome gives only ends = gives
own_fault (layout.Signature f) wanted name outcome gives only ends = gives
own_fault layout.TooLong wanted name outcome gives only ends = gives
own_fault layout.Mapped wanted name outcome gives only ends = gives
own_fault layout.TooLarge wanted name outcome gives only ends = gives
own_fault layout.SignatureOutside wanted name outcome gives only ends = gives
own_fault (layout.MapCount w g) wanted name outcome gives only ends = gives
own_fault layout.MapOutside wanted name outcome gives only ends = gives
own_fault (layout.TreeSize w g) wanted name outcome gives only ends = gives
own_fault layout.TreeOutside wanted name outcome gives only ends = gives
own_fault layout.Overlap wanted name outcome gives only ends = gives
own_fault (layout.PlacePastEnd i) wanted name outcome gives only ends = gives
own_fault layout.ReadFault wanted name outcome gives only ends = absurd (let five : outcome.status.0 ≡ 5 = ends.status_is in omega arith)
own_fault layout.OutOfMemory wanted name outcome gives only ends = absurd (let six : outcome.status.0 ≡ 6 = ends.status_is in omega arith)

own_mount : (fault : LayoutFault) (wanted : Result Opened LayoutFault) (name : List ℕ) (outcome : CommandOutcome) → GivesLayout fault wanted → outcome.status.0 ≡ 3
    → EndsAs (refused_by name (layout_word fault)) outcome → wanted ≡ Err fault
unfolding layout_word
own_mount (layout.Header f) wanted name outcome gives only ends = gives
own_mount (layout.Chain f) wanted name outcome gives only ends = gives
own_mount (layout.Signature f) wanted name outcome gives only ends = gives
own_mount layout.TooLong wanted name outcome gives only ends = gives
own_mount layout.Mapped wanted name outcome gives only ends = gives
own_mount layout.TooLarge wanted name outcome gives only ends = gives
own_mount layout.SignatureOutside wanted name outcome gives only ends = gives
own_mount (layout.MapCount w g) wanted name outcome gives only ends = gives
own_mount layout.MapOutside wanted name outcome gives only ends = gives
own_mount (layout.TreeSize w g) wanted name outcome gives only ends = gives
own_mount layout.TreeOutside wanted name outcome gives only ends = gives
own_mount layout.Overlap wanted name outcome gives only ends = gives
own_mount (layout.PlacePastEnd i) wanted name outcome gives only ends = gives
own_mount layout.ReadFault wanted name outcome gives only ends = absurd (let five : outcome.status.0 ≡ 5 = ends.status_is in omega arith)
own_mount layout.OutOfMemory wanted name outcome gives only ends = absurd gives

pub shape_ends : (told : Option (List ℕ)) (name : List ℕ) (fault : LayoutFault) (result : Result CommandOutcome Stop) → IfSome told (λ bytes. GivesOpening {T = Layout} (Err fault) (laid_of bytes))
    → IfOk result (λ outcome. outcome.status.0 ≡ 3) → IfOk result (EndsAs (refused_by name (layout_word fault)))
    → IfSome told (λ bytes. layout_of bytes ≡ Err layout.TooLong → IfOk result (IsRefusedFile name bytes))
shape_ends None name fault result shape only ends = tt
shape_ends (Some bytes) name fault (Ok outcome) shape only ends = λ long. record {
  fault = fault;
  judged = shape_refused bytes fault (own_fault fault (laid_of bytes) name outcome shape only ends);
  ends = ends;
}
shape_ends (Some bytes) name fault (Err stopped) shape only ends = λ long. tt

pub mount_ends : (told : Option (List ℕ)) (name : List ℕ) (fault : LayoutFault) (result : Result CommandOutcome Stop) → fault ≢ layout.TooLong
    → IfOk result (λ outcome. outcome.status.0 ≡ 3) → IfOk result (EndsAs (refused_by name (layout_word fault)))
    → IfSome told (λ bytes. GivesMountFault (mount.Layout fault) (layout_of bytes) → IfOk result (IsRefusedFile name bytes))
mount_ends None name fault result other only ends = tt
mount_ends (Some bytes) name fault (Ok outcome) other only ends = λ gives. record {
  fault = fault;
  judged = mount_refused bytes fault (own_mount fault (layout_of bytes) name outcome gives only ends) other;
  ends = ends;
}
mount_ends (Some bytes) name fault (Err stopped) other only ends = λ gives. tt

-- ---- counts

pub layout_cause : {T : Type 0} (before now : ℕ) (fault : LayoutFault) (result : Result T Stop) → before ≤ now → LayoutCause before now fault
    → (result ≡ Err stop.Fault → fault ≡ layout.ReadFault) → (fault ≡ layout.ReadFault → result ≡ Err stop.Fault) → HasCauseAt stop.Fault before now result
layout_cause before now fault result later cause failed told = record {
  later = later;
  failed = λ e. rose fault (failed e) cause;
  kept = λ other. stays fault cause (λ is. other (told is));
}
  where
    rose : (fault : LayoutFault) → fault ≡ layout.ReadFault → LayoutCause before now fault → Rose before now
    rose fault is cause = subst (λ f. LayoutCause before now f) is cause

    stays : (fault : LayoutFault) → LayoutCause before now fault → (fault ≡ layout.ReadFault → ⊥) → now ≡ before
    stays (layout.Header f) cause none = cause
    stays (layout.Chain f) cause none = cause
    stays (layout.Signature f) cause none = cause
    stays layout.TooLong cause none = cause
    stays layout.Mapped cause none = cause
    stays layout.TooLarge cause none = cause
    stays layout.SignatureOutside cause none = cause
    stays (layout.MapCount w g) cause none = cause
    stays layout.MapOutside cause none = cause
    stays (layout.TreeSize w g) cause none = cause
    stays layout.TreeOutside cause none = cause
    stays layout.Overlap cause none = cause
    stays (layout.PlacePastEnd i) cause none = cause
    stays layout.ReadFault cause none = absurd (none refl)
    stays layout.OutOfMemory cause none = absurd cause
