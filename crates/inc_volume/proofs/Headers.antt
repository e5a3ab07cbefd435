-- What a file's header alone says of the id that it may keep.
use Rattle.std.proofs.Common.{◌≡◌, ℕ, List, Bool, false, if◌then◌else◌, Option, Some, None, Result, Ok, Err, refl, sym, ap, ◌∙◌}
use Rattle.std.specs.Prelude.{IfSome, IfOk}
use Rattle.std.specs.Str.{bytes_eq}
use Rattle.inc_header.specs.declared.header.Header.{Header}
use Rattle.inc_header.specs.declared.header.HeaderKind.{HeaderKind}
use Rattle.inc_header.specs.declared.header.HeaderKind.TheVariants as kind
use Rattle.inc_io.specs.declared.failed.LendFault.{LendFault}
use Rattle.inc_layout.specs.Backing.{IsLaidOut, laid_of}
use Rattle.inc_layout.specs.fixed.Fixed.{front_of}
use Rattle.inc_layout.specs.fixed.Told.{GivesFront}
use Rattle.inc_layout.specs.opening.Faults.{GivesLayoutFault}
use Rattle.inc_layout.specs.declared.fault.LayoutFault.{LayoutFault}
use Rattle.inc_layout.specs.declared.fault.LayoutFault.TheVariants as fault
use Rattle.inc_layout.specs.declared.fixed.part.Front.{Front}
use Rattle.inc_layout.specs.declared.opened.Layout.{Layout}
use Rattle.inc_layout.proofs.fixed_part.FixedMeaning.{stands_front}
use Rattle.inc_layout.proofs.opened_file.OpeningSteps.{layout_told}
use Rattle.inc_volume.specs.Standings.{headless, other_standing, part_in, part_standing, standing_of, standing_with}
use Rattle.inc_volume.specs.Verdicts.{size_with}

-- what is no plain file keeps no id
no_part : (id : List ℕ) (header : Header) (is : HeaderKind) → size_with id (part_in header is) ≡ None
no_part id header (kind.Plain first) = refl
no_part id header (kind.Mapped offset) = refl

no_front : (id : List ℕ) (front : Result Header LayoutFault) → size_with id (part_standing front) ≡ None
no_front id (Ok header) = no_part id header header.kind
no_front id (Err found) = refl

pub no_other : (id bytes : List ℕ) (found : LayoutFault) → size_with id (other_standing found bytes) ≡ None
no_other id bytes fault.Mapped = no_front id (front_of bytes)
no_other id bytes found = refl

-- the header that a layout has, and that it is a plain one
pub record HasHeader (bytes : List ℕ) (header : Header) : Type 0 where
  pub first : ℕ
  pub front : front_of bytes ≡ Ok header
  pub plain : header.kind ≡ kind.Plain first

header_laid : (bytes : List ℕ) (layout : Layout) → laid_of bytes ≡ Ok layout → HasHeader bytes layout.header
header_laid bytes layout laid =
    let stands : IsLaidOut bytes layout = layout_told (Some bytes) layout laid in
    record { first = stands.fixed.first; front = stands_front bytes layout.header stands.fixed.front; plain = stands.fixed.plain }

-- a file of which no plain header with the id is read doesn't keep it
not_held : (id bytes : List ℕ) → ((header : Header) → HasHeader bytes header → bytes_eq header.id id ≡ false) → size_with id (standing_of bytes) ≡ None
unfolding standing_of
not_held id bytes other =
    elim (laid_of bytes) as (λ r. laid_of bytes ≡ r → size_with id (standing_with r bytes) ≡ None) [
      | Ok layout ↦ λ laid. ap (λ (b : Bool). if b then Some layout.header.size else None) (other layout.header (header_laid bytes layout laid))
      | Err found ↦ λ laid. no_other id bytes found
    ] refl

same_header : (bytes : List ℕ) (header other : Header) → front_of bytes ≡ Ok header → front_of bytes ≡ Ok other → other ≡ header
same_header bytes header other e f = cc

pub other_id : (told : Option (List ℕ)) (front : Front) (id : List ℕ) (may : Bool) → IfSome told (λ bytes. GivesFront bytes (Ok front)) → may ≡ bytes_eq front.header.id id
    → IfSome told (λ bytes. may ≡ false → size_with id (standing_of bytes) ≡ None)
other_id None front id may gives is = tt
other_id (Some bytes) front id may gives is = λ no. not_held id bytes (λ header has.
    ap (λ (h : Header). bytes_eq h.id id) (same_header bytes front.header header gives.0 has.front) ∙ sym is ∙ no)

pub mapped_header : (told : Option (List ℕ)) (front : Front) (id : List ℕ) (offset : ℕ) (may : Bool) → IfSome told (λ bytes. GivesFront bytes (Ok front)) → front.header.kind ≡ kind.Mapped offset
    → IfSome told (λ bytes. may ≡ false → size_with id (standing_of bytes) ≡ None)
mapped_header None front id offset may gives is = tt
mapped_header (Some bytes) front id offset may gives is = λ no. not_held id bytes (λ header has. absurd (
    let same : kind.Mapped offset ≡ kind.Plain has.first = sym is ∙ sym (ap (λ (h : Header). h.kind) (same_header bytes front.header header gives.0 has.front)) ∙ has.plain in cc))

-- a file of which no header is read keeps none
unread : (id bytes : List ℕ) (found : LayoutFault) → front_of bytes ≡ Err found → size_with id (standing_of bytes) ≡ None
unread id bytes found e = not_held id bytes (λ header has. absurd (let same : Err found ≡ Ok header = sym e ∙ has.front in cc))

pub no_header : (told : Option (List ℕ)) (id : List ℕ) (found : LayoutFault) (result : Result Bool LendFault) → IfSome told (λ bytes. GivesLayoutFault found (front_of bytes)) → result ≡ headless found
    → IfSome told (λ bytes. IfOk result (λ may. may ≡ false → size_with id (standing_of bytes) ≡ None))
no_header None id found result gives is = tt
no_header (Some bytes) id fault.ReadFault result gives is = rw is tt
no_header (Some bytes) id fault.OutOfMemory result gives is = rw is tt
no_header (Some bytes) id found result gives is = rw is (λ no. unread id bytes found gives)
