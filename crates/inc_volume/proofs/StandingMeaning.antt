-- What a file says of itself, by its layout or its header.
use Rattle.std.proofs.Common.{◌≡◌, ℕ, List, Some, Result, Ok, Err, ap, ◌∙◌}
use Rattle.inc_header.specs.declared.header.Header.{Header}
use Rattle.inc_header.specs.declared.header.HeaderKind.{HeaderKind}
use Rattle.inc_header.specs.declared.header.HeaderKind.TheVariants as kind
use Rattle.inc_layout.specs.Backing.{IsLaidOut, laid_of, with_fixed}
use Rattle.inc_layout.specs.fixed.Fixed.{IsHeaderOf, fixed_of, front_of, plain_kind, plain_of, with_front, with_plain}
use Rattle.inc_layout.specs.declared.fault.LayoutFault.{LayoutFault}
use Rattle.inc_layout.specs.declared.fault.LayoutFault.TheVariants as fault
use Rattle.inc_layout.specs.declared.opened.Layout.{Layout}
use Rattle.inc_layout.proofs.fixed_part.FixedMeaning.{stands_front}
use Rattle.inc_layout.proofs.opened_file.OpeningSteps.{laid_told}
use Rattle.inc_volume.specs.Standings.{part_in, part_standing, plain_standing, standing_of, standing_with}
use Rattle.inc_volume.specs.declared.standing.Standing.TheVariants.{Part}

pub plain_stands : (bytes : List ℕ) (layout : Layout) → IsLaidOut bytes layout → standing_of bytes ≡ plain_standing layout
unfolding standing_of
plain_stands bytes layout laid = ap (λ (r : Result Layout LayoutFault). standing_with r bytes) (laid_told (Some bytes) layout laid)

-- a mapped header has no layout
not_laid : (bytes : List ℕ) (header : Header) (offset : ℕ) → front_of bytes ≡ Ok header → header.kind ≡ kind.Mapped offset → laid_of bytes ≡ Err fault.Mapped
unfolding laid_of fixed_of plain_of
not_laid bytes header offset front is = ap (λ (r : Result Header LayoutFault). with_fixed bytes (with_front bytes r)) front
    ∙ ap (λ (k : HeaderKind). with_fixed bytes (with_plain bytes (plain_kind header k))) is

pub part_stands : (bytes : List ℕ) (header : Header) (offset : ℕ) → IsHeaderOf bytes header → header.kind ≡ kind.Mapped offset → standing_of bytes ≡ Part header.id offset header.size
unfolding standing_of
part_stands bytes header offset has is =
    let front : front_of bytes ≡ Ok header = stands_front bytes header has in
    ap (λ (r : Result Layout LayoutFault). standing_with r bytes) (not_laid bytes header offset front is) ∙ ap part_standing front ∙ ap (part_in header) is
