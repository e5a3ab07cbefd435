use Rattle.std.proofs.Common.{ap, subst, ◌∙◌, ℕ, None}
use Rattle.inc_header.specs.Header.{IsHeader}
use Rattle.inc_tree.specs.shape.Geometry.{Shape}
use Rattle.inc_layout.specs.Fresh.{fresh_header, unsigned_of}
use Rattle.inc_layout.proofs.fresh_file.FreshUnsigned.{unsigned_stands}
use Rattle.inc_layout.proofs.fresh.fresh_unsigned.Goals as goal

pub returns-clause-stands : goal.returns-clause-stands
returns-clause-stands c =
    let size = ap (λ (shape : Shape). shape.size) c.in-Ok.ensures.value in
    let header = subst (λ (n : ℕ). IsHeader (fresh_header n c.args.id)) size c.in_ok-unsigned_image.ensures.header in
    unsigned_stands c.args.size c.args.id _ c.in-Ok.ensures.fits header (c.in_ok-unsigned_image.ensures.value ∙ ap (λ (n : ℕ). unsigned_of n c.args.id) size)

pub returns-clause-fresh : goal.returns-clause-fresh
returns-clause-fresh c = record { size = c.args.size; id = c.args.id; blob = None; fresh = returns-clause-stands c }
