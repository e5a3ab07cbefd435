use Rattle.std.proofs.Common.{ap, subst, ◌∙◌}
use Rattle.std.specs.Prelude.{Some}
use Rattle.inc_header.specs.Header.{IsHeader}
use Rattle.inc_tree.specs.shape.Geometry.{Shape}
use Rattle.inc_layout.specs.Fresh.{fresh_header, fresh_of}
use Rattle.inc_layout.proofs.fresh_file.FreshMeaning.{fresh_stands}
use Rattle.inc_layout.proofs.fresh.fresh_image.Goals as goal

pub returns-clause-value : goal.returns-clause-value
returns-clause-value c = c.in_ok-signed_image.ensures.value ∙ ap (λ (shape : Shape). fresh_of shape c.args.id c.args.sig.now) c.in-Ok.ensures.value

pub returns-clause-stands : goal.returns-clause-stands
returns-clause-stands c =
    let header = subst (λ (shape : Shape). IsHeader (fresh_header shape.size c.args.id)) c.in-Ok.ensures.value c.in_ok-signed_image.ensures.header in
    fresh_stands c.args.size c.args.id c.args.sig.now _ _ c.in-Ok.ensures.fits c.in_ok-parse.ensures.short header c.in_ok-parse.ensures.value (returns-clause-value c)

pub returns-clause-fresh : goal.returns-clause-fresh
returns-clause-fresh c = record { size = c.args.size; id = c.args.id; blob = Some c.args.sig.now; fresh = returns-clause-stands c }
