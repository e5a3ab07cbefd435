use Rattle.std.proofs.Common.{◌∙◌, ap}
use Rattle.inc_signature.specs.Signature.{signature_of}
use Rattle.inc_cmd.proofs.filling.NewImages.{image_short}
use Rattle.inc_cmd.proofs.commands.big.image_for.Goals as goal

pub returns-in-Ok-clause-stands : goal.returns-in-Ok-clause-stands
returns-in-Ok-clause-stands c = record {
  blob = c.as_slice.result.now;
  stands = c.in-Ok.ensures.stands;
  short = image_short c.args.file.now.size c.as_slice.result.now c.in-Ok.image _ c.requires.small (ap signature_of c.as_slice.ensures.value ∙ c.in_ok-blob.ensures.read_back) c.in-Ok.ensures.sized c.in-Ok.ensures.fits;
}
