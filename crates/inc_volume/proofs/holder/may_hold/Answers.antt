use Rattle.std.proofs.Common.{◌≡◌}
use Rattle.std.specs.Str.{bytes_eq}
use Rattle.inc_volume.proofs.Headers.{mapped_header, no_header, other_id}
use Rattle.inc_volume.proofs.holder.may_hold.Goals as goal

pub returns-in-Plain-clause-passed : goal.returns-in-Plain-clause-passed
returns-in-Plain-clause-passed g c =
    let same : c.is_same.result ≡ bytes_eq c.in-Ok.front.header.id c.args.id.now = cc in
    other_id _ c.in-Ok.front c.args.id.now _ c.in-Ok.ensures.answer same

pub returns-in-Mapped-clause-passed : goal.returns-in-Mapped-clause-passed
returns-in-Mapped-clause-passed g c = mapped_header _ c.in-Ok.front _ c.in-Mapped.offset _ c.in-Ok.ensures.answer c.in-Mapped.is

pub returns-in-Err-clause-passed : goal.returns-in-Err-clause-passed
returns-in-Err-clause-passed g c = no_header _ _ c.in-Err.fault _ c.in-Err.ensures.answer c.no_header.ensures.value
