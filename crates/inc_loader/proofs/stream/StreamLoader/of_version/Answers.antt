use Rattle.std.proofs.Common.{refl}
use Rattle.inc_loader.proofs.ReadingLemmas.{fresh_read}
use Rattle.inc_loader.proofs.stream.StreamLoader.of_version.Goals as goal

pub returns-clause-reads : goal.returns-clause-reads
returns-clause-reads g c =
    let new = c.in_ok-new.ensures in
    fresh_read _ _ _ _ _ _ _ _ refl new.filled new.whole new.reader new.refused
