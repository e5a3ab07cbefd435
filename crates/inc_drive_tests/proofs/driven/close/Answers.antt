use Rattle.std.proofs.Common.{rules}
use Rattle.inc_drive_tests.proofs.SeatedLemmas.{only_all}
use Rattle.inc_drive_tests.proofs.driven.close.Goals as goal

pub unshare-cell-requires : goal.unshare-cell-requires
unshare-cell-requires c = search (rules, only_all)
