use Rattle.std.proofs.Common.{ℕ}
use Rattle.std.proofs.lemmas.List.{take-replicate}
use Rattle.inc_recover.proofs.making.zero_piece.Goals as goal

pub returns : goal.returns
returns c = record { value = take-replicate {X = ℕ} c.args.wanted 65536 0 c.requires }
