use Rattle.inc_md.proofs.SameChain.{chain_stays}
use Rattle.inc_md.proofs.laws.chain_stays.Goals as goal

pub returns : goal.returns
returns g = record { stays = chain_stays }
