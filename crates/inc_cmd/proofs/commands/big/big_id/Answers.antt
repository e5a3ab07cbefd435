use Rattle.std.proofs.Common.{ℕ, List, refl, replicate}
use Rattle.inc_cmd.proofs.filling.NewImages.{two_numbers}
use Rattle.inc_cmd.proofs.commands.big.big_id.Goals as goal

pub returns : goal.returns
returns c =
    let zeros : List ℕ = replicate 16 0 in
    record { value = two_numbers zeros c.put_u64.new.b c.put_u64-2.new.b c.args.number c.args.size refl c.put_u64.ensures.written c.put_u64-2.ensures.written }
