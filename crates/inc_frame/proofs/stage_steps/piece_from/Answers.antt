use Rattle.std.proofs.Common.{sym, ◌∙◌}
use Rattle.inc_frame.proofs.Spelling.{piece_parts}
use Rattle.inc_frame.proofs.stage_steps.piece_from.Goals as goal

pub returns : goal.returns
returns c = record { value = rw c.from_vec.ensures.value (piece_parts c.args.head.now c.args.bytes.items _ _ c.told-head c.copy_from_slice.ensures.after (sym c.unwrap.ensures ∙ c.get_u32.ensures.value)) }
