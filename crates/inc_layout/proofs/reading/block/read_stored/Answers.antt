use Rattle.std.proofs.Common.{◌≡◌, ◌∙◌, ℕ, ◌++◌, ap, drop, length, rules, take}
use Rattle.std.proofs.Math.Seq.{take-append_seam}
use Rattle.inc_layout.proofs.LoopSteps.{block_given}
use Rattle.inc_layout.proofs.reading.block.read_stored.Goals as goal

pub returns-clause-value : goal.returns-clause-value
returns-clause-value g c =
    let room = c.fill_front.new.room in
    let rest = drop (length room) c.in_ok-room.room.items in
    let all : c.in_ok-room.room.len ≡ length room = search rules in
    block_given _ c.args.place c.args.len _ room _ (c.as_mut_slice.ensures.value ∙ c.in_ok-room.ensures.zeros) (search rules) c.in_ok-fill_front.ensures.filled
    (c.whole_block.ensures.value ∙ ap (λ (n : ℕ). take n (room ++ rest)) all ∙ take-append_seam room rest)
