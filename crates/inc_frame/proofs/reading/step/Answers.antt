use Rattle.std.proofs.Common.{[], take, ap, sym, ◌∙◌}
use Rattle.inc_frame.specs.Fronts.{StreamFront, joined_front, byte_front, Greeting, Framing}
use Rattle.inc_frame.specs.ReaderStages.{stage_state}
use Rattle.inc_frame.proofs.FrontLemmas.{step_byte, front_from-ended, front_from-faulty}
use Rattle.inc_frame.proofs.reading.step.Goals as goal

pub returns-in-Hello-clause-same : goal.returns-in-Hello-clause-same
unfolding byte_front
returns-in-Hello-clause-same c =
    rw c.in-Hello.is (step_byte (Greeting (take c.in-Hello.part.have c.in-Hello.part.seen)) (stage_state c.after_hello_byte.result) c.args.pieces.now.items c.args.bytes.now
    c.split_at.result.0.now c.split_at.result.1.now c.requires.some c.split_at.ensures.front c.split_at.ensures.back c.after_hello_byte.ensures.value)

pub returns-in_ok-after_head_byte-in-Head-clause-same : goal.returns-in_ok-after_head_byte-in-Head-clause-same
returns-in_ok-after_head_byte-in-Head-clause-same c =
    rw c.in-Head.is (step_byte (Framing c.in-Head.part.limit c.in-Head.part.place (take c.in-Head.part.have c.in-Head.part.head)) (stage_state c.in_ok-after_head_byte-in-Head.field-0) c.args.pieces.now.items c.args.bytes.now
    c.split_at.result.0.now c.split_at.result.1.now c.requires.some c.split_at.ensures.front c.split_at.ensures.back c.in_ok-after_head_byte-in-Head.ensures.value)

pub returns-in-Ended-clause-same : goal.returns-in-Ended-clause-same
returns-in-Ended-clause-same c =
    rw c.in-Ended.is (ap (λ (front : StreamFront). joined_front c.args.pieces.now.items front) (front_from-ended c.in-Ended.count [] ∙ sym (front_from-ended c.in-Ended.count c.args.bytes.now)))

pub returns-in-Failed-clause-same : goal.returns-in-Failed-clause-same
returns-in-Failed-clause-same c =
    rw c.in-Failed.is (ap (λ (front : StreamFront). joined_front c.args.pieces.now.items front) (front_from-faulty c.in-Failed.failure.fault [] ∙ sym (front_from-faulty c.in-Failed.failure.fault c.args.bytes.now)))
