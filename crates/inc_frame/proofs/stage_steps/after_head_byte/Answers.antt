use Rattle.std.proofs.Common.{sym, ◌∙◌, arith}
use Rattle.inc_frame.proofs.FrontLemmas.{array_byte, ended_byte, faulty_byte, fine_byte}
use Rattle.inc_frame.proofs.stage_steps.after_head_byte.Goals as goal

pub returns-then-ends_stream : goal.returns-then-ends_stream
returns-then-ends_stream c = record {
  value =
      array_byte c.args.part.limit c.args.part.place c.args.part.have c.args.byte c.args.part.head _ (omega arith)
      (ended_byte _ _ _ (sym c.ends_stream.ensures.value ∙ c.if-ends_stream.true));
}

pub returns-in-Some : goal.returns-in-Some
returns-in-Some c = record {
  value =
      array_byte c.args.part.limit c.args.part.place c.args.part.have c.args.byte c.args.part.head _ (omega arith)
      (faulty_byte _ _ _ c.in-Some.fault (sym c.ends_stream.ensures.value ∙ c.if-ends_stream.false) (c.frame_fault.ensures.value ∙ c.in-Some.is));
}

pub returns : goal.returns
returns c =
    let sound = array_byte c.args.part.limit c.args.part.place c.args.part.have c.args.byte c.args.part.head _ (omega arith)
    (fine_byte _ _ _ (sym c.ends_stream.ensures.value ∙ c.if-ends_stream.false) (c.frame_fault.ensures.value ∙ c.in_default.is)) in
    record { value = rw sound c.after_sound_head.ensures.value }
