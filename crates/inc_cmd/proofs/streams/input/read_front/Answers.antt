use Rattle.std.proofs.Common.{refl, ◌∙◌, arith}
use Rattle.inc_cmd.proofs.InputLemmas.{filled_all, filled_end, filled_more, filled_none, rest_length, taken_more, taken_none, within_room}
use Rattle.inc_cmd.proofs.streams.input.read_front.Goals as goal

pub loop-end-init : goal.loop-end-init
loop-end-init g c = record { within = omega arith; quiet = refl; taken = taken_none _; filled = filled_none _ _ }

pub loop-end-preserved : goal.loop-end-preserved
loop-end-preserved g c = record {
  within = within_room c.loop-end.end c.in_ok-count.count c.loop-end.room c.read.new.room c.loop-end.invariant.within c.read.auto.room c.in_ok-count.ensures.within;
  quiet = c.in_ok-count.ensures.cause.kept ∙ c.loop-end.invariant.quiet;
  taken = taken_more _ _ _ c.loop-end.end c.in_ok-count.count c.loop-end.invariant.taken c.in_ok-count.ensures.left;
  filled = filled_more _ _ _ c.loop-end.room c.read.new.room _ _ c.loop-end.end c.in_ok-count.count c.loop-end.invariant.filled c.loop-end.invariant.within
      c.in_ok-count.ensures.left c.in_ok-count.ensures.enough c.in_ok-count.ensures.bytes;
}

pub returns-then-count-eq0-clause-front : goal.returns-then-count-eq0-clause-front
returns-then-count-eq0-clause-front g c =
    filled_end _ _ c.loop-end.room c.read.new.room _ c.loop-end.end c.in_ok-count.count _ _ c.loop-end.invariant.filled c.loop-end.invariant.within
    (omega (arith, c.loop-end.auto.room)) c.if-count-eq0.true (omega (arith, rest_length c.loop-end.end c.loop-end.room c.loop-end.invariant.within, c.loop-end-test.true)) c.in_ok-count.ensures.some

pub returns-clause-front : goal.returns-clause-front
returns-clause-front g c = filled_all _ _ c.loop-end.room c.loop-end.end _ c.loop-end.invariant.filled (omega (arith, c.loop-end.auto.room))

pub returns-in_err-count-clause-took : goal.returns-in_err-count-clause-took
returns-in_err-count-clause-took g c = (c.loop-end.end, omega (arith, c.loop-end.auto.room), c.in_err-count.ensures.left ∙ c.loop-end.invariant.taken)
