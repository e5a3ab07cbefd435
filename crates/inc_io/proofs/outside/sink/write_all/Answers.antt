use Rattle.std.proofs.Common.{refl, sym, ◌∙◌}
use Rattle.std.proofs.lemmas.Bool.{eqb-true}
use Rattle.inc_io.proofs.WriteLemmas.{sent_none, sent_more, front_sent, all_sent}
use Rattle.inc_io.proofs.outside.sink.write_all.Goals as goal

pub loop-rest-init : goal.loop-rest-init
loop-rest-init g c = record { quiet = refl; sent = sent_none _ _ }

pub loop-rest-preserved : goal.loop-rest-preserved
loop-rest-preserved g c = record {
  quiet = c.in_ok-count.ensures.cause.kept ∙ c.loop-rest.invariant.quiet;
  sent = rw c.split_at.ensures.back (sent_more _ _ _ _ c.loop-rest.rest.now c.in_ok-count.count c.in_ok-count.ensures.within c.loop-rest.invariant.sent c.in_ok-count.ensures.told);
}

pub returns-in_err-count-clause-front : goal.returns-in_err-count-clause-front
returns-in_err-count-clause-front g c = rw c.in_err-count.ensures.told (front_sent _ _ _ _ c.loop-rest.invariant.sent)

pub returns-clause-whole : goal.returns-clause-whole
returns-clause-whole g c = all_sent _ _ _ _ c.loop-rest.invariant.sent (eqb-true _ _ (sym c.is_empty.ensures ∙ c.loop-rest-test.false))

pub returns-clause-front : goal.returns-clause-front
returns-clause-front g c = front_sent _ _ _ _ c.loop-rest.invariant.sent
