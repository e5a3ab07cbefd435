use Rattle.std.proofs.Common.{◌∙◌, ℕ, ◌≤◌, drop, subst, arith}
use Rattle.inc_io.specs.Causes.{Rose}
use Rattle.inc_session.proofs.turns.TellSteps.{tells_some}
use Rattle.inc_session.proofs.driving.reads.tell_reads.Goals as goal

pub returns-then-counts-clause-tells : goal.returns-then-counts-clause-tells
returns-then-counts-clause-tells g c = (
  (
    drop c.loop-read.read-index c.args.reads.now,
    tells_some c.args.reads.now c.loop-read.read-index (g.L.Loader.told c.args.loader.now) (g.L.Loader.told c.loop-read.loader) c.args.counts.now c.loop-read.counts (omega arith) c.loop-read.invariant.told c.loop-read.invariant.counted,
  ),
  c.loop-read.invariant.faults,
)

pub returns-in-Failed-clause-tells : goal.returns-in-Failed-clause-tells
returns-in-Failed-clause-tells g c = (
  (
    drop c.loop-read.read-index c.args.reads.now,
    tells_some c.args.reads.now c.loop-read.read-index (g.L.Loader.told c.args.loader.now) (g.L.Loader.told c.tell.new.self) c.args.counts.now c.loop-read.counts (omega arith) (c.in-Failed.ensures.tells ∙ c.loop-read.invariant.told) c.loop-read.invariant.counted,
  ),
  subst (λ (n : ℕ). (n ≤ g.L.Loader.faults c.tell.new.self) × Rose n (g.L.Loader.faults c.tell.new.self)) c.loop-read.invariant.faults (c.in-Failed.ensures.later, c.in-Failed.ensures.cause),
)

pub returns-in-OutOfMemory-clause-tells : goal.returns-in-OutOfMemory-clause-tells
returns-in-OutOfMemory-clause-tells g c = (
  (
    drop c.loop-read.read-index c.args.reads.now,
    tells_some c.args.reads.now c.loop-read.read-index (g.L.Loader.told c.args.loader.now) (g.L.Loader.told c.tell.new.self) c.args.counts.now c.loop-read.counts (omega arith) (c.in-OutOfMemory.ensures.tells ∙ c.loop-read.invariant.told) c.loop-read.invariant.counted,
  ),
  c.in-OutOfMemory.ensures.cause ∙ c.loop-read.invariant.faults,
)
