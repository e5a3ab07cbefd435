use Rattle.std.proofs.Common.{arith, refl, ◌+◌, ◌≤◌, length, take, drop, subst, ℕ, List}
use Rattle.std.proofs.lemmas.Grind.{common_steps}
use Rattle.inc_real.specs.Calls.{HasWritten}
use Rattle.inc_real.proofs.Writing.{next_written, whole_rest}
use Rattle.inc_real.proofs.disk.write_whole.Goals as goal

pub loop-preserved : goal.loop-preserved
loop-preserved g c =
    let rest = whole_rest c.loop.done c.args.piece.now in
    let within : c.in_ok-done.field-0 ≤ length (drop c.loop.done c.args.piece.now) =
    subst (λ (p : List ℕ). c.in_ok-done.field-0 ≤ length p) rest c.in_ok-done.ensures.within in (
      grind (arith, common_steps),
      next_written _ c.loop.done c.in_ok-done.field-0 (c.args.at + c.loop.done) c.args.piece.now _ _ _ c.loop.invariant.0 refl c.loop.invariant.1
          (subst (λ (p : List ℕ). HasWritten (c.args.at + c.loop.done) (take c.in_ok-done.field-0 p) (g.F.PlacedFile.calls c.loop.file) (g.F.PlacedFile.calls c.write_part.new.file))
          rest c.in_ok-done.ensures.written),
    )
