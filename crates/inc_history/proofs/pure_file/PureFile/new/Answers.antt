use Rattle.std.proofs.Common.{eqb, length, sym, ap, ◌∙◌, arith}
use Rattle.inc_history.proofs.PureFiles.{start_pure}
use Rattle.inc_model.proofs.executed.Room.{none_claimed}
use Rattle.inc_history.proofs.pure_file.PureFile.new.Goals as goal

pub invariant_of-result : goal.invariant_of-result
invariant_of-result c =
    rw (c.new.ensures.value, c.new-2.ensures.items)
    (record {
      pure = start_pure c.args.state c.requires.start;
      places = λ ready.
          let none = none_claimed c.args.state.claimed (ap (λ l. eqb (length l) 0) (sym c.as_slice.ensures.value) ∙ sym c.is_empty-ready.ensures ∙ ready) in
          record { room = omega arith; entries = omega arith; kept = λ some. absurd (omega arith) };
    })
