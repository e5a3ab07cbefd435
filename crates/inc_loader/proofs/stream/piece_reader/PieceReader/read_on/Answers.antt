use Rattle.std.proofs.Common.{◌++◌, ◌∙◌}
use Rattle.inc_loader.proofs.ReadingLemmas.{read_joined}
use Rattle.inc_loader.proofs.stream.piece_reader.PieceReader.read_on.Goals as goal

pub loop-self-preserved : goal.loop-self-preserved
loop-self-preserved g c = record {
  front = λ input read gave h.
      let before = c.loop-self.invariant.front input read gave h in
      read_joined input read before.0 gave _ _ _ _ _ (c.in_ok-read_once.ensures.front input (read ++ before.0) gave before.1);
  quiet = c.in_ok-read_once.ensures.cause.kept (λ e. cc) ∙ c.loop-self.invariant.quiet;
  same = λ e. let is = c.loop-self.invariant.same e in absurd cc;
}

pub returns-in_err-read_once-clause-front : goal.returns-in_err-read_once-clause-front
returns-in_err-read_once-clause-front g c = λ input read gave h.
    let before = c.loop-self.invariant.front input read gave h in
    read_joined input read before.0 gave _ _ _ _ _ (c.read_once.ensures.front input (read ++ before.0) gave before.1)
