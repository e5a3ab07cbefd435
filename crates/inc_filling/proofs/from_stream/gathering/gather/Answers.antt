use Rattle.std.proofs.Common.{◌++◌, ◌∙◌}
use Rattle.inc_loader.proofs.ReadingLemmas.{read_joined}
use Rattle.inc_filling.proofs.from_stream.gathering.gather.Goals as goal

pub returns-in_err-read_on-clause-front : goal.returns-in_err-read_on-clause-front
returns-in_err-read_on-clause-front g c = λ all read gave h.
    let before = c.loop-pieces.invariant.front all read gave h in
    read_joined all read before.0 (gave ++ c.loop-pieces.waiting.pieces.items) _ _ _ _ _ (c.read_on.ensures.front all (read ++ before.0) (gave ++ c.loop-pieces.waiting.pieces.items) before.1)

pub returns-in-Some-clause-front : goal.returns-in-Some-clause-front
returns-in-Some-clause-front g c = λ all read gave h.
    let before = c.loop-pieces.invariant.front all read gave h in
    let on = read_joined all read before.0 (gave ++ c.loop-pieces.waiting.pieces.items) _ _ _ _ _ (c.read_on.ensures.front all (read ++ before.0) (gave ++ c.loop-pieces.waiting.pieces.items) before.1) in
    (on.0, c.take_next.ensures.front all (read ++ on.0) gave _ _ on.1)

pub loop-pieces-preserved : goal.loop-pieces-preserved
loop-pieces-preserved g c = record {
  may = c.take_next.ensures.may;
  front = λ all read gave h.
      let before = c.loop-pieces.invariant.front all read gave h in
      let on = read_joined all read before.0 (gave ++ c.loop-pieces.waiting.pieces.items) _ _ _ _ _ (c.read_on.ensures.front all (read ++ before.0) (gave ++ c.loop-pieces.waiting.pieces.items) before.1) in
      (on.0, c.take_next.ensures.front all (read ++ on.0) gave _ _ on.1);
  quiet = c.in_ok-read_on.ensures.cause.kept (λ e. cc) ∙ c.loop-pieces.invariant.quiet;
}
