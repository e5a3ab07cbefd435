use Rattle.std.proofs.Common.{[], ◌++◌, sym}
use Rattle.inc_loader.proofs.ReadingLemmas.{first_given}
use Rattle.inc_loader.proofs.stream.loading.StreamLoaderLoader.give.Goals as goal

pub returns-in-Ok-take-clause-front : goal.returns-in-Ok-take-clause-front
returns-in-Ok-take-clause-front g c = λ input read gave h.
    let on = c.in-Ok.ensures.front input read gave h in
    (on.0, rw c.from_vec.ensures.value (first_given input (read ++ on.0) gave _ c.in-Ok-take.pieces.items c.take.new.whole.items _ _ _ _ c.in-Ok-take.ensures.front on.1))

pub returns-in-Err-clause-front : goal.returns-in-Err-clause-front
returns-in-Err-clause-front g c = λ input read gave h.
    let on = c.in-Ok.ensures.front input read gave h in
    (on.0, first_given input (read ++ on.0) gave _ [] c.take.new.whole.items _ _ _ _ (sym c.in-Err.ensures.none.0) on.1)
