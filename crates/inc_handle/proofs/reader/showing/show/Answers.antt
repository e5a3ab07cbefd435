use Rattle.std.proofs.Common.{refl, sym, ◌∙◌}
use Rattle.inc_handle.proofs.reads.ShowLemmas.{broken_shown}
use Rattle.inc_handle.proofs.reader.showing.show.Goals as goal

pub returns-in-Err : goal.returns-in-Err
returns-in-Err g c =
    let known = rw c.in-Some.is at c.requires.known in
    let breaks = rw c.into_block-bytes.ensures.value at c.in-Err.ensures.broken in
    record {
      told =
          rw c.corrupt.ensures.value (
            refl,
            broken_shown _ _ c.args.handed.block.bytes _ c.args.handed.block.len c.in-Some.known _ _ _ _ (sym c.digest-digest.ensures.value ∙ c.digest-digest.ensures.hashed)
                c.requires.handed.len_is known c.in-Err.ensures.full breaks,
          );
    }
