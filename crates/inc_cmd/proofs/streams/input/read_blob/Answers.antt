use Rattle.std.proofs.Common.{◌∙◌, ap, length, arith}
use Rattle.inc_cmd.proofs.InputLemmas.{told_blob}
use Rattle.inc_cmd.proofs.streams.input.read_blob.Goals as goal

pub returns-clause-blob : goal.returns-clause-blob
returns-clause-blob g c =
    told_blob _ c.in_ok-count.count _ c.in_ok-blob.blob.len c.read_front.new.room _ _ c.in_ok-count.ensures.front (ap length c.as_mut_slice.ensures.value ∙ c.in_ok-blob.ensures.length)
    (omega (arith, c.in_ok-count.ensures.within)) (omega (arith, c.in_ok-count.ensures.within, c.read_front.auto.room)) c.truncate.ensures.items
