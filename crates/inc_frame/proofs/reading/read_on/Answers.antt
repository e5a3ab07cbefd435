use Rattle.std.proofs.Common.{length, sym, ◌∙◌}
use Rattle.std.proofs.lemmas.Bool.{eqb-true}
use Rattle.inc_frame.specs.ReaderStages.{stage_state}
use Rattle.inc_frame.proofs.FrontLemmas.{read_all}
use Rattle.inc_frame.proofs.reading.read_on.Goals as goal

pub returns : goal.returns
returns c = record { value = read_all (stage_state c.reading.at.0) c.reading.pieces.items c.reading.at.1.now _ c.reading.invariant (eqb-true (length c.reading.at.1.now) 0 (sym c.is_empty.ensures ∙ c.reading-test.false)) }
