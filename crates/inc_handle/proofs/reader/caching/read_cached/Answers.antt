use Rattle.std.proofs.Common.{Err}
use Rattle.inc_cell.specs.events.CellEvents.{footing_of}
use Rattle.inc_handle.proofs.reads.AnswerLemmas.{answers_by}
use Rattle.inc_handle.proofs.reads.ReadLemmas.{read_footing}
use Rattle.inc_handle.proofs.reads.ShowLemmas.{fitting_is_own}
use Rattle.inc_handle.proofs.reader.caching.read_cached.Goals as goal

pub returns-then-index-data_blocks-clause-footing : goal.returns-then-index-data_blocks-clause-footing
returns-then-index-data_blocks-clause-footing g c =
    read_footing (g.C.Clock.may_answer c.args.clock.now) _ _ _ c.args.index c.args.uid (Err c.refused_past.result) c.refused_past.ensures.told c.requires.footing

pub returns-then-index-data_blocks-clause-answers : goal.returns-then-index-data_blocks-clause-answers
returns-then-index-data_blocks-clause-answers g c =
    answers_by _ _ _ c.args.index c.args.uid c.refused_past.ensures.legal (g.C.Clock.may_answer c.args.clock.now) (Err c.refused_past.result) c.refused_past.ensures.told

pub returns-clause-of_file : goal.returns-clause-of_file
returns-clause-of_file g c = fitting_is_own _ _ (c.keep_read.ensures.fits (footing_of c.args.file.now.begun.value) c.in_default.ensures.fits)

pub returns-clause-footing : goal.returns-clause-footing
returns-clause-footing g c =
    read_footing (g.C.Clock.may_answer c.args.clock.now) _ _ _ c.args.index c.args.uid c.read_with-result.result c.read_with-result.ensures.told c.requires.footing

pub returns-clause-answers : goal.returns-clause-answers
returns-clause-answers g c =
    answers_by _ _ _ c.args.index c.args.uid c.read_with-result.ensures.legal (g.C.Clock.may_answer c.args.clock.now) c.read_with-result.result c.read_with-result.ensures.told
