use Rattle.inc_script.proofs.LineLemmas.{line_alone, line_then}
use Rattle.inc_script.proofs.parsing.fields.first_line.Goals as goal

pub returns-in-empty-clause-lines : goal.returns-in-empty-clause-lines
returns-in-empty-clause-lines c = line_alone _ _ _ c.requires.some c.cut_at.ensures.before c.cut_at.ensures.from c.in-empty.len_below

pub returns-in-len1-up-clause-lines : goal.returns-in-len1-up-clause-lines
returns-in-len1-up-clause-lines c = line_then _ _ _ c.requires.some c.cut_at.ensures.before c.cut_at.ensures.from c.in-len1-up.len_at_least
