use Rattle.inc_frame.proofs.FrontLemmas.{end_front}
use Rattle.inc_frame.proofs.writing.write_end.Goals as goal

pub returns-clause-read_again : goal.returns-clause-read_again
returns-clause-read_again c = end_front
