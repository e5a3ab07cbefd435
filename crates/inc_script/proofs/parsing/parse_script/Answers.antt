use Rattle.inc_script.proofs.ReadingLemmas.{read_spelled}
use Rattle.inc_script.proofs.SpellingLemmas.{spelled_read}
use Rattle.inc_script.proofs.WrittenLemmas.{written_read}
use Rattle.inc_script.proofs.parsing.parse_script.Goals as goal

pub returns-clause-spelled : goal.returns-clause-spelled
returns-clause-spelled c = read_spelled c.args.text.now c.read_text.result c.read_text.ensures.value

pub returns-clause-accepted : goal.returns-clause-accepted
returns-clause-accepted c = λ script s. spelled_read c.args.text.now script c.read_text.result c.read_text.ensures.value s

pub returns-clause-written : goal.returns-clause-written
returns-clause-written c = λ script whole same short. written_read c.args.text.now script c.read_text.result c.read_text.ensures.value whole same short
