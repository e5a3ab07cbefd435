use Rattle.inc_frame.specs.Frames.{hello_bytes}
use Rattle.inc_frame.proofs.FrontLemmas.{hello_front_1}
use Rattle.inc_frame.proofs.writing.write_hello.Goals as goal

pub returns-clause-read_again : goal.returns-clause-read_again
unfolding hello_bytes
returns-clause-read_again c = hello_front_1
