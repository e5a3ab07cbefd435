use Rattle.std.proofs.Common.{[]}
use Rattle.inc_frame.specs.Fronts.{Greeting}
use Rattle.inc_frame.proofs.FrontLemmas.{front_from-append}
use Rattle.inc_frame.proofs.EndedStreams.{ended_spells}
use Rattle.inc_frame.proofs.Spelling.{stream_again, refused_front}
use Rattle.inc_frame.proofs.laws.streams_are_read.Goals as goal

pub returns-clause-again : goal.returns-clause-again
returns-clause-again c = stream_again

pub returns-clause-spelled : goal.returns-clause-spelled
returns-clause-spelled c = ended_spells

pub returns-clause-cut : goal.returns-clause-cut
returns-clause-cut c = front_from-append (Greeting [])

pub returns-clause-refused : goal.returns-clause-refused
returns-clause-refused c = refused_front
