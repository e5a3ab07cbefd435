use Rattle.inc_cmd.proofs.RunLemmas.{over_shows}
use Rattle.inc_cmd.proofs.commands.over_own.Goals as goal

pub returns-clause-shows : goal.returns-clause-shows
returns-clause-shows g c =
    over_shows _ _ c.args.name.now c.args.command c.over_file-outcome.result (rw c.in-Some.is at c.in_ok-file.ensures.found) (rw c.in-Some.is at c.in_ok-file.ensures.reads) c.over_file-outcome.ensures.shows
