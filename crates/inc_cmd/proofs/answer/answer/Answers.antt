use Rattle.inc_words.specs.Words.{command_in}
use Rattle.inc_cmd.specs.Runs.{given_to}
use Rattle.inc_words.specs.declared.stop.Stop.TheVariants.{OutOfMemory}
use Rattle.inc_cmd.proofs.RunLemmas.{no_memory_told, none_answered, nothing_changed, nothing_left, shelf_kept, takes_nothing, undone}
use Rattle.inc_cmd.proofs.answer.answer.Goals as goal

pub returns-in-Ok-clause-answer : goal.returns-in-Ok-clause-answer
returns-in-Ok-clause-answer g c = rw c.in-Ok.ensures.value c.act.ensures.answer

pub returns-in-Ok-clause-shows : goal.returns-in-Ok-clause-shows
returns-in-Ok-clause-shows g c = rw c.in-Ok.ensures.value c.act.ensures.shows

pub returns-in-Ok-clause-moments : goal.returns-in-Ok-clause-moments
returns-in-Ok-clause-moments g c = rw c.in-Ok.ensures.value c.act.ensures.moments

pub returns-in-Ok-clause-made : goal.returns-in-Ok-clause-made
returns-in-Ok-clause-made g c = rw c.in-Ok.ensures.value c.act.ensures.made

pub returns-in-Err-OutOfMemory-clause-answer : goal.returns-in-Err-OutOfMemory-clause-answer
returns-in-Err-OutOfMemory-clause-answer g c =
    none_answered (g.S.ReadShelf.contents (g.S.ReadShelf.kept c.args.shelf.now)) (g.S.ReadShelf.contents (g.S.ReadShelf.kept c.args.shelf.now)) (g.I.Source.left c.args.input.now) (command_in c.args.words.now) OutOfMemory

pub returns-in-Err-OutOfMemory-clause-words : goal.returns-in-Err-OutOfMemory-clause-words
returns-in-Err-OutOfMemory-clause-words g c = no_memory_told (command_in c.args.words.now)

pub returns-in-Err-OutOfMemory-clause-kept : goal.returns-in-Err-OutOfMemory-clause-kept
returns-in-Err-OutOfMemory-clause-kept g c = shelf_kept (command_in c.args.words.now) (g.S.ReadShelf.kept c.args.shelf.now)

pub returns-in-Err-OutOfMemory-clause-others : goal.returns-in-Err-OutOfMemory-clause-others
returns-in-Err-OutOfMemory-clause-others g c = nothing_changed (g.S.Shelf.log (g.S.ReadShelf.kept c.args.shelf.now)) (command_in c.args.words.now)

pub returns-in-Err-OutOfMemory-clause-moments : goal.returns-in-Err-OutOfMemory-clause-moments
returns-in-Err-OutOfMemory-clause-moments g c =
    nothing_left (given_to (command_in c.args.words.now) (g.I.Source.left c.args.input.now)) (g.S.Shelf.log (g.S.ReadShelf.kept c.args.shelf.now)) (command_in c.args.words.now)

pub returns-in-Err-OutOfMemory-clause-took : goal.returns-in-Err-OutOfMemory-clause-took
returns-in-Err-OutOfMemory-clause-took g c = takes_nothing (command_in c.args.words.now) (g.I.Source.left c.args.input.now)

pub returns-in-Err-OutOfMemory-clause-unless_done : goal.returns-in-Err-OutOfMemory-clause-unless_done
returns-in-Err-OutOfMemory-clause-unless_done g c = λ done fault. undone (command_in c.args.words.now) (g.S.ReadShelf.kept c.args.shelf.now)
