use Rattle.std.proofs.Common.{List, ℕ, sym, ◌∙◌, subst, arith}
use Rattle.inc_words.specs.Words.{command_in}
use Rattle.inc_io.specs.Writing.{Appends}
use Rattle.inc_cmd.proofs.RunLemmas.{front_none, front_sent_of, printed, sent, vouches_sent, words_sent}
use Rattle.inc_cmd.proofs.run.run_plain.Goals as goal

pub returns-in-Ok-clause-answer : goal.returns-in-Ok-clause-answer
returns-in-Ok-clause-answer g c =
    λ quiet five six seven. sent (g.S.ReadShelf.contents (g.S.ReadShelf.kept c.args.shelf.now)) (g.S.ReadShelf.contents (g.S.ReadShelf.kept c.answer.new.shelf)) (g.I.Source.left c.args.input.now) (command_in c.args.words.now) c.in-Ok.outcome c.finish.result.0 (g.O.Sink.written c.args.out.now) (g.O.Sink.written c.finish.new.out) c.in-Ok.ensures.answer seven (c.finish.ensures.status quiet) (c.finish.ensures.text quiet)

pub returns-in-Ok-clause-front : goal.returns-in-Ok-clause-front
returns-in-Ok-clause-front g c =
    front_sent_of (g.S.ReadShelf.contents (g.S.ReadShelf.kept c.args.shelf.now)) (g.S.ReadShelf.contents (g.S.ReadShelf.kept c.answer.new.shelf)) (g.I.Source.left c.args.input.now) (command_in c.args.words.now) c.in-Ok.outcome (g.O.Sink.written c.args.out.now) (g.O.Sink.written c.finish.new.out) c.in-Ok.ensures.answer c.in-Ok.ensures.silent c.finish.ensures.front

pub returns-in-Ok-clause-proved : goal.returns-in-Ok-clause-proved
returns-in-Ok-clause-proved g c =
    printed (g.S.ReadShelf.contents (g.S.ReadShelf.kept c.args.shelf.now)) (command_in c.args.words.now) c.in-Ok.outcome c.finish.result.0 (g.O.Sink.written c.args.out.now) (g.O.Sink.written c.finish.new.out) c.in-Ok.ensures.shows c.finish.ensures.done (λ e. c.finish.ensures.shown (λ f. absurd (omega arith)) (λ f. absurd (omega arith)))

pub returns-in-Ok-clause-vouched : goal.returns-in-Ok-clause-vouched
returns-in-Ok-clause-vouched g c =
    vouches_sent (command_in c.args.words.now) c.in-Ok.outcome c.finish.result.0 (g.O.Sink.written c.args.out.now) (g.O.Sink.written c.finish.new.out) c.in-Ok.ensures.vouched c.finish.ensures.done (λ e. c.finish.ensures.shown (λ f. absurd (omega arith)) (λ f. absurd (omega arith)))

pub returns-in-Ok-clause-full : goal.returns-in-Ok-clause-full
returns-in-Ok-clause-full g c = λ seven. c.in-Ok.ensures.full (sym (c.finish.ensures.same (λ five. absurd (omega arith))) ∙ seven)

pub returns-in-Ok-clause-silent : goal.returns-in-Ok-clause-silent
returns-in-Ok-clause-silent g c =
    λ seven. subst (λ (text : List ℕ). Appends (g.O.Sink.written c.args.out.now) (g.O.Sink.written c.finish.new.out) text) (c.in-Ok.ensures.silent (sym (c.finish.ensures.same (λ five. absurd (omega arith))) ∙ seven))
    (c.finish.ensures.shown (λ five. absurd (omega arith)) (λ one. absurd (omega arith)))

pub returns-in-Ok-clause-settled : goal.returns-in-Ok-clause-settled
returns-in-Ok-clause-settled g c =
    λ five six. c.in-Ok.ensures.settled (λ e. five (c.finish.ensures.same five ∙ e)) (λ e. six (c.finish.ensures.same five ∙ e))

pub returns-in-Err-Fault-clause-front : goal.returns-in-Err-Fault-clause-front
returns-in-Err-Fault-clause-front g c =
    front_none (g.S.ReadShelf.contents (g.S.ReadShelf.kept c.args.shelf.now)) (g.I.Source.left c.args.input.now) (command_in c.args.words.now) (g.O.Sink.written c.args.out.now)

pub returns-in-Err-OutOfMemory-clause-front : goal.returns-in-Err-OutOfMemory-clause-front
returns-in-Err-OutOfMemory-clause-front g c =
    front_none (g.S.ReadShelf.contents (g.S.ReadShelf.kept c.args.shelf.now)) (g.I.Source.left c.args.input.now) (command_in c.args.words.now) (g.O.Sink.written c.args.out.now)

pub returns-in-Ok-clause-words : goal.returns-in-Ok-clause-words
returns-in-Ok-clause-words g c =
    words_sent (command_in c.args.words.now) c.in-Ok.outcome.status.0 c.finish.result.0 c.in-Ok.ensures.words c.in-Ok.ensures.statuses c.finish.ensures.bad_words c.finish.ensures.good_words
