use Rattle.std.proofs.Common.{◌≡◌, ◌+◌, ◌∙◌, sym, subst, rules, arith}
use Rattle.inc_model.specs.declared.words.file_state.FileState.{FileState}
use Rattle.inc_model.specs.executed.CoreFacts.{IsHeld}
use Rattle.inc_history.specs.Runs.{RunsTo, fresh_state, all_entries}
use Rattle.inc_history.proofs.Rounds.{RanRounds, rounds_none, rounds_stop, rounds_more, rounds_end, runs_world, runs_end}
use Rattle.inc_history.proofs.world.World.run.Goals as goal

pub loop-round-init : goal.loop-round-init
loop-round-init c =
    let is : fresh_state ≡ c.new-core.result.state = sym (c.new-core.ensures.value ∙ c.fresh_file.ensures.value) in
    subst (λ (s : FileState). RanRounds c.args.rounds.now 0 0 s) is (rounds_none c.args.rounds.now)

pub returns-then-taken-entries-clause-runs : goal.returns-then-taken-entries-clause-runs
returns-then-taken-entries-clause-runs c =
    let runs : RunsTo c.loop-round.done c.loop-round.core.state c.round-item.result.entries c.in_ok-taken.taken c.into_state.result = search rules in
    rounds_stop c.args.rounds.now c.loop-round.round-index c.loop-round.done c.loop-round.core.state c.into_state.result c.round-item.result c.in_ok-taken.taken c.loop-round-test.true c.round-item.is c.loop-round.invariant runs (search rules)

pub returns-then-taken-entries-clause-world : goal.returns-then-taken-entries-clause-world
returns-then-taken-entries-clause-world c = runs_world fresh_state (all_entries c.args.rounds.now) (c.loop-round.done + c.in_ok-taken.taken) c.into_state.result (returns-then-taken-entries-clause-runs c)

pub returns-then-taken-entries-clause-end : goal.returns-then-taken-entries-clause-end
returns-then-taken-entries-clause-end c = runs_end fresh_state (all_entries c.args.rounds.now) (c.loop-round.done + c.in_ok-taken.taken) c.into_state.result (returns-then-taken-entries-clause-runs c)

pub loop-round-preserved : goal.loop-round-preserved
loop-round-preserved c =
    let runs : RunsTo c.loop-round.done c.loop-round.core.state c.round-item.result.entries c.in_ok-taken.taken c.run_entries.new.core.state = search rules in
    let held : IsHeld (c.loop-round.done + c.in_ok-taken.taken) c.run_entries.new.core.state = search rules in
    rounds_more c.args.rounds.now c.loop-round.round-index c.loop-round.done c.loop-round.core.state c.run_entries.new.core.state c.round-item.result c.in_ok-taken.taken c.loop-round-test.true c.round-item.is c.loop-round.invariant runs held (search rules)

pub returns-clause-world : goal.returns-clause-world
returns-clause-world c = runs_world fresh_state (all_entries c.args.rounds.now) c.loop-round.done c.into_state-2.result (subst (λ (s : FileState). RunsTo 0 fresh_state (all_entries c.args.rounds.now) c.loop-round.done s) (sym c.into_state-2.ensures.value) (rounds_end c.args.rounds.now c.loop-round.round-index c.loop-round.done c.loop-round.core.state (omega arith) c.loop-round.invariant))

pub returns-clause-end : goal.returns-clause-end
returns-clause-end c = runs_end fresh_state (all_entries c.args.rounds.now) c.loop-round.done c.into_state-2.result (subst (λ (s : FileState). RunsTo 0 fresh_state (all_entries c.args.rounds.now) c.loop-round.done s) (sym c.into_state-2.ensures.value) (rounds_end c.args.rounds.now c.loop-round.round-index c.loop-round.done c.loop-round.core.state (omega arith) c.loop-round.invariant))
