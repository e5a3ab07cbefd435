use Rattle.std.proofs.Common.{◌≡◌, ◌≤◌, length, rules}
use Rattle.inc_disk.specs.Disk.{touched, overwritten}
use Rattle.inc_disk.specs.Memory.{state_of}
use Rattle.inc_disk.proofs.States.{sound_written}
use Rattle.inc_disk.proofs.state.State.write.Goals as goal

pub invariant_of-self-2 : goal.invariant_of-self-2
invariant_of-self-2 c =
    let place : c.args.at ≤ length c.self.inside.reads.items = rw (← c.self.view_is) at c.requires.place in
    let is : state_of (record { reads = c.overwrite.new.bytes; synced = c.if-is_none.self-inside.synced; dirty = c.insert.new.self; longest = c.max-self-inside.result })
    ≡ touched c.args.at c.args.count (overwritten c.args.at c.args.front.now c.self.inside.reads.items) (state_of c.self.inside) = search rules in
    sound_written _ _ _ _ _ c.self.invariant place c.requires.front is

pub returns-clause-sound : goal.returns-clause-sound
returns-clause-sound c = invariant_of-self-2 c
