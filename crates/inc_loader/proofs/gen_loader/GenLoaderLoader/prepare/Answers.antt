use Rattle.inc_loader.proofs.QueueLemmas.{IsOnItsWay, set_out}
use Rattle.inc_loader.proofs.gen_loader.GenLoaderLoader.prepare.Goals as goal

pub invariant_of-self : goal.invariant_of-self
invariant_of-self c =
    let loader = c.args.self.now in
    let before : IsOnItsWay loader.queue.number loader.queue.work loader.queue.begun loader.held.files loader.held.given.items =
    record { sized = loader.sized; unbegun = loader.unbegun; marks = loader.marks; left = loader.left } in
    let after = set_out loader.queue.number loader.queue.work loader.queue.begun loader.held.given.items c.prepare.new.self.given.items c.args.files.now loader.held.files
    c.prepare.new.self.files c.prepare.result before c.requires c.prepare.ensures.prepared c.prepare.ensures.none c.prepare.ensures.given in
    record { sized = after.sized; unbegun = after.unbegun; marks = after.marks; left = after.left }
