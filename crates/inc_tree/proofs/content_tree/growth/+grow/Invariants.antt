use Rattle.inc_tree.proofs.content_tree.growth.+grow.Given as goal

abbrev pub decreases-grow : goal.decreases-grow
decreases-grow l = l.level.count
