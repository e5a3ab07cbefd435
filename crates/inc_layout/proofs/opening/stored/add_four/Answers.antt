use Rattle.inc_layout.proofs.opening.stored.add_four.Goals as goal

pub returns-clause-found : goal.returns-clause-found
returns-clause-found g c = rw c.in_ok-extend_from_slice.ensures.items (c.in_ok-four.ensures.more _ c.requires.found)
