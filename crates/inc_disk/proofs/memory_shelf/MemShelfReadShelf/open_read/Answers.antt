use Rattle.inc_disk.proofs.LogLemmas.{lent_found, lent_reads}
use Rattle.inc_disk.proofs.memory_shelf.MemShelfReadShelf.open_read.Goals as goal

pub returns-clause-found : goal.returns-clause-found
returns-clause-found c = lent_found _ _ _ c.in_ok-lend.ensures.found

pub returns-clause-reads : goal.returns-clause-reads
returns-clause-reads c = lent_reads (λ disk. disk.history) _ _ _ c.in_ok-lend.ensures.states
