use Rattle.inc_model.proofs.indices.index_rows.IndexRowsIndices.counts.Goals as goal

pub returns-clause-hash_blocks : goal.returns-clause-hash_blocks
returns-clause-hash_blocks c = rw c.as_slice.ensures.value at c.count_open.ensures.hash_blocks
