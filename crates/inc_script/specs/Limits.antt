-- How many reads spans of blocks are.
use Rattle.std.specs.Prelude.{ℕ, ◌+◌, ◌-◌, List, sum_by}
use Rattle.inc_script.specs.declared.script.ReaderLine.{ReaderLine}

-- the blocks from the first to the last, both included
abbrev pub reads_in : ℕ × ℕ → ℕ
reads_in span = span.1 + 1 - span.0

-- those of several spans
abbrev pub sum_of_reads : List (ℕ × ℕ) → ℕ
sum_of_reads spans = sum_by reads_in spans

-- those of all readers
abbrev pub all_reads : List ReaderLine → ℕ
all_reads readers = sum_by (λ reader. sum_of_reads reader.blocks) readers
