-- How large a file may be, and what follows from it for its tree.
use Rattle.std.specs.Prelude.{ℕ, ◌^◌}

-- the most bytes of a file
abbrev pub most_size : ℕ
most_size = 2 ^ 34

-- the most levels of hash blocks
abbrev pub most_levels : ℕ
most_levels = 4
