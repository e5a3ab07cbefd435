-- Lists of turns: a turn adds one entry to a history, or none.
use Rattle.std.specs.Prelude.{◌≡◌, ◌≢◌, ℕ, ◌<◌, List, [], ◌∷◌, ◌++◌, Option, Some, None}
use Rattle.inc_model.specs.declared.words.reply.Entry.{Entry}
use Rattle.inc_model.specs.histories.Machines.{added}

-- the entries of turns, in their order
abbrev pub entries_of_turns : List (Option Entry) → List Entry
entries_of_turns [] = []
entries_of_turns (turn ∷ turns) = added turn ++ entries_of_turns turns

-- a turn of another seat, or without an entry
abbrev pub IsOther : ℕ → Option Entry → Type 0
IsOther number None = Unit {0}
IsOther number (Some entry) = entry.who ≢ number

abbrev pub AreOthers : ℕ → List (Option Entry) → Type 0
AreOthers number [] = Unit {0}
AreOthers number (turn ∷ turns) = IsOther number turn × AreOthers number turns

-- a turn of a seat below this number, or without an entry
abbrev pub IsSeated : ℕ → Option Entry → Type 0
IsSeated made None = Unit {0}
IsSeated made (Some entry) = entry.who < made

abbrev pub AreSeated : ℕ → List (Option Entry) → Type 0
AreSeated made [] = Unit {0}
AreSeated made (turn ∷ turns) = IsSeated made turn × AreSeated made turns

-- what a seat has seen: the first of all turns, and none of its own among those after them
pub record HasSeen (number : ℕ) (seen all : List (Option Entry)) : Type 0 where
  pub rest : List (Option Entry)
  pub whole : all ≡ seen ++ rest
  pub others : AreOthers number rest
