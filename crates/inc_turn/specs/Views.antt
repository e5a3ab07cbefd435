-- What a seat knows of its lock, and what each of its steps makes of that.
use Rattle.std.specs.Prelude.{◌≡◌, ℕ, ◌+◌, true, false, List, [], ◌∷◌, ◌++◌, Option, Some, None}
use Rattle.inc_model.specs.declared.words.reply.Entry.{Entry}
use Rattle.inc_turn.specs.Lists.{entries_of_turns}
use Rattle.inc_turn.specs.declared.view.View.{View}
use Rattle.inc_turn.specs.declared.view.PastSeat.{PastSeat}

-- the history that a seat has seen
abbrev pub heard : {F : Type 0} → View F → List Entry
heard v = v.base ++ entries_of_turns v.seen

-- the first seat, before any turn
abbrev pub newcomer : {F : Type 0} → List Entry → F → View F
newcomer base footing = record { number = 0; spent = false; made = 1; ticket = None; in_turn = false; seen = []; base = base; footing = Some footing; past = [] }

-- a seat that was joined into another knows nothing
abbrev pub spent_view : {F : Type 0} → View F
spent_view = record { number = 0; spent = true; made = 0; ticket = None; in_turn = false; seen = []; base = []; footing = None; past = [] }

-- ---- a turn

abbrev pub holding : {F : Type 0} → View F → ℕ → View F
holding v ticket = record v { ticket = Some ticket }

abbrev pub entering : {F : Type 0} → View F → List (Option Entry) → View F
entering v between = record v { in_turn = true; seen = v.seen ++ between }

abbrev pub ending : {F : Type 0} → View F → Option Entry → View F
ending v turn = record v { ticket = None; in_turn = false; seen = v.seen ++ turn ∷ [] }

-- ---- a new seat, and one that is given back

abbrev pub counting : {F : Type 0} → View F → View F
counting v = record v { made = v.made + 1 }

abbrev pub next_seat : {F : Type 0} → View F → View F
next_seat v = record v { number = v.made; past = [] }

abbrev pub past_of : {F : Type 0} → View F → PastSeat
past_of v = record { number = v.number; base = v.base; seen = v.seen }

abbrev pub keeping : {F : Type 0} → View F → View F → View F
keeping v other = record v { past = v.past ++ past_of other ∷ [] }

-- a seat between its turns
pub record IsIdle {F : Type 0} (v : View F) : Type 0 where
  pub unspent : v.spent ≡ false
  pub no_ticket : v.ticket ≡ None
  pub no_turn : v.in_turn ≡ false

-- the one view of a seat
abbrev pub the_view : {F : Type 0} → List (View F) → View F
the_view [] = spent_view
the_view (v ∷ vs) = v

-- a seat that has seen these turns more
abbrev pub seeing : {F : Type 0} → View F → List (Option Entry) → View F
seeing v turns = record v { seen = v.seen ++ turns }
