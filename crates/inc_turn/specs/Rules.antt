-- The rule of a lock's table. Word 0 is the ticket that is served, word 1 the next ticket, and the one slot holds the machine.
use Rattle.std.specs.Prelude.{◌≡◌, ◌≢◌, ℕ, ◌^◌, ◌<◌, ◌≤◌, Bool, true, false, List, [], ◌∷◌, ◌++◌, length, Option, Some, None, ◌==◌}
use mathlib.Core.Option as maybe
use mathlib.Core.Option.{none, some}
use lib.ListN.{get_elem?}
use Rattle.atomic_table.specs.Table.{State, Me, Step}
use Rattle.inc_model.specs.declared.words.reply.Entry.{Entry}
use Rattle.inc_model.specs.histories.Machines.{added, IsOf}
use Rattle.inc_turn.specs.Lists.{entries_of_turns, AreOthers, AreSeated, HasSeen}
use Rattle.inc_turn.specs.Views.{heard, holding, entering, ending}
use Rattle.inc_turn.specs.declared.view.View.{View}
use Rattle.inc_turn.specs.declared.view.PastSeat.{PastSeat}

-- what the rule knows beside the table
pub record TurnOrder (F : Type 0) : Type 0 where
  pub serving : ℕ
  pub ticket : ℕ
  -- how many seats were made
  pub made : ℕ
  -- the number of a seat that has seen all turns
  pub fullest : ℕ
  -- the number of the seat in turn
  pub busy : Option ℕ
  -- all turns, the history before them, and what no turn changes
  pub all : List (Option Entry)
  pub base : List Entry
  pub footing : F
  -- the number of the seat that has a ticket, and the seat that has a number
  pub holder : ℕ → ℕ
  pub owner : ℕ → Option ℕ

abbrev pub is_busy : Option ℕ → ℕ → Bool
is_busy None number = false
is_busy (Some busy) number = busy == number

module _ {F : Type 0} (o : TurnOrder F) where
  -- a seat that was given back
  pub record FitsPast (c : PastSeat) : Type 0 where
    pub unowned : o.owner c.number ≡ None
    pub low : c.number < o.made
    pub idle : is_busy o.busy c.number ≡ false
    pub base_is : c.base ≡ o.base
    pub seen_is : HasSeen c.number c.seen o.all
    pub full : o.fullest ≡ c.number → c.seen ≡ o.all

  abbrev pub AllFitPast : List PastSeat → Type 0
  AllFitPast [] = Unit {0}
  AllFitPast (c ∷ cs) = FitsPast c × AllFitPast cs

  -- the seat with this view at this place
  pub record FitsView (id : ℕ) (v : View F) : Type 0 where
    pub owned : o.owner v.number ≡ Some id
    pub low : v.number < o.made
    pub held : (ticket : ℕ) → v.ticket ≡ Some ticket → (o.holder ticket ≡ v.number) × (o.serving ≤ ticket) × (ticket < o.ticket)
    pub busy_is : v.in_turn ≡ is_busy o.busy v.number
    pub up_to : v.in_turn ≡ true → (v.ticket ≡ Some o.serving) × (v.seen ≡ o.all)
    pub seen_is : HasSeen v.number v.seen o.all
    pub full : o.fullest ≡ v.number → v.seen ≡ o.all
    pub base_is : v.base ≡ o.base
    pub footing_is : v.footing ≡ Some o.footing
    pub made_is : v.number ≡ 0 → v.made ≡ o.made
    pub past_fit : AllFitPast v.past

  -- the machine is at home where no seat is in turn
  abbrev pub IsHome : {M : Type 0} → (M → List Entry) → (M → F) → Option ℕ → List (maybe.Option M) → Type 0
  IsHome {M} history footing None homes = (machine : M) × (homes ≡ some machine ∷ []) × (history machine ≡ o.base ++ entries_of_turns o.all) × (footing machine ≡ o.footing)
  IsHome {M} history footing (Some number) homes = (homes ≡ none ∷ []) × (o.holder o.serving ≡ number) × (number < o.made) × (o.serving < o.ticket)

pub record KeepsTurns {M F : Type 0} (history : M → List Entry) (footing : M → F) (s : State M (View F)) : Type 0 where
  pub order : TurnOrder F
  pub words_are : s.words ≡ order.serving ∷ order.ticket ∷ []
  pub ordered : order.serving ≤ order.ticket
  pub small : order.ticket < 2 ^ 64
  pub counted : length order.all ≡ order.serving
  pub fullest_low : order.fullest < order.made
  pub seated : AreSeated order.made order.all
  pub home : IsHome order history footing order.busy s.homes
  pub each : (id : ℕ) (v : View F) → get_elem? s.views id ≡ some v → v.spent ≡ false → FitsView order id v

-- ---- what the steps tell

-- a ticket was taken where it was the one looked for
abbrev pub TakesTicket : {M F : Type 0} → Step M → Me M (View F) → ℕ → Me M (View F) → Type 0
TakesTicket st v found w = (found ≡ st.first → w ≡ (holding v.0 found, v.1)) × (found ≢ st.first → w ≡ v)

-- what the seat that is served has seen of the machine
pub record EntersTurn {M F : Type 0} (history : M → List Entry) (footing : M → F) (v : View F) (w : Me M (View F)) : Type 0 where
  pub between : List (Option Entry)
  pub machine : M
  pub others : AreOthers v.number between
  pub after : w ≡ (entering v between, (0, machine) ∷ [])
  pub told : history machine ≡ heard v ++ entries_of_turns between
  pub floor : Some (footing machine) ≡ v.footing

-- a ticket that is served begins a turn
abbrev pub SeesTurn : {M F : Type 0} → (M → List Entry) → (M → F) → Step M → Me M (View F) → ℕ → Me M (View F) → Type 0
SeesTurn history footing st v found w = (ticket : ℕ) → v.0.ticket ≡ Some ticket → v.1 ≡ [] → (found ≢ ticket → w ≡ v) × (found ≡ ticket → EntersTurn history footing v.0 w)

-- a turn has ended, and this is what it added
pub record LeavesTurn {M F : Type 0} (history : M → List Entry) (v : View F) (machine : M) (w : Me M (View F)) : Type 0 where
  pub turn : Option Entry
  pub own : IsOf v.number turn
  pub told : history machine ≡ heard v ++ added turn
  pub after : w ≡ (ending v turn, [])

abbrev pub GivesBack : {M F : Type 0} → (M → List Entry) → Step M → Me M (View F) → ℕ → Me M (View F) → Type 0
GivesBack {M} history st v found w = (machine : M) → v.1 ≡ (0, machine) ∷ [] → LeavesTurn history v.0 machine w
