-- Lists of turns, put one behind the other.
use Rattle.std.proofs.Common.{◌≡◌, ◌≢◌, ℕ, ◌<◌, ◌≤◌, List, [], ◌∷◌, ◌++◌, Option, Some, None, refl, sym, ap, ◌∙◌, arith}
use Rattle.std.proofs.lemmas.List.{append-nil, append_assoc}
use Rattle.inc_model.specs.declared.words.reply.Entry.{Entry}
use Rattle.inc_model.specs.histories.Machines.{added, IsOf}
use Rattle.inc_turn.specs.Lists.{entries_of_turns, IsOther, AreOthers, IsSeated, AreSeated, HasSeen}

pub entries_of_turns-append : (first second : List (Option Entry)) → entries_of_turns (first ++ second) ≡ entries_of_turns first ++ entries_of_turns second
entries_of_turns-append [] second = refl
entries_of_turns-append (turn ∷ first) second =
    ap (λ (rest : List Entry). added turn ++ rest) (entries_of_turns-append first second) ∙ sym (append_assoc (added turn) (entries_of_turns first) (entries_of_turns second))

pub entries_of_turns-one : (turn : Option Entry) → entries_of_turns (turn ∷ []) ≡ added turn
entries_of_turns-one turn = append-nil (added turn)

pub AreOthers-append : (number : ℕ) (first second : List (Option Entry)) → AreOthers number first → AreOthers number second → AreOthers number (first ++ second)
AreOthers-append number [] second here later = later
AreOthers-append number (turn ∷ first) second here later = (here.0, AreOthers-append number first second here.1 later)

pub other_of : (who number : ℕ) (turn : Option Entry) → who ≢ number → IsOf who turn → IsOther number turn
other_of who number None ne own = tt
other_of who number (Some entry) ne own = λ e. ne (sym own ∙ e)

pub AreSeated-append : (made : ℕ) (first second : List (Option Entry)) → AreSeated made first → AreSeated made second → AreSeated made (first ++ second)
AreSeated-append made [] second here later = later
AreSeated-append made (turn ∷ first) second here later = (here.0, AreSeated-append made first second here.1 later)

seated_more : (made more : ℕ) (turn : Option Entry) → made ≤ more → IsSeated made turn → IsSeated more turn
seated_more made more None le h = tt
seated_more made more (Some entry) le h = omega (arith, h)

pub AreSeated-more : (made more : ℕ) (turns : List (Option Entry)) → made ≤ more → AreSeated made turns → AreSeated more turns
AreSeated-more made more [] le h = tt
AreSeated-more made more (turn ∷ turns) le h = (seated_more made more turn le h.0, AreSeated-more made more turns le h.1)

pub seated_of : (who made : ℕ) (turn : Option Entry) → who < made → IsOf who turn → IsSeated made turn
seated_of who made None lt own = tt
seated_of who made (Some entry) lt own = omega (arith, own)

-- one turn of another seat more
pub seen_more : (number : ℕ) (seen all : List (Option Entry)) (turn : Option Entry) → HasSeen number seen all → IsOther number turn → HasSeen number seen (all ++ turn ∷ [])
seen_more number seen all turn h other = record {
  rest = h.rest ++ turn ∷ [];
  whole = ap (λ (turns : List (Option Entry)). turns ++ turn ∷ []) h.whole ∙ append_assoc seen h.rest (turn ∷ []);
  others = AreOthers-append number h.rest (turn ∷ []) h.others (other, tt);
}

pub seen_all : (number : ℕ) (all : List (Option Entry)) → HasSeen number all all
seen_all number all = record { rest = []; whole = sym (append-nil all); others = tt }
