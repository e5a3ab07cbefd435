-- What the map had at the moment of a poll that timed out or found no path.
use Rattle.std.proofs.Common.{◌≡◌, ℕ, ◌+◌, Bool, List, [], ◌∷◌, ◌++◌, length, refl, sym, ap, subst, zero-add}
use Rattle.inc_model.specs.histories.Worlds.{IsWorld, Moment, Move, beginning, moves_of}
use Rattle.inc_model.specs.laws.WorldLaws.{IsLate, LacksPath}
use Rattle.inc_model.specs.relation.State.{IsOpening}
use Rattle.inc_model.specs.relation.Step.{IsAllowed, IsEntry, IsKept, IsLegal, state_after}
use Rattle.inc_model.specs.declared.words.file_state.FileState.{FileState}
use Rattle.inc_model.specs.declared.words.reply.Entry.{Entry}
use Rattle.inc_model.specs.declared.words.reply.Reply.TheVariants.{NoPath, TimedOut}
use Rattle.inc_model.proofs.runs.Histories.{both_legal, legal_facts}
use Rattle.inc_model.proofs.runs.Worlds.{history_world, world_end}
use Rattle.inc_model.proofs.steps.Paths.{names_absent}
use Rattle.inc_model.proofs.steps.Polls.{times_out_absent}
use Rattle.inc_handle.specs.Reads.{poll_entry}

moves_append : (first second : List Entry) → moves_of (first ++ second) ≡ moves_of first ++ moves_of second
moves_append [] second = refl
moves_append (entry ∷ first) second = ap (λ (moves : List Move). moves_of (entry ∷ []) ++ moves) (moves_append first second)

-- a legal history, one entry longer
pub longer : (start : FileState) (told : Bool) (front : List Entry) (entry : Entry) → IsLegal 0 told start front
    → IsAllowed (length front) told (state_after 0 start front) entry.who entry.event entry.reply → IsKept entry.reply → IsLegal 0 told start (front ++ entry ∷ [])
longer start told front entry legal allowed kept =
    let here : IsEntry (0 + length front) told (state_after 0 start front) entry =
    record { allowed = subst (λ (n : ℕ). IsAllowed n told (state_after 0 start front) entry.who entry.event entry.reply) (sym (zero-add (length front))) allowed; kept = kept } in
    both_legal start told 0 front (entry ∷ []) legal (here, tt)

pub late_there : (start : FileState) (told : Bool) (front : List Entry) (who serial moment deadline : ℕ) → IsOpening start
    → IsLegal 0 told start (front ++ poll_entry who serial moment (TimedOut deadline) ∷ []) → IsLate (state_after 0 start front) who serial moment deadline
late_there start told front who serial moment deadline opening legal =
    let world = history_world told (beginning start) (front ++ poll_entry who serial moment (TimedOut deadline) ∷ []) legal in
    let cut = subst (IsWorld told (beginning start)) (moves_append front (poll_entry who serial moment (TimedOut deadline) ∷ [])) world in
    let late = times_out_absent start told (moves_of front) [] who serial moment deadline (legal_facts start told [] opening tt) cut in
    subst (λ (s : FileState). IsLate s who serial moment deadline) (ap (λ (m : Moment). m.state) (world_end (beginning start) front)) late

pub path_lacks : (start : FileState) (told : Bool) (front : List Entry) (who serial moment hash : ℕ) → IsOpening start
    → IsLegal 0 told start (front ++ poll_entry who serial moment (NoPath hash) ∷ []) → LacksPath (state_after 0 start front) who serial moment hash
path_lacks start told front who serial moment hash opening legal =
    let world = history_world told (beginning start) (front ++ poll_entry who serial moment (NoPath hash) ∷ []) legal in
    let cut = subst (IsWorld told (beginning start)) (moves_append front (poll_entry who serial moment (NoPath hash) ∷ [])) world in
    let lacks = names_absent start told (moves_of front) [] who serial moment hash (legal_facts start told [] opening tt) cut in
    subst (λ (s : FileState). LacksPath s who serial moment hash) (ap (λ (m : Moment). m.state) (world_end (beginning start) front)) lacks
