-- An event of a fill wants no memory where there is room.
use Rattle.std.proofs.Common.{◌≡◌, ◌⊎◌, inl, inr, ℕ, ◌<◌, Bool, true, false, List, Option, Some, None, Result, Ok, Err, refl, sym, ap, ◌∙◌, arith}
use Rattle.std.specs.Prelude.{IsOk, OnErr, count_by}
use Rattle.std.proofs.lemmas.Bool.{true≢false}
use Rattle.inc_model.specs.relation.Stages.{is_at, is_settled, is_written}
use Rattle.inc_model.specs.relation.State.{flight_row, has, is_in}
use Rattle.inc_model.specs.executed.CoreState.{MayWantMemory}
use Rattle.inc_model.specs.relation.Table.{flight_reply, gate_reply, lists_rows, place_reply, put_reply, reply_of, unless_failed}
use Rattle.inc_pending.specs.Polling.{waits_on}
use Rattle.inc_model.specs.declared.words.event.Event.{Event}
use Rattle.inc_model.specs.declared.words.event.Event.TheVariants.{Ask, Poll, Cancel, Claim, PutData, PutPlace, Settle, Gate, Release, TakePending, SetTimes, Ranges, Count, Leave}
use Rattle.inc_model.specs.declared.words.file_state.FileState.{FileState}
use Rattle.inc_model.specs.declared.words.file_state.FlightRow.{FlightRow}
use Rattle.inc_model.specs.declared.words.reply.Reply.{Reply}
use Rattle.inc_model.specs.declared.words.reply.Reply.TheVariants.{Filled, Settled, Taken}
use Rattle.inc_model.proofs.facts_kept.Step.{places_after}
use Rattle.inc_cell.specs.seen.Books.{BookView, IsReady}
use Rattle.inc_cell.specs.events.Wanted.{ComesOf}

settle_rows : (failed : Option ℕ) → lists_rows (unless_failed failed Settled) ≡ false
settle_rows (Some at) = refl
settle_rows None = refl

place_rows : (failed : Option ℕ) (mine : Bool) → lists_rows (unless_failed failed (place_reply mine)) ≡ false
place_rows (Some at) mine = refl
place_rows None true = refl
place_rows None false = refl

gate_rows : (failed : Option ℕ) (mine : Bool) (waiting : ℕ) → lists_rows (unless_failed failed (gate_reply mine waiting)) ≡ false
gate_rows (Some at) mine waiting = refl
gate_rows None true waiting = refl
gate_rows None false waiting = refl

put_rows : (failed : Option ℕ) (past damaged compressed : Bool) (row : Option FlightRow) (present : Bool) (digest : List ℕ) → lists_rows (unless_failed failed (put_reply past damaged compressed (flight_reply row present digest))) ≡ false
put_rows (Some at) past damaged compressed row present digest = refl
put_rows None true damaged compressed row present digest = refl
put_rows None false true compressed row present digest = refl
put_rows None false false true row present digest = refl
put_rows None false false false (Some row) present digest = refl
put_rows None false false false None true digest = refl
put_rows None false false false None false digest = refl

-- the events of a fill that want room for a row
abbrev pub IsFill : Event → Type 0
IsFill (PutData window index digest) = Unit {0}
IsFill (PutPlace window index) = Unit {0}
IsFill (Settle window) = Unit {0}
IsFill (Gate window index) = Unit {0}
IsFill event = ⊥

fill_rows : (s : FileState) (who : ℕ) (event : Event) → IsFill event → lists_rows (reply_of s who event) ≡ false
fill_rows s who (PutData window index digest) fill = put_rows s.failed _ (has index s.damaged) (has index s.compressed) (flight_row index s.flight) (is_in index s.map) digest
fill_rows s who (PutPlace window index) fill = place_rows s.failed (is_at is_written window (flight_row index s.flight))
fill_rows s who (Settle window) fill = settle_rows s.failed
fill_rows s who (Gate window index) fill = gate_rows s.failed (is_at is_settled window (flight_row index s.flight)) (count_by (waits_on index) s.reads)
fill_rows s who (Ask index uid moment) fill = absurd fill
fill_rows s who (Poll serial moment) fill = absurd fill
fill_rows s who (Cancel serial) fill = absurd fill
fill_rows s who (Claim window count) fill = absurd fill
fill_rows s who (Release window) fill = absurd fill
fill_rows s who (TakePending after most) fill = absurd fill
fill_rows s who (SetTimes uid times) fill = absurd fill
fill_rows s who (Ranges start limit room) fill = absurd fill
fill_rows s who Count fill = absurd fill
fill_rows s who Leave fill = absurd fill

comes_rows : (wanted reply : Reply) → lists_rows wanted ≡ false → ComesOf wanted reply → lists_rows reply ≡ false
comes_rows wanted (Taken records readers) none comes = absurd (let there = ap (λ (r : Reply). lists_rows r) comes in cc)
comes_rows wanted (Filled list next more) none comes = absurd (let there = ap (λ (r : Reply). lists_rows r) comes in cc)
comes_rows wanted reply none comes = refl

fill_wants : (event : Event) (room : ℕ) → IsFill event → 0 < room → MayWantMemory event room → ⊥
fill_wants (PutData window index digest) room fill some wants = absurd (omega arith)
fill_wants (PutPlace window index) room fill some wants = wants
fill_wants (Settle window) room fill some wants = absurd (omega arith)
fill_wants (Gate window index) room fill some wants = absurd (omega arith)
fill_wants event room fill some wants = absurd fill

ok_by : {T E : Type 0} (r : Result T E) (P : Type 0) → OnErr r P → (P → ⊥) → IsOk r
ok_by (Ok x) P h never = refl
ok_by (Err x) P h never = absurd (never h)

pub fill_enters : {T E : Type 0} (r : Result T E) (b : BookView) (who : ℕ) (event : Event) (wanted reply : Reply) → IsFill event → IsReady b event → wanted ≡ reply_of b.state who event → ComesOf wanted reply
    → OnErr r ((lists_rows reply ≡ true) ⊎ MayWantMemory event b.room) → IsOk r
fill_enters r b who event wanted reply fill ready wanted_is comes memory =
    let le = places_after b.state.claimed event reply in
    let some : 0 < b.room = omega arith in
    let none = comes_rows wanted reply (ap (λ (w : Reply). lists_rows w) wanted_is ∙ fill_rows b.state who event fill) comes in
    ok_by r ((lists_rows reply ≡ true) ⊎ MayWantMemory event b.room) memory (λ h. elim h [ inl rows ↦ true≢false (sym rows ∙ none) | inr wants ↦ fill_wants event b.room fill some wants ])
