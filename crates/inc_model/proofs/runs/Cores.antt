-- The conditions of an executed core hold along every legal history.
use Rattle.std.proofs.Common.{◌≡◌, ℕ, ◌+◌, ◌<◌, ◌≤◌, Bool, true, false, List, [], ◌∷◌, length, Option, Some, None, refl, sym, ap, subst, ◌∙◌, arith}
use Rattle.std.specs.Prelude.{All, count_by}
use Rattle.std.proofs.lemmas.Bool.{false≢true, and_parts}
use Rattle.std.proofs.lemmas.List.Elements.{All-nil}
use Rattle.inc_pending.specs.Keyed.{lookup}
use Rattle.inc_pending.specs.Polling.{AreRising, waits_on}
use Rattle.inc_pending.specs.declared.reads.ReadRow.{ReadRow}
use Rattle.inc_model.specs.declared.words.event.Event.{Event}
use Rattle.inc_model.specs.declared.words.event.Event.TheVariants.{Gate}
use Rattle.inc_model.specs.declared.words.event.Window.{Window}
use Rattle.inc_model.specs.declared.words.file_state.FileState.{FileState}
use Rattle.inc_model.specs.declared.words.file_state.FlightRow.{FlightRow}
use Rattle.inc_model.specs.declared.words.file_state.Stage.{Stage}
use Rattle.inc_model.specs.declared.words.file_state.Stage.TheVariants.{Written, Placed, Settled, Gated}
use Rattle.inc_model.specs.declared.words.reply.Entry.{Entry}
use Rattle.inc_model.specs.declared.words.reply.Reply.{Reply}
use Rattle.inc_model.specs.declared.words.reply.Reply.TheVariants.{Fault}
use Rattle.inc_model.specs.relation.State.{Claims, Digests, is_same, is_in, flight_row, all_places, FlightRises, IsOpening}
use Rattle.inc_model.specs.relation.Stages.{is_at, is_settled, is_gated}
use Rattle.inc_model.specs.relation.Table.{unless_failed, gate_reply, reply_of}
use Rattle.inc_model.specs.relation.Changes.{change}
use Rattle.inc_model.specs.relation.Step.{may_fail, Fits, IsAllowed, IsLegal, needs, after_entry, state_after}
use Rattle.inc_model.specs.relation.Facts.{FileFacts, RowFacts, IsShape, IsStart}
use Rattle.inc_model.specs.executed.CoreFacts.{IsHeld}
use Rattle.inc_model.specs.executed.CoreState.{MayBeginBy, MayBegin}
use Rattle.inc_model.specs.laws.CoreLaws.{OneDigest}
use Rattle.inc_model.proofs.facts_kept.Core.{held_after}
use Rattle.inc_model.proofs.facts_kept.Step.{opening_more, places_after}
use Rattle.inc_model.proofs.lists.Flight.{row_found}
use Rattle.inc_model.proofs.lists.Sets.{pairs_none, none_found}

-- ---- a file as it is opened

pub opening_start : (s : FileState) → IsOpening s → IsShape s.n s.m → IsStart s
opening_start s o shape =
    let more = opening_more s o in
    record {
      shape = shape;
      lists = more.lists;
      claims = more.claims;
      once = subst Once (sym o.no_flight) (pairs_none (λ (a b : FlightRow). a.index < b.index));
      indices = more.indices;
      rising = subst Rising (sym o.no_reads) (pairs_none (λ (a b : ReadRow). a.serial < b.serial));
      below = subst (All (λ (r : ReadRow). r.serial < s.next)) (sym o.no_reads) (All-nil (λ (r : ReadRow). r.serial < s.next));
      serials = let e = o.next in omega arith;
      places = let e = none_claimed in omega arith;
    }
  where
    Once : List FlightRow → Type 0
    Once rows = FlightRises rows

    Rising : List ReadRow → Type 0
    Rising rows = AreRising rows

    none_claimed : all_places s.claimed ≡ 0
    none_claimed = ap (λ (claimed : Claims). all_places claimed) o.no_claims

-- ---- along a history

pub held_along : (told : Bool) (at : ℕ) (s : FileState) (entries : List Entry) → IsHeld at s → IsLegal at told s entries → IsHeld (at + length entries) (state_after at s entries)
held_along told at s [] held legal = subst (λ k. IsHeld k s) (omega arith) held
held_along told at s (entry ∷ entries) held legal =
    let next = held_after told at s entry.who entry.event entry.reply legal.0.allowed held in
    subst (λ k. IsHeld k (state_after (at + 1) (after_entry at s entry) entries)) (omega arith) (held_along told (at + 1) (after_entry at s entry) entries next legal.1)

-- ---- a gate's write that failed

gate_mine : (failed : Option ℕ) (mine : Bool) (count : ℕ) → may_fail (unless_failed failed (gate_reply mine count)) ≡ true → mine ≡ true
gate_mine (Some at) mine count h = absurd (false≢true h)
gate_mine None true count h = refl
gate_mine None false count h = absurd (false≢true h)

settled_shut : (stage : Stage) → is_settled stage ≡ true → is_gated stage ≡ false
settled_shut Written h = refl
settled_shut Placed h = refl
settled_shut Settled h = refl
settled_shut Gated h = absurd (false≢true h)

pub begins_alone : (index : ℕ) (s : FileState) (first : FileState) → FileFacts first s → (window : Window) (row : FlightRow) → flight_row index s.flight ≡ Some row → is_at is_settled window (Some row) ≡ true → OneDigest s.map index row.digest
begins_alone index s first facts window row is mine =
    let found = row_found (RowFacts s.map s.damaged s.compressed) index s.flight row is facts.flying.rows in
    let stage = and_parts (is_same window row.window) (is_settled row.stage) mine in
    let shut : is_in row.index s.map ≡ false = sym found.1.gated ∙ settled_shut row.stage stage.1 in
    let none : lookup index s.map ≡ None = none_found index s.map (ap (λ i. is_in i s.map) (sym found.0) ∙ shut) in
    rw none tt

begin_by : (digests : Digests) (index : ℕ) (found : Option FlightRow) (reply : Reply) → ((count : ℕ) → reply ≡ Fault count → (row : FlightRow) → found ≡ Some row → OneDigest digests index row.digest) → MayBeginBy OneDigest digests index found reply
begin_by digests index None reply h = tt
begin_by digests index (Some row) (Fault count) h = h count refl row refl
begin_by digests index (Some row) reply h = tt

pub gates_alone : (first s : FileState) (told : Bool) (at who : ℕ) (event : Event) (reply : Reply) → FileFacts first s → IsAllowed at told s who event reply → MayBegin OneDigest s event reply
gates_alone first s told at who (Gate window index) reply facts allowed = begin_by s.map index (flight_row index s.flight) reply one
  where
    one : (count : ℕ) → reply ≡ Fault count → (row : FlightRow) → flight_row index s.flight ≡ Some row → OneDigest s.map index row.digest
    one count e row is =
        let fits : Fits told s.faults (reply_of s who (Gate window index)) (Fault count) = subst (λ (r : Reply). Fits told s.faults (reply_of s who (Gate window index)) r) e allowed.fits in
        let mine = gate_mine s.failed (is_at is_settled window (flight_row index s.flight)) (count_by (waits_on index) s.reads) fits.0 in
        begins_alone index s first facts window row is (sym (ap (is_at is_settled window) is) ∙ mine)
gates_alone first s told at who event reply facts allowed = tt

pub entries_take : (at : ℕ) (s : FileState) (who : ℕ) (event : Event) (reply : Reply) → 1 + all_places (change at s who event reply).claimed ≤ all_places s.claimed + needs s.claimed event
entries_take at s who event reply = places_after s.claimed event reply
