-- What a fill changes leaves the claimed places, and so does what a reader asks.
use Rattle.std.proofs.Common.{◌≡◌, ℕ, List, Option, Some, None, refl}
use Rattle.inc_pending.specs.declared.timeouts.Times.{Times}
use Rattle.inc_model.specs.declared.words.event.Window.{Window}
use Rattle.inc_model.specs.declared.words.file_state.FileState.{FileState}
use Rattle.inc_model.specs.declared.words.file_state.FlightRow.{FlightRow}
use Rattle.inc_model.specs.declared.words.reply.Reply.{Reply}
use Rattle.inc_model.specs.declared.words.reply.Reply.TheVariants.{Asked, NoPath, Handed, TimedOut, Fault, Cancelled, Put, Placed, Settled, Gated, TimesSet, Left}
use Rattle.inc_model.specs.relation.Changes.{ask_change, poll_change, cancel_change, put_data_change, put_place_change, settle_change, gate_row_change, gate_change, times_change, leave_change}

pub written_claims : (at : ℕ) (s : FileState) (window : Window) (index : ℕ) (digest : List ℕ) (reply : Reply) → (put_data_change at s window index digest reply).claimed ≡ s.claimed
written_claims at s window index digest (Put place same) = refl
written_claims at s window index digest (Fault count) = refl
written_claims at s window index digest reply = refl

pub placed_claims : (at : ℕ) (s : FileState) (index : ℕ) (reply : Reply) → (put_place_change at s index reply).claimed ≡ s.claimed
placed_claims at s index Placed = refl
placed_claims at s index (Fault count) = refl
placed_claims at s index reply = refl

pub settled_claims : (at : ℕ) (s : FileState) (reply : Reply) → (settle_change at s reply).claimed ≡ s.claimed
settled_claims at s Settled = refl
settled_claims at s (Fault count) = refl
settled_claims at s reply = refl

row_claims : (at : ℕ) (s : FileState) (index : ℕ) (digest : List ℕ) (reply : Reply) → (gate_row_change at s index digest reply).claimed ≡ s.claimed
row_claims at s index digest (Gated count) = refl
row_claims at s index digest (Fault count) = refl
row_claims at s index digest reply = refl

pub gated_claims : (at : ℕ) (s : FileState) (index : ℕ) (found : Option FlightRow) (reply : Reply) → (gate_change at s index found reply).claimed ≡ s.claimed
gated_claims at s index (Some row) reply = row_claims at s index row.digest reply
gated_claims at s index None reply = refl

pub asked_claims : (s : FileState) (who block uid now : ℕ) (reply : Reply) → (ask_change s who block uid now reply).claimed ≡ s.claimed
asked_claims s who block uid now (Asked serial) = refl
asked_claims s who block uid now reply = refl

pub polled_claims : (s : FileState) (who serial : ℕ) (reply : Reply) → (poll_change s who serial reply).claimed ≡ s.claimed
polled_claims s who serial (NoPath hash) = refl
polled_claims s who serial (Handed digest) = refl
polled_claims s who serial (TimedOut deadline) = refl
polled_claims s who serial (Fault count) = refl
polled_claims s who serial reply = refl

pub cancelled_claims : (s : FileState) (who serial : ℕ) (reply : Reply) → (cancel_change s who serial reply).claimed ≡ s.claimed
cancelled_claims s who serial Cancelled = refl
cancelled_claims s who serial reply = refl

pub times_claims : (s : FileState) (uid : ℕ) (times : Times) (reply : Reply) → (times_change s uid times reply).claimed ≡ s.claimed
times_claims s uid times TimesSet = refl
times_claims s uid times reply = refl

pub left_claims : (s : FileState) (reply : Reply) → (leave_change s reply).claimed ≡ s.claimed
left_claims s (Left readers) = refl
left_claims s reply = refl
