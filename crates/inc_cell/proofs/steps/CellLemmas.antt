-- The fields of a cell keep what contracts see of it, from one entry to the next.
use Rattle.std.proofs.Common.{◌≡◌, ◌⊎◌, inl, inr, ℕ, zero, suc, ◌+◌, ◌-◌, ◌^◌, ◌<◌, ◌≤◌, min, Bool, false, List, [], ◌∷◌, ◌++◌, length, get_or, Option, None, refl, sym, ap, subst, ◌∙◌, arith}
use Rattle.std.specs.Prelude.{is_some, slice_index}
use Rattle.std.proofs.lemmas.Bool.{cases_lt}
use Rattle.inc_entry.specs.Entry.{area_places, entries}
use Rattle.inc_entry.specs.declared.classes.Class.{Class}
use Rattle.inc_entry.specs.declared.classes.Class.TheVariants.{Closed}
use Rattle.inc_disk.specs.Disk.{DiskState, Now, SoundNow, settled}
use Rattle.inc_layout.specs.opening.Opening.{IsSoundOpened}
use Rattle.inc_layout.specs.state.Reopening.{IsMountedOn}
use Rattle.inc_layout.specs.declared.opened.Opened.{Opened}
use Rattle.inc_model.specs.relation.Changes.{change, window_of}
use Rattle.inc_model.specs.executed.EntriesLeft.{IsWithoutDevice, entry_left}
use Rattle.inc_model.specs.relation.Step.{Fits, HasRoom, IsAllowed, IsKept, IsOwn, needs}
use Rattle.inc_model.specs.relation.Table.{reply_of}
use Rattle.inc_model.specs.declared.words.event.Event.{Event}
use Rattle.inc_model.specs.declared.words.event.Event.TheVariants.{Ask, Poll, Cancel, Claim, PutData, PutPlace, Settle, Gate, Release, TakePending, SetTimes, Ranges, Count, Leave}
use Rattle.inc_model.specs.declared.words.file_state.FileState.{FileState}
use Rattle.inc_model.specs.declared.words.reply.Entry.{Entry}
use Rattle.inc_model.specs.declared.words.reply.Reply.{Reply}
use Rattle.inc_model.specs.declared.words.reply.Reply.TheVariants.{Fault, NotYet}
use Rattle.inc_model.proofs.executed.OwnReplies.{plain_own}
use Rattle.inc_readlog.specs.Log.{LoggedReads, Tells, empty_log}
use Rattle.inc_readlog.specs.declared.entry.LogEntry.{LogEntry}
use Rattle.inc_cell.specs.events.Answers.{CellReplies, CellSteps, WantsRoom, hands_out}
use Rattle.inc_cell.specs.seen.Books.{BookView, HasEntered, IsSameBook}
use Rattle.inc_cell.specs.seen.Cells.{KeepsCell}
use Rattle.inc_cell.specs.declared.words.answer.Answer.{Answer}
use Rattle.inc_cell.specs.declared.words.answer.CellReply.{CellReply}
use Rattle.inc_cell.specs.declared.words.answer.CellReply.TheVariants.{Done, OutOfMemory}
use Rattle.inc_cell.specs.declared.words.answer.HandedBytes.{HandedBytes}
use Rattle.inc_cell.specs.device.Device.{DeviceDoes}
use Rattle.inc_cell.specs.events.Ended.{ended_by, ended_reads}
use Rattle.inc_cell.specs.device.Moves.{Brings, end_then}
use Rattle.inc_cell.specs.seen.Opens.{cell_on, opened_spots}
use Rattle.inc_cell.specs.seen.Parts.{opening_of}
use Rattle.inc_cell.specs.events.Quiet.{IsQuietEvent}
use Rattle.inc_cell.specs.seen.Seen.{Seen, spots_now, state_now, tells}
use Rattle.inc_cell.specs.seen.Spots.{opened_spot, spot_after, spot_of, spot_then}
use Rattle.inc_cell.specs.events.Steps.{HasCounted, ReplyDoes, log_then}
use Rattle.inc_cell.specs.events.Wanted.{ComesOf}
use Rattle.inc_cell.proofs.steps.BookLemmas.{own_told, told_fits}
use Rattle.inc_cell.proofs.steps.EntryLemmas.{entry_holds, entry_moments, entry_step, spot_more}
use Rattle.inc_cell.proofs.steps.HoldLemmas.{opening_holds}
use Rattle.inc_cell.proofs.standing.KeptLemmas.{IsNoPoll, IsPlainReply, comes_plain, plain_kept, plain_unhanded, reply_plain}

-- ---- a reply that fits

pub comes_fits : (told : Bool) (faults before now : ℕ) (wanted reply : Reply) → faults ≤ before → ComesOf wanted reply → HasCounted before now reply → Fits told faults wanted reply
comes_fits told faults before now wanted (Fault count) le comes cause =
    let same = cause.0 in
    let least = cause.2 in
    let rose : min (before + 1) (2 ^ 64 - 1) ≤ now = cause.3 in
    (comes, order count (omega arith) least)
  where
    order : (n : ℕ) → min (faults + 1) (2 ^ 64 - 1) ≤ n → n < 2 ^ 64 → (faults < n) ⊎ (n ≡ 2 ^ 64 - 1)
    order n more least = elim (cases_lt faults n) [ inl lt ↦ inl lt | inr ge ↦ inr (omega arith) ]
comes_fits told faults before now wanted reply le comes cause = told_fits told wanted reply comes

-- ---- one entry

right_end : (xs : List LogEntry) → xs ++ [] ≡ xs
right_end [] = refl
right_end (x ∷ xs) = ap (λ rest. x ∷ rest) (right_end xs)

entry_of : (who : ℕ) (event : Event) (reply : Reply) → IsKept reply → entry_left who event reply ≡ record { who = who; event = event; reply = reply } ∷ []
entry_of who event NotYet kept = absurd kept
entry_of who event reply kept = refl

module _ (old : Seen) (state : FileState) (spots : List ℕ) (end : ℕ) (keeps : KeepsCell old state spots end) (who : ℕ) (event : Event) (reply : Reply) (block : List ℕ) (new : Seen)
    (allowed : IsAllowed (length old.history) (tells old.states) (state_now old) who event reply) (kept : IsKept reply) (sound : SoundNow old.states) (brings : Brings old.opened event block)
    (device : DeviceDoes old.opened (spots_now old) block event reply old.states new.states) (opened_is : new.opened ≡ old.opened) (opening_is : new.opening ≡ old.opening)
    (history_is : new.history ≡ old.history ++ record { who = who; event = event; reply = reply } ∷ []) (cause : HasCounted old.count new.count reply)
    (log_is : new.log ≡ log_then old.log (ended_by (state_now old) who event reply)) (logged : Tells (ended_reads 0 old.opening old.history ++ ended_by (state_now old) who event reply) new.log) where
  pub cell_replies : ReplyDoes old who event block reply new
  cell_replies = record {
    step = entry_step old end keeps.holds who event reply block new.states allowed sound brings device new kept refl opened_is opening_is history_is cause logged;
    history = history_is ∙ ap (λ (l : List Entry). old.history ++ l) (sym (entry_of who event reply kept));
    device = device;
    cause = cause;
    log = log_is;
    moments = entry_moments old end keeps.holds who event reply block new.states allowed sound brings device new kept refl opened_is opening_is history_is cause logged;
    opened = opened_is;
    opening = opening_is;
  }

  -- where the blocks are then
  spots_are : spots_now new ≡ spot_then event reply (spots_now old)
  spots_are =
      ap (λ (o : Opened). spot_after (opened_spot o) new.history) opened_is ∙ ap (λ (h : List Entry). spot_after (opened_spot old.opened) h) history_is
      ∙ spot_more (opened_spot old.opened) old.history (record { who = who; event = event; reply = reply })

  pub cell_keeps : (state' : FileState) (spots' : List ℕ) → state' ≡ change (length old.history) state who event reply → length spots' ≡ length spots
      → ((i : ℕ) → i < entries (area_places old.opened.areas) → slice_index spots' i ≡ spot_then event reply (spots_now old) i) → KeepsCell new state' spots' (end_then (area_places old.opened.areas) end event reply)
  cell_keeps state' spots' state_is each shown = record {
    holds = entry_holds old end keeps.holds who event reply block new.states allowed sound brings device new kept refl opened_is opening_is history_is cause logged;
    state_is = state_is ∙ ap (λ (s : FileState). change (length old.history) s who event reply) keeps.state_is
        ∙ sym ((entry_step old end keeps.holds who event reply block new.states allowed sound brings device new kept refl opened_is opening_is history_is cause logged).after);
    each = each ∙ keeps.each ∙ ap (λ (o : Opened). entries (area_places o.areas)) (sym opened_is);
    shown = λ i lt.
        let inside : i < entries (area_places old.opened.areas) = subst (λ (o : Opened). i < entries (area_places o.areas)) opened_is lt in
        shown i inside ∙ ap (λ (spot : ℕ → ℕ). spot i) (sym spots_are);
  }

-- ---- an event for which the disk does nothing

pub quiet_no_poll : (event : Event) → IsQuietEvent event → IsNoPoll event
quiet_no_poll (Ask index uid moment) quiet = tt
quiet_no_poll (Cancel serial) quiet = tt
quiet_no_poll (Claim window count) quiet = tt
quiet_no_poll (Release window) quiet = tt
quiet_no_poll (TakePending after most) quiet = tt
quiet_no_poll (SetTimes uid times) quiet = tt
quiet_no_poll (Ranges start limit room) quiet = tt
quiet_no_poll Count quiet = tt
quiet_no_poll Leave quiet = tt
quiet_no_poll (Poll serial moment) quiet = absurd quiet
quiet_no_poll (PutData window index digest) quiet = absurd quiet
quiet_no_poll (PutPlace window index) quiet = absurd quiet
quiet_no_poll (Settle window) quiet = absurd quiet
quiet_no_poll (Gate window index) quiet = absurd quiet

quiet_device : (opened : Opened) (spot : ℕ → ℕ) (block : List ℕ) (event : Event) (reply : Reply) (old new : List DiskState) → IsQuietEvent event → new ≡ old → DeviceDoes opened spot block event reply old new
quiet_device opened spot block (Ask index uid moment) reply old new quiet same = same
quiet_device opened spot block (Cancel serial) reply old new quiet same = same
quiet_device opened spot block (Claim window count) reply old new quiet same = same
quiet_device opened spot block (Release window) reply old new quiet same = same
quiet_device opened spot block (TakePending after most) reply old new quiet same = same
quiet_device opened spot block (SetTimes uid times) reply old new quiet same = same
quiet_device opened spot block (Ranges start limit room) reply old new quiet same = same
quiet_device opened spot block Count reply old new quiet same = same
quiet_device opened spot block Leave reply old new quiet same = same
quiet_device opened spot block (Poll serial moment) reply old new quiet same = absurd quiet
quiet_device opened spot block (PutData window index digest) reply old new quiet same = absurd quiet
quiet_device opened spot block (PutPlace window index) reply old new quiet same = absurd quiet
quiet_device opened spot block (Settle window) reply old new quiet same = absurd quiet
quiet_device opened spot block (Gate window index) reply old new quiet same = absurd quiet

-- it brings no block, ends no read, and moves nothing
pub record IsQuietly (opened : Opened) (s : FileState) (spot : ℕ → ℕ) (end who : ℕ) (event : Event) (reply : Reply) (block : List ℕ) : Type 0 where
  pub brings : Brings opened event block
  pub ended : ended_by s who event reply ≡ []
  pub spots : spot_then event reply spot ≡ spot
  pub ends : end_then (area_places opened.areas) end event reply ≡ end

quietly : (opened : Opened) (s : FileState) (spot : ℕ → ℕ) (end who : ℕ) (event : Event) (reply : Reply) (block : List ℕ) → IsQuietEvent event → IsQuietly opened s spot end who event reply block
quietly opened s spot end who (Ask index uid moment) reply block quiet = record { brings = tt; ended = refl; spots = refl; ends = refl }
quietly opened s spot end who (Cancel serial) reply block quiet = record { brings = tt; ended = refl; spots = refl; ends = refl }
quietly opened s spot end who (Claim window count) reply block quiet = record { brings = tt; ended = refl; spots = refl; ends = refl }
quietly opened s spot end who (Release window) reply block quiet = record { brings = tt; ended = refl; spots = refl; ends = refl }
quietly opened s spot end who (TakePending after most) reply block quiet = record { brings = tt; ended = refl; spots = refl; ends = refl }
quietly opened s spot end who (SetTimes uid times) reply block quiet = record { brings = tt; ended = refl; spots = refl; ends = refl }
quietly opened s spot end who (Ranges start limit room) reply block quiet = record { brings = tt; ended = refl; spots = refl; ends = refl }
quietly opened s spot end who Count reply block quiet = record { brings = tt; ended = refl; spots = refl; ends = refl }
quietly opened s spot end who Leave reply block quiet = record { brings = tt; ended = refl; spots = refl; ends = refl }
quietly opened s spot end who (Poll serial moment) reply block quiet = absurd quiet
quietly opened s spot end who (PutData window index digest) reply block quiet = absurd quiet
quietly opened s spot end who (PutPlace window index) reply block quiet = absurd quiet
quietly opened s spot end who (Settle window) reply block quiet = absurd quiet
quietly opened s spot end who (Gate window index) reply block quiet = absurd quiet

-- the table's own reply is no fault
unfailed : (before now : ℕ) (reply : Reply) → IsWithoutDevice reply → now ≡ before → HasCounted before now reply
unfailed before now (Fault count) plain same = absurd plain
unfailed before now reply plain same = same

module _ (old : Seen) (state : FileState) (spots : List ℕ) (end : ℕ) (keeps : KeepsCell old state spots end) (who : ℕ) (event : Event) (reply : Reply) (new : Seen) (state' : FileState)
    (own : IsOwn who (window_of event)) (quiet : IsQuietEvent event) (room : HasRoom (length old.history) state event) (reply_is : reply ≡ reply_of state who event) (kept : IsKept reply) (sound : SoundNow old.states)
    (states_are : new.states ≡ old.states) (count_is : new.count ≡ old.count) (opened_is : new.opened ≡ old.opened) (opening_is : new.opening ≡ old.opening)
    (history_is : new.history ≡ old.history ++ record { who = who; event = event; reply = reply } ∷ []) (log_is : new.log ≡ old.log) (state_is : state' ≡ change (length old.history) state who event reply) where
  so : IsQuietly old.opened (state_now old) (spots_now old) end who event reply []
  so = quietly old.opened (state_now old) (spots_now old) end who event reply [] quiet

  plain : IsWithoutDevice reply
  plain = subst IsWithoutDevice (sym reply_is) (plain_own state who event)

  quiet_allowed : IsAllowed (length old.history) (tells old.states) (state_now old) who event reply
  quiet_allowed = subst (λ (s : FileState). IsAllowed (length old.history) (tells old.states) s who event reply) keeps.state_is
      (own_told (tells old.states) (length old.history) state who event reply own room reply_is)

  quiet_logged : Tells (ended_reads 0 old.opening old.history ++ ended_by (state_now old) who event reply) new.log
  quiet_logged =
      let none : ended_reads 0 old.opening old.history ≡ ended_reads 0 old.opening old.history ++ ended_by (state_now old) who event reply =
      sym (right_end (ended_reads 0 old.opening old.history)) ∙ ap (λ more. ended_reads 0 old.opening old.history ++ more) (sym so.ended) in
      subst (λ all. Tells all new.log) none (subst (λ log. Tells (ended_reads 0 old.opening old.history) log) (sym log_is) keeps.holds.logged)

  pub quiet_replies : ReplyDoes old who event [] reply new
  quiet_replies =
      cell_replies old state spots end keeps who event reply [] new quiet_allowed kept sound so.brings (quiet_device old.opened (spots_now old) [] event reply old.states new.states quiet states_are) opened_is opening_is history_is
      (unfailed old.count new.count reply plain count_is) (log_is ∙ ap (log_then old.log) (sym so.ended)) quiet_logged

  pub quiet_keeps : KeepsCell new state' spots end
  quiet_keeps =
      subst (λ (e : ℕ). KeepsCell new state' spots e) so.ends
      (cell_keeps old state spots end keeps who event reply [] new quiet_allowed kept sound so.brings (quiet_device old.opened (spots_now old) [] event reply old.states new.states quiet states_are) opened_is opening_is history_is
      (unfailed old.count new.count reply plain count_is) (log_is ∙ ap (log_then old.log) (sym so.ended)) quiet_logged state' spots state_is refl
      (λ i lt. keeps.shown i lt ∙ ap (λ (spot : ℕ → ℕ). spot i) (sym so.spots)))

-- ---- an event of a fill, by what the disk makes of the reply that the table gives

module _ (old : Seen) (state : FileState) (spots : List ℕ) (end : ℕ) (keeps : KeepsCell old state spots end) (who : ℕ) (event : Event) (wanted reply : Reply) (block : List ℕ) (new : Seen) (state' : FileState)
    (own : IsOwn who (window_of event)) (other : IsNoPoll event) (room : HasRoom (length old.history) state event) (wanted_is : wanted ≡ reply_of state who event) (comes : ComesOf wanted reply)
    (sound : SoundNow old.states) (brings : Brings old.opened event block) (device : DeviceDoes old.opened (spots_now old) block event reply old.states new.states)
    (opened_is : new.opened ≡ old.opened) (opening_is : new.opening ≡ old.opening) (history_is : new.history ≡ old.history ++ record { who = who; event = event; reply = reply } ∷ [])
    (cause : HasCounted old.count new.count reply) (log_is : new.log ≡ old.log) (none : ended_by (state_now old) who event reply ≡ []) (state_is : state' ≡ change (length old.history) state who event reply) where
  fill_allowed : IsAllowed (length old.history) (tells old.states) (state_now old) who event reply
  fill_allowed = subst (λ (s : FileState). IsAllowed (length old.history) (tells old.states) s who event reply) keeps.state_is (record {
    own = own;
    room = room;
    fits = subst (λ (w : Reply). Fits (tells old.states) state.faults w reply) wanted_is
        (comes_fits (tells old.states) state.faults old.count new.count wanted reply (subst (λ (s : FileState). s.faults ≤ old.count) (sym keeps.state_is) keeps.holds.counted) comes cause);
  })

  fill_kept : IsKept reply
  fill_kept = plain_kept reply (comes_plain wanted reply (subst IsPlainReply (sym wanted_is) (reply_plain state who event other)) comes)

  pub fill_unhanded : hands_out (Done reply) ≡ false
  fill_unhanded = plain_unhanded reply (comes_plain wanted reply (subst IsPlainReply (sym wanted_is) (reply_plain state who event other)) comes)

  fill_logged : Tells (ended_reads 0 old.opening old.history ++ ended_by (state_now old) who event reply) new.log
  fill_logged =
      let same : ended_reads 0 old.opening old.history ≡ ended_reads 0 old.opening old.history ++ ended_by (state_now old) who event reply =
      sym (right_end (ended_reads 0 old.opening old.history)) ∙ ap (λ more. ended_reads 0 old.opening old.history ++ more) (sym none) in
      subst (λ all. Tells all new.log) same (subst (λ log. Tells (ended_reads 0 old.opening old.history) log) (sym log_is) keeps.holds.logged)

  pub fill_replies : ReplyDoes old who event block reply new
  fill_replies =
      cell_replies old state spots end keeps who event reply block new fill_allowed fill_kept sound brings device opened_is opening_is history_is cause (log_is ∙ ap (log_then old.log) (sym none)) fill_logged

  pub fill_keeps : (spots' : List ℕ) → length spots' ≡ length spots → ((i : ℕ) → i < entries (area_places old.opened.areas) → slice_index spots' i ≡ spot_then event reply (spots_now old) i)
      → KeepsCell new state' spots' (end_then (area_places old.opened.areas) end event reply)
  fill_keeps spots' each shown =
      cell_keeps old state spots end keeps who event reply block new fill_allowed fill_kept sound brings device opened_is opening_is history_is cause (log_is ∙ ap (log_then old.log) (sym none)) fill_logged state' spots' state_is each shown

-- ---- answers

pub steps_done : (old : Seen) (who : ℕ) (event : Event) (block : List ℕ) (answer : Answer) (reply : Reply) (new : Seen) → answer.at ≡ length old.history → answer.reply ≡ Done reply → answer.handed ≡ None → hands_out (Done reply) ≡ false
    → ReplyDoes old who event block reply new → CellSteps old who event block answer new
steps_done old who event block answer reply new at_is reply_is handed unhanded replies = record {
  at_is = at_is;
  reply_is = subst (λ (r : CellReply). CellReplies old who event block r new) (sym reply_is) replies;
  handed_there = ap (λ (h : Option HandedBytes). is_some h) handed ∙ sym unhanded ∙ ap hands_out (sym reply_is);
}

pub steps_memory : (old : Seen) (who : ℕ) (event : Event) (block : List ℕ) (answer : Answer) (new : Seen) → answer.at ≡ length old.history → answer.reply ≡ OutOfMemory → answer.handed ≡ None
    → WantsRoom old who event new → CellSteps old who event block answer new
steps_memory old who event block answer new at_is reply_is handed wants = record {
  at_is = at_is;
  reply_is = subst (λ (r : CellReply). CellReplies old who event block r new) (sym reply_is) wants;
  handed_there = ap (λ (h : Option HandedBytes). is_some h) handed ∙ ap hands_out (sym reply_is);
}

-- ---- a cell with its book

module _ (states : List DiskState) (count : ℕ) (opened : Opened) (opening : FileState) (log : LoggedReads) where
  abbrev pub with_history : List Entry → Seen
  with_history history = record { states = states; count = count; opened = opened; opening = opening; history = history; log = log }

  -- nothing but the room of the book has changed
  pub same_seen : (b b' : BookView) → IsSameBook b b' → with_history b'.history ≡ with_history b.history
  same_seen b b' same = ap with_history same.history

  pub same_cell : (b b' : BookView) (spots : List ℕ) (end : ℕ) → IsSameBook b b' → KeepsCell (with_history b.history) b.state spots end → KeepsCell (with_history b'.history) b'.state spots end
  same_cell b b' spots end same keeps =
      subst (λ (s : FileState). KeepsCell (with_history b'.history) s spots end) (sym same.state) (subst (λ (h : List Entry). KeepsCell (with_history h) b.state spots end) (sym same.history) keeps)

  module _ (b b' : BookView) (spots : List ℕ) (end who : ℕ) (event : Event) (reply : Reply) (keeps : KeepsCell (with_history b.history) b.state spots end) (own : IsOwn who (window_of event)) (quiet : IsQuietEvent event)
      (room : HasRoom (length b.history) b.state event) (reply_is : reply ≡ reply_of b.state who event) (sound : SoundNow states) (entered : HasEntered b who event reply b') where
    quiet_plain : IsPlainReply reply
    quiet_plain = subst IsPlainReply (sym reply_is) (reply_plain b.state who event (quiet_no_poll event quiet))

    pub quiet_then : KeepsCell (with_history b'.history) b'.state spots end
    quiet_then = quiet_keeps (with_history b.history) b.state spots end keeps who event reply (with_history b'.history) b'.state own quiet room reply_is (plain_kept reply quiet_plain) sound refl refl refl refl entered.history refl entered.state

    pub quiet_steps : (answer : Answer) → answer.at ≡ length b.history → answer.reply ≡ Done reply → answer.handed ≡ None → CellSteps (with_history b.history) who event [] answer (with_history b'.history)
    quiet_steps answer at_is said handed =
        steps_done (with_history b.history) who event [] answer reply (with_history b'.history) at_is said handed (plain_unhanded reply quiet_plain)
        (quiet_replies (with_history b.history) b.state spots end keeps who event reply (with_history b'.history) b'.state own quiet room reply_is (plain_kept reply quiet_plain) sound refl refl refl refl entered.history refl entered.state)

  -- memory was wanted by an event that is no poll
  pub memory_steps : (b b' : BookView) (spots : List ℕ) (end who : ℕ) (event : Event) (block : List ℕ) (answer : Answer) → KeepsCell (with_history b.history) b.state spots end → IsNoPoll event → IsSameBook b b' → 0 < needs b.state.claimed event
      → answer.at ≡ length b.history → answer.reply ≡ OutOfMemory → answer.handed ≡ None → CellSteps (with_history b.history) who event block answer (with_history b'.history)
  memory_steps b b' spots end who event block answer keeps other same unclaimed at_is said handed =
      steps_memory (with_history b.history) who event block answer (with_history b'.history) at_is said handed (record {
        same = same_seen b b' same;
        unclaimed = subst (λ (s : FileState). 0 < needs s.claimed event) keeps.state_is unclaimed;
        answers = λ waits. subst IsPlainReply waits (reply_plain (state_now (with_history b.history)) who event other);
      })

  -- ---- an event of a fill

  module _ (states' : List DiskState) (count' : ℕ) (b b1 b' : BookView) (spots : List ℕ) (end who : ℕ) (event : Event) (wanted reply : Reply) (block : List ℕ) (keeps : KeepsCell (with_history b.history) b.state spots end)
      (own : IsOwn who (window_of event)) (other : IsNoPoll event) (room : HasRoom (length b.history) b.state event) (same : IsSameBook b b1) (wanted_is : wanted ≡ reply_of b1.state who event) (comes : ComesOf wanted reply)
      (sound : SoundNow states) (brings : Brings opened event block) (device : DeviceDoes opened (spots_now (with_history b.history)) block event reply states states') (cause : HasCounted count count' reply)
      (none : ended_by (state_now (with_history b.history)) who event reply ≡ []) (entered : HasEntered b1 who event reply b') where
    fill_state : b'.state ≡ change (length b.history) b.state who event reply
    fill_state = entered.state ∙ (let h = same.history in let s = same.state in λ k. change (length (h k)) (s k) who event reply)

    fill_history : b'.history ≡ b.history ++ record { who = who; event = event; reply = reply } ∷ []
    fill_history = entered.history ∙ ap (λ (h : List Entry). h ++ record { who = who; event = event; reply = reply } ∷ []) same.history

    fill_wanted : wanted ≡ reply_of b.state who event
    fill_wanted = wanted_is ∙ ap (λ (s : FileState). reply_of s who event) same.state

    pub fill_then : (spots' : List ℕ) → length spots' ≡ length spots → ((i : ℕ) → i < entries (area_places opened.areas) → slice_index spots' i ≡ spot_then event reply (spots_now (with_history b.history)) i)
        → KeepsCell (record { states = states'; count = count'; opened = opened; opening = opening; history = b'.history; log = log }) b'.state spots' (end_then (area_places opened.areas) end event reply)
    fill_then spots' each shown =
        fill_keeps (with_history b.history) b.state spots end keeps who event wanted reply block (record { states = states'; count = count'; opened = opened; opening = opening; history = b'.history; log = log }) b'.state own other room fill_wanted comes
        sound brings device refl refl fill_history cause refl none fill_state spots' each shown

    pub fill_steps : (answer : Answer) → answer.at ≡ length b.history → answer.reply ≡ Done reply → answer.handed ≡ None
        → CellSteps (with_history b.history) who event block answer (record { states = states'; count = count'; opened = opened; opening = opening; history = b'.history; log = log })
    fill_steps answer at_is said handed =
        steps_done (with_history b.history) who event block answer reply (record { states = states'; count = count'; opened = opened; opening = opening; history = b'.history; log = log }) at_is said handed
        (fill_unhanded (with_history b.history) b.state spots end keeps who event wanted reply block (record { states = states'; count = count'; opened = opened; opening = opening; history = b'.history; log = log }) b'.state own other room fill_wanted
        comes sound brings device refl refl fill_history cause refl none fill_state)
        (fill_replies (with_history b.history) b.state spots end keeps who event wanted reply block (record { states = states'; count = count'; opened = opened; opening = opening; history = b'.history; log = log }) b'.state own other room fill_wanted
        comes sound brings device refl refl fill_history cause refl none fill_state)

-- ---- a cell that is made

spots_at : (classes : List Class) (i : ℕ) → get_or (opened_spots classes) i 0 ≡ spot_of (get_or classes i Closed)
spots_at [] i = refl
spots_at (class ∷ classes) zero = refl
spots_at (class ∷ classes) (suc i) = spots_at classes i

spots_count : (classes : List Class) → length (opened_spots classes) ≡ length classes
spots_count [] = refl
spots_count (class ∷ classes) = ap (λ n. suc n) (spots_count classes)

pub new_keeps : (states : List DiskState) (count : ℕ) (opened : Opened) (readers : ℕ) (state : FileState) (spots : List ℕ) → IsSoundOpened opened → opened.len ≤ 2 ^ 46 → Now states (IsMountedOn settled opened)
    → state ≡ opening_of opened count readers → spots ≡ opened_spots opened.classes → Tells [] (empty_log 1024) → KeepsCell (cell_on states count opened readers) state spots opened.len
new_keeps states count opened readers state spots sound short mounted state_is spots_are logged = record {
  holds = opening_holds opened readers (cell_on states count opened readers) refl refl refl sound short mounted logged;
  state_is = state_is;
  each = ap (λ (l : List ℕ). length l) spots_are ∙ spots_count opened.classes ∙ sound.layout.class_count;
  shown = λ i lt. ap (λ (l : List ℕ). get_or l i 0) spots_are ∙ spots_at opened.classes i;
}
