-- A cell after a poll.
use Rattle.std.proofs.Common.{◌≡◌, ◌⊎◌, inl, inr, ℕ, true, false, List, [], ◌∷◌, ◌++◌, length, Option, Some, None, Result, Ok, Err, refl, sym, ap, subst, ◌∙◌}
use Rattle.std.specs.Prelude.{IsOk, OnErr, is_some, slice_index}
use Rattle.std.proofs.lemmas.Bool.{true≢false}
use Rattle.std.proofs.lemmas.List.{append-nil}
use Rattle.inc_pending.specs.Keyed.{lookup}
use Rattle.inc_pending.specs.Polling.{decision_of, read_of}
use Rattle.inc_pending.specs.declared.reads.Decision.{Decision}
use Rattle.inc_pending.specs.declared.reads.Decision.TheVariants.{Stranger as no_read, Hand, TimedOut as late_decision, NotYet as waiting_decision}
use Rattle.inc_disk.specs.Disk.{DiskState, SoundNow}
use Rattle.inc_disk.proofs.Moments.{started, weaker}
use Rattle.inc_layout.specs.state.Preserves.{Preserves}
use Rattle.inc_layout.specs.declared.opened.Opened.{Opened}
use Rattle.inc_model.specs.relation.Changes.{change}
use Rattle.inc_model.specs.executed.CoreState.{MayWantMemory}
use Rattle.inc_model.specs.relation.Polling.{absent_hash, decided_reply, hand_reply}
use Rattle.inc_model.specs.relation.Step.{HasRoom, IsAllowed, IsKept}
use Rattle.inc_model.specs.relation.Table.{lists_rows, reply_of}
use Rattle.inc_model.specs.declared.words.event.Event.TheVariants.{Poll}
use Rattle.inc_model.specs.declared.words.file_state.FileState.{FileState}
use Rattle.inc_model.specs.declared.words.reply.Entry.{Entry}
use Rattle.inc_model.specs.declared.words.reply.Reply.{Reply}
use Rattle.inc_model.specs.declared.words.reply.Reply.TheVariants.{Fault, Handed, NotYet}
use Rattle.inc_readlog.specs.Log.{LoggedReads, Tells}
use Rattle.inc_readlog.specs.declared.entry.LogEntry.{LogEntry}
use Rattle.inc_cell.specs.events.Answers.{CellReplies, CellSteps, hands_out}
use Rattle.inc_cell.specs.seen.Books.{BookView, HasEntered, IsSameBook}
use Rattle.inc_cell.specs.seen.Cells.{KeepsCell}
use Rattle.inc_cell.specs.events.Ended.{ended_by, ended_poll, ended_reads}
use Rattle.inc_cell.specs.device.Handed.{HandsOf, HandsRead, IsReadFrom, block_of, is_waiting}
use Rattle.inc_cell.specs.seen.Parts.{parts_of}
use Rattle.inc_cell.specs.seen.Seen.{Seen, state_now, tells}
use Rattle.inc_cell.specs.events.Steps.{HasCounted, ReplyDoes, log_then}
use Rattle.inc_cell.specs.events.Wanted.{IsNoFault}
use Rattle.inc_cell.specs.declared.words.answer.Answer.{Answer}
use Rattle.inc_cell.specs.declared.words.answer.CellReply.{CellReply}
use Rattle.inc_cell.specs.declared.words.answer.CellReply.TheVariants.{Done}
use Rattle.inc_cell.specs.declared.words.answer.HandedBytes.{HandedBytes}
use Rattle.inc_cell.proofs.steps.BookLemmas.{own_told}
use Rattle.inc_cell.proofs.steps.CellLemmas.{cell_keeps, cell_replies, with_history}
use Rattle.inc_cell.proofs.handing.PollLemmas.{poll_allowed, poll_kept, poll_there}
use Rattle.inc_cell.proofs.handing.ReadLemmas.{holds_images}

module _ (states : List DiskState) (count : ℕ) (opened : Opened) (opening : FileState) (log : LoggedReads) where
  -- ---- a read that waits leaves nothing

  module _ (b : BookView) (spots : List ℕ) (end who serial at : ℕ) (keeps : KeepsCell (with_history states count opened opening log b.history) b.state spots end) (room : HasRoom (length b.history) b.state (Poll serial at)) where
    waits_replies : reply_of b.state who (Poll serial at) ≡ NotYet → ReplyDoes (with_history states count opened opening log b.history) who (Poll serial at) [] NotYet (with_history states count opened opening log b.history)
    waits_replies is =
        let old : Seen = with_history states count opened opening log b.history in
        record {
          step = record {
            allowed = subst (λ (s : FileState). IsAllowed (length b.history) (tells states) s who (Poll serial at) NotYet) keeps.state_is (own_told (tells states) (length b.history) b.state who (Poll serial at) NotYet tt room (sym is));
            after = refl;
          };
          history = sym (append-nil b.history);
          device = refl;
          cause = refl;
          log = refl;
          moments = weaker states states (λ image. Preserves image (parts_of (state_now old))) (λ image. Preserves image (parts_of (state_now old)) ⊎ Preserves image (parts_of (state_now old)))
              (started states (λ image. Preserves image (parts_of (state_now old))) (holds_images old end keeps.holds)) (λ image h. inl h);
          opened = refl;
          opening = refl;
        }

    waiting_is : (w : Reply) → is_waiting w ≡ true → w ≡ NotYet
    waiting_is NotYet e = refl
    waiting_is w e = absurd (cc)

    pub waits_steps : (wanted : Reply) (answer : Answer) → wanted ≡ reply_of b.state who (Poll serial at) → is_waiting wanted ≡ true → answer.at ≡ length b.history → answer.reply ≡ Done wanted → answer.handed ≡ None
        → CellSteps (with_history states count opened opening log b.history) who (Poll serial at) [] answer (with_history states count opened opening log b.history)
    waits_steps wanted answer wanted_is waits at_is said handed =
        let old : Seen = with_history states count opened opening log b.history in
        let not_yet = waiting_is wanted waits in
        let reply_is = said ∙ ap (λ (r : Reply). Done r) not_yet in
        record {
          at_is = at_is;
          reply_is = subst (λ (r : CellReply). CellReplies old who (Poll serial at) [] r old) (sym reply_is) (waits_replies (sym wanted_is ∙ not_yet));
          handed_there = ap (λ (h : Option HandedBytes). is_some h) handed ∙ ap hands_out (sym reply_is);
        }

  -- ---- an entry

  module _ (count' : ℕ) (log' : LoggedReads) (b b1 b' : BookView) (spots : List ℕ) (end who serial at : ℕ) (known : List ℕ) (wanted reply : Reply) (handed : Option HandedBytes) (block place : ℕ)
      (keeps : KeepsCell (with_history states count opened opening log b.history) b.state spots end) (room : HasRoom (length b.history) b.state (Poll serial at)) (same : IsSameBook b b1)
      (wanted_is : wanted ≡ reply_of b.state who (Poll serial at)) (waits : is_waiting wanted ≡ false) (block_is : block ≡ block_of (read_of who serial b.state.reads)) (place_is : place ≡ slice_index spots block)
      (hands : HandsOf (IsReadFrom states opened.areas block place known) wanted reply handed) (cause : HasCounted count count' reply) (sound : SoundNow states) (entered : HasEntered b1 who (Poll serial at) reply b')
      (logged : log' ≡ log_then log (ended_poll (read_of who serial b.state.reads) at reply))
      (told : (all : List LogEntry) → Tells all log → Tells (all ++ ended_poll (read_of who serial b.state.reads) at reply) log') where
    state_then : b'.state ≡ change (length b.history) b.state who (Poll serial at) reply
    state_then = entered.state ∙ (let h = same.history in let s = same.state in λ k. change (length (h k)) (s k) who (Poll serial at) reply)

    history_then : b'.history ≡ b.history ++ record { who = who; event = Poll serial at; reply = reply } ∷ []
    history_then = entered.history ∙ ap (λ (h : List Entry). h ++ record { who = who; event = Poll serial at; reply = reply } ∷ []) same.history

    ended_is : ended_poll (read_of who serial b.state.reads) at reply ≡ ended_by (state_now (with_history states count opened opening log b.history)) who (Poll serial at) reply
    ended_is = ap (λ (s : FileState). ended_poll (read_of who serial s.reads) at reply) keeps.state_is

    log_told : Tells (ended_reads 0 opening b.history ++ ended_by (state_now (with_history states count opened opening log b.history)) who (Poll serial at) reply) log'
    log_told = subst (λ (more : List LogEntry). Tells (ended_reads 0 opening b.history ++ more) log') ended_is (told (ended_reads 0 opening b.history) keeps.holds.logged)

    allowed : IsAllowed (length b.history) (tells states) (state_now (with_history states count opened opening log b.history)) who (Poll serial at) reply
    allowed = subst (λ (s : FileState). IsAllowed (length b.history) (tells states) s who (Poll serial at) reply) keeps.state_is
        (poll_allowed (with_history states count opened opening log b.history) b.state spots end keeps who serial at wanted wanted_is block place block_is place_is known reply handed count' hands cause room (tells states) (λ is. is))

    kept : IsKept reply
    kept = poll_kept (with_history states count opened opening log b.history) b.state spots end keeps who serial at wanted wanted_is block place block_is place_is (IsReadFrom states opened.areas block place known) reply handed waits hands

    pub poll_then : KeepsCell (record { states = states; count = count'; opened = opened; opening = opening; history = b'.history; log = log' }) b'.state spots end
    poll_then =
        cell_keeps (with_history states count opened opening log b.history) b.state spots end keeps who (Poll serial at) reply [] (record { states = states; count = count'; opened = opened; opening = opening; history = b'.history; log = log' })
        allowed kept sound tt refl refl refl history_then cause (logged ∙ ap (log_then log) ended_is) log_told b'.state spots state_then refl (λ i lt. keeps.shown i lt)

    pub poll_steps : (answer : Answer) → answer.at ≡ length b.history → answer.reply ≡ Done reply → answer.handed ≡ handed
        → CellSteps (with_history states count opened opening log b.history) who (Poll serial at) [] answer (record { states = states; count = count'; opened = opened; opening = opening; history = b'.history; log = log' })
    poll_steps answer at_is said given = record {
      at_is = at_is;
      reply_is = subst (λ (r : CellReply). CellReplies (with_history states count opened opening log b.history) who (Poll serial at) [] r (record { states = states; count = count'; opened = opened; opening = opening; history = b'.history; log = log' })) (sym said)
          (cell_replies (with_history states count opened opening log b.history) b.state spots end keeps who (Poll serial at) reply [] (record { states = states; count = count'; opened = opened; opening = opening; history = b'.history; log = log' })
          allowed kept sound tt refl refl refl history_then cause (logged ∙ ap (log_then log) ended_is) log_told);
      handed_there = ap (λ (h : Option HandedBytes). is_some h) given ∙ poll_there (IsReadFrom states opened.areas block place known) wanted reply handed hands ∙ ap hands_out (sym said);
    }

-- ---- a poll wants no memory where there is room

hand_rows : (hash : Option ℕ) (digest : Option (List ℕ)) → lists_rows (hand_reply hash digest) ≡ false
hand_rows (Some hash) digest = refl
hand_rows None (Some digest) = refl
hand_rows None None = refl

decided_rows : (s : FileState) (d : Decision) → lists_rows (decided_reply s d) ≡ false
decided_rows s no_read = refl
decided_rows s (Hand block) = hand_rows (absent_hash s.n s.m s.map block) (lookup block s.map)
decided_rows s (late_decision deadline) = refl
decided_rows s waiting_decision = refl

read_rows : (Reads : HandedBytes → Type 0) (reply : Reply) (handed : Option HandedBytes) → HandsRead Reads reply handed → lists_rows reply ≡ false
read_rows Reads (Handed digest) handed hands = refl
read_rows Reads (Fault count) handed hands = refl
read_rows Reads reply handed hands = absurd hands

hands_rows : (Reads : HandedBytes → Type 0) (w reply : Reply) (handed : Option HandedBytes) → lists_rows w ≡ false → HandsOf Reads w reply handed → lists_rows reply ≡ false
hands_rows Reads (Handed digest) reply handed none hands = read_rows Reads reply handed hands
hands_rows Reads w reply handed none hands = ap (λ (r : Reply). lists_rows r) hands.0 ∙ none

ok_unless : {T E : Type 0} (r : Result T E) (P : Type 0) → OnErr r P → (P → ⊥) → IsOk r
ok_unless (Ok x) P h never = refl
ok_unless (Err x) P h never = absurd (never h)

pub poll_enters : {T E : Type 0} (r : Result T E) (s : FileState) (who serial at room : ℕ) (Reads : HandedBytes → Type 0) (wanted reply : Reply) (handed : Option HandedBytes) → wanted ≡ reply_of s who (Poll serial at) → HandsOf Reads wanted reply handed
    → OnErr r ((lists_rows reply ≡ true) ⊎ MayWantMemory (Poll serial at) room) → IsOk r
poll_enters r s who serial at room Reads wanted reply handed wanted_is hands memory =
    let none = hands_rows Reads wanted reply handed (ap (λ (w : Reply). lists_rows w) wanted_is ∙ decided_rows s (decision_of (read_of who serial s.reads) at)) hands in
    ok_unless r ((lists_rows reply ≡ true) ⊎ MayWantMemory (Poll serial at) room) memory (λ h. elim h [ inl rows ↦ true≢false (sym rows ∙ none) | inr wants ↦ wants ])

-- ---- the table gives a poll no fault

hand_plain : (hash : Option ℕ) (digest : Option (List ℕ)) → IsNoFault (hand_reply hash digest)
hand_plain (Some hash) digest = tt
hand_plain None (Some digest) = tt
hand_plain None None = tt

decided_plain : (s : FileState) (d : Decision) → IsNoFault (decided_reply s d)
decided_plain s no_read = tt
decided_plain s (Hand block) = hand_plain (absent_hash s.n s.m s.map block) (lookup block s.map)
decided_plain s (late_decision deadline) = tt
decided_plain s waiting_decision = tt

pub poll_plain : (s : FileState) (who serial at : ℕ) (wanted : Reply) → wanted ≡ reply_of s who (Poll serial at) → IsNoFault wanted
poll_plain s who serial at wanted is = subst IsNoFault (sym is) (decided_plain s (decision_of (read_of who serial s.reads) at))
