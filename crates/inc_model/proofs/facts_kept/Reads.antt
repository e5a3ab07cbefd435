-- The facts of a file are kept by the events of readers and of the session.
use Rattle.std.proofs.Common.{◌≡◌, ℕ, suc, ◌+◌, ◌<◌, ◌≤◌, Bool, true, false, not, cond, eqb, ltb, leb, List, [], ◌∷◌, ◌++◌, length, Option, Some, None, refl, sym, ap, ◌∙◌, arith}
use Rattle.std.specs.Prelude.{is_some, filter}
use Rattle.std.proofs.lemmas.Bool.{leb-false, ltb-true, eqb-true, eqb-false}
use Rattle.std.proofs.lemmas.List.Elements.{All-push, All-filter}
use Rattle.std.proofs.lemmas.List.Quantifiers.{all_pairs_push}
use Rattle.std.proofs.lemmas.List.Kept.{AllPairs-filter}
use Rattle.inc_pending.specs.Keyed.{lookup, insert, KeysRise}
use Rattle.inc_pending.specs.Times.{times_of, HoldsTimes}
use Rattle.inc_pending.specs.Polling.{asked_row, is_asked}
use Rattle.inc_pending.specs.declared.reads.ReadRow.{ReadRow}
use Rattle.inc_pending.specs.declared.timeouts.Times.{Times}
use Rattle.inc_pending.proofs.KeyedLemmas.{rise_insert, lookup_lacks}
use Rattle.inc_model.specs.declared.words.file_state.FileState.{FileState}
use Rattle.inc_model.specs.declared.words.reply.Reply.{Reply}
use Rattle.inc_model.specs.declared.words.reply.Reply.TheVariants.{Asked, NoPath, Handed, TimedOut, Fault, Cancelled, TimesSet, Left}
use Rattle.inc_model.specs.relation.State.{is_in}
use Rattle.inc_model.specs.relation.Table.{ask_reply, times_reply}
use Rattle.inc_model.specs.relation.Changes.{with_read, without_read, with_faults, ask_change, poll_change, cancel_change, times_change, leave_change}
use Rattle.inc_model.specs.relation.Step.{Fits}
use Rattle.inc_model.specs.relation.Facts.{FileFacts, MoreFacts}
use Rattle.inc_model.proofs.facts_kept.Groups.{within_reads, holding_times}
use Rattle.inc_model.proofs.lists.Sets.{pairs_tail}

-- ---- asking

asked_by : (past damaged compressed : Bool) (next serial : ℕ) → ask_reply past damaged compressed next ≡ Asked serial → past ≡ false
asked_by true damaged compressed next serial e = absurd (cc)
asked_by false damaged compressed next serial e = refl

asked_facts : (first s : FileState) (who block uid at : ℕ) → FileFacts first s → FileFacts first (with_read s who block uid at)
asked_facts first s who block uid at f =
    let row = asked_row s.next who block (is_in block s.map) uid at (times_of uid s.times) in
    record {
      read = record {
        done = All-push (λ (r : ReadRow). r.done ≡ is_in r.block s.map) s.reads row f.read.done refl;
        rising = all_pairs_push (λ (a : ReadRow) (b : ReadRow). a.serial < b.serial) s.reads row f.read.rising (λ k d lt. f.read.below k d lt);
        below = All-push (λ (r : ReadRow). r.serial < s.next + 1) s.reads row (λ k d lt. let below = f.read.below k d lt in omega arith) (omega arith);
      };
      opened = f.opened;
      flying = f.flying;
    }

asked_more : (first s : FileState) (who block uid at : ℕ) → block < s.n → MoreFacts first s → MoreFacts first (with_read s who block uid at)
asked_more first s who block uid at inside m =
    let row = asked_row s.next who block (is_in block s.map) uid at (times_of uid s.times) in
    record {
      same = m.same;
      fills = m.fills;
      lists = m.lists;
      indices = within_reads m.indices (s.reads ++ row ∷ []) (All-push (λ (r : ReadRow). r.block < s.n) s.reads row m.indices.reads_within inside);
      claims = m.claims;
      kept = m.kept;
      apart = m.apart;
    }

pub ask_stays : (first s : FileState) (who block uid at : ℕ) (reply : Reply) → FileFacts first s → FileFacts first (ask_change s who block uid at reply)
ask_stays first s who block uid at (Asked serial) f = asked_facts first s who block uid at f
ask_stays first s who block uid at reply f = f

pub ask_more : (first s : FileState) (told : Bool) (who block uid at : ℕ) (damaged compressed : Bool) (reply : Reply) → Fits told s.faults (ask_reply (leb s.n block) damaged compressed s.next) reply → MoreFacts first s → MoreFacts first (ask_change s who block uid at reply)
ask_more first s told who block uid at damaged compressed (Asked serial) h m =
    let inside = leb-false s.n block (asked_by (leb s.n block) damaged compressed s.next serial h) in
    asked_more first s who block uid at inside m
ask_more first s told who block uid at damaged compressed reply h m = m

-- ---- polling and cancelling

without_facts : (first s : FileState) (who serial : ℕ) → FileFacts first s → FileFacts first (without_read who serial s)
without_facts first s who serial f =
    let others : ReadRow → Bool = λ row. not (is_asked who serial row) in
    record {
      read = record {
        done = All-filter others (λ (r : ReadRow). r.done ≡ is_in r.block s.map) s.reads f.read.done;
        rising = AllPairs-filter (λ (a : ReadRow) (b : ReadRow). a.serial < b.serial) others s.reads f.read.rising;
        below = All-filter others (λ (r : ReadRow). r.serial < s.next) s.reads f.read.below;
      };
      opened = f.opened;
      flying = f.flying;
    }

without_more : (first s : FileState) (who serial : ℕ) → MoreFacts first s → MoreFacts first (without_read who serial s)
without_more first s who serial m =
    let others : ReadRow → Bool = λ row. not (is_asked who serial row) in
    record {
      same = m.same;
      fills = m.fills;
      lists = m.lists;
      indices = within_reads m.indices (filter others s.reads) (All-filter others (λ (r : ReadRow). r.block < s.n) s.reads m.indices.reads_within);
      claims = m.claims;
      kept = m.kept;
      apart = m.apart;
    }

counted_facts : (first s : FileState) (count : ℕ) → FileFacts first s → FileFacts first (with_faults count s)
counted_facts first s count f = record { read = f.read; opened = f.opened; flying = f.flying }

counted_more : (first s : FileState) (count : ℕ) → MoreFacts first s → MoreFacts first (with_faults count s)
counted_more first s count m = record { same = m.same; fills = m.fills; lists = m.lists; indices = m.indices; claims = m.claims; kept = m.kept; apart = m.apart }

pub poll_stays : (first s : FileState) (who serial : ℕ) (reply : Reply) → FileFacts first s → FileFacts first (poll_change s who serial reply)
poll_stays first s who serial (NoPath hash) f = without_facts first s who serial f
poll_stays first s who serial (Handed digest) f = without_facts first s who serial f
poll_stays first s who serial (TimedOut deadline) f = without_facts first s who serial f
poll_stays first s who serial (Fault count) f = counted_facts first s count f
poll_stays first s who serial reply f = f

pub poll_more : (first s : FileState) (who serial : ℕ) (reply : Reply) → MoreFacts first s → MoreFacts first (poll_change s who serial reply)
poll_more first s who serial (NoPath hash) m = without_more first s who serial m
poll_more first s who serial (Handed digest) m = without_more first s who serial m
poll_more first s who serial (TimedOut deadline) m = without_more first s who serial m
poll_more first s who serial (Fault count) m = counted_more first s count m
poll_more first s who serial reply m = m

pub cancel_stays : (first s : FileState) (who serial : ℕ) (reply : Reply) → FileFacts first s → FileFacts first (cancel_change s who serial reply)
cancel_stays first s who serial Cancelled f = without_facts first s who serial f
cancel_stays first s who serial reply f = f

pub cancel_more : (first s : FileState) (who serial : ℕ) (reply : Reply) → MoreFacts first s → MoreFacts first (cancel_change s who serial reply)
cancel_more first s who serial Cancelled m = without_more first s who serial m
cancel_more first s who serial reply m = m

-- ---- times and leaving

set_by : (full known : Bool) → times_reply full known ≡ TimesSet → (full ≡ true → known ≡ true)
set_by true true e t = refl
set_by true false e t = absurd (cc)
set_by false known e t = absurd (cc)

-- a new row where there are fewer than 256, and none more where the user has one
length_insert : (uid : ℕ) (times : Times) (rows : List (ℕ × Times)) → length (insert uid times rows) ≤ length rows + 1
length_insert uid times [] = omega arith
length_insert uid times (row ∷ rows) = step (ltb uid row.0) (eqb uid row.0) (length_insert uid times rows)
  where
    step : (b c : Bool) → length (insert uid times rows) ≤ length rows + 1 → length (cond b ((uid, times) ∷ row ∷ rows) (cond c ((uid, times) ∷ rows) (row ∷ insert uid times rows))) ≤ length (row ∷ rows) + 1
    step true c h = omega arith
    step false true h = omega arith
    step false false h = omega arith

length_known : (uid : ℕ) (times : Times) (rows : List (ℕ × Times)) → KeysRise rows → is_in uid rows ≡ true → length (insert uid times rows) ≡ length rows
length_known uid times [] rise e = absurd (cc)
length_known uid times (row ∷ rows) rise e =
    let later = pairs_tail (λ (a : ℕ × Times) (b : ℕ × Times). a.0 < b.0) row rows rise in
    step (ltb uid row.0) (eqb uid row.0) refl refl (λ t. lookup_lacks (row ∷ rows) 0 uid rise (record { within = omega arith; below = λ k d lt. absurd (omega arith); above = λ d lt. ltb-true uid row.0 t }))
    (λ h. length_known uid times rows later h) e
  where
    step : (b c : Bool) → ltb uid row.0 ≡ b → eqb uid row.0 ≡ c → (ltb uid row.0 ≡ true → lookup uid (row ∷ rows) ≡ None) → (is_in uid rows ≡ true → length (insert uid times rows) ≡ length rows) → is_some (cond c (Some row.1) (lookup uid rows)) ≡ true → length (cond b ((uid, times) ∷ row ∷ rows) (cond c ((uid, times) ∷ rows) (row ∷ insert uid times rows))) ≡ length (row ∷ rows)
    step true true t u none rest e = let lt = ltb-true uid row.0 t in let same = eqb-true uid row.0 u in absurd (omega arith)
    step true false t u none rest e = let gone : lookup uid rows ≡ None = sym (ap (λ (c : Bool). cond c (Some row.1) (lookup uid rows)) u) ∙ none t in let no = ap (λ (found : Option Times). is_some found) gone in absurd (cc)
    step false true t u none rest e = refl
    step false false t u none rest e = ap suc (rest e)

times_hold : (uid : ℕ) (times : Times) (rows : List (ℕ × Times)) → HoldsTimes rows → (eqb (length rows) 256 ≡ true → is_in uid rows ≡ true) → HoldsTimes (insert uid times rows)
times_hold uid times rows h known = record { rise = rise_insert uid times rows h.rise; few = step (eqb (length rows) 256) refl }
  where
    step : (b : Bool) → eqb (length rows) 256 ≡ b → length (insert uid times rows) ≤ 256
    step true t = let few = h.few in omega (arith, length_known uid times rows h.rise (known t))
    step false f = let few = h.few in let ne = eqb-false (length rows) 256 f in omega (arith, length_insert uid times rows)

set_facts : (first s : FileState) (uid : ℕ) (times : Times) → FileFacts first s → FileFacts first (record s { times = insert uid times s.times })
set_facts first s uid times f = record { read = f.read; opened = f.opened; flying = f.flying }

set_more : (first s : FileState) (uid : ℕ) (times : Times) → HoldsTimes (insert uid times s.times) → MoreFacts first s → MoreFacts first (record s { times = insert uid times s.times })
set_more first s uid times h m = record { same = m.same; fills = m.fills; lists = holding_times m.lists (insert uid times s.times) h; indices = m.indices; claims = m.claims; kept = m.kept; apart = m.apart }

pub times_stays : (first s : FileState) (uid : ℕ) (times : Times) (reply : Reply) → FileFacts first s → FileFacts first (times_change s uid times reply)
times_stays first s uid times TimesSet f = set_facts first s uid times f
times_stays first s uid times reply f = f

pub times_more : (first s : FileState) (told : Bool) (uid : ℕ) (times : Times) (reply : Reply) → Fits told s.faults (times_reply (eqb (length s.times) 256) (is_in uid s.times)) reply → MoreFacts first s → MoreFacts first (times_change s uid times reply)
times_more first s told uid times TimesSet h m = set_more first s uid times (times_hold uid times s.times m.lists.times_hold (set_by (eqb (length s.times) 256) (is_in uid s.times) h)) m
times_more first s told uid times reply h m = m

left_facts : (first s : FileState) (readers : ℕ) → FileFacts first s → FileFacts first (record s { readers = readers })
left_facts first s readers f = record { read = f.read; opened = f.opened; flying = f.flying }

left_more : (first s : FileState) (readers : ℕ) → MoreFacts first s → MoreFacts first (record s { readers = readers })
left_more first s readers m = record { same = m.same; fills = m.fills; lists = m.lists; indices = m.indices; claims = m.claims; kept = m.kept; apart = m.apart }

pub leave_stays : (first s : FileState) (reply : Reply) → FileFacts first s → FileFacts first (leave_change s reply)
leave_stays first s (Left readers) f = left_facts first s readers f
leave_stays first s reply f = f

pub leave_more : (first s : FileState) (reply : Reply) → MoreFacts first s → MoreFacts first (leave_change s reply)
leave_more first s (Left readers) m = left_more first s readers m
leave_more first s reply m = m
