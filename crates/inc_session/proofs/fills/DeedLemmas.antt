-- Deeds after deeds: of each file its own entries, and what is told, put and counted of them all.
use Rattle.std.proofs.Common.{◌≡◌, ℕ, suc, ◌+◌, ◌≤◌, Bool, true, false, cond, eqb, List, [], ◌∷◌, ◌++◌, length, Option, Some, refl, sym, ap, subst, ◌∙◌, arith, append_assoc}
use Rattle.std.specs.Prelude.{map}
use Rattle.std.proofs.lemmas.Bool.{eq-eqb, ne_eqb}
use Rattle.std.proofs.lemmas.List.{map-append}
use Rattle.inc_pending.specs.declared.pending_record.PendingRecord.{PendingRecord}
use Rattle.inc_loader.specs.declared.loader_file.LoaderFile.{LoaderFile}
use Rattle.inc_loader.specs.declared.mark.PieceMark.{PieceMark}
use Rattle.inc_model.specs.declared.words.event.Event.{Event}
use Rattle.inc_model.specs.declared.words.event.Event.TheVariants.{Claim, Gate, PutData, PutPlace, Release, Settle}
use Rattle.inc_model.specs.declared.words.reply.Entry.{Entry}
use Rattle.inc_model.specs.declared.words.reply.Reply.{Reply}
use Rattle.inc_filling.specs.Grouped.{puts_among}
use Rattle.inc_filling.specs.Stands.{events_of}
use Rattle.inc_session.specs.DeedFills.{AreFillEntries, IsFillEntry, claimed_by, reply_count}
use Rattle.inc_session.specs.Deeds.{EachOf, AsksAfter, AsksOnward, Deed, IsFillEvent, PutTarget, PutsAre, claimed_in, count_replies, deeds_of, entries_at, is_take, places_of_claim, puts_in, reads_taken, readers_in, readers_left, records_in, serial_after, serial_of, takes_in, put_target_in, put_target_of}

-- ---- of each file

pub entries_both : (k : ℕ) (first second : List Deed) → entries_at k (first ++ second) ≡ entries_at k first ++ entries_at k second
entries_both k [] second = refl
entries_both k (deed ∷ first) second = step (entries_both k first second) (eqb deed.file k)
  where
    step : entries_at k (first ++ second) ≡ entries_at k first ++ entries_at k second → (b : Bool) → cond b (deed.entry ∷ entries_at k (first ++ second)) (entries_at k (first ++ second)) ≡ cond b (deed.entry ∷ entries_at k first) (entries_at k first) ++ entries_at k second
    step h true = ap (λ (l : List Entry). deed.entry ∷ l) h
    step h false = h

pub entries_own : (k : ℕ) (entries : List Entry) → entries_at k (deeds_of k entries) ≡ entries
entries_own k [] = refl
entries_own k (entry ∷ entries) = rw (eq-eqb k k refl) (ap (λ (l : List Entry). entry ∷ l) (entries_own k entries))

pub entries_other : (j k : ℕ) (entries : List Entry) → (k ≡ j → ⊥) → entries_at j (deeds_of k entries) ≡ []
entries_other j k [] ne = refl
entries_other j k (entry ∷ entries) ne = rw (ne_eqb k j ne) (entries_other j k entries ne)

pub length_of_deeds : (k : ℕ) (entries : List Entry) → length (deeds_of k entries) ≡ length entries
length_of_deeds k [] = refl
length_of_deeds k (entry ∷ entries) = ap suc (length_of_deeds k entries)

pub fewer_at : (k : ℕ) (deeds : List Deed) → length (entries_at k deeds) ≤ length deeds
fewer_at k [] = omega arith
fewer_at k (deed ∷ deeds) = step (fewer_at k deeds) (eqb deed.file k)
  where
    step : length (entries_at k deeds) ≤ length deeds → (b : Bool) → length (cond b (deed.entry ∷ entries_at k deeds) (entries_at k deeds)) ≤ suc (length deeds)
    step h true = omega arith
    step h false = omega arith

-- ---- what is said of all of them

pub all_deeds : (P : Entry → Type 0) (k : ℕ) (entries : List Entry) → EachOf P entries → EachOf (λ (deed : Deed). P deed.entry) (deeds_of k entries)
all_deeds P k [] h = tt
all_deeds P k (entry ∷ entries) h = (h.0, all_deeds P k entries h.1)

pub all_at : (P : Entry → Type 0) (k : ℕ) (deeds : List Deed) → EachOf (λ (deed : Deed). P deed.entry) deeds → EachOf P (entries_at k deeds)
all_at P k [] h = tt
all_at P k (deed ∷ deeds) h = step (all_at P k deeds h.1) (eqb deed.file k)
  where
    step : EachOf P (entries_at k deeds) → (b : Bool) → EachOf P (cond b (deed.entry ∷ entries_at k deeds) (entries_at k deeds))
    step rest true = (h.0, rest)
    step rest false = rest

pub reads_both : (first second : List Deed) → reads_taken (first ++ second) ≡ reads_taken first ++ reads_taken second
reads_both [] second = refl
reads_both (deed ∷ first) second = ap (λ (l : List PendingRecord). records_in deed.entry.reply ++ l) (reads_both first second) ∙ sym (append_assoc (records_in deed.entry.reply) (reads_taken first) (reads_taken second))

pub puts_in_both : (first second : List Deed) → puts_in (first ++ second) ≡ puts_in first ++ puts_in second
puts_in_both [] second = refl
puts_in_both (deed ∷ first) second = ap (λ (l : List PutTarget). put_target_in deed.file deed.entry.event ++ l) (puts_in_both first second) ∙ sym (append_assoc (put_target_in deed.file deed.entry.event) (puts_in first) (puts_in second))

pub counts_both : (test : Reply → Bool) (first second : List Deed) → count_replies test (first ++ second) ≡ count_replies test first + count_replies test second
counts_both test [] second = omega arith
counts_both test (deed ∷ first) second = step (counts_both test first second) (test deed.entry.reply)
  where
    step : count_replies test (first ++ second) ≡ count_replies test first + count_replies test second → (b : Bool) → cond b (count_replies test (first ++ second) + 1) (count_replies test (first ++ second)) ≡ cond b (count_replies test first + 1) (count_replies test first) + count_replies test second
    step h true = omega arith
    step h false = omega arith

pub claimed_both : (first second : List Deed) → claimed_in (first ++ second) ≡ claimed_in first + claimed_in second
claimed_both [] second = omega arith
claimed_both (deed ∷ first) second = let h = claimed_both first second in omega arith

pub count_of_deeds : (test : Reply → Bool) (k : ℕ) (entries : List Entry) → count_replies test (deeds_of k entries) ≡ reply_count test entries
count_of_deeds test k [] = refl
count_of_deeds test k (entry ∷ entries) = ap (λ (n : ℕ). cond (test entry.reply) (n + 1) n) (count_of_deeds test k entries)

pub claimed_of_deeds : (k : ℕ) (entries : List Entry) → claimed_in (deeds_of k entries) ≡ claimed_by entries
claimed_of_deeds k [] = refl
claimed_of_deeds k (entry ∷ entries) = ap (λ (n : ℕ). places_of_claim entry.event + n) (claimed_of_deeds k entries)

-- a put of the file with this number
abbrev pub target_at : ℕ → ℕ × List ℕ → PutTarget
target_at k put = record { file = k; index = put.0; digest = put.1 }

put_one : (k : ℕ) (event : Event) (events : List Event) → map (target_at k) (puts_among (event ∷ events)) ≡ put_target_in k event ++ map (target_at k) (puts_among events)
put_one k (PutData window index digest) events = refl
put_one k event events = refl

pub puts_of_deeds : (k : ℕ) (entries : List Entry) → puts_in (deeds_of k entries) ≡ map (target_at k) (puts_among (events_of entries))
puts_of_deeds k [] = refl
puts_of_deeds k (entry ∷ entries) = ap (λ (l : List PutTarget). put_target_in k entry.event ++ l) (puts_of_deeds k entries) ∙ sym (put_one k entry.event (events_of entries))

pub puts_are_both : (files : List LoaderFile) (first second : List PieceMark) (a b : List Deed) → PutsAre files first a → PutsAre files second b → PutsAre files (first ++ second) (a ++ b)
puts_are_both files first second a b h k =
    ap (map Some) (puts_in_both a b)
    ∙ map-append (λ (t : PutTarget). Some t) (puts_in a) (puts_in b)
    ∙ ap (λ (l : List (Option PutTarget)). l ++ map Some (puts_in b)) h
    ∙ ap (λ (l : List (Option PutTarget)). map (put_target_of files) first ++ l) k
    ∙ sym (map-append (put_target_of files) first second)

-- ---- entries of fills take no reads

no_take : (event : Event) → IsFillEvent event → is_take event ≡ false
no_take (Claim window places) h = refl
no_take (PutData window index digest) h = refl
no_take (PutPlace window index) h = refl
no_take (Settle window) h = refl
no_take (Gate window index) h = refl
no_take (Release window) h = refl
no_take event h = absurd h

no_ask : (serial : ℕ) (event : Event) → IsFillEvent event → AsksAfter serial event
no_ask serial (Claim window places) h = tt
no_ask serial (PutData window index digest) h = tt
no_ask serial (PutPlace window index) h = tt
no_ask serial (Settle window) h = tt
no_ask serial (Gate window index) h = tt
no_ask serial (Release window) h = tt
no_ask serial event h = absurd h

pub fill_serial : (serial : ℕ) (entries : List Entry) → AreFillEntries entries → serial_of serial entries ≡ serial
fill_serial serial [] h = refl
fill_serial serial (entry ∷ entries) h = ap (λ (l : List PendingRecord). serial_of (serial_after serial l) entries) h.0.no_reads ∙ fill_serial serial entries h.1

pub fill_asks : (serial : ℕ) (entries : List Entry) → AreFillEntries entries → AsksOnward serial entries
fill_asks serial [] h = tt
fill_asks serial (entry ∷ entries) h =
    (no_ask serial entry.event h.0.event_is, subst (λ (l : List PendingRecord). AsksOnward (serial_after serial l) entries) (sym h.0.no_reads) (fill_asks serial entries h.1))

pub fill_takes : (entries : List Entry) → AreFillEntries entries → takes_in entries ≡ 0
fill_takes [] h = refl
fill_takes (entry ∷ entries) h = ap (λ b. cond b (takes_in entries + 1) (takes_in entries)) (no_take entry.event h.0.event_is) ∙ fill_takes entries h.1

pub fill_readers : (before : Option ℕ) (entries : List Entry) → AreFillEntries entries → readers_left before entries ≡ before
fill_readers before [] h = refl
fill_readers before (entry ∷ entries) h = ap (λ (r : Option ℕ). readers_left r entries) (h.0.no_readers before) ∙ fill_readers before entries h.1

pub fill_reads : (deeds : List Deed) → EachOf (λ (deed : Deed). IsFillEntry deed.entry) deeds → reads_taken deeds ≡ []
fill_reads [] h = refl
fill_reads (deed ∷ deeds) h = ap (λ (l : List PendingRecord). l ++ reads_taken deeds) h.0.no_reads ∙ fill_reads deeds h.1

-- ---- entries after entries

pub serial_both : (serial : ℕ) (first second : List Entry) → serial_of serial (first ++ second) ≡ serial_of (serial_of serial first) second
serial_both serial [] second = refl
serial_both serial (entry ∷ first) second = serial_both (serial_after serial (records_in entry.reply)) first second

pub asks_both : (serial : ℕ) (first second : List Entry) → AsksOnward serial first → AsksOnward (serial_of serial first) second → AsksOnward serial (first ++ second)
asks_both serial [] second h k = k
asks_both serial (entry ∷ first) second h k = (h.0, asks_both (serial_after serial (records_in entry.reply)) first second h.1 k)

pub takes_both : (first second : List Entry) → takes_in (first ++ second) ≡ takes_in first + takes_in second
takes_both [] second = omega arith
takes_both (entry ∷ first) second = step (takes_both first second) (is_take entry.event)
  where
    step : takes_in (first ++ second) ≡ takes_in first + takes_in second → (b : Bool) → cond b (takes_in (first ++ second) + 1) (takes_in (first ++ second)) ≡ cond b (takes_in first + 1) (takes_in first) + takes_in second
    step h true = omega arith
    step h false = omega arith

pub readers_both : (before : Option ℕ) (first second : List Entry) → readers_left before (first ++ second) ≡ readers_left (readers_left before first) second
readers_both before [] second = refl
readers_both before (entry ∷ first) second = readers_both (readers_in before entry.reply) first second
