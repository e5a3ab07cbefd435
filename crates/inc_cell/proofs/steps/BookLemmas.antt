-- The book of a file as it is opened, and after each entry.
use Rattle.std.proofs.Common.{◌≡◌, ◌⊎◌, inl, inr, Bool, true, false, ℕ, suc, ◌+◌, ◌<◌, ◌≤◌, ◌^◌, cond, List, [], ◌∷◌, ◌++◌, length, get_or, drop, drop-cons, Option, Some, None, refl, sym, ap, subst, ◌∙◌, arith, length-append}
use Rattle.std.proofs.lemmas.Bool.{cases_lt, true≢false}
use Rattle.inc_pending.specs.Keyed.{lookup}
use Rattle.inc_tree.specs.shape.Geometry.{data_blocks, hash_blocks}
use Rattle.inc_layout.specs.Backing.{sig_root}
use Rattle.inc_layout.specs.opening.Opening.{IsSoundOpened}
use Rattle.inc_entry.specs.declared.classes.Class.{Class}
use Rattle.inc_layout.specs.state.Reopening.{indices_passing, rows_of}
use Rattle.inc_layout.specs.declared.opened.Opened.{Opened}
use Rattle.inc_model.specs.relation.Changes.{change, window_of}
use Rattle.inc_model.specs.executed.CoreFacts.{IsHeld}
use Rattle.inc_model.specs.executed.CoreState.{MayBegin, MayWantMemory}
use Rattle.inc_model.specs.executed.IndexLists.{HasNoOther, IndexLists, opening_over}
use Rattle.inc_model.specs.executed.EntriesLeft.{IsWithoutDevice}
use Rattle.inc_model.specs.executed.SlotRows.{digest_rows, opened_lists, rows_from}
use Rattle.inc_model.specs.relation.State.{Claims, Digests, all_places}
use Rattle.inc_model.specs.relation.Step.{Agrees, Fits, HasRoom, IsAllowed, IsOwn, needs}
use Rattle.inc_model.specs.relation.Table.{has_list, lists_rows, reply_of}
use Rattle.inc_model.specs.declared.words.event.Event.{Event}
use Rattle.inc_model.specs.declared.words.event.Event.TheVariants.{Ask, Poll, Cancel, Claim, PutData, PutPlace, Settle, Gate, Release, TakePending, SetTimes, Ranges, Count, Leave}
use Rattle.inc_model.specs.declared.words.reply.Entry.{Entry}
use Rattle.inc_model.specs.declared.words.reply.Reply.{Reply}
use Rattle.inc_model.specs.declared.words.reply.Reply.TheVariants.{Fault, Handed}
use Rattle.inc_model.specs.declared.words.file_state.FileState.{FileState}
use Rattle.inc_pending.specs.declared.reads.ReadRow.{ReadRow}
use Rattle.inc_model.proofs.executed.OwnReplies.{own_allowed, plain_own}
use Rattle.inc_model.proofs.executed.Room.{no_list, no_rows, some_claimed, wants_none}
use Rattle.inc_model.proofs.facts_kept.Core.{held_after}
use Rattle.inc_model.proofs.facts_kept.Step.{places_after}
use Rattle.inc_model.proofs.lists.Sets.{pairs_none}
use Rattle.inc_cell.specs.seen.Books.{KeepsBook}
use Rattle.inc_cell.specs.seen.Parts.{lists_of, opening_of}
use Rattle.inc_cell.specs.events.Quiet.{IsQuietEvent}
use Rattle.inc_cell.proofs.openings.OpeningLemmas.{are_lists}

-- the rows of the digests that are there, told in two ways
same_rows : (first : ℕ) (digests : List (Option (List ℕ))) → rows_from (λ (d : Option (List ℕ)). d) first digests ≡ rows_of first digests
unfolding rows_from
same_rows first [] = refl
same_rows first (Some digest ∷ digests) = let e : first + 1 ≡ suc first = omega arith in ap (λ (rest : Digests). (first, digest) ∷ rest) (ap (λ k. rows_from (λ (d : Option (List ℕ)). d) k digests) e ∙ same_rows (suc first) digests)
same_rows first (None ∷ digests) = let e : first + 1 ≡ suc first = omega arith in ap (λ k. rows_from (λ (d : Option (List ℕ)). d) k digests) e ∙ same_rows (suc first) digests

few_rows : (first : ℕ) (digests : List (Option (List ℕ))) → length (rows_of first digests) ≤ length digests
few_rows first [] = omega arith
few_rows first (Some digest ∷ digests) = let le = few_rows (suc first) digests in omega arith
few_rows first (None ∷ digests) = let le = few_rows (suc first) digests in omega arith

pub book_opening : (opened : Opened) (faults readers n m : ℕ) (slots : IndexLists) (state : FileState) (id : List ℕ) (root : Option (List ℕ)) (damaged compressed : List ℕ)
    → state ≡ opening_over id root slots damaged compressed faults readers → slots ≡ opened_lists n m (digest_rows opened.digests)
    → id ≡ opened.header.id → root ≡ sig_root opened.sig → n ≡ data_blocks opened.areas.geometry → m ≡ hash_blocks opened.areas.geometry → damaged ≡ (lists_of opened).damaged → compressed ≡ (lists_of opened).compressed
    → state ≡ opening_of opened faults readers
book_opening opened faults readers n m slots state id root damaged compressed state_is slots_are id_is root_is n_is m_is damaged_are compressed_are =
    state_is ∙ (λ k. opening_over (id_is k) (root_is k) (slots_are k) (damaged_are k) (compressed_are k) faults readers)
    ∙ (λ k. opening_over opened.header.id (sig_root opened.sig) (opened_lists (n_is k) (m_is k) (same_rows 0 opened.digests k)) (lists_of opened).damaged (lists_of opened).compressed faults readers)

pub opening_held : (opened : Opened) (faults readers : ℕ) → IsSoundOpened opened → data_blocks opened.areas.geometry ≤ 2 ^ 22 → hash_blocks opened.areas.geometry ≤ 33027 → IsHeld 0 (opening_of opened faults readers)
opening_held opened faults readers sound small tree =
    let lists = are_lists opened sound in
    let few = few_rows 0 opened.digests in
    let each = sound.digests.count in
    let count = sound.layout.class_count in
    record {
      small = omega arith;
      total = omega arith;
      rising = pairs_none (λ (a b : ReadRow). a.serial < b.serial);
      within = λ k d lt. absurd (omega arith);
      below = λ k d lt. absurd (omega arith);
      waiting = omega arith;
      serials = omega arith;
      there = omega arith;
      limit = omega arith;
      damaged_rises = lists.damaged_rises;
      compressed_rises = lists.compressed_rises;
      flying = λ k d lt. absurd (omega arith);
    }

pub book_keeps : (who : ℕ) (event : Event) (reply : Reply) (state state' : FileState) (history : List Entry) (room room' : ℕ) → KeepsBook state history room → IsAllowed (length history) false state who event reply
    → state' ≡ change (length history) state who event reply → all_places state.claimed + needs state.claimed event ≤ room → room ≤ room' + 1 → KeepsBook state' (history ++ record { who = who; event = event; reply = reply } ∷ []) room'
book_keeps who event reply state state' history room room' keeps allowed is ready less =
    let entry : Entry = record { who = who; event = event; reply = reply } in
    let longer : length history + 1 ≡ length (history ++ entry ∷ []) = (let e = length-append history (entry ∷ []) in omega arith) in
    let held = held_after false (length history) state who event reply allowed keeps.held in
    let le = places_after state.claimed event reply in
    subst (λ (s : FileState). KeepsBook s (history ++ entry ∷ []) room') (sym is) (record {
      held = subst (λ k. IsHeld k (change (length history) state who event reply)) longer held;
      places = omega arith;
    })

-- ---- want of memory

none_is : (n : ℕ) → n ≤ 0 → n ≡ 0
none_is n le = omega arith

-- an event whose reply owns a list needs a place of its own
pub list_needs : (claimed : Claims) (event : Event) → has_list event ≡ true → 0 < needs claimed event
list_needs claimed event list = elim (cases_lt 0 (needs claimed event)) [
  | inl some ↦ some
  | inr le ↦ absurd (true≢false (sym list ∙ no_list claimed event (none_is (needs claimed event) le)))
]

-- and so does each event that wants memory where there is room
pub wants_place : (s : FileState) (who : ℕ) (event : Event) (reply : Reply) (room : ℕ) → reply ≡ reply_of s who event → all_places s.claimed + needs s.claimed event ≤ room → (lists_rows reply ≡ true) ⊎ MayWantMemory event room → 0 < needs s.claimed event
wants_place s who event reply room is ready wants = elim (cases_lt 0 (needs s.claimed event)) [
  | inl some ↦ some
  | inr le ↦
      let none = none_is (needs s.claimed event) le in
      let claimed = some_claimed s.claimed event none in
      absurd (elim wants [
        | inl rows ↦ true≢false (sym rows ∙ ap (λ (r : Reply). lists_rows r) is ∙ no_rows s who event none)
        | inr memory ↦ wants_none s.claimed event room none (omega arith) memory
      ])
]

-- ---- an event for which no device is called

pub told_fits : (told : Bool) (wanted reply : Reply) → Agrees true wanted reply → Agrees told wanted reply
told_fits told wanted (Handed digest) agrees = handed wanted agrees
  where
    handed : (w : Reply) → Agrees true w (Handed digest) → Agrees told w (Handed digest)
    handed (Handed other) same = λ is. same refl
    handed w wrong = absurd wrong
told_fits told wanted reply agrees = agrees

pub allowed_told : (told : Bool) (at : ℕ) (s : FileState) (who : ℕ) (event : Event) (reply : Reply) → IsWithoutDevice reply → IsAllowed at true s who event reply → IsAllowed at told s who event reply
allowed_told told at s who event reply plain allowed = record { own = allowed.own; room = allowed.room; fits = fits reply plain allowed.fits }
  where
    fits : (r : Reply) → IsWithoutDevice r → Fits true s.faults (reply_of s who event) r → Fits told s.faults (reply_of s who event) r
    fits (Fault count) p f = absurd p
    fits r p f = told_fits told (reply_of s who event) r f

pub own_told : (told : Bool) (at : ℕ) (s : FileState) (who : ℕ) (event : Event) (reply : Reply) → IsOwn who (window_of event) → HasRoom at s event → reply ≡ reply_of s who event → IsAllowed at told s who event reply
own_told told at s who event reply own room is = allowed_told told at s who event reply (subst IsWithoutDevice (sym is) (plain_own s who event)) (own_allowed at s who event reply own room is)

pub quiet_alone : (s : FileState) (event : Event) (reply : Reply) → IsQuietEvent event → MayBegin (λ map index digest. HasNoOther digest (lookup index map)) s event reply
quiet_alone s (Ask block uid moment) reply quiet = tt
quiet_alone s (Cancel serial) reply quiet = tt
quiet_alone s (Claim window count) reply quiet = tt
quiet_alone s (Release window) reply quiet = tt
quiet_alone s (TakePending after most) reply quiet = tt
quiet_alone s (SetTimes uid times) reply quiet = tt
quiet_alone s (Ranges start limit room) reply quiet = tt
quiet_alone s Count reply quiet = tt
quiet_alone s Leave reply quiet = tt
quiet_alone s (Poll serial moment) reply quiet = absurd quiet
quiet_alone s (PutData window index digest) reply quiet = absurd quiet
quiet_alone s (PutPlace window index) reply quiet = absurd quiet
quiet_alone s (Settle window) reply quiet = absurd quiet
quiet_alone s (Gate window index) reply quiet = absurd quiet

-- ---- the indices of the classes that pass a test

pub passing_there : (passes : Class → Bool) (classes : List Class) (i : ℕ) (d : Class) → i < length classes → passes (get_or classes i d) ≡ true
    → indices_passing passes i (drop i classes) ≡ i ∷ indices_passing passes (i + 1) (drop (i + 1) classes)
passing_there passes classes i d lt there =
    let e : i + 1 ≡ suc i = omega arith in
    ap (indices_passing passes i) (drop-cons classes i d lt)
    ∙ ap (λ b. cond b (i ∷ indices_passing passes (suc i) (drop (suc i) classes)) (indices_passing passes (suc i) (drop (suc i) classes))) there
    ∙ ap (λ k. i ∷ indices_passing passes k (drop k classes)) (sym e)

pub passing_not : (passes : Class → Bool) (classes : List Class) (i : ℕ) (d : Class) → i < length classes → passes (get_or classes i d) ≡ false
    → indices_passing passes i (drop i classes) ≡ indices_passing passes (i + 1) (drop (i + 1) classes)
passing_not passes classes i d lt there =
    let e : i + 1 ≡ suc i = omega arith in
    ap (indices_passing passes i) (drop-cons classes i d lt)
    ∙ ap (λ b. cond b (i ∷ indices_passing passes (suc i) (drop (suc i) classes)) (indices_passing passes (suc i) (drop (suc i) classes))) there
    ∙ ap (λ k. indices_passing passes k (drop k classes)) (sym e)
