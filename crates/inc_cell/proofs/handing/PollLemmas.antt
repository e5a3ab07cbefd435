-- A poll: what it reads, and what comes of it.
use Rattle.std.proofs.Common.{◌≡◌, ℕ, ◌+◌, ◌-◌, ◌<◌, ◌≤◌, Bool, true, false, cond, leb, List, [], ◌∷◌, length, take, Option, Some, None, refl, sym, ap, subst, ◌∙◌, arith}
use Rattle.std.specs.Prelude.{All, find, is_some, slice_index}
use Rattle.std.proofs.lemmas.List.Elements.{All-head, All-tail}
use Rattle.inc_pending.specs.Keyed.{lookup}
use Rattle.inc_pending.specs.Polling.{decision_of, is_asked, read_of}
use Rattle.inc_pending.specs.declared.reads.ReadRow.{ReadRow}
use Rattle.inc_pending.specs.declared.reads.Decision.TheVariants.{Hand, TimedOut as late_decision, NotYet as waiting_decision}
use Rattle.inc_tree.specs.shape.Geometry.{block_len, data_blocks}
use Rattle.inc_tree.specs.read_block.Path.{block_digest}
use Rattle.inc_entry.specs.Entry.{area_places, tree_span}
use Rattle.inc_entry.specs.Keeps.{IsLayout}
use Rattle.inc_entry.specs.Spans.{IsInside}
use Rattle.inc_entry.specs.Stored.{stored_content}
use Rattle.inc_entry.specs.declared.areas.Areas.{Areas}
use Rattle.inc_disk.specs.Disk.{DiskState, Now}
use Rattle.inc_fill.specs.Laws.{ReadsOpen}
use Rattle.inc_fill.proofs.Areas.{tree_inside}
use Rattle.inc_layout.specs.Backing.{fixed_in}
use Rattle.inc_layout.specs.fixed.SameFixed.{is_fixed_byte}
use Rattle.inc_layout.proofs.fixed_part.LayoutMeaning.{layout_stands}
use Rattle.inc_layout.proofs.LoopSteps.{length-part, padded_front}
use Rattle.inc_model.specs.relation.Polling.{absent_hash, decided_reply, hand_reply}
use Rattle.inc_model.specs.relation.Step.{Fits, HasRoom, IsAllowed, IsKept}
use Rattle.inc_model.specs.relation.Table.{reply_of}
use Rattle.inc_model.specs.declared.words.event.Event.TheVariants.{Poll}
use Rattle.inc_model.specs.declared.words.file_state.FileState.{FileState}
use Rattle.inc_model.specs.declared.words.reply.Reply.{Reply}
use Rattle.inc_model.specs.declared.words.reply.Reply.TheVariants.{Fault, Handed, NotYet}
use Rattle.inc_cell.specs.seen.Cells.{KeepsCell}
use Rattle.inc_cell.specs.events.Answers.{hands_out}
use Rattle.inc_cell.specs.device.Handed.{HandsOf, HandsRead, IfHanded, IsHandedTo, IsReadFrom, MayHand, block_from, block_of, is_waiting, unknown_hashes, unknown_path}
use Rattle.inc_cell.specs.seen.Parts.{parts_of}
use Rattle.inc_cell.specs.seen.Seen.{Seen, spots_now, state_now, tells}
use Rattle.inc_cell.specs.seen.Standing.{Standing}
use Rattle.inc_cell.specs.events.Steps.{HasCounted}
use Rattle.inc_cell.specs.declared.words.answer.CellReply.TheVariants.{Done}
use Rattle.inc_cell.specs.declared.words.answer.HandedBytes.{HandedBytes}
use Rattle.inc_cell.proofs.steps.AskLemmas.{held_more}
use Rattle.inc_cell.proofs.steps.BookLemmas.{own_told}
use Rattle.inc_cell.proofs.steps.CellLemmas.{comes_fits}
use Rattle.inc_cell.proofs.handing.ReadLemmas.{standing_reads}

-- ---- the read that is handed out

pub handed_if : (wanted : Reply) (P : Type 0) → ((digest : List ℕ) → wanted ≡ Handed digest → P) → IfHanded wanted P
handed_if (Handed digest) P so = so digest refl
handed_if wanted P so = tt

pub record IsHanding (s : FileState) (who serial : ℕ) (digest : List ℕ) : Type 0 where
  pub row : ReadRow
  pub row_is : read_of who serial s.reads ≡ Some row
  pub digest_is : lookup row.block s.map ≡ Some digest

handed_digest : (hash : Option ℕ) (found : Option (List ℕ)) (digest : List ℕ) → hand_reply hash found ≡ Handed digest → found ≡ Some digest
handed_digest (Some hash) found digest e = absurd (cc)
handed_digest None (Some there) digest e = (cc)
handed_digest None None digest e = absurd (cc)

row_handed : (s : FileState) (digest : List ℕ) (row : ReadRow) (done floor late : Bool)
    → decided_reply s (cond done (cond floor (Hand row.block) waiting_decision) (cond late (late_decision row.deadline) waiting_decision)) ≡ Handed digest → lookup row.block s.map ≡ Some digest
row_handed s digest row true true late e = handed_digest (absent_hash s.n s.m s.map row.block) (lookup row.block s.map) digest e
row_handed s digest row true false late e = absurd (cc)
row_handed s digest row false floor true e = absurd (cc)
row_handed s digest row false floor false e = absurd (cc)

pub handing : (s : FileState) (who serial at : ℕ) (digest : List ℕ) → reply_of s who (Poll serial at) ≡ Handed digest → IsHanding s who serial digest
handing s who serial at digest e = of_read (read_of who serial s.reads) refl e
  where
    of_read : (found : Option ReadRow) → read_of who serial s.reads ≡ found → reply_of s who (Poll serial at) ≡ Handed digest → IsHanding s who serial digest
    of_read None is said = absurd (let none : reply_of s who (Poll serial at) ≡ decided_reply s (decision_of None at) = ap (λ (o : Option ReadRow). decided_reply s (decision_of o at)) is in cc)
    of_read (Some row) is said = record {
      row = row;
      row_is = is;
      digest_is = row_handed s digest row row.done (leb row.floor at) (leb row.deadline at) (sym (ap (λ (o : Option ReadRow). decided_reply s (decision_of o at)) is) ∙ said);
    }

found_holds : (P : ReadRow → Type 0) (test : ReadRow → Bool) (rows : List ReadRow) (row : ReadRow) → find test rows ≡ Some row → All P rows → P row
found_holds P test [] row e h = absurd (cc)
found_holds P test (first ∷ rest) row e h = step (test first) e (λ later. found_holds P test rest row later (All-tail P first rest h))
  where
    step : (b : Bool) → cond b (Some first) (find test rest) ≡ Some row → (find test rest ≡ Some row → P row) → P row
    step true same later = subst P (ap (λ (o : Option ReadRow). elim o as (λ _. ReadRow) [ Some r ↦ r | None ↦ first ]) same) (All-head P first rest h)
    step false same later = later same

-- ---- what is read of it

-- its digest is that of the stored block, which the map has
read_digest : (disk : DiskState) (past : List DiskState) (areas : Areas) (block place : ℕ) (known : List ℕ) (handed : HandedBytes) (digest : List ℕ) → IsReadFrom (disk ∷ past) areas block place known handed
    → ReadsOpen disk (area_places areas) block place digest → handed.block.digest ≡ digest
read_digest disk past areas block place known handed digest read stored =
    let len = block_len areas.geometry block in
    let bytes = handed.block.bytes in
    read.hashed ∙ ap (λ (n : ℕ). block_digest (take n bytes)) read.len_is ∙ ap (λ (b : List ℕ). block_digest (take len b)) (read.block_is stored.there)
    ∙ ap block_digest (padded_front len (stored_content (area_places areas) disk.reads block place) (length-part len place disk.reads stored.there)) ∙ stored.block

module _ (told : Bool) (faults before now : ℕ) (Reads : HandedBytes → Type 0) (le : faults ≤ before) where
  pub handed_fits : (wanted : List ℕ) (reply : Reply) (handed : Option HandedBytes) → HandsRead Reads reply handed → HasCounted before now reply
      → ((bytes : HandedBytes) → Reads bytes → told ≡ true → bytes.block.digest ≡ wanted) → Fits told faults (Handed wanted) reply
  handed_fits wanted (Handed digest) (Some bytes) hands cause same = λ is. hands.0 ∙ same bytes hands.1 is
  handed_fits wanted (Handed digest) None hands cause same = absurd hands
  handed_fits wanted (Fault count) handed hands cause same = comes_fits told faults before now (Handed wanted) (Fault count) le refl cause
  handed_fits wanted reply handed hands cause same = absurd hands

handed_kept : (Reads : HandedBytes → Type 0) (reply : Reply) (handed : Option HandedBytes) → HandsRead Reads reply handed → IsKept reply
handed_kept Reads NotYet handed hands = absurd hands
handed_kept Reads reply handed hands = tt

waiting_kept : (reply : Reply) → is_waiting reply ≡ false → IsKept reply
waiting_kept NotYet e = absurd (cc)
waiting_kept reply e = tt

module _ (old : Seen) (state : FileState) (spots : List ℕ) (end : ℕ) (keeps : KeepsCell old state spots end) (who serial at : ℕ) (wanted : Reply) (wanted_is : wanted ≡ reply_of state who (Poll serial at)) (block place : ℕ)
    (block_is : block ≡ block_of (read_of who serial state.reads)) (place_is : place ≡ slice_index spots block) where
  the_read : (digest : List ℕ) → wanted ≡ Handed digest → IsHanding state who serial digest
  the_read digest e = handing state who serial at digest (sym wanted_is ∙ e)

  same_block : (digest : List ℕ) (e : wanted ≡ Handed digest) → block ≡ (the_read digest e).row.block
  same_block digest e = block_is ∙ ap block_of ((the_read digest e).row_is)

  block_low : (digest : List ℕ) → wanted ≡ Handed digest → block < data_blocks old.opened.areas.geometry
  block_low digest e =
      let read = the_read digest e in
      let lt : read.row.block < state.n = found_holds (λ row. row.block < state.n) (λ row. is_asked who serial row) state.reads read.row read.row_is (held_more old state spots end keeps).indices.reads_within in
      let n = (held_more old state spots end keeps).same.1 in
      let content = keeps.holds.begins.told.state.data_is in
      let same = same_block digest e in
      omega arith

  pub poll_here : IfHanded wanted (block < data_blocks old.opened.areas.geometry)
  poll_here = handed_if wanted (block < data_blocks old.opened.areas.geometry) block_low

  place_now : (digest : List ℕ) → wanted ≡ Handed digest → place ≡ spots_now old block
  place_now digest e = let lt = block_low digest e in place_is ∙ keeps.shown block (omega arith)

  mapped : (digest : List ℕ) → wanted ≡ Handed digest → lookup block (state_now old).map ≡ Some digest
  mapped digest e =
      subst (λ (s : FileState). lookup block s.map ≡ Some digest) keeps.state_is
      (ap (λ b. lookup b state.map) (same_block digest e) ∙ (the_read digest e).digest_is)

  open_now : (digest : List ℕ) → wanted ≡ Handed digest → (disk : DiskState) → Standing old.opened (parts_of (state_now old)) (state_now old).map (state_now old).flight (spots_now old) disk
      → ReadsOpen disk (area_places old.opened.areas) block place digest
  open_now digest e disk stands =
      let lt = block_low digest e in
      subst (λ p. ReadsOpen disk (area_places old.opened.areas) block p digest) (sym (place_now digest e))
      (standing_reads old.opened (parts_of (state_now old)) (state_now old).map (state_now old).flight (spots_now old) disk block digest stands (omega arith) (mapped digest e))

  digest_told : (known : List ℕ) (digest : List ℕ) → wanted ≡ Handed digest → (handed : HandedBytes) → IsReadFrom old.states old.opened.areas block place known handed → tells old.states ≡ true → handed.block.digest ≡ digest
  digest_told known digest e handed read told = by_states old.states refl read told
    where
      by_states : (states : List DiskState) → old.states ≡ states → IsReadFrom states old.opened.areas block place known handed → tells states ≡ true → handed.block.digest ≡ digest
      by_states [] is read told = absurd (cc)
      by_states (disk ∷ past) is read told =
          let stands : Now (disk ∷ past) (Standing old.opened (parts_of (state_now old)) (state_now old).map (state_now old).flight (spots_now old)) =
          subst (λ (l : List DiskState). Now l (Standing old.opened (parts_of (state_now old)) (state_now old).map (state_now old).flight (spots_now old))) is keeps.holds.standing.stands in
          read_digest disk past old.opened.areas block place known handed digest read (open_now digest e disk stands)

  module _ (known : List ℕ) (reply : Reply) (handed : Option HandedBytes) (new_count : ℕ) (hands : HandsOf (IsReadFrom old.states old.opened.areas block place known) wanted reply handed) (cause : HasCounted old.count new_count reply)
      (room : HasRoom (length old.history) state (Poll serial at)) (told : Bool) (so : told ≡ true → tells old.states ≡ true) where
    -- by the reply that the table gives
    poll_fit : (w : Reply) → wanted ≡ w → HandsOf (IsReadFrom old.states old.opened.areas block place known) w reply handed → IsAllowed (length old.history) told state who (Poll serial at) reply
    poll_fit (Handed digest) is hands = record {
      own = tt;
      room = room;
      fits = subst (λ (w : Reply). Fits told state.faults w reply) (sym is ∙ wanted_is)
          (handed_fits told state.faults old.count new_count (IsReadFrom old.states old.opened.areas block place known) (subst (λ (s : FileState). s.faults ≤ old.count) (sym keeps.state_is) keeps.holds.counted) digest reply handed hands cause
          (λ bytes read is_told. digest_told known digest is bytes read (so is_told)));
    }
    poll_fit w is hands = own_told told (length old.history) state who (Poll serial at) reply tt room (hands.0 ∙ sym is ∙ wanted_is)

    pub poll_allowed : IsAllowed (length old.history) told state who (Poll serial at) reply
    poll_allowed = poll_fit wanted refl hands

  kept_by : (Reads : HandedBytes → Type 0) (w reply : Reply) (handed : Option HandedBytes) → is_waiting w ≡ false → HandsOf Reads w reply handed → IsKept reply
  kept_by Reads (Handed digest) reply handed e hands = handed_kept Reads reply handed hands
  kept_by Reads w reply handed e hands = subst IsKept (sym hands.0) (waiting_kept w e)

  pub poll_kept : (Reads : HandedBytes → Type 0) (reply : Reply) (handed : Option HandedBytes) → is_waiting wanted ≡ false → HandsOf Reads wanted reply handed → IsKept reply
  poll_kept Reads reply handed e hands = kept_by Reads wanted reply handed e hands

  -- ---- what is handed out

  tree_there : (disk : DiskState) → Standing old.opened (parts_of (state_now old)) (state_now old).map (state_now old).flight (spots_now old) disk → IsInside (length disk.reads) (tree_span (area_places old.opened.areas))
  tree_there disk stands some =
      let layout : IsLayout (area_places old.opened.areas) (is_fixed_byte (fixed_in old.opened)) (length stands.base) = layout_stands stands.base (fixed_in old.opened) stands.fixed in
      let last = tree_inside (area_places old.opened.areas) (is_fixed_byte (fixed_in old.opened)) (length stands.base) ((tree_span (area_places old.opened.areas)).at + (tree_span (area_places old.opened.areas)).len - 1) layout (omega arith, omega arith) in
      let longer = stands.facts.longer in
      let long = stands.facts.long in
      omega arith

  module _ (known : List ℕ) (digest : List ℕ) (is : wanted ≡ Handed digest) (bytes : HandedBytes) where
    block_told : (states : List DiskState) → IsReadFrom states old.opened.areas block place known bytes → Now states (Standing old.opened (parts_of (state_now old)) (state_now old).map (state_now old).flight (spots_now old))
        → Now states (λ disk. bytes.block.bytes ≡ block_from disk.reads old.opened.areas (the_read digest is).row.block (spots_now old (the_read digest is).row.block))
    block_told [] read stands = tt
    block_told (disk ∷ past) read stands =
        read.block_is ((open_now digest is disk stands).there) ∙ ap (block_from disk.reads old.opened.areas block) (place_now digest is)
        ∙ ap (λ (b : ℕ). block_from disk.reads old.opened.areas b (spots_now old b)) (same_block digest is)

    path_told : (states : List DiskState) → IsReadFrom states old.opened.areas block place known bytes → Now states (Standing old.opened (parts_of (state_now old)) (state_now old).map (state_now old).flight (spots_now old))
        → Now states (λ disk. bytes.path ≡ unknown_path disk.reads old.opened.areas (the_read digest is).row.block known)
    path_told [] read stands = tt
    path_told (disk ∷ past) read stands = read.path_is (tree_there disk stands) ∙ ap (λ (b : ℕ). unknown_path disk.reads old.opened.areas b known) (same_block digest is)

    handed_out : (given : List ℕ) → given ≡ bytes.block.digest → IsReadFrom old.states old.opened.areas block place known bytes → IsHandedTo old who serial known (Done (Handed given)) bytes
    handed_out given same read = record {
      row = (the_read digest is).row;
      row_is = subst (λ (s : FileState). read_of who serial s.reads ≡ Some ((the_read digest is).row)) keeps.state_is ((the_read digest is).row_is);
      digest_is = ap (λ (d : List ℕ). Done (Handed d)) same;
      len_is = read.len_is ∙ ap (block_len old.opened.areas.geometry) (same_block digest is);
      path_count = read.path_count ∙ ap (λ (b : ℕ). length (unknown_hashes old.opened.areas.geometry b known)) (same_block digest is);
      block_is = block_told old.states read keeps.holds.standing.stands;
      path_is = path_told old.states read keeps.holds.standing.stands;
    }

  hands_read : (known : List ℕ) (digest : List ℕ) → wanted ≡ Handed digest → (reply : Reply) (handed : Option HandedBytes) → HandsRead (IsReadFrom old.states old.opened.areas block place known) reply handed
      → MayHand old who serial known (Done reply) handed
  hands_read known digest is (Handed given) (Some bytes) hands = handed_out known digest is bytes given hands.0 hands.1
  hands_read known digest is reply None hands = tt
  hands_read known digest is reply (Some bytes) hands = absurd hands

  hands_by : (known : List ℕ) (w reply : Reply) (handed : Option HandedBytes) → wanted ≡ w → HandsOf (IsReadFrom old.states old.opened.areas block place known) w reply handed → MayHand old who serial known (Done reply) handed
  hands_by known (Handed digest) reply handed is hands = hands_read known digest is reply handed hands
  hands_by known w reply handed is hands = subst (λ (h : Option HandedBytes). MayHand old who serial known (Done reply) h) (sym hands.1) tt

  pub poll_hands : (known : List ℕ) (reply : Reply) (handed : Option HandedBytes) → HandsOf (IsReadFrom old.states old.opened.areas block place known) wanted reply handed → MayHand old who serial known (Done reply) handed
  poll_hands known reply handed hands = hands_by known wanted reply handed refl hands

-- where the reply hands out, bytes are there, and nowhere else
read_there : (Reads : HandedBytes → Type 0) (reply : Reply) (handed : Option HandedBytes) → HandsRead Reads reply handed → is_some handed ≡ hands_out (Done reply)
read_there Reads (Handed digest) (Some bytes) hands = refl
read_there Reads (Handed digest) None hands = absurd hands
read_there Reads (Fault count) None hands = refl
read_there Reads (Fault count) (Some bytes) hands = absurd hands
read_there Reads reply handed hands = absurd hands

pub poll_there : (Reads : HandedBytes → Type 0) (wanted reply : Reply) (handed : Option HandedBytes) → HandsOf Reads wanted reply handed → is_some handed ≡ hands_out (Done reply)
poll_there Reads (Handed digest) reply handed hands = read_there Reads reply handed hands
poll_there Reads wanted reply handed hands = ap (λ (h : Option HandedBytes). is_some h) hands.1 ∙ ap (λ (r : Reply). hands_out (Done r)) (sym hands.0)
