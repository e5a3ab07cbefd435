-- What a read's answer says of the file's state at its ask, by the seat's own entries in a legal history.
use Rattle.std.proofs.Common.{◌≡◌, inl, inr, ℕ, ◌+◌, Bool, true, false, nat_le, List, [], ◌∷◌, ◌++◌, Option, Some, None, Result, Ok, Err, refl, sym, ap, subst, ◌∙◌}
use Rattle.std.specs.Prelude.{slice_index_or, if◌then◌else◌}
use Rattle.std.proofs.lemmas.Bool.{false_from_ne_true}
use Rattle.inc_tree.specs.shape.Geometry.{data_blocks}
use Rattle.inc_entry.specs.Stored.{is_compressed_class, is_damaged_class}
use Rattle.inc_entry.specs.declared.classes.Class.TheVariants.{Closed}
use Rattle.inc_model.specs.relation.Facts.{MoreFacts}
use Rattle.inc_model.specs.relation.Polling.{IsLowestAbsent, hash_on_path}
use Rattle.inc_model.specs.relation.State.{has, is_in}
use Rattle.inc_model.specs.relation.Step.{IsLegal, state_after}
use Rattle.inc_model.specs.relation.Table.{ask_reply}
use Rattle.inc_model.specs.declared.words.file_state.FileState.{FileState}
use Rattle.inc_model.specs.declared.words.outcomes.Found.{Found}
use Rattle.inc_model.specs.declared.words.outcomes.ReadError.{ReadError}
use Rattle.inc_model.specs.declared.words.outcomes.ReadError.TheVariants as refused
use Rattle.inc_model.specs.declared.words.reply.Entry.{Entry}
use Rattle.inc_model.specs.declared.words.reply.Reply.{Reply}
use Rattle.inc_model.specs.declared.words.reply.Reply.TheVariants.{Asked, Compressed, Damaged, OutOfRange}
use Rattle.inc_model.proofs.runs.Histories.{entry_at, front_legal, legal_more}
use Rattle.inc_cell.specs.declared.machine.CellFooting.{CellFooting}
use Rattle.inc_filling.proofs.lemmas.NewLemmas.{of_file}
use Rattle.inc_turn.specs.Turns.{AddsOwn}
use Rattle.inc_turn.specs.Views.{heard}
use Rattle.inc_turn.specs.declared.view.View.{View}
use Rattle.inc_turn.proofs.TurnLemmas.{nothing_adds}
use Rattle.inc_handle.specs.Answered.{AskedAt, HasSeenLegal, IsRefusedFor, LacksHash, LacksOnPath, ReadAnswers, ReadLacks, block_refusal}
use Rattle.inc_handle.specs.Reads.{AsksThen, AskedFor, LackedPath, ReadTold, ask_entry}
use Rattle.inc_handle.proofs.reads.AskLemmas.{fits_ask}
use Rattle.inc_handle.proofs.reads.SeenLemmas.{absent_before, entry_seen, front_within}

-- ---- by the class of the block

abbrev asked_error : Reply → Option ReadError
asked_error OutOfRange = Some refused.OutOfRange
asked_error Damaged = Some refused.Damaged
asked_error Compressed = Some refused.Compressed
asked_error reply = None

abbrev by_class : Bool → Bool → Bool → Option ReadError
by_class past damaged compressed = if past then Some refused.OutOfRange else if damaged then Some refused.Damaged else if compressed then Some refused.Compressed else None

same_cause : (past damaged compressed : Bool) (next : ℕ) → by_class past damaged compressed ≡ asked_error (ask_reply past damaged compressed next)
same_cause true damaged compressed next = refl
same_cause false true compressed next = refl
same_cause false false true next = refl
same_cause false false false next = refl

damaged_then : (past damaged compressed : Bool) (next : ℕ) → ask_reply past damaged compressed next ≡ Damaged → damaged ≡ true
damaged_then true damaged compressed next e = absurd (cc)
damaged_then false true compressed next e = refl
damaged_then false false true next e = absurd (cc)
damaged_then false false false next e = absurd (cc)

compressed_then : (past damaged compressed : Bool) (next : ℕ) → ask_reply past damaged compressed next ≡ Compressed → compressed ≡ true
compressed_then true damaged compressed next e = absurd (cc)
compressed_then false true compressed next e = absurd (cc)
compressed_then false false true next e = refl
compressed_then false false false next e = absurd (cc)

module _ (footing : CellFooting) (v w : View CellFooting) (index uid : ℕ) (seen : HasSeenLegal footing w) where
  -- ---- the ask in the history

  pub asked_at : (moment : ℕ) (reply : Reply) (mine : List Entry) → AddsOwn v w (ask_entry v.number index uid moment reply ∷ mine) → AskedAt v w index uid reply
  asked_at moment reply mine adds =
      let stands = entry_seen v w (ask_entry v.number index uid moment reply) mine adds in
      record { moment = moment; front = stands.front; rest = stands.rest; heard_is = stands.heard_is; since = stands.since }

  module _ (reply : Reply) (asked : AskedAt v w index uid reply) where
    abbrev at_ask : FileState
    at_ask = state_after 0 footing.opening asked.front

    whole : IsLegal 0 footing.told footing.opening (asked.front ++ ask_entry v.number index uid asked.moment reply ∷ asked.rest)
    whole = subst (IsLegal 0 footing.told footing.opening) asked.heard_is seen.legal

    front : IsLegal 0 footing.told footing.opening asked.front
    front = front_legal footing.opening footing.told 0 asked.front (ask_entry v.number index uid asked.moment reply ∷ asked.rest) whole

    pub more_there : MoreFacts footing.opening at_ask
    more_there = legal_more footing.opening footing.told asked.front seen.begins.opening front

    -- the reply is the table's
    pub replied : ask_reply (nat_le at_ask.n index) (has index at_ask.damaged) (has index at_ask.compressed) at_ask.next ≡ reply
    replied =
        let entry = entry_at footing.opening footing.told 0 asked.front (ask_entry v.number index uid asked.moment reply) asked.rest whole in
        (fits_ask footing.told at_ask.faults (nat_le at_ask.n index) (has index at_ask.damaged) (has index at_ask.compressed) at_ask.next reply entry.allowed.fits).0

    pub refused_as : block_refusal footing.opened index ≡ asked_error reply
    refused_as =
        let first = of_file footing.opened footing.opening seen.begins in
        let same = more_there.same in
        let n_is : at_ask.n ≡ data_blocks footing.opened.areas.geometry = same.1 ∙ first.data_is in
        let damaged_is : has index at_ask.damaged ≡ is_damaged_class (slice_index_or footing.opened.classes index Closed) = ap (has index) same.4 ∙ first.damaged_is index in
        let compressed_is : has index at_ask.compressed ≡ is_compressed_class (slice_index_or footing.opened.classes index Closed) = ap (has index) same.5 ∙ first.compressed_is index in
        let asked_so : by_class (nat_le at_ask.n index) (has index at_ask.damaged) (has index at_ask.compressed) ≡ asked_error reply =
        same_cause (nat_le at_ask.n index) (has index at_ask.damaged) (has index at_ask.compressed) at_ask.next ∙ ap asked_error replied in
        ap (λ (n : ℕ). by_class (nat_le n index) (is_damaged_class (slice_index_or footing.opened.classes index Closed)) (is_compressed_class (slice_index_or footing.opened.classes index Closed))) (sym n_is)
        ∙ ap (λ (b : Bool). by_class (nat_le at_ask.n index) b (is_compressed_class (slice_index_or footing.opened.classes index Closed))) (sym damaged_is)
        ∙ ap (λ (b : Bool). by_class (nat_le at_ask.n index) (has index at_ask.damaged) b) (sym compressed_is)
        ∙ asked_so

    -- what isn't in the map later wasn't there at the ask
    pub absent_at_ask : (later : List Entry) (last : Entry) (i : ℕ) → heard w ≡ later ++ last ∷ [] → is_in i (state_after 0 footing.opening later).map ≡ false → is_in i at_ask.map ≡ false
    absent_at_ask later last i heard_is absent =
        let more = front_within asked.front later (ask_entry v.number index uid asked.moment reply) last asked.rest (sym asked.heard_is ∙ heard_is) in
        let legal : IsLegal 0 footing.told footing.opening later = front_legal footing.opening footing.told 0 later (last ∷ []) (subst (IsLegal 0 footing.told footing.opening) heard_is seen.legal) in
        absent_before footing.opening footing.told asked.front more.0 i seen.begins.opening (subst (IsLegal 0 footing.told footing.opening) more.1 legal)
        (subst (λ (es : List Entry). is_in i (state_after 0 footing.opening es).map ≡ false) more.1 absent)

    -- a lowest absent hash block is one that was absent at the ask
    pub hash_at_ask : (hash : ℕ) → LackedPath footing w index hash → LacksHash index hash at_ask
    hash_at_ask hash lacked =
        let t = state_after 0 footing.opening lacked.front in
        let lowest : IsLowestAbsent t.n t.m t.map index hash = subst (λ (x : FileState). IsLowestAbsent x.n x.m x.map index hash) lacked.state_is lacked.lowest in
        let legal : IsLegal 0 footing.told footing.opening lacked.front = front_legal footing.opening footing.told 0 lacked.front (lacked.last ∷ []) (subst (IsLegal 0 footing.told footing.opening) lacked.heard_is seen.legal) in
        let later = (legal_more footing.opening footing.told lacked.front seen.begins.opening legal).same in
        let here = more_there.same in
        let n_is : t.n ≡ at_ask.n = later.1 ∙ sym here.1 in
        let m_is : t.m ≡ at_ask.m = later.2 ∙ sym here.2 in
        let absent = absent_at_ask lacked.front lacked.last (t.n + hash_on_path t.n t.m index lowest.level) lacked.heard_is lowest.absent in
        let moved : LacksOnPath t.n t.m at_ask.map index hash = record { level = lowest.level; within = lowest.within; is = lowest.is; absent = absent } in
        subst (λ (n : ℕ). LacksOnPath n at_ask.m at_ask.map index hash) n_is (subst (λ (m : ℕ). LacksOnPath t.n m at_ask.map index hash) m_is moved)

    -- a block that the file doesn't serve isn't in its map
    pub damaged_lacks : reply ≡ Damaged → is_in index at_ask.map ≡ false
    damaged_lacks is =
        let damaged = damaged_then (nat_le at_ask.n index) (has index at_ask.damaged) (has index at_ask.compressed) at_ask.next (replied ∙ is) in
        false_from_ne_true (is_in index at_ask.map) (λ there. let sound = (more_there.apart.open_sound index there).0 in absurd (cc))

    pub compressed_lacks : reply ≡ Compressed → is_in index at_ask.map ≡ false
    compressed_lacks is =
        let compressed = compressed_then (nat_le at_ask.n index) (has index at_ask.damaged) (has index at_ask.compressed) at_ask.next (replied ∙ is) in
        false_from_ne_true (is_in index at_ask.map) (λ there. let sound = (more_there.apart.open_sound index there).1 in absurd (cc))

  -- ---- by the answer

  asked_fine : (may : ℕ → Type 0) (serial : ℕ) (rest : List Entry) → AsksThen may v w index uid serial rest → block_refusal footing.opened index ≡ None
  asked_fine may serial rest asks = refused_as (Asked serial) (asked_at asks.moment (Asked serial) rest asks.adds)

  asked_refused : (moment : ℕ) (reply : Reply) → AskedFor v w index uid moment reply → block_refusal footing.opened index ≡ asked_error reply
  asked_refused moment reply asked = refused_as reply (asked_at moment reply [] asked.adds)

  pub lacks_by : (may : ℕ → Type 0) (result : Result Found ReadError) → ReadTold may footing v w index uid result → ReadLacks footing v w index uid result
  lacks_by may (Ok found) told = tt
  lacks_by may (Err refused.OutOfRange) told = tt
  lacks_by may (Err refused.Damaged) told =
      let asked = asked_at told.0 Damaged [] told.2.adds in
      record { asked = asked; lacks = damaged_lacks Damaged asked refl }
  lacks_by may (Err refused.Compressed) told =
      let asked = asked_at told.0 Compressed [] told.2.adds in
      record { asked = asked; lacks = compressed_lacks Compressed asked refl }
  lacks_by may (Err (refused.TimedOut serial deadline moment at)) told =
      let asks = told.0.asks in
      let late = told.1 in
      let asked = asked_at asks.moment (Asked serial) _ asks.adds in
      record { asked = asked; lacks = absent_at_ask (Asked serial) asked late.front late.last index late.heard_is late.absent }
  lacks_by may (Err (refused.PathAbsent hash at)) told =
      let serial = told.0 in
      let asks = told.2.asks in
      let asked = asked_at asks.moment (Asked serial) _ asks.adds in
      (serial, record { asked = asked; lacks = hash_at_ask (Asked serial) asked hash told.3 })
  lacks_by may (Err (refused.Corrupt level wanted got at)) told = tt
  lacks_by may (Err refused.ReadFault) told = tt
  lacks_by may (Err (refused.HistoryFull entries claimed)) told = tt
  lacks_by may (Err refused.OutOfMemory) told = tt

  pub refused_by : (may : ℕ → Type 0) (result : Result Found ReadError) → ReadTold may footing v w index uid result → IsRefusedFor footing.opened index result
  refused_by may (Ok found) told = asked_fine may told.serial _ told.polls.asks
  refused_by may (Err refused.OutOfRange) told = asked_refused told.0 OutOfRange told.2
  refused_by may (Err refused.Damaged) told = asked_refused told.0 Damaged told.2
  refused_by may (Err refused.Compressed) told = asked_refused told.0 Compressed told.2
  refused_by may (Err (refused.TimedOut serial deadline moment at)) told = asked_fine may serial _ told.0.asks
  refused_by may (Err (refused.PathAbsent hash at)) told = asked_fine may told.0 _ told.2.asks
  refused_by may (Err (refused.Corrupt level wanted got at)) told = asked_fine may told.serial _ told.polls.asks
  refused_by may (Err refused.ReadFault) told = asked_fine may told.0 _ told.4.asks
  refused_by may (Err (refused.HistoryFull entries claimed)) told = tt
  refused_by may (Err refused.OutOfMemory) told = tt

  pub answers_by : (may : ℕ → Type 0) (result : Result Found ReadError) → ReadTold may footing v w index uid result → ReadAnswers may footing v w index uid result
  answers_by may result told = record { told = told; legal = inr seen; lacks = lacks_by may result told; refused_for = refused_by may result told }

-- without memory nothing was asked
pub starved_answers : (may : ℕ → Type 0) (footing : CellFooting) (v : View CellFooting) (index uid : ℕ) → ReadAnswers may footing v v index uid (Err refused.OutOfMemory)
starved_answers may footing v index uid = record { told = inl (record { adds = nothing_adds v }); legal = inl refl; lacks = tt; refused_for = tt }
