-- An ask that hands out its block's bytes early: the ask, and then a read that may raise the disk's count of faults and nothing else.
use Rattle.std.proofs.Common.{◌≡◌, ◌⊎◌, inl, inr, ℕ, ◌+◌, ◌<◌, ◌≤◌, true, false, List, [], ◌∷◌, length, Option, Some, None, Err, refl, sym, ap, subst, ◌∙◌, arith}
use Rattle.std.specs.Prelude.{IfSome, is_some, slice_index}
use Rattle.inc_pending.specs.Keyed.{lookup}
use Rattle.inc_tree.specs.shape.Geometry.{block_len}
use Rattle.inc_tree.specs.read_block.Path.{padded}
use Rattle.inc_entry.specs.Entry.{area_places, entries}
use Rattle.inc_entry.specs.Stored.{part}
use Rattle.inc_io.specs.Causes.{HasCauseAt, Rose}
use Rattle.inc_layout.specs.declared.reading.stored_error.StoredError.{StoredError}
use Rattle.inc_layout.specs.declared.reading.stored_error.StoredError.TheVariants.{ReadFault as read_fault}
use Rattle.inc_disk.specs.Disk.{DiskState, Now, reads_of}
use Rattle.inc_model.specs.relation.State.{is_in}
use Rattle.inc_model.specs.declared.words.event.Event.{Event}
use Rattle.inc_model.specs.declared.words.file_state.FileState.{FileState}
use Rattle.inc_model.specs.declared.words.reply.Reply.TheVariants.{Asked}
use Rattle.inc_cell.specs.device.Early.{HandsEarly, IsEarlyFrom, MayEarly, is_asked_reply, with_count}
use Rattle.inc_cell.specs.device.Handed.{block_from}
use Rattle.inc_cell.specs.events.Answers.{CellReplies, CellSteps, hands_out}
use Rattle.inc_cell.specs.seen.Cells.{KeepsCell}
use Rattle.inc_cell.specs.seen.Parts.{parts_of}
use Rattle.inc_cell.specs.seen.Seen.{Seen, spots_now, state_now}
use Rattle.inc_cell.specs.seen.Standing.{Standing}
use Rattle.inc_cell.specs.declared.words.answer.Answer.{Answer}
use Rattle.inc_cell.specs.declared.words.answer.CellReply.{CellReply}
use Rattle.inc_cell.specs.declared.words.answer.CellReply.TheVariants.{Done}
use Rattle.inc_cell.specs.declared.words.answer.HandedBytes.{HandedBytes}
use Rattle.inc_cell.proofs.handing.ReadLemmas.{in_file, standing_reads}

-- ---- the read

pub count_keeps : (seen : Seen) (state : FileState) (spots : List ℕ) (end count : ℕ) → KeepsCell seen state spots end → seen.count ≤ count → KeepsCell (with_count count seen) state spots end
count_keeps seen state spots end count keeps le =
    let before = keeps.holds.counted in
    record {
      holds = record {
        sound = keeps.holds.sound;
        short = keeps.holds.short;
        begins = keeps.holds.begins;
        legal = keeps.holds.legal;
        counted = omega arith;
        grown = keeps.holds.grown;
        standing = keeps.holds.standing;
        spots_fit = keeps.holds.spots_fit;
        logged = keeps.holds.logged;
      };
      state_is = keeps.state_is;
      each = keeps.each;
      shown = keeps.shown;
    }

module _ (seen : Seen) (state : FileState) (spots : List ℕ) (end : ℕ) (keeps : KeepsCell seen state spots end) (block : ℕ) (there : is_in block state.map ≡ true) where
  the_digest : (digest : List ℕ) × (lookup block (state_now seen).map ≡ Some digest)
  the_digest = by (lookup block (state_now seen).map) refl (subst (λ (s : FileState). is_in block s.map ≡ true) keeps.state_is there)
    where
      by : (found : Option (List ℕ)) → lookup block (state_now seen).map ≡ found → is_some found ≡ true → (digest : List ℕ) × (lookup block (state_now seen).map ≡ Some digest)
      by None is some = absurd (cc)
      by (Some digest) is some = (digest, is)

  pub early_there : is_in block (state_now seen).map ≡ true
  early_there = subst (λ (s : FileState). is_in block s.map ≡ true) keeps.state_is there

  pub early_here : block < entries (area_places seen.opened.areas)
  early_here = in_file seen end keeps.holds block the_digest.0 the_digest.1

  module _ (place len : ℕ) (place_is : place ≡ slice_index spots block) (len_is : len ≡ block_len seen.opened.areas.geometry block) (early : List ℕ) where
    early_told : (states : List DiskState) → Now states (Standing seen.opened (parts_of (state_now seen)) (state_now seen).map (state_now seen).flight (spots_now seen))
        → IfSome (reads_of states) (λ bytes. place + len ≤ length bytes → early ≡ padded (part len place bytes))
        → Now states (λ disk. early ≡ block_from disk.reads seen.opened.areas block (spots_now seen block))
    early_told [] stands read = tt
    early_told (disk ∷ past) stands read =
        let is : place ≡ spots_now seen block = place_is ∙ keeps.shown block early_here in
        let stored = standing_reads seen.opened (parts_of (state_now seen)) (state_now seen).map (state_now seen).flight (spots_now seen) disk block the_digest.0 stands early_here the_digest.1 in
        read (let long = stored.there in omega (arith, is, len_is)) ∙ (λ i. padded (part (len_is i) (is i) disk.reads))

    pub made_early : (count : ℕ) (told : Option (List ℕ)) → told ≡ reads_of seen.states → length early ≡ 4096
        → IfSome told (λ bytes. place + len ≤ length bytes → early ≡ padded (part len place bytes))
        → IsEarlyFrom (with_count count seen) block early
    made_early count told is whole read = record {
      there = early_there;
      whole = whole;
      block_is = early_told seen.states keeps.holds.standing.stands (subst (λ (t : Option (List ℕ)). IfSome t (λ bytes. place + len ≤ length bytes → early ≡ padded (part len place bytes))) is read);
    }

-- a read that failed raised the count, and one without memory left it
pub early_missed : {T : Type 0} (before now : ℕ) (error : StoredError) → HasCauseAt {T = T} read_fault before now (Err error) → (now ≡ before) ⊎ ((before ≤ now) × Rose before now)
early_missed before now read_fault cause = inr (cause.later, cause.failed refl)
early_missed before now error cause = inl (cause.kept (λ e. absurd (cc)))

pub missed_may : (seen : Seen) (count block : ℕ) → is_in block (state_now seen).map ≡ true → (count ≡ seen.count) ⊎ ((seen.count ≤ count) × Rose seen.count count) → MayEarly seen.count (with_count count seen) block None
missed_may seen count block there (inl same) = inl same
missed_may seen count block there (inr rose) = inr (record { there = there; later = rose.0; rose = rose.1 })

-- ---- the answer

pub with_early : (old mid new : Seen) (who : ℕ) (event : Event) (block : List ℕ) (answer result : Answer) → CellSteps old who event block answer mid → mid.count ≡ old.count → new ≡ with_count new.count mid
    → result.at ≡ answer.at → result.reply ≡ answer.reply → result.handed ≡ answer.handed → CellSteps old who event block result (with_count old.count new)
with_early old mid new who event block answer result steps count same at_is reply_is handed_is =
    let is : mid ≡ with_count old.count new = ap (λ (c : ℕ). with_count c mid) count ∙ sym (ap (with_count old.count) same) in
    record {
      at_is = at_is ∙ steps.at_is;
      reply_is = subst (λ (s : Seen). CellReplies old who event block result.reply s) is (subst (λ (r : CellReply). CellReplies old who event block r mid) (sym reply_is) steps.reply_is);
      handed_there = ap (λ (h : Option HandedBytes). is_some h) handed_is ∙ steps.handed_there ∙ ap hands_out (sym reply_is);
    }

pub hands_unasked : (before : ℕ) (seen : Seen) (block : ℕ) (reply : CellReply) (early : Option (List ℕ)) → is_asked_reply reply ≡ false → seen.count ≡ before → early ≡ None → HandsEarly before seen block reply early
hands_unasked before seen block (Done (Asked serial)) early e count none = absurd (cc)
hands_unasked before seen block reply early e count none = (count, none)

pub hands_asked : (before : ℕ) (seen : Seen) (block : ℕ) (reply : CellReply) (early : Option (List ℕ)) → is_asked_reply reply ≡ true → MayEarly before seen block early → HandsEarly before seen block reply early
hands_asked before seen block (Done (Asked serial)) early e may = may
hands_asked before seen block reply early e may = absurd (cc)
