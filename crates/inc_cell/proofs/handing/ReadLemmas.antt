-- What the disk of a cell reads as.
use Rattle.std.proofs.Common.{◌≡◌, ℕ, ◌+◌, ◌<◌, List, [], ◌∷◌, Some, refl, sym, ap, ◌∙◌, arith}
use Rattle.inc_pending.specs.Keyed.{lookup}
use Rattle.inc_entry.specs.Entry.{area_places, entries}
use Rattle.inc_entry.specs.Stored.{digest_of}
use Rattle.inc_disk.specs.Disk.{DiskState, Now, SoundNow}
use Rattle.inc_disk.specs.Laws.{EachImage}
use Rattle.inc_fill.specs.Laws.{ReadsOpen}
use Rattle.inc_fill.proofs.Images.{facts_keep}
use Rattle.inc_fill.proofs.Known.{open_reads}
use Rattle.inc_layout.specs.Backing.{fixed_in}
use Rattle.inc_layout.specs.state.Preserves.{Preserves}
use Rattle.inc_layout.specs.fixed.SameFixed.{is_fixed_byte}
use Rattle.inc_layout.specs.state.State.{IsStateOf, StateParts}
use Rattle.inc_layout.specs.declared.opened.Opened.{Opened}
use Rattle.inc_layout.proofs.fixed_part.SameFixedLemmas.{fixed_stays}
use Rattle.inc_model.specs.relation.Facts.{MoreFacts}
use Rattle.inc_model.specs.relation.State.{Digests}
use Rattle.inc_model.specs.declared.words.file_state.FileState.{FileState}
use Rattle.inc_model.specs.declared.words.file_state.FlightRow.{FlightRow}
use Rattle.inc_model.proofs.runs.Histories.{legal_more}
use Rattle.inc_cell.specs.seen.Parts.{parts_of}
use Rattle.inc_cell.specs.seen.Seen.{CellHolds, Seen, spots_now, state_now, tells}
use Rattle.inc_cell.specs.seen.Standing.{ReadsAs, Standing}
use Rattle.inc_cell.proofs.steps.MayLemmas.{lookup_within}
use Rattle.inc_cell.proofs.standing.StandingLemmas.{now_keeps, standing_keeps}

-- each block of the map is there, at its spot, with its digest
pub standing_reads : (opened : Opened) (parts : StateParts) (digests : Digests) (flight : List FlightRow) (spot : ℕ → ℕ) (disk : DiskState) (i : ℕ) (digest : List ℕ) → Standing opened parts digests flight spot disk
    → i < entries (area_places opened.areas) → lookup i digests ≡ Some digest → ReadsOpen disk (area_places opened.areas) i (spot i) digest
standing_reads opened parts digests flight spot disk i digest stands inside e =
    open_reads (area_places opened.areas) (is_fixed_byte (fixed_in opened)) stands.base stands.kind stands.row spot disk i digest stands.facts inside (stands.follows.opens i digest e)

reads_as : (opened : Opened) (s : FileState) (spot : ℕ → ℕ) (states : List DiskState) → IsStateOf opened (parts_of s) → ((i : ℕ) (digest : List ℕ) → lookup i s.map ≡ Some digest → i < entries (area_places opened.areas))
    → Now states (Standing opened (parts_of s) s.map s.flight spot) → SoundNow states → Now states (λ disk. ReadsAs opened s disk.reads)
reads_as opened s spot [] state inside stands sound = tt
reads_as opened s spot (disk ∷ past) state inside stands sound = record {
  keeps = standing_keeps opened (parts_of s) s.map s.flight spot disk state stands disk.reads (sound disk past refl);
  fixed =
      let kept = facts_keep (area_places opened.areas) (is_fixed_byte (fixed_in opened)) stands.base stands.kind stands.row spot disk stands.facts disk.reads (sound disk past refl) in
      fixed_stays stands.base disk.reads (fixed_in opened) stands.fixed (λ j here. sym (kept.fixed j here)) kept.long kept.short;
  whole = λ i digest e.
      let found = standing_reads opened (parts_of s) s.map s.flight spot disk i digest stands (inside i digest e) e in
      ap (digest_of (area_places opened.areas) disk.reads i) found.class ∙ ap (λ d. Some d) found.block;
}

module _ (seen : Seen) (end : ℕ) (holds : CellHolds seen end) where
  more : MoreFacts seen.opening (state_now seen)
  more = legal_more seen.opening (tells seen.states) seen.history holds.begins.opening holds.legal

  pub is_state : IsStateOf seen.opened (parts_of (state_now seen))
  is_state =
      let told = holds.begins.told.state in
      let same = more.same in
      record { id_is = told.id_is ∙ sym same.0; root_is = told.root_is ∙ sym same.3; data_is = told.data_is ∙ sym same.1; hash_is = told.hash_is ∙ sym same.2 }

  pub in_file : (i : ℕ) (digest : List ℕ) → lookup i (state_now seen).map ≡ Some digest → i < entries (area_places seen.opened.areas)
  in_file i digest e =
      let s : FileState = state_now seen in
      let content = is_state.data_is in
      let tree = is_state.hash_is in
      let lt = lookup_within (s.n + s.m) i digest s.map more.indices.digests_within e in
      omega arith

  pub holds_reads : SoundNow seen.states → Now seen.states (λ disk. ReadsAs seen.opened (state_now seen) disk.reads)
  holds_reads sound = reads_as seen.opened (state_now seen) (spots_now seen) seen.states is_state in_file holds.standing.stands sound

  -- whatever a crash leaves now keeps the state
  pub holds_images : Now seen.states (λ disk. EachImage disk (λ image. Preserves image (parts_of (state_now seen))))
  holds_images = now_keeps seen.opened (parts_of (state_now seen)) (state_now seen).map (state_now seen).flight (spots_now seen) seen.states is_state holds.standing.stands
