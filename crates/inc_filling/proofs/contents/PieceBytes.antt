-- A group's writes, one index after another, are those of the definition of a fill.
use Rattle.std.proofs.Common.{◌≡◌, ℕ, suc, ◌+◌, ◌<◌, ◌≤◌, Bool, true, false, not, cond, eqb, List, [], ◌∷◌, length, refl, sym, ap, ◌∙◌, arith}
use Rattle.std.specs.Prelude.{is_some}
use Rattle.std.proofs.lemmas.Bool.{eq-eqb}
use Rattle.inc_bytes.specs.Fields.{le_bytes}
use Rattle.inc_entry.specs.Entry.{area_places, entry_at}
use Rattle.inc_entry.specs.Keeps.{IsLayout}
use Rattle.inc_entry.specs.Stored.{stored_digest}
use Rattle.inc_entry.proofs.SpanLemmas.{or_false}
use Rattle.inc_disk.specs.Disk.{overwritten}
use Rattle.inc_frame.specs.declared.piece.Piece.{Piece}
use Rattle.inc_layout.specs.declared.opened.Opened.{Opened}
use Rattle.inc_model.specs.relation.State.{Digests, has, is_in}
use Rattle.inc_filling.specs.Contents.{FilledFile, block_of_piece, index_of_piece, place_in, stored_at, with_pieces}
use Rattle.inc_filling.specs.Grouped.{group_indices, stored_of}
use Rattle.inc_filling.specs.Pieces.{StorePieces, StoresPiece}
use Rattle.inc_filling.specs.Shown.{SpottedBytes, with_block, with_gate, with_place_of}
use Rattle.inc_filling.specs.declared.filling.Filling.{Filling}
use Rattle.inc_filling.proofs.contents.InOrder.{AreBlocks, Differ, one_long, with_each, with_one}
use Rattle.inc_filling.proofs.contents.KnownOpen.{IsKnown, known_digest, known_longer}
use Rattle.inc_filling.proofs.contents.Spotted.{block_length, entry_stays, gate_length, place_length}

pub stored_few : (open_ones : Digests) (indices : List ℕ) → length (stored_of open_ones indices) ≤ length indices
stored_few open_ones [] = omega arith
stored_few open_ones (x ∷ xs) = step (not (is_in x open_ones)) (stored_few open_ones xs)
  where
    step : (b : Bool) → length (stored_of open_ones xs) ≤ length xs → length (cond b (x ∷ stored_of open_ones xs) (stored_of open_ones xs)) ≤ suc (length xs)
    step true le = omega arith
    step false le = omega arith

-- `len` bytes hold the areas of the file
module _ (opened : Opened) (is_fixed : ℕ → Bool) (len : ℕ) (layout : IsLayout (area_places opened.areas) is_fixed len) (open_ones : Digests) where
  abbrev pub AreKnown : List ℕ → List Filling → Type 0
  AreKnown bytes [] = Unit {0}
  AreKnown bytes (f ∷ fs) = IsKnown (area_places opened.areas) open_ones bytes f.index × AreKnown bytes fs

  -- ---- the other indices are known as before

  known_after : (fs : List Filling) (file : SpottedBytes) (f : Filling) (b : Bool) → f.index < Rattle.inc_entry.specs.Entry.entries (area_places opened.areas) → length f.block.bytes ≡ 4096
      → has f.index (group_indices fs) ≡ false → AreBlocks opened is_fixed len layout open_ones fs → len ≤ length file.bytes → AreKnown file.bytes fs → AreKnown (with_one opened file f b).bytes fs
  known_after fs file f false here whole new blocks long known = known
  known_after [] file f true here whole new blocks long known = tt
  known_after (g ∷ gs) file f true here whole new blocks long known =
      let other = or_false (eqb f.index g.index) (has f.index (group_indices gs)) new in
      let blocked = with_block opened file f in
      let placed = with_place_of opened blocked f.index in
      let one = block_length opened is_fixed len layout file long f here in
      let two = place_length opened is_fixed len layout blocked (omega arith) f.index here in
      let three = gate_length opened is_fixed len layout placed (omega arith) f.index here in (
        known_longer (area_places opened.areas) open_ones file.bytes (with_gate opened placed f.index).bytes g.index (omega arith)
            (entry_stays opened is_fixed len layout file long f g.index here blocks.0.0 whole other.0) known.0,
        known_after gs file f true here whole other.1 blocks.1 long known.1,
      )

  -- ---- one piece

  stored_same : (file : SpottedBytes) (bytes : List ℕ) (f : Filling) (p : Piece) → bytes ≡ file.bytes → StoresPiece opened f p
      → stored_at opened bytes (index_of_piece opened p) (block_of_piece opened p) (place_in opened bytes (index_of_piece opened p)) ≡ (with_one opened file f true).bytes
  stored_same file bytes f p same stores =
      let i = f.index in
      let place = place_in opened file.bytes i in
      let own : cond (eqb i i) place (file.spot i) ≡ place = ap (λ b. cond b place (file.spot i)) (eq-eqb i i refl) in
      ap (λ (b : List ℕ). stored_at opened b (index_of_piece opened p) (block_of_piece opened p) (place_in opened b (index_of_piece opened p))) same
      ∙ ap (λ (j : ℕ). stored_at opened file.bytes j (block_of_piece opened p) (place_in opened file.bytes j)) (sym stores.0)
      ∙ ap (λ (block : List ℕ). stored_at opened file.bytes i block place) (sym stores.1)
      ∙ ap (λ (n : ℕ). overwritten (entry_at (area_places opened.areas) i + 7) (16 ∷ []) (overwritten (entry_at (area_places opened.areas) i) (le_bytes 6 n) (overwritten place f.block.bytes file.bytes))) (sym own)

  -- ---- all pieces

  -- the rest of the pieces after `next`, over `filled`
  pub record EndsStream (next : FilledFile) (pieces : List Piece) (file : SpottedBytes) (group : List Filling) (stored : List ℕ) (filled : FilledFile) (count : ℕ) : Type 0 where
    pub bytes : (with_pieces opened next pieces).bytes ≡ (with_each opened open_ones file group).bytes
    pub written : (with_pieces opened next pieces).written ≡ filled.written + length stored
    pub present : (with_pieces opened next pieces).present + length stored ≡ filled.present + count

  pub pieces_end : (group : List Filling) (pieces : List Piece) (file : SpottedBytes) (filled : FilledFile) → StorePieces opened group pieces → filled.bytes ≡ file.bytes → len ≤ length file.bytes → Differ (group_indices group)
      → AreBlocks opened is_fixed len layout open_ones group → AreKnown file.bytes group → EndsStream filled pieces file group (stored_of open_ones (group_indices group)) filled (length group)
  pieces_end [] [] file filled stores same long new blocks known = record { bytes = same; written = omega arith; present = omega arith }
  pieces_end [] (p ∷ ps) file filled stores same long new blocks known = absurd stores
  pieces_end (f ∷ fs) [] file filled stores same long new blocks known = absurd stores
  pieces_end (f ∷ fs) (p ∷ ps) file filled stores same long new blocks known =
      let ends = step (is_some (stored_digest (area_places opened.areas) filled.bytes (index_of_piece opened p))) (is_in f.index open_ones)
      (ap (λ (b : List ℕ). is_some (stored_digest (area_places opened.areas) b (index_of_piece opened p))) same
      ∙ ap (λ (i : ℕ). is_some (stored_digest (area_places opened.areas) file.bytes i)) (sym stores.0.0) ∙ known_digest (area_places opened.areas) open_ones file.bytes f.index known.0)
      (λ b next is. pieces_end fs ps (with_one opened file f b) next stores.1 is (one_long opened is_fixed len layout open_ones file f b blocks.0.0 long) new.1 blocks.1
      (known_after fs file f b blocks.0.0 blocks.0.1 new.0 blocks.1 long known.1)) in
      record { bytes = ends.bytes; written = ends.written; present = ends.present }
    where
      there : FilledFile
      there = record filled { present = filled.present + 1 }

      then : FilledFile
      then = record filled {
        bytes = stored_at opened filled.bytes (index_of_piece opened p) (block_of_piece opened p) (place_in opened filled.bytes (index_of_piece opened p));
        written = filled.written + 1;
      }

      st : List ℕ
      st = stored_of open_ones (group_indices fs)

      step : (found inside : Bool) → found ≡ inside → ((b : Bool) (next : FilledFile) → next.bytes ≡ (with_one opened file f b).bytes → EndsStream next ps (with_one opened file f b) fs st next (length fs))
          → EndsStream (cond found there then) ps (with_one opened file f (not inside)) fs (cond (not inside) (f.index ∷ st) st) filled (suc (length fs))
      step true true e rest =
          let ends = rest false there same in
          record { bytes = ends.bytes; written = ends.written; present = omega (arith, ends.present) }
      step false false e rest =
          let ends = rest true then (stored_same file filled.bytes f p same stores.0) in
          record { bytes = ends.bytes; written = omega (arith, ends.written); present = omega (arith, ends.present) }
      step true false e rest = absurd (cc)
      step false true e rest = absurd (cc)
