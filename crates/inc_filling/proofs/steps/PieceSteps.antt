-- The pieces of a group: what they store, in which events, and what the file reads as then.
use Rattle.std.proofs.Common.{◌≡◌, ℕ, zero, suc, ◌+◌, ◌-◌, ◌*◌, ◌<◌, ◌≤◌, Bool, cond, List, [], ◌∷◌, ◌++◌, length, get_or, take, Some, None, refl, sym, ap, subst, ◌∙◌, arith, length-append, length-take}
use Rattle.std.specs.Prelude.{Result, Ok, Err, OnOk, map, replicate}
use Rattle.std.proofs.Math.Seq.{take-length}
use Rattle.std.proofs.lemmas.Bool.{lt-ltb}
use Rattle.std.proofs.lemmas.List.{length-replicate, take_more}
use Rattle.inc_tree.specs.shape.Geometry.{block_len}
use Rattle.inc_tree.specs.read_block.Path.{block_digest}
use Rattle.inc_entry.specs.Entry.{area_places, entries}
use Rattle.inc_entry.specs.Keeps.{IsLayout}
use Rattle.inc_entry.proofs.BlockLemmas.{most_len}
use Rattle.inc_disk.specs.Disk.{DiskState, Now, reads_of}
use Rattle.inc_frame.specs.declared.piece.Piece.{Piece}
use Rattle.inc_layout.specs.fixed.SameFixed.{is_fixed_byte}
use Rattle.inc_layout.specs.declared.opened.Opened.{Opened}
use Rattle.inc_model.specs.relation.State.{Digests}
use Rattle.inc_model.specs.declared.words.event.Event.{Event}
use Rattle.inc_model.specs.declared.words.event.Event.TheVariants.{Claim, Gate, PutData, PutPlace, Release, Settle}
use Rattle.inc_model.specs.declared.words.event.Window.{Window}
use Rattle.inc_model.specs.declared.words.file_state.FileState.{FileState}
use Rattle.inc_cell.specs.device.Puts.{digest_for, len_for}
use Rattle.inc_cell.specs.events.Answers.{IsFullCell}
use Rattle.inc_cell.specs.seen.Seen.{Seen, spots_now, state_now}
use Rattle.inc_cell.specs.seen.Standing.{ReadsAs}
use Rattle.inc_filling.specs.Contents.{FilledFile, block_of_piece, content_of_piece, index_of_piece}
use Rattle.inc_filling.specs.Fillable.{IsFillable}
use Rattle.inc_filling.specs.Grouped.{AllMayBeFilled, AllOpen, AreDistinct, FillsGroup, FrontIsPut, IsFilled, gates_of_each, group_events, group_indices, group_places, places_of_each, put_of, puts_among, puts_of, stored_of, stores_of}
use Rattle.inc_filling.specs.Pieces.{AreTaken, FillsFile, FillsPieces, FrontIsIn, PiecesAreIn, StorePieces, StoresPiece, digest_of_piece, piece_events, piece_indices, piece_places, piece_puts, put_of_piece}
use Rattle.inc_filling.specs.Refusals.{IsStateOfFile, refusal_of}
use Rattle.inc_filling.specs.Shown.{ShowsFile, SpottedBytes, with_group}
use Rattle.inc_filling.specs.Stands.{HasTaken}
use Rattle.inc_filling.specs.declared.filling.Filling.{Filling}
use Rattle.inc_filling.specs.declared.stop.FillStop.{FillStop}
use Rattle.inc_filling.specs.declared.stop.FillStop.TheVariants.{DiskFault, Failed, HistoryFull, OutOfMemory}
use Rattle.inc_filling.proofs.contents.InOrder.{AreBlocks, distinct_differ, in_order}
use Rattle.inc_filling.proofs.contents.KnownOpen.{IsKnown, areas_stand, state_known}
use Rattle.inc_filling.proofs.contents.PieceBytes.{AreKnown, pieces_end, stored_few}
use Rattle.inc_filling.proofs.lemmas.NewLemmas.{still_fillable}
use Rattle.inc_filling.proofs.lemmas.TakenLemmas.{content_again, index_within, taken_may_be_filled, taken_sound}
use Rattle.inc_filling.proofs.steps.LoopSteps.{no_puts, none_of}
use Rattle.inc_filling.proofs.steps.PutLoop.{length_indices}

pub store_more : (opened : Opened) (group : List Filling) (pieces : List Piece) (filling : Filling) (piece : Piece) → StorePieces opened group pieces → StoresPiece opened filling piece → StorePieces opened (group ++ filling ∷ []) (pieces ++ piece ∷ [])
store_more opened [] [] filling piece h one = (one, tt)
store_more opened [] (p ∷ ps) filling piece h one = absurd h
store_more opened (f ∷ fs) [] filling piece h one = absurd h
store_more opened (f ∷ fs) (p ∷ ps) filling piece h one = (h.0, store_more opened fs ps filling piece h.1 one)

pub store_next : (opened : Opened) (group : List Filling) (pieces : List Piece) (k : ℕ) (filling : Filling) (piece : Piece) → k < length pieces → piece ≡ get_or pieces k piece → StorePieces opened group (take k pieces) → StoresPiece opened filling piece
    → StorePieces opened (group ++ filling ∷ []) (take (k + 1) pieces)
store_next opened group pieces k filling piece lt is h one =
    subst (λ (l : List Piece). StorePieces opened (group ++ filling ∷ []) l) (sym (take_more pieces k piece lt ∙ ap (λ (p : Piece). take k pieces ++ p ∷ []) (sym is))) (store_more opened group (take k pieces) filling piece h one)

pub stored_indices : (opened : Opened) (group : List Filling) (pieces : List Piece) → StorePieces opened group pieces → group_indices group ≡ piece_indices opened pieces
stored_indices opened [] [] h = refl
stored_indices opened [] (p ∷ ps) h = absurd h
stored_indices opened (f ∷ fs) [] h = absurd h
stored_indices opened (f ∷ fs) (p ∷ ps) h = ap (λ (i : ℕ). i ∷ group_indices fs) h.0.0 ∙ ap (λ (l : List ℕ). index_of_piece opened p ∷ l) (stored_indices opened fs ps h.1)

pub stored_length : (opened : Opened) (group : List Filling) (pieces : List Piece) → StorePieces opened group pieces → length group ≡ length pieces
stored_length opened [] [] h = refl
stored_length opened [] (p ∷ ps) h = absurd h
stored_length opened (f ∷ fs) [] h = absurd h
stored_length opened (f ∷ fs) (p ∷ ps) h = ap suc (stored_length opened fs ps h.1)

pub all_may_be_filled : (opened : Opened) (s : FileState) (pieces : List Piece) → IsStateOfFile opened s → AreTaken opened pieces → AllMayBeFilled s (piece_indices opened pieces)
all_may_be_filled opened s [] of_file taken k lt = absurd (omega arith)
all_may_be_filled opened s (p ∷ ps) of_file taken zero lt = taken_may_be_filled opened s p of_file (taken 0 p (omega arith))
all_may_be_filled opened s (p ∷ ps) of_file taken (suc k) lt = all_may_be_filled opened s ps of_file (λ j d below. taken (suc j) d (omega arith)) k (omega arith)

-- its index is one of the file's
piece_here : (opened : Opened) (piece : Piece) → refusal_of opened piece ≡ None → index_of_piece opened piece < entries (area_places opened.areas)
piece_here opened piece e = index_within opened.areas.geometry piece.hash piece.number (taken_sound opened piece e).within

-- ---- the events

-- the block of a taken piece is hashed as its own bytes
digest_is : (opened : Opened) (piece : Piece) → refusal_of opened piece ≡ None → digest_for opened (index_of_piece opened piece) (block_of_piece opened piece) ≡ digest_of_piece opened piece
digest_is opened piece e =
    let sound = taken_sound opened piece e in
    let index = index_of_piece opened piece in
    let len = block_len opened.areas.geometry index in
    let here : index < entries (area_places opened.areas) = index_within opened.areas.geometry piece.hash piece.number sound.within in
    let own : len_for opened index ≡ len = ap (λ b. cond b len 4096) (lt-ltb index (entries (area_places opened.areas)) here) in
    let long : len ≤ length piece.bytes = sound.long (most_len opened.areas.geometry index) in
    ap (λ (n : ℕ). block_digest (take n (block_of_piece opened piece))) own ∙ ap block_digest (content_again piece.bytes len long)

put_same : (opened : Opened) (window : Window) (filling : Filling) (piece : Piece) → refusal_of opened piece ≡ None → StoresPiece opened filling piece → put_of opened window filling ≡ put_of_piece opened window piece
put_same opened window filling piece e stores =
    ap (λ (i : ℕ). PutData window i (digest_for opened i filling.block.bytes)) stores.0
    ∙ ap (λ (block : List ℕ). PutData window (index_of_piece opened piece) (digest_for opened (index_of_piece opened piece) block)) stores.1
    ∙ ap (λ (digest : List ℕ). PutData window (index_of_piece opened piece) digest) (digest_is opened piece e)

later_taken : (opened : Opened) (piece : Piece) (pieces : List Piece) → AreTaken opened (piece ∷ pieces) → AreTaken opened pieces
later_taken opened piece pieces taken k d lt = taken (suc k) d (omega arith)

-- of the first so many
pub puts_first : (opened : Opened) (window : Window) (count : ℕ) (group : List Filling) (pieces : List Piece) → StorePieces opened group pieces → AreTaken opened pieces → puts_of opened window (take count group) ≡ map (put_of_piece opened window) (take count pieces)
puts_first opened window zero group pieces h taken = refl
puts_first opened window (suc k) [] [] h taken = refl
puts_first opened window (suc k) [] (p ∷ ps) h taken = absurd h
puts_first opened window (suc k) (f ∷ fs) [] h taken = absurd h
puts_first opened window (suc k) (f ∷ fs) (p ∷ ps) h taken =
    ap (λ (event : Event). event ∷ puts_of opened window (take k fs)) (put_same opened window f p (taken 0 p (omega arith)) h.0)
    ∙ ap (λ (l : List Event). put_of_piece opened window p ∷ l) (puts_first opened window k fs ps h.1 (later_taken opened p ps taken))

pub puts_same : (opened : Opened) (window : Window) (group : List Filling) (pieces : List Piece) → StorePieces opened group pieces → AreTaken opened pieces → puts_of opened window group ≡ map (put_of_piece opened window) pieces
puts_same opened window group pieces h taken =
    ap (puts_of opened window) (sym (take-length group)) ∙ puts_first opened window (length group) group pieces h taken
    ∙ ap (map (put_of_piece opened window)) (ap (λ (n : ℕ). take n pieces) (stored_length opened group pieces h) ∙ take-length pieces)

places_same : (opened : Opened) (group : List Filling) (pieces : List Piece) → StorePieces opened group pieces → group_places group ≡ piece_places pieces
places_same opened group pieces h = ap (λ (n : ℕ). 5 * n + 1) (stored_length opened group pieces h)

events_same : (opened : Opened) (window : Window) (group : List Filling) (pieces : List Piece) (stored : List ℕ) → StorePieces opened group pieces → AreTaken opened pieces
    → group_events opened window (group_places group) group stored ≡ piece_events opened window pieces stored
events_same opened window group pieces stored h taken =
    ap (λ (n : ℕ). group_events opened window n group stored) (places_same opened group pieces h)
    ∙ ap (λ (l : List Event). (((Claim window (piece_places pieces) ∷ []) ++ l) ++ stores_of window stored) ++ (Release window ∷ [])) (puts_same opened window group pieces h taken)

-- ---- the puts among them

puts_told : (opened : Opened) (window : Window) (pieces : List Piece) → puts_among (map (put_of_piece opened window) pieces) ≡ piece_puts opened pieces
puts_told opened window [] = refl
puts_told opened window (p ∷ ps) = ap (λ (l : List (ℕ × List ℕ)). (index_of_piece opened p, digest_of_piece opened p) ∷ l) (puts_told opened window ps)

no_store_puts : (window : Window) (stored : List ℕ) → puts_among (stores_of window stored) ≡ []
no_store_puts window [] = refl
no_store_puts window (i ∷ is) =
    let gates = no_puts (gates_of_each window (i ∷ is)) (Settle window ∷ []) refl ∙ none_of (Gate window) (λ j. refl) (i ∷ is) in
    no_puts (places_of_each window (i ∷ is)) (Settle window ∷ (gates_of_each window (i ∷ is) ++ (Settle window ∷ []))) gates ∙ none_of (PutPlace window) (λ j. refl) (i ∷ is)

piece_puts_told : (opened : Opened) (window : Window) (pieces : List Piece) (stored : List ℕ) → puts_among (piece_events opened window pieces stored) ≡ piece_puts opened pieces
piece_puts_told opened window pieces stored =
    let claimed = (Claim window (piece_places pieces) ∷ []) ++ map (put_of_piece opened window) pieces in
    no_puts (claimed ++ stores_of window stored) (Release window ∷ []) refl ∙ no_puts claimed (stores_of window stored) (no_store_puts window stored) ∙ puts_told opened window pieces

-- ---- the bytes

blocks_whole : (opened : Opened) (is_fixed : ℕ → Bool) (len : ℕ) (layout : IsLayout (area_places opened.areas) is_fixed len) (open_ones : Digests) (group : List Filling) (pieces : List Piece) → StorePieces opened group pieces → AreTaken opened pieces
    → AreBlocks opened is_fixed len layout open_ones group
blocks_whole opened is_fixed len layout open_ones [] [] h taken = tt
blocks_whole opened is_fixed len layout open_ones [] (p ∷ ps) h taken = absurd h
blocks_whole opened is_fixed len layout open_ones (f ∷ fs) [] h taken = absurd h
blocks_whole opened is_fixed len layout open_ones (f ∷ fs) (p ∷ ps) h taken =
    let here = piece_here opened p (taken 0 p (omega arith)) in
    let most = most_len opened.areas.geometry (index_of_piece opened p) in
    let few = length-take (block_len opened.areas.geometry (index_of_piece opened p)) p.bytes in
    let whole : length (block_of_piece opened p) ≡ 4096 = omega (arith, length-append (content_of_piece opened p) (replicate (4096 - length (content_of_piece opened p)) 0), length-replicate {A = ℕ} (4096 - length (content_of_piece opened p)) 0) in (
      (subst (λ (i : ℕ). i < entries (area_places opened.areas)) (sym h.0.0) here, ap (λ (b : List ℕ). length b) h.0.1 ∙ whole),
      blocks_whole opened is_fixed len layout open_ones fs ps h.1 (later_taken opened p ps taken),
    )

module _ (old : Seen) (bytes : List ℕ) (reads : ReadsAs old.opened (state_now old) bytes) (fillable : IsFillable old) (unfailed : (state_now old).failed ≡ None) where
  abbrev opened : Opened
  opened = old.opened

  abbrev open_ones : Digests
  open_ones = (state_now old).map

  abbrev is_fixed : ℕ → Bool
  is_fixed = is_fixed_byte reads.fixed.found

  layout : IsLayout (area_places opened.areas) is_fixed (length bytes)
  layout = areas_stand opened (state_now old) bytes reads

  are_known : (group : List Filling) (pieces : List Piece) → StorePieces opened group pieces → AreTaken opened pieces → AreKnown opened is_fixed (length bytes) layout open_ones bytes group
  are_known [] [] h taken = tt
  are_known [] (p ∷ ps) h taken = absurd h
  are_known (f ∷ fs) [] h taken = absurd h
  are_known (f ∷ fs) (p ∷ ps) h taken =
      let may = taken_may_be_filled opened (state_now old) p fillable.of_file (taken 0 p (omega arith)) in
      let known = state_known opened (state_now old) bytes reads old.opening fillable.idle.facts unfailed (index_of_piece opened p) may (piece_here opened p (taken 0 p (omega arith))) in
      (subst (λ (i : ℕ). IsKnown (area_places opened.areas) open_ones bytes i) (sym h.0.0) known, are_known fs ps h.1 (later_taken opened p ps taken))

  fills_file : (window : Window) (group : List Filling) (pieces : List Piece) (stored : List ℕ) (new : Seen) → StorePieces opened group pieces → AreTaken opened pieces → AreDistinct (group_indices group) → stored ≡ stored_of open_ones (group_indices group)
      → (spot : ℕ → ℕ) → ShowsFile new (with_group opened open_ones (record { bytes = bytes; spot = spot }) group) → (file : FilledFile) → file.bytes ≡ bytes → FillsFile opened pieces stored file new.states
  fills_file window group pieces stored new h taken distinct are spot shown file same =
      let start : SpottedBytes = record { bytes = bytes; spot = spot } in
      let differ = distinct_differ (group_indices group) distinct in
      let blocks = blocks_whole opened is_fixed (length bytes) layout open_ones group pieces h taken in
      let order = in_order opened is_fixed (length bytes) layout open_ones group start differ blocks (omega arith) in
      let ends = pieces_end opened is_fixed (length bytes) layout open_ones group pieces start file h same (omega arith) differ blocks (are_known group pieces h taken) in
      let few = stored_few open_ones (group_indices group) in
      let each = length_indices group in
      let as_many = stored_length opened group pieces h in
      let count : length stored ≡ length (stored_of open_ones (group_indices group)) = ap (λ (l : List ℕ). length l) are in
      record {
        reads = shown.reads ∙ ap (λ (s : SpottedBytes). Some s.bytes) order ∙ ap (λ (b : List ℕ). Some b) (sym ends.bytes);
        written = omega (arith, ends.written);
        present = omega (arith, ends.present);
      }

-- ---- the outcome

some_bytes : (a b : List ℕ) → Some a ≡ Some b → a ≡ b
some_bytes a b e = cc

read_now : (opened : Opened) (s : FileState) (states : List DiskState) (bytes : List ℕ) → Now states (λ disk. ReadsAs opened s disk.reads) → reads_of states ≡ Some bytes → ReadsAs opened s bytes
read_now opened s [] bytes reads e = absurd (cc)
read_now opened s (disk ∷ past) bytes reads e = subst (λ (b : List ℕ). ReadsAs opened s b) (some_bytes disk.reads bytes e) reads

module _ (old new : Seen) (window : Window) (pieces : List Piece) (group : List Filling) (stored : List ℕ) (h : StorePieces old.opened group pieces) (fillable : IsFillable old) (taken : AreTaken old.opened pieces) (distinct : AreDistinct (group_indices group))
    (reads : Now old.states (λ disk. ReadsAs old.opened (state_now old) disk.reads)) where
  pieces_in : IsFilled old window group stored new → ((file : SpottedBytes) → ShowsFile old file → ShowsFile new (with_group old.opened (state_now old).map file group)) → PiecesAreIn old window pieces stored new
  pieces_in filled shows = record {
    taken = subst (λ (events : List Event). HasTaken old events new) (events_same old.opened window group pieces stored h taken) filled.released.taken;
    puts_are = piece_puts_told old.opened window pieces stored;
    rest = still_fillable old new (group_events old.opened window (group_places group) group stored) fillable filled.released;
    sound = filled.released.sound;
    count = filled.released.count;
    stored_are = filled.stored_are ∙ ap (stored_of (state_now old).map) (stored_indices old.opened group pieces h);
    there = subst (λ (indices : List ℕ). AllOpen (state_now new).map indices) (stored_indices old.opened group pieces h) filled.there;
    contents = λ file told.
        fills_file old file.bytes (read_now old.opened (state_now old) old.states file.bytes reads told) fillable filled.unfailed window group pieces stored new h taken distinct filled.stored_are (spots_now old)
        (shows (record { bytes = file.bytes; spot = spots_now old }) (record { reads = told; spots = refl })) file refl;
  }

  front_in : FrontIsPut old window group new → FrontIsIn old window pieces new
  front_in front = record {
    front = front.count;
    within = let few = front.within in let as_many = stored_length old.opened group pieces h in omega arith;
    events = front.events;
    taken = front.taken;
    puts_are = front.puts_are ∙ ap puts_among (puts_first old.opened window front.count group pieces h taken) ∙ puts_told old.opened window (take front.count pieces);
    released = front.released;
    rose = front.rose;
  }

  pub pieces_filled : {T : Type 0} (result : Result T FillStop) → FillsGroup old window group result stored new → ((file : SpottedBytes) → ShowsFile old file → OnOk result (ShowsFile new (with_group old.opened (state_now old).map file group))) → FillsPieces old window pieces result stored new
  pieces_filled (Ok done) fills shows = pieces_in fills shows
  pieces_filled (Err DiskFault) fills shows = front_in fills
  pieces_filled (Err (Failed at)) fills shows = subst (λ (n : ℕ). ((state_now old).failed ≡ Some at) × HasTaken old (Claim window n ∷ []) new × (new.count ≡ old.count)) (places_same old.opened group pieces h) fills
  pieces_filled (Err (HistoryFull entries claimed)) fills shows = subst (λ (n : ℕ). IsFullCell old (Claim window n) entries claimed new) (places_same old.opened group pieces h) fills
  pieces_filled (Err OutOfMemory) fills shows = fills
