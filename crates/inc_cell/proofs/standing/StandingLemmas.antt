-- How a state stands on its disk through each call of the disk.
use Rattle.std.proofs.Common.{◌≡◌, inl, inr, ℕ, ◌+◌, ◌^◌, ◌<◌, ◌≤◌, Bool, true, false, cond, List, [], ◌∷◌, length, take, Option, Some, None, Result, Ok, Err, refl, sym, ap, subst, ◌∙◌}
use Rattle.std.proofs.lemmas.Bool.{eq-eqb, ne_eqb}
use Rattle.inc_pending.specs.Keyed.{lookup, insert}
use Rattle.inc_tree.specs.shape.Geometry.{block_len}
use Rattle.inc_tree.specs.read_block.Path.{block_digest}
use Rattle.inc_entry.specs.Entry.{Places, area_places, entries, entry_at}
use Rattle.inc_entry.specs.Keeps.{Keeps, Kind, Acknowledged, Begun, Shut}
use Rattle.inc_disk.specs.Disk.{DiskState, Now}
use Rattle.inc_disk.specs.Laws.{EachImage, Goes}
use Rattle.inc_disk.proofs.Moments.{started, stays, weaker}
use Rattle.inc_fill.specs.Facts.{Facts, InFlight, Row, SameBut, row_at, settled_kind, settled_row, Written, Placed, Settled, Gated}
use Rattle.inc_fill.specs.Laws.{SaysAsMuch}
use Rattle.inc_fill.specs.Steps.{BlockGoes, GateGoes, IsFreePlace, PlaceGoes, SettleGoes}
use Rattle.inc_fill.proofs.Images.{facts_keep}
use Rattle.inc_fill.proofs.Known.{weaker_keeps}
use Rattle.inc_fill.proofs.Settling.{release_keeps}
use Rattle.inc_layout.specs.Backing.{fixed_in}
use Rattle.inc_layout.specs.fixed.Fixed.{IsFixed}
use Rattle.inc_layout.specs.state.Preserves.{Preserves}
use Rattle.inc_layout.specs.fixed.SameFixed.{is_fixed_byte}
use Rattle.inc_layout.specs.state.State.{IsStateOf, StateParts, kind_in}
use Rattle.inc_layout.specs.declared.opened.Opened.{Opened}
use Rattle.inc_layout.proofs.fixed_part.LayoutMeaning.{layout_stands}
use Rattle.inc_layout.proofs.opened_file.Preserving.{kept_preserves}
use Rattle.inc_model.specs.relation.State.{Digests, FlightRises, flight_row, fly, land}
use Rattle.inc_model.specs.relation.Stages.{gated, is_gated, placed, synced_flight}
use Rattle.inc_model.specs.declared.words.event.Window.{Window}
use Rattle.inc_model.specs.declared.words.file_state.FlightRow.{FlightRow}
use Rattle.inc_model.specs.declared.words.file_state.Stage.{Stage}
use Rattle.inc_model.specs.declared.words.file_state.Stage.TheVariants.{Written as written_stage, Settled as settled_stage}
use Rattle.inc_cell.specs.seen.Spots.{changed_at}
use Rattle.inc_cell.specs.seen.Standing.{Standing, fill_row, fill_stage}
use Rattle.inc_cell.proofs.standing.FlightLemmas.{is_gated_in}
use Rattle.inc_cell.proofs.standing.FollowLemmas.{begin_follows, no_rest, open_follows, place_follows, put_follows, release_follows, released_less, released_row}
use Rattle.inc_cell.proofs.standing.SyncLemmas.{sync_follows}

-- ---- a function that differs at one index

changed_here : {T : Type 0} (j : ℕ) (new : T) (old : ℕ → T) → changed_at j new old j ≡ new
changed_here j new old = ap (λ b. cond b new (old j)) (eq-eqb j j refl)

changed_else : {T : Type 0} (j : ℕ) (new : T) (old : ℕ → T) → SameBut j old (changed_at j new old)
changed_else j new old i ne = ap (λ b. cond b new (old i)) (ne_eqb i j ne)

-- ---- a call that goes on

-- what a call of a disk that tells nothing leaves
untold : {T E : Type 0} (new : List DiskState) (result : Result T E) (done failed : DiskState → Type 0) (P : List ℕ → Type 0) → new ≡ [] → Goes [] new result done failed P
untold new (Ok x) done failed P none = record { ok = subst (λ states. Now states done) (sym none) tt; err = tt; moments = stays [] [] new P (started [] P tt) none }
untold new (Err x) done failed P none = record { ok = tt; err = subst (λ states. Now states failed) (sym none) tt; moments = stays [] [] new P (started [] P tt) none }

now_so : (states : List DiskState) (P Q : DiskState → Type 0) → ((disk : DiskState) → P disk → Q disk) → Now states P → Now states Q
now_so [] P Q so h = tt
now_so (disk ∷ past) P Q so h = so disk h

goes_so : {T E : Type 0} (old new : List DiskState) (result : Result T E) (done done' failed failed' : DiskState → Type 0) (P P' : List ℕ → Type 0)
    → ((disk : DiskState) → done disk → done' disk) → ((disk : DiskState) → failed disk → failed' disk) → ((image : List ℕ) → P image → P' image)
    → Goes old new result done failed P → Goes old new result done' failed' P'
goes_so old new (Ok x) done done' failed failed' P P' to fro so goes = record { ok = now_so new done done' to goes.ok; err = tt; moments = weaker old new P P' goes.moments so }
goes_so old new (Err x) done done' failed failed' P P' to fro so goes = record { ok = tt; err = now_so new failed failed' fro goes.err; moments = weaker old new P P' goes.moments so }

-- ---- what is kept

module _ (opened : Opened) where
  abbrev places : Places
  places = area_places opened.areas

  abbrev is_fixed : ℕ → Bool
  is_fixed = is_fixed_byte (fixed_in opened)

  image_keeps : (parts : StateParts) (base image : List ℕ) (kind : ℕ → Kind) → IsFixed base (fixed_in opened) → IsStateOf opened parts → ((i : ℕ) → SaysAsMuch (kind i) (kind_in parts i))
      → Keeps (area_places opened.areas) (is_fixed_byte (fixed_in opened)) base kind image → Preserves image parts
  image_keeps parts base image kind fixed state covers keeps =
      kept_preserves base image opened parts fixed state (weaker_keeps (area_places opened.areas) (is_fixed_byte (fixed_in opened)) base image kind (kind_in parts) (λ i lt. covers i) keeps)

  pub standing_keeps : (parts : StateParts) (digests : Digests) (flight : List FlightRow) (spot : ℕ → ℕ) (disk : DiskState) → IsStateOf opened parts → Standing opened parts digests flight spot disk → EachImage disk (λ image. Preserves image parts)
  standing_keeps parts digests flight spot disk state stands image is =
      image_keeps parts stands.base image stands.kind stands.fixed state stands.follows.covers
      (facts_keep (area_places opened.areas) (is_fixed_byte (fixed_in opened)) stands.base stands.kind stands.row spot disk stands.facts image is)

  pub now_keeps : (parts : StateParts) (digests : Digests) (flight : List FlightRow) (spot : ℕ → ℕ) (states : List DiskState) → IsStateOf opened parts → Now states (Standing opened parts digests flight spot)
      → Now states (λ disk. EachImage disk (λ image. Preserves image parts))
  now_keeps parts digests flight spot states state stands =
      now_so states (Standing opened parts digests flight spot) (λ disk. EachImage disk (λ image. Preserves image parts)) (λ disk. standing_keeps parts digests flight spot disk state) stands

  -- ---- a block is put

  pub put_stands : {T E : Type 0} (parts : StateParts) (digests : Digests) (flight : List FlightRow) (spot : ℕ → ℕ) (row : FlightRow) (place : ℕ) (block : List ℕ) (old new : List DiskState) (result : Result T E)
      → BlockGoes place block old new result → (old ≡ [] → new ≡ []) → IsStateOf opened parts → row.stage ≡ written_stage → row.index < entries (area_places opened.areas)
      → Now old (λ disk. IsFreePlace (area_places opened.areas) (length disk.reads) row.index place) → place + 4096 ≤ 2 ^ 47 → row.digest ≡ block_digest (take (block_len opened.areas.geometry row.index) block)
      → flight_row row.index flight ≡ None → lookup row.index digests ≡ None → kind_in parts row.index ≡ Shut
      → Now old (Standing opened parts digests flight spot)
      → Goes old new result (Standing opened parts digests (fly row flight) (changed_at row.index place spot)) (Standing opened parts digests flight spot) (λ image. Preserves image parts)
  put_stands parts digests flight spot row place block [] new result goes none state stage inside free end is out absent shut stands =
      untold new result (Standing opened parts digests (fly row flight) (changed_at row.index place spot)) (Standing opened parts digests flight spot) (λ image. Preserves image parts) (none refl)
  put_stands parts digests flight spot row place block (disk ∷ past) new result goes none state stage inside free end is out absent shut stands =
      let j : ℕ = row.index in
      let base : List ℕ = stands.base in
      let f = stands.follows in
      let written : Option Row = Some (row_at row.digest Written) in
      let row' : ℕ → Option Row = changed_at j written stands.row in
      let spot' : ℕ → ℕ = changed_at j place spot in
      let kind_now : stands.kind j ≡ Shut = subst (λ (k : Kind). SaysAsMuch (stands.kind j) k) shut (f.covers j) in
      let row_now : stands.row j ≡ None = no_rest (lookup j digests) (stands.row j) absent (f.resting j out) in
      let now : row' j ≡ Some (fill_row row) = changed_here j written stands.row ∙ ap (λ (st : Stage). Some (row_at row.digest (fill_stage st))) (sym stage) in
      goes_so (disk ∷ past) new result (Facts places is_fixed base stands.kind row' spot') (Standing opened parts digests (fly row flight) spot') (Facts places is_fixed base stands.kind stands.row spot)
      (Standing opened parts digests flight spot) (Keeps places is_fixed base stands.kind) (λ image. Preserves image parts)
      (λ d facts. record {
        base = base;
        kind = stands.kind;
        row = row';
        fixed = stands.fixed;
        facts = facts;
        follows = put_follows parts digests flight stands.kind stands.row row' row f out absent (changed_else j written stands.row) now;
      })
      (λ d facts. record { base = base; kind = stands.kind; row = stands.row; fixed = stands.fixed; facts = facts; follows = f })
      (λ image. image_keeps parts base image stands.kind stands.fixed state f.covers)
      (goes places is_fixed base stands.kind stands.row row' spot spot' j (length disk.reads) row.digest (layout_stands base (fixed_in opened) stands.fixed) inside refl free end is kind_now row_now
      (changed_else j written stands.row) (changed_here j written stands.row) (changed_else j place spot) (changed_here j place spot) stands.facts)

  -- ---- its place

  pub place_stands : {T E : Type 0} (parts : StateParts) (digests : Digests) (flight : List FlightRow) (spot : ℕ → ℕ) (found : FlightRow) (j at : ℕ) (old new : List DiskState) (result : Result T E)
      → PlaceGoes at (spot j) old new result → (old ≡ [] → new ≡ []) → IsStateOf opened parts → j < entries (area_places opened.areas) → at ≡ entry_at (area_places opened.areas) j
      → flight_row j flight ≡ Some found → found.stage ≡ written_stage → lookup j digests ≡ None
      → Now old (Standing opened parts digests flight spot)
      → Goes old new result (Standing opened parts digests (placed j flight) spot) (Standing opened parts digests flight spot) (λ image. Preserves image parts)
  place_stands parts digests flight spot found j at [] new result goes none state inside entry is stage absent stands =
      untold new result (Standing opened parts digests (placed j flight) spot) (Standing opened parts digests flight spot) (λ image. Preserves image parts) (none refl)
  place_stands parts digests flight spot found j at (disk ∷ past) new result goes none state inside entry is stage absent stands =
      let base : List ℕ = stands.base in
      let f = stands.follows in
      let row' : ℕ → Option Row = changed_at j (Some (row_at found.digest Placed)) stands.row in
      let was : stands.row j ≡ Some (row_at found.digest Written) = f.flying j found is ∙ ap (λ (st : Stage). Some (row_at found.digest (fill_stage st))) stage in
      goes_so (disk ∷ past) new result (Facts places is_fixed base stands.kind row' spot) (Standing opened parts digests (placed j flight) spot) (Facts places is_fixed base stands.kind stands.row spot)
      (Standing opened parts digests flight spot) (Keeps places is_fixed base stands.kind) (λ image. Preserves image parts)
      (λ d facts. record {
        base = base;
        kind = stands.kind;
        row = row';
        fixed = stands.fixed;
        facts = facts;
        follows = place_follows parts digests flight stands.kind stands.row row' j found f is absent (changed_else j (Some (row_at found.digest Placed)) stands.row) (changed_here j (Some (row_at found.digest Placed)) stands.row);
      })
      (λ d facts. record { base = base; kind = stands.kind; row = stands.row; fixed = stands.fixed; facts = facts; follows = f })
      (λ image. image_keeps parts base image stands.kind stands.fixed state f.covers)
      (goes places is_fixed base stands.kind stands.row row' spot j found.digest (layout_stands base (fixed_in opened) stands.fixed) inside entry refl was
      (changed_else j (Some (row_at found.digest Placed)) stands.row) (changed_here j (Some (row_at found.digest Placed)) stands.row) stands.facts)

  -- ---- its gate

  pub gate_stands : {T E : Type 0} (parts parts' : StateParts) (digests : Digests) (flight : List FlightRow) (spot : ℕ → ℕ) (found : FlightRow) (j at : ℕ) (old new : List DiskState) (result : Result T E)
      → GateGoes at old new result → (old ≡ [] → new ≡ []) → IsStateOf opened parts' → j < entries (area_places opened.areas) → at ≡ entry_at (area_places opened.areas) j
      → flight_row j flight ≡ Some found → found.stage ≡ settled_stage → lookup j digests ≡ None
      → kind_in parts' j ≡ Begun found.digest → SameBut j (kind_in parts) (kind_in parts')
      → Now old (Standing opened parts digests flight spot)
      → Goes old new result (Standing opened parts' (insert j found.digest digests) (gated j flight) spot) (Standing opened parts' digests flight spot) (λ image. Preserves image parts')
  gate_stands parts parts' digests flight spot found j at [] new result goes none state inside entry is stage absent begun stay stands =
      untold new result (Standing opened parts' (insert j found.digest digests) (gated j flight) spot) (Standing opened parts' digests flight spot) (λ image. Preserves image parts') (none refl)
  gate_stands parts parts' digests flight spot found j at (disk ∷ past) new result goes none state inside entry is stage absent begun stay stands =
      let base : List ℕ = stands.base in
      let f = stands.follows in
      let kind' : ℕ → Kind = changed_at j (Begun found.digest) stands.kind in
      let row' : ℕ → Option Row = changed_at j (Some (row_at found.digest Gated)) stands.row in
      let was : stands.row j ≡ Some (row_at found.digest Settled) = f.flying j found is ∙ ap (λ (st : Stage). Some (row_at found.digest (fill_stage st))) stage in
      let same_kind : SameBut j stands.kind kind' = changed_else j (Begun found.digest) stands.kind in
      let begun_kind : kind' j ≡ Begun found.digest = changed_here j (Begun found.digest) stands.kind in
      let broken = begin_follows parts parts' digests flight stands.kind kind' stands.row j found.digest f absent same_kind begun_kind begun stay in
      goes_so (disk ∷ past) new result (Facts places is_fixed base kind' row' spot) (Standing opened parts' (insert j found.digest digests) (gated j flight) spot) (Facts places is_fixed base kind' stands.row spot)
      (Standing opened parts' digests flight spot) (Keeps places is_fixed base kind') (λ image. Preserves image parts')
      (λ d facts. record {
        base = base;
        kind = kind';
        row = row';
        fixed = stands.fixed;
        facts = facts;
        follows = open_follows parts parts' digests flight stands.kind kind' stands.row row' j found f is same_kind begun_kind begun stay (changed_else j (Some (row_at found.digest Gated)) stands.row)
            (changed_here j (Some (row_at found.digest Gated)) stands.row);
      })
      (λ d facts. record { base = base; kind = kind'; row = stands.row; fixed = stands.fixed; facts = facts; follows = broken })
      (λ image. image_keeps parts' base image kind' stands.fixed state broken.covers)
      (goes places is_fixed base stands.kind kind' stands.row row' spot j found.digest (layout_stands base (fixed_in opened) stands.fixed) inside entry was
      (changed_else j (Some (row_at found.digest Gated)) stands.row) (changed_here j (Some (row_at found.digest Gated)) stands.row) same_kind begun_kind stands.facts)

  -- ---- a sync

  -- each row behind a written gate is of a begun index
  behind_at : (parts : StateParts) (digests : Digests) (flight : List FlightRow) (spot : ℕ → ℕ) (disk : DiskState) (stands : Standing opened parts digests flight spot disk)
      → ((i : ℕ) (found : FlightRow) → flight_row i flight ≡ Some found → i < entries (area_places opened.areas)) → ((i : ℕ) (digest : List ℕ) → lookup i digests ≡ Some digest → i < entries (area_places opened.areas))
      → (i : ℕ) (d : List ℕ) → stands.row i ≡ Some (row_at d Gated) → stands.kind i ≡ Begun d
  behind_at parts digests flight spot disk stands in_flight in_map i d is =
      let there = subst (λ (r : Option Row). InFlight disk places i (spot i) (stands.kind i) r) is (stands.facts.flight i (inside (flight_row i flight) refl)) in
      there.1.0
    where
      inside : (was : Option FlightRow) → flight_row i flight ≡ was → i < entries (area_places opened.areas)
      inside (Some found) at = in_flight i found at
      inside None at = elim (stands.follows.resting i at) [ inl none ↦ absurd (let same = sym none ∙ is in cc) | inr gated ↦ in_map i gated.0 gated.1 ]

  pub settle_stands : {T E : Type 0} (parts parts' : StateParts) (digests : Digests) (flight : List FlightRow) (spot : ℕ → ℕ) (old new : List DiskState) (result : Result T E)
      → SettleGoes old new result → (old ≡ [] → new ≡ []) → IsStateOf opened parts → FlightRises flight
      → ((i : ℕ) (found : FlightRow) → flight_row i flight ≡ Some found → i < entries (area_places opened.areas)) → ((i : ℕ) (digest : List ℕ) → lookup i digests ≡ Some digest → i < entries (area_places opened.areas))
      → ((i : ℕ) (found : FlightRow) → flight_row i flight ≡ Some found → is_gated found.stage ≡ true → kind_in parts' i ≡ Acknowledged found.digest)
      → ((i : ℕ) → is_gated_in (flight_row i flight) ≡ false → kind_in parts' i ≡ kind_in parts i)
      → Now old (Standing opened parts digests flight spot)
      → Goes old new result (Standing opened parts' digests (synced_flight flight) spot) (Standing opened parts digests flight spot) (λ image. Preserves image parts)
  settle_stands parts parts' digests flight spot [] new result goes none state once in_flight in_map acked stay stands =
      untold new result (Standing opened parts' digests (synced_flight flight) spot) (Standing opened parts digests flight spot) (λ image. Preserves image parts) (none refl)
  settle_stands parts parts' digests flight spot (disk ∷ past) new result goes none state once in_flight in_map acked stay stands =
      let base : List ℕ = stands.base in
      let f = stands.follows in
      let kind' : ℕ → Kind = λ i. settled_kind (stands.kind i) (stands.row i) in
      let row' : ℕ → Option Row = λ i. settled_row (stands.row i) in
      goes_so (disk ∷ past) new result (Facts places is_fixed base kind' row' spot) (Standing opened parts' digests (synced_flight flight) spot) (Facts places is_fixed base stands.kind stands.row spot)
      (Standing opened parts digests flight spot) (Keeps places is_fixed base stands.kind) (λ image. Preserves image parts)
      (λ d facts. record {
        base = base;
        kind = kind';
        row = row';
        fixed = stands.fixed;
        facts = facts;
        follows = sync_follows parts parts' digests flight stands.kind stands.row once f (behind_at parts digests flight spot disk stands in_flight in_map) acked stay;
      })
      (λ d facts. record { base = base; kind = stands.kind; row = stands.row; fixed = stands.fixed; facts = facts; follows = f })
      (λ image. image_keeps parts base image stands.kind stands.fixed state f.covers)
      (goes places is_fixed base stands.kind kind' stands.row row' spot (layout_stands base (fixed_in opened) stands.fixed) (λ i lt. refl) (λ i lt. refl) stands.facts)

  -- ---- a release

  pub release_stands : (parts : StateParts) (digests : Digests) (flight : List FlightRow) (spot : ℕ → ℕ) (window : Window) (states : List DiskState) → FlightRises flight
      → ((i : ℕ) (found : FlightRow) → flight_row i flight ≡ Some found → is_gated found.stage ≡ true → lookup i digests ≡ Some found.digest)
      → ((i : ℕ) (found : FlightRow) → flight_row i flight ≡ Some found → is_gated found.stage ≡ false → lookup i digests ≡ None)
      → Now states (Standing opened parts digests flight spot) → Now states (Standing opened parts digests (land window flight) spot)
  release_stands parts digests flight spot window [] once own out stands = tt
  release_stands parts digests flight spot window (disk ∷ past) once own out stands = record {
    base = stands.base;
    kind = stands.kind;
    row = λ i. released_row window (flight_row i flight) (stands.row i);
    fixed = stands.fixed;
    facts = release_keeps (area_places opened.areas) (is_fixed_byte (fixed_in opened)) stands.base stands.kind stands.row (λ i. released_row window (flight_row i flight) (stands.row i)) spot disk
        (λ i lt. released_less window (flight_row i flight) (stands.row i)) stands.facts;
    follows = release_follows parts digests flight stands.kind stands.row window once own out stands.follows;
  }
