-- Where the block of each index is: where it was found at the opening, or where its last put wrote it.
use Rattle.std.specs.Prelude.{ℕ, ◌==◌, List, [], ◌∷◌, None, if◌then◌else◌, slice_index_or}
use Rattle.inc_entry.specs.Entry.{area_places}
use Rattle.inc_entry.specs.declared.classes.Class.{Class}
use Rattle.inc_entry.specs.declared.classes.Class.TheVariants.{Closed, OpenAt}
use Rattle.inc_disk.specs.Disk.{settled}
use Rattle.inc_fill.specs.Facts.{Facts}
use Rattle.inc_layout.specs.Backing.{IsBackingFile, fixed_in}
use Rattle.inc_layout.specs.state.Reopening.{opened_kind}
use Rattle.inc_layout.specs.fixed.SameFixed.{is_fixed_byte}
use Rattle.inc_layout.specs.declared.opened.Opened.{Opened}
use Rattle.inc_model.specs.declared.words.event.Event.{Event}
use Rattle.inc_model.specs.declared.words.event.Event.TheVariants.{PutData}
use Rattle.inc_model.specs.declared.words.reply.Entry.{Entry}
use Rattle.inc_model.specs.declared.words.reply.Reply.{Reply}
use Rattle.inc_model.specs.declared.words.reply.Reply.TheVariants.{Put}

-- ---- at the opening

-- an open entry names the place of its block
abbrev pub spot_of : Class → ℕ
spot_of (OpenAt place size) = place
spot_of class = 0

abbrev pub opened_spot : Opened → ℕ → ℕ
opened_spot opened i = spot_of (slice_index_or opened.classes i Closed)

-- A file just opened, all of it synced and no fill on its way: what a crash has to keep of it is what was found in it.
abbrev pub MountsOpened : Type 0
MountsOpened =
    (bytes : List ℕ) (opened : Opened) → IsBackingFile bytes opened
    → Facts (area_places opened.areas) (is_fixed_byte (fixed_in opened)) bytes (opened_kind opened) (λ i. None) (opened_spot opened) (settled bytes)

-- ---- after entries

-- the same for all indices but one
abbrev pub changed_at : {T : Type 0} → ℕ → T → (ℕ → T) → ℕ → T
changed_at j new old i = if i == j then new else old i

abbrev pub put_spot : ℕ → Reply → (ℕ → ℕ) → ℕ → ℕ
put_spot index (Put place digest) spot = changed_at index place spot
put_spot index reply spot = spot

-- a put alone gives a place
abbrev pub spot_then : Event → Reply → (ℕ → ℕ) → ℕ → ℕ
spot_then (PutData window index digest) reply spot = put_spot index reply spot
spot_then event reply spot = spot

abbrev pub spot_after : (ℕ → ℕ) → List Entry → ℕ → ℕ
spot_after spot [] = spot
spot_after spot (entry ∷ entries) = spot_after (spot_then entry.event entry.reply spot) entries
