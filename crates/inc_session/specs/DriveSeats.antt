-- The files of a drive, with its seats at them, and what its calls add to the seats' own entries.
use Rattle.std.specs.Prelude.{◌≡◌, ℕ, ◌<◌, List, length, map, replicate, slice_index_or}
use Rattle.std.specs.Option.{unwrap_or}
use Rattle.inc_layout.specs.Backing.{sig_root}
use Rattle.atomic_table.specs.Seated.{TableId}
use Rattle.inc_loader.specs.declared.loader_file.LoaderFile.{LoaderFile}
use Rattle.inc_model.specs.declared.words.reply.Entry.{Entry}
use Rattle.inc_turn.specs.Locks.{IsSameSeat, seat_view, table_of}
use Rattle.inc_turn.specs.Turns.{AddsOwn}
use Rattle.inc_turn.specs.declared.seat.Seat.{Seat}
use Rattle.inc_cell.specs.declared.machine.CellFooting.{CellFooting}
use Rattle.inc_cell.specs.seen.Seen.{Seen}
use Rattle.inc_handle.specs.Shared.{IsSeatOf}
use Rattle.inc_handle.specs.declared.shared.SharedFile.{SharedFile}
use Rattle.inc_handle.specs.declared.pass.FillPass.{FillPass}
use Rattle.inc_session.specs.Deeds.{Deed, entries_at}

-- a shared file: its lock, and its cell as it was shared
pub record HomeFile : Type 0 where
  pub lock : TableId
  pub begun : Seen

abbrev pub home_of : TableId → Seen → HomeFile
home_of lock begun = record { lock = lock; begun = begun }

abbrev pub homes_of : {D K : Type 0} → List (SharedFile D K) → List HomeFile
homes_of {D} {K} files = map (λ (file : SharedFile D K). home_of (table_of file.lock) file.begun.value) files

-- what a loader is told of a file before anything is asked of it: zeros for the root where it has none
abbrev pub file_of_home : HomeFile → LoaderFile
file_of_home home = record {
  id = home.begun.opened.header.id;
  size = home.begun.opened.areas.geometry.size;
  root = unwrap_or (sig_root home.begun.opened.sig) (replicate 32 0);
}

abbrev pub files_of : List HomeFile → List LoaderFile
files_of homes = map file_of_home homes

-- the seats are those of the files, one each
pub record AreHomeSeats (homes : List HomeFile) (seats : List (Seat CellFooting)) : Type 0 where
  pub count : length seats ≡ length homes
  pub each : (k : ℕ) (h : HomeFile) (s : Seat CellFooting) → k < length homes → IsSeatOf (slice_index_or homes k h).lock (slice_index_or homes k h).begun (slice_index_or seats k s)

-- each file is shown a pass for it
pub record ArePassed (homes : List HomeFile) (passes : List FillPass) : Type 0 where
  pub count : length passes ≡ length homes
  pub each : (k : ℕ) (h : HomeFile) (p : FillPass) → k < length homes → (slice_index_or passes k p).id ≡ (slice_index_or homes k h).begun.opened.header.id

-- the same seat, with just these entries of its own more
pub record SeatAdds (before after : Seat CellFooting) (entries : List Entry) : Type 0 where
  pub same : IsSameSeat before after
  pub adds : AddsOwn (seat_view before) (seat_view after) entries

-- of each file its seat has added its own deeds, and no others
pub record SeatsAdd (before after : List (Seat CellFooting)) (deeds : List Deed) : Type 0 where
  pub count : length after ≡ length before
  pub each : (k : ℕ) (d : Seat CellFooting) → k < length before → SeatAdds (slice_index_or before k d) (slice_index_or after k d) (entries_at k deeds)
