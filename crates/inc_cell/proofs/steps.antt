-- What one event leaves: its clause, and what each cell keeps.
pub mod AskLemmas
pub mod BookLemmas
pub mod CellLemmas
pub mod EntryLemmas
pub mod HoldLemmas
pub mod MayLemmas
pub mod RoomLemmas
