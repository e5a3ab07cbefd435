-- What contracts of the executed core speak of.
pub mod CoreFacts
pub mod CoreState
pub mod EntriesLeft
pub mod IndexLists
pub mod Places
pub mod SlotRows
