-- Openings, reopenings, and runs of events.
pub mod OpenedLemmas
pub mod OpeningLemmas
pub mod ReopenLemmas
pub mod RunLemmas
