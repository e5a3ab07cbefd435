pub mod KnownLemmas
pub mod UsedLemmas
