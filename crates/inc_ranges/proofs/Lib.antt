pub mod RunsLemmas
pub mod Meaning
pub mod Splitting
