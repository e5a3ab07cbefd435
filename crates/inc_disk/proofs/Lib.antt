pub mod LogLemmas
pub mod Moments
pub mod NamesLemmas
pub mod States
