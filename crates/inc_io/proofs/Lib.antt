pub mod NameLemmas
pub mod WriteLemmas
