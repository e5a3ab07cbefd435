pub mod EventLemmas
pub mod HashLemmas
pub mod ListLemmas
pub mod NewLemmas
pub mod StageLemmas
pub mod TakenLemmas
