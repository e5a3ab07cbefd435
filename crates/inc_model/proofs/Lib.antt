pub mod Examples
pub mod executed
pub mod facts_kept
pub mod lists
pub mod runs
pub mod steps
pub mod unchanged
pub mod vectors
