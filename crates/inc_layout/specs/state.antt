pub mod Preserves
pub mod Reopening
pub mod State
