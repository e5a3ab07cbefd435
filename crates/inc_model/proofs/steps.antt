-- What one step says of the state before it and after it.
pub mod Asked
pub mod Breaks
pub mod Faults
pub mod Paths
pub mod Places
pub mod Polls
pub mod Stages
pub mod Syncs
