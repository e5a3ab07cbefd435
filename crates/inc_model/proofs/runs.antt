-- Histories, and runs with crashes.
pub mod Cores
pub mod Histories
pub mod Openings
pub mod OtherRows
pub mod Others
pub mod Sources
pub mod Worlds
