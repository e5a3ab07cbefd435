pub mod mounting
pub mod Standings
pub mod Verdicts
