mod CountWrites
mod CountsStand
pub mod Made
pub mod MountLemmas
pub mod Reopened
