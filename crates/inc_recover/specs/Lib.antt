pub mod Making
pub mod Mounting
pub mod Reopening
