pub mod Keyed
pub mod Polling
pub mod Record
pub mod Times
