pub mod Commands
pub mod FilledDisks
pub mod NewFiles
pub mod Runs
