pub mod Command
pub mod Endings
pub mod Parsing
pub mod Refusals
pub mod Stops
pub mod Texts
pub mod Words
