pub mod Entry
pub mod Keeps
pub mod Spans
pub mod Stored
pub mod Table
