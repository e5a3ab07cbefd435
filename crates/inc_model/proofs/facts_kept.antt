-- Each event keeps the facts of a file.
pub mod Core
pub mod Fill
pub mod Flying
pub mod Gate
pub mod Groups
pub mod Reads
pub mod Settle
pub mod Step
pub mod Store
