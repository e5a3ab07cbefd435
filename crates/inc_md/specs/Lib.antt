pub mod Record
pub mod Chain
pub mod Inside
pub mod Outcome
pub mod Step
pub mod Staying
