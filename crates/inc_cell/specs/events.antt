-- What each event answers, and which entry it leaves.
pub mod Answers
pub mod CellEvents
pub mod Ended
pub mod Numbers
pub mod Pieces
pub mod Quiet
pub mod Steps
pub mod Wanted
