pub mod ListLemmas
pub mod Moves
pub mod SeatMoves
pub mod TurnLemmas
pub mod ClosingLemmas
pub mod SeatLemmas
pub mod OpeningLemmas
