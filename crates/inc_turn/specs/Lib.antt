pub mod Lists
pub mod Views
pub mod Rules
pub mod Turns
pub mod Locks
pub mod Opening
pub mod Closing
pub mod SeatLaws
