-- What an event leaves as it is.
pub mod Claims
pub mod Flight
pub mod Map
