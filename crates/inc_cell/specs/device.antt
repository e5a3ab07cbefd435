-- What an event does on the disk, and what it puts there or hands out.
pub mod Device
pub mod Digested
pub mod Early
pub mod Handed
pub mod Moves
pub mod Puts
