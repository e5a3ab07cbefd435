-- Worlds, and machines that keep a history.
pub mod Machines
pub mod Worlds
