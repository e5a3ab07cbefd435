pub mod Collision
pub mod Grown
pub mod HashLevel
pub mod Root
