pub mod Backing
pub mod fixed
pub mod Fresh
pub mod opening
pub mod reading
pub mod state
