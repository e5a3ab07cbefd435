pub mod device
pub mod events
pub mod laws
pub mod seen
