pub mod fills
pub mod turns
