pub mod fills
pub mod reads
pub mod told
