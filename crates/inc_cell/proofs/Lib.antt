pub mod handing
pub mod openings
pub mod standing
pub mod steps
