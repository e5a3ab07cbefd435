pub mod Cached
pub mod Geometry
pub mod Inverse
pub mod Limits
