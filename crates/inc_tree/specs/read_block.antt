pub mod Path
pub mod Shown
pub mod Unproved
pub mod Verified
