pub mod Fixed
pub mod SameFixed
pub mod Told
