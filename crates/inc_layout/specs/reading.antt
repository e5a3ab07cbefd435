pub mod Checking
pub mod StaticRead
