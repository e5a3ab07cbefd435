pub mod Causes
pub mod Contents
pub mod Names
pub mod Outside
pub mod Writing
