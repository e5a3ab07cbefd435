pub mod Checked
pub mod Counted
pub mod Meets
pub mod Taken
