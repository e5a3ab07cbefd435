pub mod DeedFills
pub mod Deeds
pub mod DriveSeats
pub mod Ends
pub mod GivenFills
pub mod Outcomes
pub mod ReadTakes
pub mod Drives
