pub mod Frames
pub mod Fronts
pub mod ReaderStages
pub mod Reader
pub mod Requests
