-- What a group's events make of a file's bytes.
pub mod EventShows
pub mod LoopShows
