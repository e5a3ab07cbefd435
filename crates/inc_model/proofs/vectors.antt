-- Tables of calls, with replies and ends from outside.
pub mod AbsentHash
pub mod Calls
pub mod FailedGate
pub mod FailedPlace
pub mod FailingFile
pub mod SmallFile
pub mod TwoLevels
