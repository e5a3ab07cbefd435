pub mod TakeLemmas
pub mod TellSteps
pub mod DriveLemmas
pub mod EndLemmas
pub mod TurnSteps
pub mod TurnEnds
pub mod FileSteps
pub mod TurnGoes
