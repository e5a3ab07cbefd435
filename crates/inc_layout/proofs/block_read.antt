pub mod BreakLemmas
pub mod CheckingSteps
pub mod ReadMeaning
pub mod StaticSteps
