pub mod AcceptedLemmas
pub mod BackingMeaning
pub mod EntryLemmas
pub mod FoundSteps
pub mod OpenedParts
pub mod OpeningSteps
pub mod Preserving
