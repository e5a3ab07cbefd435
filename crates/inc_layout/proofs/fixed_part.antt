pub mod FixedMeaning
pub mod FixedSteps
pub mod LayoutMeaning
pub mod OwnFaults
pub mod Placed
pub mod RecordsInside
pub mod SameFixedLemmas
