pub mod PureLaws
pub mod PureState
pub mod PureStep
pub mod Runs
