-- The laws that the functions of `laws` carry.
pub mod CoreLaws
pub mod FaultLaws
pub mod HistoryLaws
pub mod OthersLaws
pub mod ReadLaws
pub mod StageLaws
pub mod WorldLaws
