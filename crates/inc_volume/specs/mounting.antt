pub mod Cells
pub mod MountRuns
pub mod Planned
pub mod Targets
