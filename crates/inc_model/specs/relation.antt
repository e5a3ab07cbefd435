-- The relation: the state of a file, what it answers, and what each entry changes.
pub mod Changes
pub mod Facts
pub mod Openings
pub mod Polling
pub mod Stages
pub mod State
pub mod Step
pub mod Table
