pub mod block_read
pub mod BoolLemmas
pub mod fixed_part
pub mod fresh_file
pub mod ListedLemmas
pub mod LoopSteps
pub mod opened_file
