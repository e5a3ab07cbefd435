pub mod FrontLemmas
pub mod Counts
pub mod FedLemmas
pub mod Spelling
pub mod WholeFrames
pub mod EndedStreams
