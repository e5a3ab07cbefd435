pub mod content_tree
pub mod Lanes
pub mod read_block
pub mod shape
