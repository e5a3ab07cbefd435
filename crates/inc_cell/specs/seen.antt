-- What contracts see of a cell, and how its state stands on its disk.
pub mod Books
pub mod Cells
pub mod Opens
pub mod Parts
pub mod Seen
pub mod Spots
pub mod Standing
