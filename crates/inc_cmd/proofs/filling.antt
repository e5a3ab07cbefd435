-- A fill: what it reads of its stream, what it leaves of a cell, of a disk and of a shelf. The same of a new file that a content goes into.
pub mod CellFills
pub mod CellPuts
pub mod DiskFills
pub mod GivenStreams
pub mod NewCells
pub mod NewDisks
pub mod NewImages
pub mod NewShelves
pub mod Refused
pub mod ShelfFills
pub mod Verdicts
