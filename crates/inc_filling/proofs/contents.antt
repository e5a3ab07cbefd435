-- The bytes after a group are those of the definition, which goes piece by piece.
pub mod ContentTaken
pub mod InOrder
pub mod KnownOpen
pub mod Overwriting
pub mod PieceBytes
pub mod Spotted
