pub mod FreshEntries
pub mod FreshMeaning
pub mod FreshPieces
pub mod FreshRecords
pub mod FreshStands
pub mod FreshUnsigned
