-- Lists by rising keys, and what is found in them.
pub mod Acknowledged
pub mod Claims
pub mod Finds
pub mod Flight
pub mod KeySlots
pub mod Members
pub mod Presence
pub mod Rising
pub mod RowSlots
pub mod Searched
pub mod Sets
pub mod SlotLists
