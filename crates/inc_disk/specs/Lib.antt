pub mod Book
pub mod Disk
pub mod Laws
pub mod Log
pub mod Memory
