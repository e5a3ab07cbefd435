pub mod AreaLists
pub mod BlockLemmas
pub mod Rows
pub mod SpanLemmas
