pub mod contents
pub mod lemmas
pub mod shown
pub mod steps
pub mod streams
