pub mod Index
pub mod Place
