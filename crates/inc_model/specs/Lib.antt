pub mod executed
pub mod histories
pub mod laws
pub mod relation
