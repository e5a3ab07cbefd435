pub mod FreshFile
pub mod PureFiles
pub mod Room
pub mod Rounds
