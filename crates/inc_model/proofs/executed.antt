-- The executed core does what the relation says.
pub mod OwnReplies
pub mod Replies
pub mod Room
pub mod Start
