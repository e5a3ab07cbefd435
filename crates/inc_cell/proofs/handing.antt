-- What a poll reads and hands out.
pub mod EarlyLemmas
pub mod GroupLemmas
pub mod HandLemmas
pub mod PollLemmas
pub mod PollSteps
pub mod ReadLemmas
