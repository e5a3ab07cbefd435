pub mod ContentLemmas
pub mod LimitLemmas
pub mod PieceLemmas
pub mod PlaceLemmas
pub mod QueueLemmas
pub mod ReadingLemmas
pub mod SentLemmas
