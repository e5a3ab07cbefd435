-- How a state stands on its disk, and what each write and sync makes of that.
pub mod FlightLemmas
pub mod FlownLemmas
pub mod FollowLemmas
pub mod KeptLemmas
pub mod KindLemmas
pub mod MoveLemmas
pub mod PutLemmas
pub mod StandingLemmas
pub mod StateLemmas
pub mod SyncLemmas
