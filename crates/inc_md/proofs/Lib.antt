pub mod Reading
pub mod Stepping
pub mod Chains
pub mod ChainLaws
pub mod ChainSaid
pub mod SameChain
