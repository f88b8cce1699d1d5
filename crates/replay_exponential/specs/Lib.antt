-- The definitions that the contracts of `replay_exponential` cite.
pub mod Followed
pub mod Collected
