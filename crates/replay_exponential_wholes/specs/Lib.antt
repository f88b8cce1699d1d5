-- The definitions that the contracts of `replay_exponential_wholes` cite.
pub mod Followed
pub mod Collected
