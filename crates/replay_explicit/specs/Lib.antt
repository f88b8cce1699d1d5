-- The definitions that the contracts of `replay_explicit` cite.
pub mod Followed
pub mod Collected
