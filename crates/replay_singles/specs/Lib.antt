-- The definitions that the contracts of `replay_singles` cite.
pub mod Followed
pub mod Collected
