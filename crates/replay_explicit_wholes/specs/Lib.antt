-- The definitions that the contracts of `replay_explicit_wholes` cite.
pub mod Followed
pub mod Collected
