-- The definitions that the contracts of `replay_state` cite.
pub mod After
pub mod Bound
pub mod Lines
