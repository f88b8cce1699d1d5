-- The laws of `replay_singles`.
pub mod Calls
