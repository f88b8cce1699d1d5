-- The laws of `replay_explicit`.
pub mod Calls
