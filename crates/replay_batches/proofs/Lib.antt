-- The laws of `replay_batches`.
pub mod Calls
