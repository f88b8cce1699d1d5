-- The laws of `replay_whole_batches`.
pub mod Bounds
