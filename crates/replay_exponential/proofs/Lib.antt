-- The laws of `replay_exponential`.
pub mod Scales
pub mod Calls
