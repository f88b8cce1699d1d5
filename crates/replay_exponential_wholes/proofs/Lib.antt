-- The laws of `replay_exponential_wholes`.
pub mod Calls
