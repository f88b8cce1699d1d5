-- The laws of `replay_explicit_wholes`.
pub mod Calls
