-- The laws of `exponential_slots`.
pub mod Cases
pub mod Agreeing
pub mod Written
pub mod Recording
