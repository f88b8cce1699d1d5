-- The definitions that the contracts of `exponential` cite.
pub mod Steps
pub mod Series
pub mod Runs
pub mod Inner
