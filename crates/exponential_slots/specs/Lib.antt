-- The definitions that the contract of `exponential_slots` cites.
pub mod Cells
pub mod Meaning
pub mod Inner
