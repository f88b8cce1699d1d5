-- The definitions that the contracts of `exponential_batches` cite.
pub mod Series
pub mod Slot
