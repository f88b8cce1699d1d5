-- The definitions that the contracts of `explicit_batches` cite.
pub mod Values
pub mod Slot
