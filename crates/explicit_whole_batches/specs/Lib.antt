-- The definitions that the contracts of `explicit_whole_batches` cite.
pub mod Values
pub mod Slot
