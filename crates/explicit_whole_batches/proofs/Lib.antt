-- The laws of `explicit_whole_batches`.
pub mod Values
pub mod AtSlot
pub mod Entered
