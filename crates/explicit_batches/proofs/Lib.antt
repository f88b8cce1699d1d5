-- The laws of `explicit_batches`.
pub mod Values
pub mod AtSlot
pub mod Entered
pub mod Suffices
