pub mod Series
pub mod Slot
