-- The laws of the explicit kind's slots.
pub mod Enters
pub mod Series
