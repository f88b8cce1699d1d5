-- The laws of lists of values over sums and last values.
pub mod Slots
