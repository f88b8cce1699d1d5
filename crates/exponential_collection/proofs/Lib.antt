-- The laws of `exponential_collection`.
pub mod Counts
pub mod Slots
pub mod Lists
