-- The laws of `exponential_whole_collection`.
pub mod Slots
pub mod Lists
