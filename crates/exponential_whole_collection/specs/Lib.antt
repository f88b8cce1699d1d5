-- The definitions that the contracts of `exponential_whole_collection` cite.
pub mod Points
pub mod Configured
