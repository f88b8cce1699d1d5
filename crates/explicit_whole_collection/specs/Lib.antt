-- The definitions that the contracts of `explicit_whole_collection` cite.
pub mod Points
pub mod Ready
pub mod Configured
