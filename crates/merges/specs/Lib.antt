-- The definitions that the contracts of `merges` cite.
pub mod Merges
