-- The definitions that the contracts of `singles` cite.
pub mod Kinds
pub mod Stores
pub mod Points
pub mod Configured
pub mod Inner
