-- The definitions that the contracts of the collecting calls cite.
pub mod Lister
pub mod Collected
pub mod Read
pub mod Slots
pub mod Configured
