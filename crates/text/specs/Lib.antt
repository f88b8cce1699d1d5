-- The definitions that the contracts of `text` cite.
pub mod Numbers
pub mod Pairs
pub mod Fields
