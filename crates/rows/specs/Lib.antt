-- The definitions that the contracts of `rows` cite.
pub mod Rows
pub mod Parts
pub mod Groups
pub mod Recording
