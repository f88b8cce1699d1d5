-- The definitions that the contracts of `sets` cite.
pub mod All
pub mod Rows
pub mod Inserted
pub mod Sorted
pub mod Inner
