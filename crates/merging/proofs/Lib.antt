-- The laws of merging by code, over any number.
pub mod Owed
pub mod Groups
pub mod Accepted
pub mod Orders
pub mod Fresh
