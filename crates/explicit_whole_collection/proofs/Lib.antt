-- The laws of the public calls of the explicit kind over i64.
pub mod Slots
pub mod Lists
pub mod Lent
