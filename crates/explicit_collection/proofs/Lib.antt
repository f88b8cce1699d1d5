-- The laws of the explicit kind's public calls.
pub mod Slots
pub mod Lists
pub mod Lent
