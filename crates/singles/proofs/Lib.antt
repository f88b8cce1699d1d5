-- The laws of sums and last values.
pub mod Owes
pub mod Lawful
pub mod Slots
pub mod Alike
pub mod Lists
