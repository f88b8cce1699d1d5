-- The definitions that the contracts of `sheet` cite.
pub mod Digits
pub mod Shown
pub mod Followed
