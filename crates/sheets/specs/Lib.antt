-- The definitions that the contracts and laws of `sheets` cite.
pub mod Entries
pub mod Sheet
pub mod Lists
pub mod Inner
