-- The definitions that the contracts of `lines` cite.
pub mod Spelled
pub mod Scanned
pub mod Reading
pub mod Gathered
pub mod Written
