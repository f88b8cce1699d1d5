-- The definitions that the contracts of `point` cite.
pub mod Handing
pub mod Lists
pub mod Signed
pub mod Inner
