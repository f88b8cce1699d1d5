-- The definitions that the contracts and laws of `listing` cite.
pub mod Words
pub mod Listed
pub mod Inner
