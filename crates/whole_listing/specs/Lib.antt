-- The definitions that the contracts and laws of `whole_listing` cite.
pub mod Words
pub mod Listed
pub mod Read
pub mod Inner
