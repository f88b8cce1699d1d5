-- The definitions that the contracts and laws of `records` cite.
pub mod Words
pub mod Records
pub mod Inner
