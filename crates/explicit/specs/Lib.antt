-- The definitions that the contracts of `explicit` cite.
pub mod Series
pub mod Inner
