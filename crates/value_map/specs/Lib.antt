-- The definitions that the contracts of `value_map` cite.
pub mod Store
pub mod Calls
pub mod Maps
pub mod Exponential
pub mod Explicit
pub mod Inner
