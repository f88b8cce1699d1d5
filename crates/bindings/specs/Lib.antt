-- The definitions that the contracts of `bindings` cite.
pub mod Calls
pub mod Agreed
pub mod Inner
