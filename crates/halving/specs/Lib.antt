-- The definitions that the contracts of `halving` and the theorem `PlainForm` cite.
pub mod Plain
pub mod Inner
