-- The definitions that the contracts and laws of `sheet_writing` cite.
pub mod Writing
pub mod Inner
