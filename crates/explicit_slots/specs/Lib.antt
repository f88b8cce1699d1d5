-- The definitions that the contracts of `explicit_slots` cite.
pub mod Cells
pub mod Inner
