-- The definitions that the contracts and laws of `sheet_reading` cite.
pub mod Reading
pub mod Inner
