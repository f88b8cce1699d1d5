-- The definitions that contracts over any error with a number cite.
pub mod NonZero
pub mod Numbered
