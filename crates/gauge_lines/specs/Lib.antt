-- The definitions that the contracts of `gauge_lines` cite.
pub mod Lines
pub mod Followed
