-- The laws of `gauge_lines`.
pub mod Asking
pub mod Following
pub mod Example
