-- The laws of merging.
pub mod Joined
pub mod Lowly
pub mod Wide
pub mod Spans
pub mod Merging
pub mod Laying
